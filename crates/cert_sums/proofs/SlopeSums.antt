-- What the sums of a tally stand for, and where two segments meet.
use Rattle.std.specs.Prelude.{◌≡◌, ℕ, ◌+◌, ◌<◌, ℤ, pos, ◌*ℤ◌, List, [], ◌∷◌, length, get_or, slice_get, Option, Some, true, All}
use Rattle.std.specs.Option.{option_map_or}
use Rattle.std.proofs.Common.{arith, refl, sym, ap, ap₂, ◌∙◌}
use Rattle.rational_laws.specs.Fraction.{Fraction, rational}
use Rattle.rational_laws.specs.Solver.{number, ◌⊞◌, ◌⊠◌, v0, v1, v2, v3, v4, v5}
use Rattle.rational_laws.specs.Rational.{ℚ, ◌+ℚ◌, ◌*ℚ◌, neg_ℚ, whole}
use Rattle.rational_laws.specs.RationalSums.{sum_ℚ}
use Rattle.rational_laws.proofs.RationalLaws.{whole-add, whole-mul, ring_ℚ}
use Rattle.rational_laws.proofs.RationalSumLaws.{sum_ℚ-same, sum_ℚ-mix, sum_ℚ-add}
use Rattle.rational_laws.proofs.Lists.{item_there}
use Rattle.frac_core.specs.declared.frac128.Frac128.{Frac128}
use Rattle.frac_core.specs.Values.{value as value128}
use Rattle.loss_model.specs.declared.problem.Problem.{Problem}
use Rattle.loss_model.specs.declared.process.Segment.{Segment}
use Rattle.loss_model.specs.declared.vertex.Side.{Side}
use Rattle.loss_model.specs.declared.vertex.Side.TheVariants.{Up, Down, Basic}
use Rattle.loss_model.specs.declared.vertex.Vertex.{Vertex}
use Rattle.loss_model.specs.Problem.{sample}
use Rattle.loss_model.specs.Sample.{Sample, up_cost, down_cost}
use Rattle.loss_model.specs.Vertex.{basic_value, value_of_side}
use Rattle.rational_laws.specs.WholeLists.{whole_at}
use Rattle.cert_sums.specs.declared.table.Line.{Line}
use Rattle.cert_sums.specs.declared.table.WholeRow.{WholeRow}
use Rattle.cert_sums.specs.declared.table.Table.{Table}
use Rattle.cert_sums.specs.declared.slopes.Part.{Part}
use Rattle.cert_sums.specs.declared.slopes.Part.TheVariants.{Start, Slope}
use Rattle.cert_sums.specs.declared.slopes.Tally.{Tally}
use Rattle.cert_sums.specs.declared.reach.Reach.{Reach}
use Rattle.cert_sums.specs.Tables.{IsTable}
use Rattle.cert_sums.specs.Duals.{at_line, side_in, dual_of}
use Rattle.cert_sums.specs.Sums.{cell_at}
use Rattle.cert_sums.specs.Slopes.{part_of, line_on, part_at, is_settled, unsettled_rows, basic_part, basic_at, over_scales, listed_total, sum_at, IsTally, IsScaled, IsSummed}
use Rattle.cert_sums.specs.Ends.{low_dual, high_dual, DoMeet}
use Rattle.cert_sums.proofs.RowsOf.{row_value}
use Rattle.cert_sums.proofs.Balanced.{balanced_from, objective_from}
use Rattle.cert_sums.proofs.Unsettled.{sum_over, settled_outside, unsettled_sum, unsettled_all}

line_split : (l : Line) (scale : ℕ) (at : ℤ) → whole (at_line l scale at) ≡ ((whole (pos scale) *ℚ whole l.start) +ℚ (whole at *ℚ whole l.slope)) +ℚ whole (pos 0)
line_split l scale at =
    whole-add (l.start *ℤ pos scale) (l.slope *ℤ at) ∙ ap₂ ◌+ℚ◌ (whole-mul l.start (pos scale)) (whole-mul l.slope at)
    ∙ ring_ℚ (whole l.start ∷ whole (pos scale) ∷ whole l.slope ∷ whole at ∷ []) (v0 ⊠ v1 ⊞ v2 ⊠ v3) ((v1 ⊠ v0 ⊞ v3 ⊠ v2) ⊞ number (pos 0)) refl

module _ (p : Problem Frac128) (t : Table) (h : IsTable p t) (theta : ℚ) (v : Vertex) (basic : List Fraction) (r : Reach) (k : IsScaled theta r) where
  abbrev V : ℚ
  V = whole (pos r.scale)

  abbrev At : ℚ
  At = whole r.at

  abbrev F : ℚ
  F = whole (pos r.scale) *ℚ whole (pos t.cost_scale)

  abbrev b : ℕ → ℚ
  b = basic_value v basic

  abbrev e : ℕ → ℚ
  e = dual_of (sample value128 p) theta v basic

  -- the dual value of a row by its side is that of its line, or of the basis
  side_split : (i : ℕ) (w : WholeRow) → slice_get t.rows i ≡ Some w → (side : Side) → F *ℚ value_of_side (sample value128 p) theta b i side
      ≡ ((V *ℚ whole (part_of Start (line_on side w))) +ℚ (At *ℚ whole (part_of Slope (line_on side w)))) +ℚ basic_part side (F *ℚ b i)
  side_split i w here Up = sym (row_value p t h theta b i w here r.scale r.at k.at_theta Up (at_line w.up r.scale r.at) refl) ∙ line_split w.up r.scale r.at
  side_split i w here Down = sym (row_value p t h theta b i w here r.scale r.at k.at_theta Down (at_line w.low r.scale r.at) refl) ∙ line_split w.low r.scale r.at
  side_split i w here Basic = ring_ℚ ((F *ℚ b i) ∷ V ∷ At ∷ []) v0 ((v1 ⊠ number (pos 0) ⊞ v2 ⊠ number (pos 0)) ⊞ v0) refl

  part_is : (part : Part) (i : ℕ) (w : WholeRow) → slice_get t.rows i ≡ Some w → part_at part t.rows v.sides i ≡ whole (part_of part (line_on (side_in v i) w))
  part_is part i w here = ap (λ (o : Option WholeRow). option_map_or (λ w. whole (part_of part (line_on (side_in v i) w))) o (whole (pos 0))) here

  row_split : (i : ℕ) → i < length t.rows → F *ℚ e i ≡ ((V *ℚ part_at Start t.rows v.sides i) +ℚ (At *ℚ part_at Slope t.rows v.sides i)) +ℚ basic_part (side_in v i) (F *ℚ b i)
  row_split i l =
      let w = item_there t.rows i l in
      side_split i w.0 w.1 (side_in v i)
      ∙ ap₂ (λ x y. ((V *ℚ x) +ℚ (At *ℚ y)) +ℚ basic_part (side_in v i) (F *ℚ b i)) (sym (part_is Start i w.0 w.1)) (sym (part_is Slope i w.0 w.1))

  module _ (tally : Tally) (values : List ℤ) (is : IsTally t.rows (p.columns + 1) v.sides tally) (each : (j : ℕ) → j < length tally.unsettled → whole_at values j ≡ basic_at r.scale t.cost_scale v basic (get_or tally.unsettled j 0)) where
    -- what the basic rows add
    basic_sum : (place : ℕ) → sum_ℚ (length t.rows) (λ i. cell_at t.rows place i *ℚ basic_part (side_in v i) (F *ℚ b i)) ≡ listed_total t.rows place tally.unsettled values
    basic_sum place =
        let g = λ (i : ℕ). cell_at t.rows place i *ℚ basic_part (side_in v i) (F *ℚ b i) in
        let list = tally.unsettled in
        unsettled_sum is.before v.sides (length t.rows) g
        (λ i l s. ap (λ z. cell_at t.rows place i *ℚ z) (settled_outside _ (side_in v i) (F *ℚ b i) s) ∙ ring_ℚ (cell_at t.rows place i ∷ []) (v0 ⊠ number (pos 0)) (number (pos 0)) refl)
        ∙ ap (λ xs. sum_over xs g) (sym is.unsettled_is)
        ∙ sum_ℚ-same (length list) (λ j. g (get_or list j 0)) (λ j. cell_at t.rows place (get_or list j 0) *ℚ whole_at values j)
        (λ j l. ap (λ z. cell_at t.rows place (get_or list j 0) *ℚ z) (sym (each j l)))

    -- the sum over all rows of the cells at a place times the dual values
    sum_is : (place : ℕ) → place < p.columns + 1 → sum_ℚ (length t.rows) (λ i. cell_at t.rows place i *ℚ (F *ℚ e i)) ≡ sum_at t.rows tally values r place
    sum_is place l =
        let n = length t.rows in
        let f = λ (i : ℕ). cell_at t.rows place i *ℚ part_at Start t.rows v.sides i in
        let g = λ (i : ℕ). cell_at t.rows place i *ℚ part_at Slope t.rows v.sides i in
        let rest = λ (i : ℕ). cell_at t.rows place i *ℚ basic_part (side_in v i) (F *ℚ b i) in
        sum_ℚ-same n (λ i. cell_at t.rows place i *ℚ (F *ℚ e i)) (λ i. ((V *ℚ f i) +ℚ (At *ℚ g i)) +ℚ rest i)
        (λ i m. ap (λ z. cell_at t.rows place i *ℚ z) (row_split i m)
        ∙ ring_ℚ (cell_at t.rows place i ∷ V ∷ part_at Start t.rows v.sides i ∷ At ∷ part_at Slope t.rows v.sides i ∷ basic_part (side_in v i) (F *ℚ b i) ∷ [])
        (v0 ⊠ ((v1 ⊠ v2 ⊞ v3 ⊠ v4) ⊞ v5)) ((v1 ⊠ (v0 ⊠ v2) ⊞ v3 ⊠ (v0 ⊠ v4)) ⊞ v0 ⊠ v5) refl)
        ∙ sum_ℚ-add n (λ i. (V *ℚ f i) +ℚ (At *ℚ g i)) rest
        ∙ ap₂ ◌+ℚ◌ (sum_ℚ-mix n V At f g ∙ ap₂ (λ x y. (V *ℚ x) +ℚ (At *ℚ y)) (sym (is.starts place l)) (sym (is.slopes place l))) (basic_sum place)

    -- sums that are 0, and one that comes to what is stated
    pub summed : (stated : ℚ) → ((j : ℕ) → j < p.columns → sum_at t.rows tally values r j ≡ whole (pos 0)) → stated ≡ over_scales t r.scale (sum_at t.rows tally values r p.columns)
        → IsSummed p (dual_of (sample value128 p) theta v basic) stated
    summed stated zero made = record {
      balanced = balanced_from p t h e r.scale k.some (λ i. F *ℚ e i) (λ i l. refl) (λ j l. sum_is j (omega (arith, l)) ∙ zero j l);
      objective = objective_from p t h e r.scale k.some (λ i. F *ℚ e i) (λ i l. refl) stated (made ∙ ap (over_scales t r.scale) (sym (sum_is p.columns (omega arith))));
    }

settled_value : (p : Sample) (theta eta : ℚ) (b c : ℕ → ℚ) (i : ℕ) → theta ≡ eta → (old new : Side) → is_settled old new ≡ true → value_of_side p theta b i old ≡ value_of_side p eta c i new
settled_value p theta eta b c i e Up Up h = ap (λ z. up_cost p z i) e
settled_value p theta eta b c i e Up Down h = absurd (cc h)
settled_value p theta eta b c i e Up Basic h = absurd (cc h)
settled_value p theta eta b c i e Down Up h = absurd (cc h)
settled_value p theta eta b c i e Down Down h = ap (λ z. neg_ℚ (down_cost p z i)) e
settled_value p theta eta b c i e Down Basic h = absurd (cc h)
settled_value p theta eta b c i e Basic new h = absurd (cc h)

-- two segments meet where they have one quantile, and each unsettled row has one dual value
pub met : (p : Problem Frac128) (s next : Segment) → rational s.hi ≡ rational next.lo
    → All (λ i. high_dual p s i ≡ low_dual p next i) (unsettled_rows s.vertex.sides next.vertex.sides (length p.rows)) → DoMeet p s next
met p s next e all =
    unsettled_all s.vertex.sides next.vertex.sides (λ i. high_dual p s i ≡ low_dual p next i) (length p.rows) all
    (λ i l h. settled_value (sample value128 p) (rational s.hi) (rational next.lo)
    (basic_value s.vertex s.basic_hi) (basic_value next.vertex next.basic_lo) i e (side_in s.vertex i) (side_in next.vertex i) h)
