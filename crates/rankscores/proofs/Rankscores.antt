-- The rankscore of the basic row at a place of the list.
use Rattle.std.proofs.Common.{◌≡◌, ◌<◌, ◌≤◌, ◌+◌, ℕ, Bool, List, [], ◌∷◌, ◌++◌, All, length, map, get_or, slice_index, take, Contains, pos, arith, refl, sym, ap, subst, ◌∙◌, if◌then◌else◌}
use Rattle.std.proofs.lemmas.Bool.{le-ltb}
use Rattle.std.proofs.lemmas.List.{map-append, take_more}
use Rattle.std.proofs.lemmas.List.Elements.{All-append, All-cons, All-nil}
use Rattle.std.proofs.lemmas.Option.{slice_get_read}
use Rattle.std.specs.Option.{option_map_or}
use Rattle.rational_laws.specs.Fraction.{Fraction, rational}
use Rattle.rational_laws.specs.Rational.{ℚ, ◌+ℚ◌, ◌-ℚ◌, ◌*ℚ◌, inverse, whole}
use Rattle.rational_laws.proofs.Lists.{contains_item}
use Rattle.loss_model.specs.declared.problem.Row.{Row}
use Rattle.loss_model.specs.declared.problem.Problem.{Problem}
use Rattle.loss_model.specs.declared.process.Segment.{Segment}
use Rattle.loss_model.specs.declared.vertex.Side.TheVariants.{Basic}
use Rattle.loss_model.specs.declared.vertex.Vertex.{Vertex}
use Rattle.loss_model.specs.Problem.{number_at, of_row, sample}
use Rattle.loss_model.specs.Vertex.{IsVertexOf, basic_value, dual_value}
use Rattle.loss_model.proofs.Vertices.{basic_value-at, dual_value-at}
use Rattle.loss_model.proofs.Products.{value_at-item}
use Rattle.rankscores.specs.declared.pair.ScorePair.{ScorePair}
use Rattle.rankscores.specs.Scores.{dual_of, row_score, score, IsScorable}

-- a number of a row that was read
row_read : {F : Type 0} (rows : List (Row F)) (number : Row F → ℚ) (i : ℕ) (r : Row F) → i < length rows → r ≡ get_or rows i r → of_row rows number i ≡ number r
row_read rows number i r within is = ap (λ o. option_map_or number o (whole (pos 0))) (slice_get_read rows (length rows) i r refl within is)

module _ {F : Type 0} (value : F → Fraction) (p : Problem F) (v : Vertex) (basic : List Fraction) (theta : Fraction) (shape : IsVertexOf p v) (place row : ℕ) (within : place < length v.basis.rows) (at : row ≡ slice_index v.basis.rows place)
    (inside : row < length p.rows) where
  there : Contains v.basis.rows row
  there = subst (Contains v.basis.rows) (sym at) (contains_item v.basis.rows place within)

  -- the dual value of the row is that of its place
  dual_at_place : dual_value value p v basic (rational theta) row ≡ number_at basic place
  dual_at_place =
      dual_value-at value p v basic (rational theta) row Basic ((shape.basic row inside).1 there)
      ∙ ap (basic_value v basic) at ∙ basic_value-at v basic shape.ascending place within

  module _ (dual weight : ℚ) (is_dual : dual ≡ number_at basic place) (is_weight : weight ≡ (sample value p).up1 row) where
    pub score_is : ((dual *ℚ inverse weight) +ℚ whole (pos 1)) -ℚ rational theta ≡ score value p v basic theta row
    score_is =
        ap (λ e. ((e *ℚ inverse weight) +ℚ whole (pos 1)) -ℚ rational theta) (is_dual ∙ sym dual_at_place)
        ∙ ap (λ w. ((dual_value value p v basic (rational theta) row *ℚ inverse w) +ℚ whole (pos 1)) -ℚ rational theta) is_weight

-- what is told of a later row
module _ {F : Type 0} (value : F → Fraction) (p : Problem F) (n : ℕ) (v : Vertex) (basic : List Fraction) (theta : Fraction) (row : ℕ) where
  told : Bool → ℚ
  told b = if b then score value p v basic theta row else dual_of value p v basic theta row

  pub later_score : n ≤ row → dual_of value p v basic theta row ≡ row_score value p n v basic theta row
  unfolding told
  later_score h = ap told (sym (le-ltb row n h))

-- the same, where the row, its weight and its dual value were read from lists
module _ {F : Type 0} (value : F → Fraction) (p : Problem F) (s : Segment) (ok : IsScorable p s) (place row : ℕ) (within : place < length s.vertex.basis.rows) (rows : List ℕ) (same : rows ≡ s.vertex.basis.rows) (row_is : row ≡ slice_index rows place) where
  at_read : row ≡ slice_index s.vertex.basis.rows place
  at_read = row_is ∙ ap (λ xs. slice_index xs place) same

  inside_read : row < length p.rows
  inside_read = subst (λ i. i < length p.rows) (sym at_read) (ok.inside place 0 within)

  -- the dual value of the row is that of its place
  pub dual_read : (basic : List Fraction) (theta : Fraction) → number_at basic place ≡ dual_of value p s.vertex basic theta row
  dual_read basic theta = sym (dual_at_place value p s.vertex basic theta ok.vertex place row within at_read inside_read)

  module _ (all : List (Row F)) (all_is : all ≡ p.rows) (r : Row F) (r_is : r ≡ get_or all row r) where
    weight_read : rational (value r.up1) ≡ (sample value p).up1 row
    weight_read = sym (row_read p.rows (λ r. rational (value r.up1)) row r inside_read (r_is ∙ ap (λ xs. get_or xs row r) all_is))

    pub score_read : (basic : List Fraction) (theta : Fraction) (values : List Fraction) (x : Fraction) → length basic ≡ length s.vertex.basis.rows → values ≡ basic → x ≡ get_or values place x
        → ((rational x *ℚ inverse (rational (value r.up1))) +ℚ whole (pos 1)) -ℚ rational theta ≡ score value p s.vertex basic theta row
    score_read basic theta values x size held x_is =
        score_is value p s.vertex basic theta ok.vertex place row within at_read inside_read (rational x) (rational (value r.up1))
        (sym (value_at-item (λ x. x) basic place x (omega (arith, within, size)) (x_is ∙ ap (λ xs. get_or xs place x) held))) weight_read

-- ---- all basic rows, one after another

module _ {F : Type 0} (value : F → Fraction) (p : Problem F) (n : ℕ) (s : Segment) where
  abbrev low_end : ScorePair → Type 0
  low_end q = rational q.at_lo ≡ row_score value p n s.vertex s.basic_lo s.lo q.row

  abbrev high_end : ScorePair → Type 0
  high_end q = rational q.at_hi ≡ row_score value p n s.vertex s.basic_hi s.hi q.row

  -- the pairs are those of the first k basic rows
  pub record AreScored (k : ℕ) (pairs : List ScorePair) : Type 0 where
    pub rows : map (λ q. q.row) pairs ≡ take k s.vertex.basis.rows
    pub at_lo : All low_end pairs
    pub at_hi : All high_end pairs

  pub scored_more : (k : ℕ) (pairs next : List ScorePair) (pair : ScorePair) → k < length s.vertex.basis.rows → AreScored k pairs
      → pair.row ≡ slice_index s.vertex.basis.rows k → low_end pair → high_end pair → next ≡ pairs ++ pair ∷ [] → AreScored (k + 1) next
  scored_more k pairs next pair within so_far row lo hi grown =
      subst (AreScored (k + 1)) (sym grown) (record {
        rows = map-append (λ (q : ScorePair). q.row) pairs (pair ∷ []) ∙ ap (λ xs. xs ++ pair.row ∷ []) so_far.rows
            ∙ ap (λ r. take k s.vertex.basis.rows ++ r ∷ []) row ∙ sym (take_more s.vertex.basis.rows k 0 within);
        at_lo = All-append low_end pairs (pair ∷ []) so_far.at_lo (All-cons low_end pair [] lo (All-nil low_end));
        at_hi = All-append high_end pairs (pair ∷ []) so_far.at_hi (All-cons high_end pair [] hi (All-nil high_end));
      })
