-- Rows that are passed on a line.
use Rattle.std.specs.Prelude.{◌≡◌, Option, None, Some, IfSome, ℕ, ℤ, ◌+◌, ◌<◌, ◌≤◌, ◌+ℤ◌, ◌*ℤ◌, ◌≤ℤ◌, ◌<ℤ◌, true, false, ◌&&◌, if◌then◌else◌, unsigned_abs, [], ◌∷◌, length, slice_index, get_or, pos}
use Rattle.std.proofs.Common.{arith, refl, sym, ap, ap₂, subst, ◌∙◌}
use Rattle.rational_laws.specs.Fraction.{rational}
use Rattle.rational_laws.specs.Solver.{number, ◌⊞◌, ◌⊠◌, v0, v1, v2, v3, v4}
use Rattle.rational_laws.specs.Rational.{ℚ, ◌+ℚ◌, ◌*ℚ◌, whole, ◌≤ℚ◌}
use Rattle.rational_laws.proofs.RationalLaws.{whole-add, ring_ℚ}
use Rattle.rational_laws.specs.RationalSums.{sum_ℚ}
use Rattle.rational_laws.proofs.RationalSumLaws.{sum_ℚ-next}
use Rattle.loss_model.specs.Spill.{abs_ℚ}
use Rattle.pivot_model.specs.Duals.{◌<ℚ◌}
use Rattle.pivot_model.specs.declared.direction.Direction.{Direction}
use Rattle.pivot_model.specs.Steps.{slope, IsEntering}
use Rattle.pivot_model.proofs.Passing.{not_before_itself}
use Rattle.whole_inverse.specs.Squares.{WholeSquare, inverse_of}
use Rattle.whole_inverse.proofs.Lists.{share_read}
use Rattle.whole_rows.specs.declared.rows.WholeRow.{WholeRow}
use Rattle.whole_rows.specs.Wholes.{sample_of_rows}
use Rattle.whole_solution.proofs.Reading.{row_read}
use Rattle.whole_steps.specs.declared.line.Line.{Line}
use Rattle.whole_steps.specs.declared.line.Mover.{Mover}
use Rattle.whole_steps.specs.Lines.{model, at_of, inverse_at, over_of, is_moving, comes_before, IsMover, IsMoverAt}
use Rattle.whole_steps.proofs.Signs.{abs_share}
use Rattle.whole_steps.specs.declared.station.Station.{Station}
use Rattle.whole_steps.specs.Stations.{model as station_model, at_of as station_at, inverse_at as station_inverse}
use Rattle.whole_steps.specs.Entering.{IsLineOf}
use Rattle.whole_steps.proofs.Lines.{along, back}
use Rattle.whole_steps.specs.declared.passing.Descent.{Descent}
use Rattle.whole_steps.specs.declared.quantile.Quantile.{Quantile}
use Rattle.whole_steps.specs.Quantiles.{theta_of, number_over}
use Rattle.whole_steps.specs.Leavings.{scale_of}
use Rattle.whole_steps.specs.Passing.{line_of, IsDescent, number_value, first_slope, passing_of, passed_by, slope_until, Enters}
use Rattle.whole_steps.proofs.Scales.{weighed_share, scale_positive, share-sum, share_negative, share_not_negative}

module _ (d : Descent) (h : IsDescent d) where
  scale_some : 1 ≤ unsigned_abs (over_of (line_of d) *ℤ d.theta.under)
  scale_some = scale_positive (over_of (line_of d)) d.theta.under h.full.line.held.shape.positive h.theta

  -- the size of the coordinate times the costs at theta
  pub passing_is : (i : ℕ) (r : WholeRow ℤ) (c l w n : ℤ) → i < length (line_of d).basis.now.rows.now → r ≡ get_or (line_of d).basis.now.rows.now i r
      → c ≡ r.up0 +ℤ r.down0 → l ≡ r.up1 +ℤ r.down1 → w ≡ (c *ℤ d.theta.under) +ℤ (l *ℤ d.theta.over) → n ≡ pos (unsigned_abs (get_or d.full.coords.now i (pos 0))) *ℤ w
      → rational (number_value d n) ≡ passing_of d i
  unfolding passing_of
  passing_is i r c l w n li is ec el ew en =
      weighed_share (over_of (line_of d)) d.theta.under h.full.line.held.shape.positive h.theta (pos (unsigned_abs (get_or d.full.coords.now i (pos 0)))) c l d.theta.over w n ew en
      ∙ ap₂ (λ x y. x *ℚ y)
      (sym (abs_share (get_or d.full.coords.now i (pos 0)) (over_of (line_of d)) h.full.line.held.shape.positive)
      ∙ ap abs_ℚ (share_read (over_of (line_of d)) d.full.coords.now i (omega (arith, h.full.all_coords, li)) ∙ h.full.coords i li))
      (ap₂ (λ x y. x +ℚ (y *ℚ theta_of d.theta)) (ap whole ec ∙ whole-add r.up0 r.down0) (ap whole el ∙ whole-add r.up1 r.down1)
      ∙ ring_ℚ (whole r.up0 ∷ whole r.down0 ∷ whole r.up1 ∷ whole r.down1 ∷ theta_of d.theta ∷ []) ((v0 ⊞ v1) ⊞ (v2 ⊞ v3) ⊠ v4) ((v0 ⊞ v2 ⊠ v4) ⊞ (v1 ⊞ v3 ⊠ v4)) refl
      ∙ sym (ap₂ (λ x y. x +ℚ y)
      (ap₂ (λ x y. x +ℚ (y *ℚ theta_of d.theta)) (row_read (line_of d).basis.now.rows.now i r (λ r. whole r.up0) li is) (row_read (line_of d).basis.now.rows.now i r (λ r. whole r.up1) li is))
      (ap₂ (λ x y. x +ℚ (y *ℚ theta_of d.theta)) (row_read (line_of d).basis.now.rows.now i r (λ r. whole r.down0) li is) (row_read (line_of d).basis.now.rows.now i r (λ r. whole r.down1) li is))))

  -- a row isn't passed before itself
  pub not_itself : (i : ℕ) → comes_before (line_of d) i i ≡ false
  unfolding comes_before
  not_itself i = not_before_itself (model (line_of d)) (at_of (line_of d)) (inverse_at (line_of d)) (line_of d).position i

  -- one row more
  pub passed_more : (r i : ℕ) (slope more sum : ℤ) → (is_moving (line_of d) i && comes_before (line_of d) i r) ≡ true → rational (number_value d more) ≡ passing_of d i → sum ≡ slope +ℤ more
      → rational (number_value d sum) ≡ rational (number_value d slope) +ℚ passed_by d r i
  passed_more r i slope more sum taken is e =
      ap (λ n. rational (number_value d n)) e ∙ share-sum slope more (pos (unsigned_abs (over_of (line_of d) *ℤ d.theta.under)))
      ∙ ap (λ z. rational (number_value d slope) +ℚ z) (is ∙ sym (ap (λ t. if t then passing_of d i else whole (pos 0)) taken))

  pub passed_none : (r i : ℕ) (slope : ℤ) → (is_moving (line_of d) i && comes_before (line_of d) i r) ≡ false → rational (number_value d slope) ≡ rational (number_value d slope) +ℚ passed_by d r i
  passed_none r i slope left =
      ring_ℚ (rational (number_value d slope) ∷ []) v0 (v0 ⊞ number (pos 0)) refl
      ∙ ap (λ z. rational (number_value d slope) +ℚ z) (sym (ap (λ t. if t then passing_of d i else whole (pos 0)) left))

  -- the sum over the first rows
  pub sum_none : (r : ℕ) (start : ℤ) → rational (number_value d start) ≡ first_slope d → rational (number_value d start) ≡ first_slope d +ℚ sum_ℚ 0 (passed_by d r)
  sum_none r start e = e ∙ ring_ℚ (first_slope d ∷ []) v0 (v0 ⊞ number (pos 0)) refl

  pub sum_more : (r i : ℕ) (x y : ℚ) → x ≡ first_slope d +ℚ sum_ℚ i (passed_by d r) → y ≡ x +ℚ passed_by d r i → y ≡ first_slope d +ℚ sum_ℚ (i + 1) (passed_by d r)
  sum_more r i x y before e =
      e ∙ ap (λ z. z +ℚ passed_by d r i) before
      ∙ ring_ℚ (first_slope d ∷ sum_ℚ i (passed_by d r) ∷ passed_by d r i ∷ []) ((v0 ⊞ v1) ⊞ v2) (v0 ⊞ (v1 ⊞ v2)) refl
      ∙ ap (λ z. first_slope d +ℚ z) (sym (sum_ℚ-next i (passed_by d r)))

  pub sum_all : (r n : ℕ) (x : ℚ) → n ≡ length (line_of d).basis.now.rows.now → x ≡ first_slope d +ℚ sum_ℚ n (passed_by d r) → x ≡ slope_until d r
  unfolding slope_until first_slope passing_of is_moving comes_before
  sum_all r n x all e = e ∙ ap (λ n. first_slope d +ℚ sum_ℚ n (passed_by d r)) all

  -- the row enters where passing it takes the slope from below 0
  pub enters_by : (r : ℕ) (before own past : ℤ) → r < length (line_of d).basis.now.rows.now → is_moving (line_of d) r ≡ true → rational (number_value d before) ≡ slope_until d r → rational (number_value d own) ≡ passing_of d r
      → past ≡ before +ℤ own → before <ℤ pos 0 → pos 0 ≤ℤ past → Enters d r
  unfolding Enters slope_until passing_of is_moving
  enters_by r before own past lr moving is own_is e below above =
      record {
        row = lr;
        mover = moving;
        still = subst (λ z. z <ℚ whole (pos 0)) is (share_negative (unsigned_abs (over_of (line_of d) *ℤ d.theta.under)) scale_some before below);
        turned = subst (λ z. whole (pos 0) ≤ℚ z)
            (ap (λ n. rational (number_value d n)) e ∙ share-sum before own (pos (unsigned_abs (over_of (line_of d) *ℤ d.theta.under))) ∙ ap₂ (λ x y. x +ℚ y) is own_is)
            (share_not_negative (unsigned_abs (over_of (line_of d) *ℤ d.theta.under)) scale_some past above);
      }

-- the slope where the line begins
pub first_is : (d : Descent) (x : ℚ) → x ≡ slope (model (line_of d)) (at_of (line_of d)) (inverse_at (line_of d)) (theta_of d.theta) (line_of d).position (line_of d).direction → x ≡ first_slope d
unfolding first_slope
first_is d x e = e

pub entering_is : (d : Descent) (r : ℕ) → Enters d r → IsEntering (model (line_of d)) (at_of (line_of d)) (inverse_at (line_of d)) (theta_of d.theta) (line_of d).position (line_of d).direction r
unfolding Enters
entering_is d r h = h

-- the slope of a station where its line begins
pub slope_there : (s : Station) (q : Quantile ℤ) (n : ℤ) (j : ℕ) (e : Direction) (l : Line ℤ WholeSquare) → IsLineOf s j e l
    → rational (number_over (scale_of s q) n) ≡ slope (station_model s) (station_at s) (station_inverse s) (theta_of q) j e
    → rational (number_over (unsigned_abs (over_of l *ℤ q.under)) n) ≡ slope (model l) (at_of l) (inverse_at l) (theta_of q) l.position l.direction
slope_there s q n j e l h is =
    along
    (λ b k f. rational (number_over (unsigned_abs (b.inverse.now.determinant *ℤ q.under)) n)
    ≡ slope (sample_of_rows (length b.inverse.now.columns) b.rows.now) (slice_index b.basis.now.rows) (inverse_of b.inverse.now) (theta_of q) k f) s j e l h is

-- the row that enters on the line enters at the station
pub entering_there : (s : Station) (q : Quantile ℤ) (j : ℕ) (e : Direction) (l : Line ℤ WholeSquare) → IsLineOf s j e l → (r : ℕ)
    → IsEntering (model l) (at_of l) (inverse_at l) (theta_of q) l.position l.direction r → IsEntering (station_model s) (station_at s) (station_inverse s) (theta_of q) j e r
entering_there s q j e l h r enters =
    back (λ b k f. IsEntering (sample_of_rows (length b.inverse.now.columns) b.rows.now) (slice_index b.basis.now.rows) (inverse_of b.inverse.now) (theta_of q) k f r) s j e l h enters

pub mover_some : (l : Line ℤ WholeSquare) (i : ℕ) (o : Option (Mover ℕ)) → IsMoverAt l i o → IfSome o (λ m. IsMover l m)
mover_some l i None h = tt
mover_some l i (Some m) h = h.0
