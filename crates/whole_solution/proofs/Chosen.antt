-- Sides of all rows beside the rows near the fit, and after a step that far rows are not looked at.
use Rattle.std.specs.Prelude.{◌≡◌, ◌⊎◌, ℕ, ℤ, ◌<◌, ◌≤◌, ◌≤ℤ◌, Bool, true, false, List, All, length, pos, slice_index}
use Rattle.std.proofs.Common.{arith, refl, sym, ap, subst, ◌∙◌, inl, inr}
use Rattle.rational_laws.specs.Rational.{ℚ, ◌+ℚ◌, ◌*ℚ◌, ◌≤ℚ◌}
use Rattle.rational_laws.specs.Selections.{is_among}
use Rattle.loss_model.specs.declared.vertex.Side.{Side}
use Rattle.loss_model.specs.declared.vertex.Side.TheVariants.{Basic}
use Rattle.loss_model.specs.Sample.{Sample, residual}
use Rattle.basis_model.specs.Basis.{coefficient, side_at}
use Rattle.pivot_model.proofs.Among.{among_place}
use Rattle.whole_inverse.specs.Shares.{share, share_at}
use Rattle.whole_solution.specs.declared.near.Near.{Near}
use Rattle.whole_solution.specs.declared.ranges.Ranges.{Ranges}
use Rattle.loss_model.specs.Sides.{side_in}
use Rattle.whole_solution.specs.Far.{reaching, room, AreOthersFar, IsChosen, IsFarOn, IsListed, IsNear, IsNearOrFar}
use Rattle.whole_solution.specs.Ranges.{factor_at, AreRanges}
use Rattle.whole_solution.proofs.Keeping.{keeps_far}
use Rattle.whole_solution.proofs.Made.{basic_by}
use Rattle.whole_solution.proofs.Same.{residual_same}

-- a residual that is known
far_same : (near : List ℕ) (side : Side) (far : ℚ) (i : ℕ) (r s : ℚ) → r ≡ s → IsNearOrFar near side far i r → IsNearOrFar near side far i s
far_same near side far i r s e h = subst (λ r. IsNearOrFar near side far i r) e h

-- rows that were chosen
module _ (p : Sample) (side : ℕ → Side) (residuals coefs : List ℤ) (d : ℤ) (kept : Ranges) (n : Near) (chosen : IsChosen side residuals coefs d kept n)
    (rows : length residuals ≡ p.rows) (columns : length coefs ≡ p.columns) (positive : pos 1 ≤ℤ d) (ranges : AreRanges p kept)
    (are : (i : ℕ) → i < p.rows → share_at d residuals i ≡ residual p (share_at d coefs) i) where
  own : (i : ℕ) → i < p.rows → IsNearOrFar n.rows (side i) (factor_at n.ranges.classes i *ℚ share (pos n.distance) d) i (share_at d residuals i)
  own i li =
      subst (λ (r : Ranges). IsNearOrFar n.rows (side i) (factor_at r.classes i *ℚ share (pos n.distance) d) i (share_at d residuals i)) (sym chosen.ranges)
      (chosen.others i (omega (arith, li, rows)))

  pub near_from_chosen : IsNear p side n
  near_from_chosen =
      record {
        columns = ap length chosen.coef ∙ columns;
        some = subst (λ d. pos 1 ≤ℤ d) (sym chosen.determinant) positive;
        reach = subst (λ r. 1 ≤ r) (sym chosen.reach) chosen.some;
        rows = subst (λ m. All (λ i. i < m) n.rows) rows chosen.rows;
        ranges = subst (AreRanges p) (sym chosen.ranges) ranges;
        others = subst (λ d. AreOthersFar p side n (share (pos n.distance) d) (share_at d n.coef)) (sym chosen.determinant)
            (subst (λ coefs. AreOthersFar p side n (share (pos n.distance) d) (share_at d coefs)) (sym chosen.coef)
            (λ i li. far_same n.rows (side i) (factor_at n.ranges.classes i *ℚ share (pos n.distance) d) i (share_at d residuals i) (residual p (share_at d coefs) i) (are i li) (own i li)));
      }

  pub far_from_chosen : (b : ℕ → ℚ) → ((k : ℕ) → k < p.columns → share_at d coefs k ≡ b k) → AreOthersFar p side n (share (pos n.reach) n.determinant) b
  far_from_chosen b same =
      subst (λ d. AreOthersFar p side n (share (pos n.reach) d) b) (sym chosen.determinant)
      (subst (λ far. AreOthersFar p side n (share (pos far) d) b) (sym chosen.reach)
      (λ i li. far_same n.rows (side i) (factor_at n.ranges.classes i *ℚ share (pos n.distance) d) i (share_at d residuals i) (residual p b i) (are i li ∙ residual_same p (share_at d coefs) b same i) (own i li)))

-- sides that are those of all rows outside the basis, with no row of this on one
pub with_basis : (p : Sample) (at : ℕ → ℕ) (a : ℕ → ℕ → ℚ) (made : List Side) → ((i : ℕ) → i < p.rows → is_among at p.columns i ≡ false → side_in made i ≡ side_at p at a i)
    → ((j : ℕ) → j < p.columns → side_in made (at j) ≡ Basic) → (i : ℕ) → i < p.rows → side_in made i ≡ side_at p at a i
with_basis p at a made outside basis i li = by (is_among at p.columns i) refl
  where
    by : (t : Bool) → is_among at p.columns i ≡ t → side_in made i ≡ side_at p at a i
    by true e =
        let place = among_place at p.columns i e in
        subst (λ i. side_in made i ≡ Basic) place.2 (basis place.0 place.1) ∙ basic_by p at a i e
    by false e = outside i li e

-- rows that were near an earlier fit, from which no residual has moved by more than what the distance is beyond a reach
module _ (p : Sample) (at : ℕ → ℕ) (a : ℕ → ℕ → ℚ) (d : ℤ) (coef : List ℤ) (n : Near) (reach : ℕ) (old made : List Side)
    (size : length coef ≡ p.columns) (same : (k : ℕ) → k < p.columns → share_at d coef k ≡ coefficient p at a k) (is_near : IsNear p (side_in old) n)
    (some : 1 ≤ reach) (left : (room (length coef) n.ranges (share_at n.determinant n.coef) (share_at d coef) +ℚ share (pos reach) n.determinant) ≤ℚ share (pos n.distance) n.determinant)
    (each : (i : ℕ) → IsListed n.rows i ⊎ (side_in made i ≡ side_in old i)) where
  abbrev before : ℕ → ℚ
  before = share_at n.determinant n.coef

  abbrev far : ℚ
  far = share (pos n.distance) n.determinant

  abbrev least : ℚ
  least = share (pos reach) n.determinant

  abbrev factor : ℕ → ℚ
  factor = factor_at n.ranges.classes

  -- a far row is still far
  still_far : (i : ℕ) → i < p.rows → (side : Side) → IsFarOn side (factor i *ℚ far) (residual p before i) → IsFarOn side (factor i *ℚ least) (residual p (coefficient p at a) i)
  still_far i li side away =
      let short = subst (λ m. (room m n.ranges before (share_at d coef) +ℚ least) ≤ℚ far) size left in
      subst (λ r. IsFarOn side (factor i *ℚ least) r) (residual_same p (share_at d coef) (coefficient p at a) same i)
      (keeps_far p n.ranges (slice_index n.ranges.classes i) before (share_at d coef) i (is_near.ranges.each i li) far least short side away)

  -- on the side that stands now, unless it is listed
  on_side : (i : ℕ) (r : ℚ) (bound : ℚ) → IsNearOrFar n.rows (side_in old i) bound i r → IsNearOrFar n.rows (side_in made i) bound i r
  on_side i r bound h = by (each i) h
    where
      by : IsListed n.rows i ⊎ (side_in made i ≡ side_in old i) → IsNearOrFar n.rows (side_in old i) bound i r → IsNearOrFar n.rows (side_in made i) bound i r
      by (inl listed) h = inl listed
      by (inr e) (inl listed) = inl listed
      by (inr e) (inr away) = inr (subst (λ side. IsFarOn side bound r) (sym e) away)

  pub near_now : IsNear p (side_in made) (reaching n reach)
  near_now =
      record {
        columns = is_near.columns;
        some = is_near.some;
        reach = some;
        rows = is_near.rows;
        ranges = is_near.ranges;
        others = λ i li. on_side i (residual p before i) (factor i *ℚ far) (is_near.others i li);
      }

  pub far_now : AreOthersFar p (side_in made) n least (coefficient p at a)
  far_now i li = on_side i (residual p (coefficient p at a) i) (factor i *ℚ least) (by (is_near.others i li))
    where
      by : IsNearOrFar n.rows (side_in old i) (factor i *ℚ far) i (residual p before i) → IsNearOrFar n.rows (side_in old i) (factor i *ℚ least) i (residual p (coefficient p at a) i)
      by (inl listed) = inl listed
      by (inr away) = inr (still_far i li (side_in old i) away)
