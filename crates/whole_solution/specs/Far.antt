-- Inner. Rows far from a fit, which keep their sides while the coefficients move little.
use Rattle.std.specs.Prelude.{◌≡◌, ◌⊎◌, ℕ, ℤ, ◌<◌, ◌≤◌, ◌≤ℤ◌, ◌*ℤ◌, ◌+ℤ◌, neg_ℤ, List, All, length, get_or, slice_index, pos}
use Rattle.rational_laws.specs.Rational.{ℚ, ◌-ℚ◌, ◌*ℚ◌, neg_ℚ, ◌≤ℚ◌, whole}
use Rattle.loss_model.specs.declared.vertex.Side.{Side}
use Rattle.loss_model.specs.declared.vertex.Side.TheVariants.{Up, Down, Basic}
use Rattle.loss_model.specs.Sample.{Sample, residual}
use Rattle.whole_inverse.specs.Shares.{share, share_at}
use Rattle.whole_solution.specs.declared.near.Near.{Near}
use Rattle.whole_solution.specs.declared.ranges.Ranges.{Ranges}
use Rattle.whole_solution.specs.Ranges.{factor_at, AreRanges, most_of_products}

-- the most that a residual moves from one list of coefficients to another, over the factor of its row
abbrev pub room : ℕ → Ranges → (ℕ → ℚ) → (ℕ → ℚ) → ℚ
room n r from to = most_of_products n r (λ k. to k -ℚ from k)

-- a residual is at least `far` on a side
abbrev pub IsFarOn : Side → ℚ → ℚ → Type 0
IsFarOn Up far r = far ≤ℚ r
IsFarOn Down far r = far ≤ℚ neg_ℚ r
IsFarOn Basic far r = ⊥

-- row i is one of these
abbrev pub IsListed : List ℕ → ℕ → Type 0
IsListed rows i = (k : ℕ) × (k < length rows) × (slice_index rows k ≡ i)

-- row i is near, or its residual is at least `far` on its side
abbrev pub IsNearOrFar : List ℕ → Side → ℚ → ℕ → ℚ → Type 0
IsNearOrFar near side far i r = IsListed near i ⊎ IsFarOn side far r

-- each row is near, or its residual at these coefficients is at least `far`, times the factor of the row, on its side
abbrev pub AreOthersFar : Sample → (ℕ → Side) → Near → ℚ → (ℕ → ℚ) → Type 0
AreOthersFar p side n far b = (i : ℕ) → i < p.rows → IsNearOrFar n.rows (side i) (factor_at n.ranges.classes i *ℚ far) i (residual p b i)

-- how far coefficient k, of this numerator over d, has moved from the earlier fit, times both determinants
abbrev pub move_of : Near → ℕ → ℤ → ℤ → ℤ
move_of n k number d = number *ℤ n.determinant +ℤ neg_ℤ (get_or n.coef k (pos 0) *ℤ d)

-- the same rows with another reach
abbrev pub reaching : Near → ℕ → Near
reaching n r = record n { reach = r }

-- at the earlier fit all rows but these were at least the distance from it, times their factors, on these sides
pub record IsNear (p : Sample) (side : ℕ → Side) (n : Near) : Type 0 where
  pub columns : length n.coef ≡ p.columns
  pub some : pos 1 ≤ℤ n.determinant
  pub reach : 1 ≤ n.reach
  pub rows : All (λ i. i < p.rows) n.rows
  pub ranges : AreRanges p n.ranges
  pub others : AreOthersFar p side n (share (pos n.distance) n.determinant) (share_at n.determinant n.coef)

-- how far the first n coefficients may have moved a residual together, times both determinants
abbrev pub moves : Near → List ℤ → ℤ → ℕ → ℚ
moves near coef d n = most_of_products n near.ranges (λ k. whole (move_of near k (get_or coef k (pos 0)) d))

-- the rows near the fit of these coefficients over d, where all rows have these residuals and sides
pub record IsChosen (side : ℕ → Side) (residuals coefs : List ℤ) (d : ℤ) (kept : Ranges) (n : Near) : Type 0 where
  pub coef : n.coef ≡ coefs
  pub determinant : n.determinant ≡ d
  pub ranges : n.ranges ≡ kept
  pub reach : n.reach ≡ n.distance
  pub some : 1 ≤ n.distance
  pub rows : All (λ i. i < length residuals) n.rows
  pub others : (i : ℕ) → i < length residuals → IsNearOrFar n.rows (side i) (factor_at kept.classes i *ℚ share (pos n.distance) d) i (share_at d residuals i)
