-- The dual values of a vertex.
use Rattle.std.specs.Prelude.{◌≡◌, ℕ, zero, suc, ◌+◌, ◌-◌, ◌<◌, true, false, List, length, slice_get, slice_index, get_or, Some, ◌==◌, pos}
use Rattle.std.specs.Option.{option_map_or}
use Rattle.std.specs.List.Sorted.{IsStrictlyIncreasing}
use Rattle.std.proofs.Common.{arith, refl, sym, ap, subst}
use Rattle.std.proofs.lemmas.List.Sums.{position_or_len_is}
use Rattle.std.proofs.lemmas.Option.{slice_get-get_or}
use Rattle.rational_laws.specs.Rational.{ℚ, neg_ℚ, whole, ◌≤ℚ◌}
use Rattle.rational_laws.proofs.RationalLaws.{≤ℚ_refl}
use Rattle.rational_laws.specs.Fraction.{Fraction}
use Rattle.loss_model.specs.declared.problem.Problem.{Problem}
use Rattle.loss_model.specs.declared.vertex.Side.{Side}
use Rattle.loss_model.specs.declared.vertex.Side.TheVariants.{Up, Down, Basic}
use Rattle.loss_model.specs.declared.vertex.Vertex.{Vertex}
use Rattle.loss_model.specs.Sample.{up_cost, down_cost, residual}
use Rattle.loss_model.specs.Dual.{IsFeasible, IsDual}
use Rattle.loss_model.specs.Problem.{number_at, sample}
use Rattle.loss_model.specs.Vertex.{value_of_side, IsOn, basic_value, dual_value}
use Rattle.loss_model.proofs.Duality.{sides}

-- the side of row i, and Basic beyond the last
abbrev pub side_at : Vertex → ℕ → Side
side_at v i = get_or v.sides i Basic

pub side_is : (v : Vertex) (i : ℕ) → i < length v.sides → slice_get v.sides i ≡ Some (side_at v i)
side_is v i l = slice_get-get_or v.sides i Basic l

module _ {F : Type 0} (value : F → Fraction) (p : Problem F) (v : Vertex) (basic : List Fraction) (theta : ℚ) where
  -- the dual value of a row by its side
  pub dual_value-at : (i : ℕ) (s : Side) → slice_get v.sides i ≡ Some s → dual_value value p v basic theta i ≡ value_of_side (sample value p) theta (basic_value v basic) i s
  dual_value-at i s h = ap (λ o. option_map_or (value_of_side (sample value p) theta (basic_value v basic) i) o (whole (pos 0))) h

  -- a value that a side gives a row is its own value of that side
  own : (i : ℕ) (s : Side) → slice_get v.sides i ≡ Some s → dual_value value p v basic theta i ≡ value_of_side (sample value p) theta (dual_value value p v basic theta) i s
  own i Up h = dual_value-at i Up h
  own i Down h = dual_value-at i Down h
  own i Basic h = refl

  pub vertex_dual : length v.sides ≡ length p.rows
      → ((i : ℕ) (s : Side) → slice_get v.sides i ≡ Some s → IsOn s (residual (sample value p) (number_at v.coef) i))
      → IsFeasible (sample value p) theta (dual_value value p v basic theta)
      → IsDual (sample value p) theta (number_at v.coef) (dual_value value p v basic theta)
  vertex_dual size on f =
      sides (sample value p) theta (number_at v.coef) (dual_value value p v basic theta) (side_at v) f
      (λ i l. let h = side_is v i (subst (λ n. i < n) (sym size) l) in (on i (side_at v i) h, own i (side_at v i) h))

  -- values of sides are within the costs where those of the basic rows are
  bounds : (i : ℕ) (s : Side) → slice_get v.sides i ≡ Some s → neg_ℚ (down_cost (sample value p) theta i) ≤ℚ up_cost (sample value p) theta i
      → (s ≡ Basic → (neg_ℚ (down_cost (sample value p) theta i) ≤ℚ basic_value v basic i) × (basic_value v basic i ≤ℚ up_cost (sample value p) theta i))
      → (neg_ℚ (down_cost (sample value p) theta i) ≤ℚ dual_value value p v basic theta i) × (dual_value value p v basic theta i ≤ℚ up_cost (sample value p) theta i)
  bounds i s h costs within =
      subst (λ z. (neg_ℚ (down_cost (sample value p) theta i) ≤ℚ z) × (z ≤ℚ up_cost (sample value p) theta i)) (sym (dual_value-at i s h)) (by s within)
    where
      by : (s : Side) → (s ≡ Basic → (neg_ℚ (down_cost (sample value p) theta i) ≤ℚ basic_value v basic i) × (basic_value v basic i ≤ℚ up_cost (sample value p) theta i))
          → (neg_ℚ (down_cost (sample value p) theta i) ≤ℚ value_of_side (sample value p) theta (basic_value v basic) i s) × (value_of_side (sample value p) theta (basic_value v basic) i s ≤ℚ up_cost (sample value p) theta i)
      by Up k = (costs, ≤ℚ_refl (up_cost (sample value p) theta i))
      by Down k = (≤ℚ_refl (neg_ℚ (down_cost (sample value p) theta i)), costs)
      by Basic k = k refl

-- each row of an ascending basis is below all later ones
ascending_by : (xs : List ℕ) → IsStrictlyIncreasing xs → (j d k : ℕ) → j + suc d ≡ k → k < length xs → slice_index xs j < slice_index xs k
ascending_by xs h j zero k e l = let s : j + 1 ≡ k = omega arith in subst (λ n. slice_index xs j < slice_index xs n) s (h j (omega arith))
ascending_by xs h j (suc d) k e l =
    let before : slice_index xs j < slice_index xs (j + suc d) = ascending_by xs h j d (j + suc d) refl (omega arith) in
    let last : slice_index xs (j + suc d) < slice_index xs ((j + suc d) + 1) = h (j + suc d) (omega arith) in
    let s : (j + suc d) + 1 ≡ k = omega arith in
    subst (λ n. slice_index xs j < slice_index xs n) s (omega arith)

pub ascending : (xs : List ℕ) → IsStrictlyIncreasing xs → (j k : ℕ) → j < k → k < length xs → slice_index xs j < slice_index xs k
ascending xs h j k l m = let e : j + suc (k - suc j) ≡ k = omega arith in ascending_by xs h j (k - suc j) k e m

differs : (m n : ℕ) → m < n → (m == n) ≡ false
differs m n h = grind arith

itself : (n : ℕ) → (n == n) ≡ true
itself n = grind arith

-- the basic value of the row at place j of the basis is value j of the list
pub basic_value-at : (v : Vertex) (basic : List Fraction) → IsStrictlyIncreasing v.basis.rows → (j : ℕ) → j < length v.basis.rows
    → basic_value v basic (slice_index v.basis.rows j) ≡ number_at basic j
basic_value-at v basic h j l =
    let rows = v.basis.rows in
    ap (number_at basic)
    (position_or_len_is (λ r. r == slice_index rows j) rows j 0 (omega arith)
    (λ k m. differs (slice_index rows k) (slice_index rows j) (ascending rows h k j m l)) (λ m. itself (slice_index rows j)))
