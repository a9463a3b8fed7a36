-- Different fractions are different real numbers: a sequence that isn't below a fraction, which all sequences of its number are not.
use Rattle.std.specs.Prelude.{◌≡◌, ℕ, ◌≤◌, ◌+◌, Bool, true, false, [], ◌∷◌, pos}
use Rattle.std.proofs.Common.{arith, refl, subst}
use mathlib.Core.HProp.{HProp}
use mathlib.Core.HLevel.{Π_prop, ¬_prop}
use mathlib.Core.Quot.{mk, lift_prop}
use Rattle.rational_laws.specs.Solver.{number, ◌⊞◌, ◌⊟◌, v0, v1, v2}
use Rattle.rational_laws.specs.Rational.{ℚ, ◌-ℚ◌, whole, le_ℚ, ◌≤ℚ◌}
use Rattle.rational_laws.proofs.RationalLaws.{ring_ℚ, ring_by_ℚ, ≤ℚ_trans}
use Rattle.rational_laws.proofs.RationalSumLaws.{≤ℚ_from}
use Rattle.rational_laws.proofs.OrderLaws.{≤ℚ-minus, le_from_not, not_le}
use Rattle.loss_model.specs.Strict.{◌<ℚ◌}
use Rattle.real_laws.specs.Laws.{RealsKeepOrder}
use Rattle.real_laws.specs.Fractions.{left_at_most}
use Rattle.real_laws.specs.Distances.{half_of, halves, half_some, by_halves}
use Rattle.real_laws.specs.Sequences.{Sequence, Same}
use Rattle.real_laws.specs.Operations.{constant, greater_terms}
use Rattle.real_laws.specs.Reals.{ℝ, real, ◌≤ℝ◌}
use Rattle.real_laws.specs.RealLaws.{real-order}

-- the terms don't stay below q by more than some e
abbrev IsNotBelow : ℚ → Sequence → Type 0
IsNotBelow q a = (e : ℚ) → whole (pos 0) <ℚ e → ¬ ((m : ℕ) × ((n : ℕ) → m ≤ n → ¬ ((q -ℚ a.at n) ≤ℚ e)))

abbrev not_below : ℚ → Sequence → HProp {0}
not_below q a = (IsNotBelow q a, Π_prop (λ e. Π_prop (λ some. ¬_prop)))

turned : (a b : Sequence) → Same a b → Same b a
turned a b s e some = let near = s e some in (near.0, λ n h. ((near.1 n h).1, (near.1 n h).0))

carried : (q : ℚ) (a b : Sequence) → Same a b → IsNotBelow q a → IsNotBelow q b
carried q a b s h e some below =
    let near = s (half_of e) (half_some e some) in
    h (half_of e) (half_some e some) (
      near.0 + below.0,
      λ n l k.
          below.1 n (omega (arith, l))
          (by_halves e (q -ℚ a.at n) (a.at n -ℚ b.at n) (q -ℚ b.at n) k (near.1 n (omega (arith, l))).0 (ring_ℚ (q ∷ a.at n ∷ b.at n ∷ []) ((v0 ⊟ v1) ⊞ (v1 ⊟ v2)) (v0 ⊟ v2) refl)),
    )

-- that of a real number
abbrev not_below_ℝ : ℚ → ℝ → HProp {0}
not_below_ℝ q x = lift_prop (not_below q) (λ a b s. (carried q a b s, carried q b a (turned a b s))) x

-- a fraction that isn't below q by any e is at least q
at_least : (q x : ℚ) → IsNotBelow q (constant x) → q ≤ℚ x
at_least q x h = by (le_ℚ q x) refl
  where
    by : (t : Bool) → le_ℚ q x ≡ t → q ≤ℚ x
    by true e = record { le = e }
    by false e = absurd (h (half_of (q -ℚ x)) (half_some (q -ℚ x) wide) (0, λ n l k. small k))
      where
        wide : whole (pos 0) <ℚ (q -ℚ x)
        wide k =
            not_le q x e
            ((≤ℚ-minus q x).1 (subst (λ z. whole (pos 0) ≤ℚ z) (ring_ℚ (q ∷ x ∷ []) (number (pos 0) ⊟ (v0 ⊟ v1)) (v1 ⊟ v0) refl) ((≤ℚ-minus (q -ℚ x) (whole (pos 0))).0 k)))

        -- no positive number is at most its half
        small : (q -ℚ x) ≤ℚ half_of (q -ℚ x) → ⊥
        small k =
            half_some (q -ℚ x) wide
            ((≤ℚ-minus (half_of (q -ℚ x)) (whole (pos 0))).1
            (subst (λ z. whole (pos 0) ≤ℚ z) (ring_by_ℚ (half_of (q -ℚ x) ∷ (q -ℚ x) ∷ []) (v0 ⊟ v1) (number (pos 0) ⊟ v0) (number (pos 1)) (v0 ⊞ v0) v1 refl (halves (q -ℚ x))) ((≤ℚ-minus (q -ℚ x) (half_of (q -ℚ x))).0 k)))

pub keep_order : RealsKeepOrder
keep_order x y = (back, real-order x y)
  where
    near : (e : ℚ) → whole (pos 0) <ℚ e → (n : ℕ) → (x -ℚ (greater_terms (constant x) (constant y)).at n) ≤ℚ e
    near e some n =
        let g = (greater_terms (constant x) (constant y)).at n in
        ≤ℚ_from (x -ℚ g) e
        (≤ℚ_trans (whole (pos 0)) e (e -ℚ (x -ℚ g)) (le_from_not (whole (pos 0)) e some)
        (≤ℚ_from e (e -ℚ (x -ℚ g)) (subst (λ z. whole (pos 0) ≤ℚ z) (ring_ℚ (e ∷ x ∷ g ∷ []) (v2 ⊟ v1) ((v0 ⊟ (v1 ⊟ v2)) ⊟ v0) refl) ((≤ℚ-minus x g).0 (left_at_most x y)))))

    back : real x ≤ℝ real y → x ≤ℚ y
    back h =
        let here : (not_below_ℝ x (mk (greater_terms (constant x) (constant y)))).0 = λ e some below. below.1 below.0 (omega arith) (near e some below.0) in
        at_least x y (subst (λ z. (not_below_ℝ x z).0) h here)
