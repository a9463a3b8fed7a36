-- A value whose products with all powers of two stay below one bound is not positive.
use Rattle.std.specs.Prelude.{◌≡◌, ℕ, zero, suc, ◌+◌, ◌<◌, ◌≤◌, true, false, Bool, [], ◌∷◌, ℤ, pos, negsuc, ◌*ℤ◌, ◌≤ℤ◌, unsigned_abs}
use Rattle.std.proofs.Common.{arith, refl, sym, subst}
use Rattle.std.proofs.lemmas.Int.{ints}
use mathlib.Core.Bool.{Bool-set}
use mathlib.Core.HLevel.{Π_prop}
use Rattle.rational_laws.specs.Integers.{mul-le}
use Rattle.rational_laws.specs.Solver.{number, ◌⊠◌, v0, v1, v2}
use Rattle.rational_laws.specs.Rational.{ℚ, ◌+ℚ◌, ◌*ℚ◌, inverse, whole, quotient, le_ℚ, ◌≤ℚ◌}
use Rattle.rational_laws.proofs.OrderLaws.{inverse_not_negative, le_from_not, not_le}
use Rattle.rational_laws.proofs.Quotients.{by_quotient, denominator-times}
use Rattle.rational_laws.proofs.RationalLaws.{whole-add, whole-mul, ring_by_ℚ, *ℚ-inverse, ≤ℚ_mul, ≤ℚ_refl, ≤ℚ_trans}
use Rattle.rational_laws.proofs.WholeNumbers.{whole-le, le_from_whole}
use Rattle.rational_laws.proofs.Signs.{whole_not_negative}

-- ---- no fraction is above all whole numbers

abbrev IsAboveAll : ℚ → Type 0
IsAboveAll y = (m : ℕ) → whole (pos m) ≤ℚ y

above_quotient : (n : ℤ) (d : ℕ) → 1 ≤ d → IsAboveAll (quotient n d) → ⊥
above_quotient n d some h =
    let m = suc (unsigned_abs n) in
    let product : (pos d *ℤ pos m) ≤ℤ n =
    le_from_whole (pos d *ℤ pos m) n
    (subst (λ z. z ≤ℚ whole n) (sym (whole-mul (pos d) (pos m)))
    (subst (λ z. (whole (pos d) *ℚ whole (pos m)) ≤ℚ z) (denominator-times n d some) (≤ℚ_mul (whole (pos m)) (quotient n d) (whole (pos d)) (whole_not_negative d) (h m)))) in
    absurd (omega (arith, ints, product, mul-le (pos m) (pos 1) (pos d) (omega (arith, ints)) (omega (arith, ints)), above n))
  where
    above : (n : ℤ) → n ≤ℤ pos (unsigned_abs n)
    above (pos n) = omega (arith, ints)
    above (negsuc n) = omega (arith, ints)

not_above : (y : ℚ) → IsAboveAll y → le_ℚ (whole (pos 1)) (whole (pos 0)) ≡ true
not_above =
    by_quotient (λ y. IsAboveAll y → le_ℚ (whole (pos 1)) (whole (pos 0)) ≡ true) (λ y. Π_prop (λ h. Bool-set _ _)) (λ n d some h. absurd (above_quotient n d some h))

some_above : (y : ℚ) → IsAboveAll y → ⊥
some_above y h = absurd (omega (arith, ints, le_from_whole (pos 1) (pos 0) (record { le = not_above y h })))

-- ---- powers of two

-- 2^k
pub power : ℕ → ℕ
power zero = 1
power (suc k) = power k + power k

power-above : (k : ℕ) → k < power k
unfolding power
power-above zero = omega arith
power-above (suc k) = omega (arith, power-above k)

-- as a fraction
pub double : ℕ → ℚ
double k = whole (pos (power k))

pub double-zero : double 0 ≡ whole (pos 1)
unfolding double power
double-zero = refl

pub double-next : (k : ℕ) → double (suc k) ≡ double k +ℚ double k
unfolding double power
double-next k = whole-add (pos (power k)) (pos (power k))

index_below : (k : ℕ) → whole (pos k) ≤ℚ double k
unfolding double
index_below k = whole-le (pos k) (pos (power k)) (omega (arith, ints, power-above k))

pub not_positive : (x bound : ℚ) → ((k : ℕ) → (double k *ℚ x) ≤ℚ bound) → x ≤ℚ whole (pos 0)
not_positive x bound h = by (le_ℚ x (whole (pos 0))) refl
  where
    by : (t : Bool) → le_ℚ x (whole (pos 0)) ≡ t → x ≤ℚ whole (pos 0)
    by true e = record { le = e }
    by false e =
        let positive = not_le x (whole (pos 0)) e in
        let i = inverse x in
        let one = *ℚ-inverse x (λ zero. positive (subst (λ z. x ≤ℚ z) zero (≤ℚ_refl x))) in
        let known = inverse_not_negative x (le_from_not (whole (pos 0)) x positive) in
        absurd (some_above (i *ℚ bound) (λ m. ≤ℚ_trans (whole (pos m)) (double m) (i *ℚ bound) (index_below m)
        (subst (λ z. z ≤ℚ (i *ℚ bound))
        (ring_by_ℚ (x ∷ i ∷ double m ∷ []) (v1 ⊠ (v2 ⊠ v0)) v2 v2 (v0 ⊠ v1) (number (pos 1)) refl one)
        (≤ℚ_mul (double m *ℚ x) bound i known (h m)))))
