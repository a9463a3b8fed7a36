-- A numerator and a denominator of a fraction. A fraction is a class of pairs, so that one pair can be
-- taken only where there is one of its kind: the one in lowest terms.
use Rattle.std.specs.Prelude.{◌≡◌, ℕ, zero, suc, ◌*◌, ◌/◌, ◌≤◌, unsigned_abs, [], ◌∷◌, ℤ, pos, negsuc, ◌*ℤ◌, neg_ℤ, ◌+◌}
use Rattle.std.proofs.Common.{arith, refl, sym, ap, ◌∙◌}
use Rattle.std.proofs.Math.Nat.{div-mul_cancel}
use Rattle.std.proofs.lemmas.Int.{ints}
use mathlib.Core.HLevel.{is_prop→PathP}
use native.Mathlib.Nat.{ℕ_set}
use native.Mathlib.Bridge.{le_prop}
use Rattle.rational_laws.specs.Fraction.{Fraction, rational}
use Rattle.rational_laws.proofs.Quotients.{by_quotient, same_value}
use Rattle.rational_laws.specs.Solver.{identity, negated, ◌⊠◌, v0, v1}
use Rattle.rational_laws.specs.Rational.{ℚ, ℚ_set, quotient}
use Rattle.frac_core.specs.Gcd.{gcd}
use Rattle.frac_core.specs.GcdLaws.{gcd_dvd_l, gcd_dvd_r, gcd_pos, coprime_quotients}
use Rattle.frac_core.specs.Lowest.{same_fraction}

-- v is x, in lowest terms
pub record IsLowest (x : ℚ) (v : Fraction) : Type 0 where
  pub positive : 1 ≤ v.den
  pub lowest : gcd (unsigned_abs v.num) v.den ≡ 1
  pub is : rational v ≡ x

pub record Lowest (x : ℚ) : Type 0 where
  pub v : Fraction
  pub is : IsLowest x v

IsLowest_prop : (x : ℚ) (v : Fraction) → IsProp (IsLowest x v)
IsLowest_prop x v = hlevel (ℕ_set, le_prop, ℚ_set)

one_lowest : (x : ℚ) (v w : Fraction) → IsLowest x v → IsLowest x w → v ≡ w
one_lowest x v w h k =
    let range = (unsigned_abs v.num + v.den) + (unsigned_abs w.num + w.den) in
    same_fraction range v w
    (record { positive = h.positive; lowest = h.lowest; num_fits = omega arith; den_fits = omega arith })
    (record { positive = k.positive; lowest = k.lowest; num_fits = omega arith; den_fits = omega arith })
    (h.is ∙ sym k.is)

Lowest_prop : (x : ℚ) → IsProp (Lowest x)
Lowest_prop x h k =
    let e = one_lowest x h.v k.v h.is k.is in
    λ i. record { v = e i; is = is_prop→PathP (λ i. IsLowest x (e i)) (λ i. IsLowest_prop x (e i)) h.is k.is i }

-- n/d over the greatest common divisor
module _ (n : ℤ) (d : ℕ) (h : 1 ≤ d) (turned : ℤ → ℤ) (a : ℕ) (is : turned (pos a) ≡ n)
    (size : (m : ℕ) → unsigned_abs (turned (pos m)) ≡ m) (times : (m k : ℕ) → turned (pos m) *ℤ pos k ≡ turned (pos (m * k))) where
  g : ℕ
  g = gcd a d

  lowered : Lowest (quotient n d)
  unfolding g
  lowered =
      record {
        v = v;
        is =
            record {
              positive = some;
              lowest = ap (λ m. gcd m v.den) (size (a / gcd a d)) ∙ coprime_quotients a d (a / gcd a d) (d / gcd a d) (gcd a d) (gcd_pos a d (omega arith)) refl (sym (div-mul_cancel (gcd a d) (gcd_dvd_l a d)))
                  (sym (div-mul_cancel (gcd a d) (gcd_dvd_r a d)));
              is = same_value v (record { num = n; den = d }) some h cross;
            };
      }
    where
      v : Fraction
      v = record { num = turned (pos (a / gcd a d)); den = d / gcd a d }

      some : 1 ≤ d / gcd a d
      some = by (d / gcd a d) refl
        where
          by : (q : ℕ) → d / gcd a d ≡ q → 1 ≤ q
          by zero e = absurd (omega (arith, div-mul_cancel (gcd a d) (gcd_dvd_r a d), ap (λ m. m * gcd a d) e))
          by (suc q) e = omega arith

      over : (x y g : ℕ) → x * (y * g) ≡ (x * g) * y
      over x y g = omega arith

      cross : turned (pos (a / gcd a d)) *ℤ pos d ≡ n *ℤ pos (d / gcd a d)
      cross =
          times (a / gcd a d) d
          ∙ ap (λ m. turned (pos (a / gcd a d * m))) (sym (div-mul_cancel (gcd a d) (gcd_dvd_r a d)))
          ∙ ap (λ m. turned (pos m)) (over (a / gcd a d) (d / gcd a d) (gcd a d))
          ∙ ap (λ m. turned (pos (m * (d / gcd a d)))) (div-mul_cancel (gcd a d) (gcd_dvd_l a d))
          ∙ sym (times a (d / gcd a d)) ∙ ap (λ z. z *ℤ pos (d / gcd a d)) is

lowest_quotient : (n : ℤ) (d : ℕ) → 1 ≤ d → Lowest (quotient n d)
lowest_quotient (pos m) d h = lowered (pos m) d h (λ z. z) m refl (λ k. refl) (λ k l. refl)
lowest_quotient (negsuc m) d h = lowered (negsuc m) d h neg_ℤ (suc m) (omega (arith, ints)) (λ k. omega (arith, ints)) (λ k l. identity (pos k ∷ pos l ∷ []) (negated v0 ⊠ v1) (negated (v0 ⊠ v1)) refl)

pub lowest_of : (x : ℚ) → Lowest x
lowest_of = by_quotient Lowest Lowest_prop lowest_quotient
