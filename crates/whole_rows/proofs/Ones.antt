-- Factors that are 1.
use Rattle.std.proofs.Common.{◌≡◌, pos, [], ◌∷◌, arith, refl, sym, ap, ap₂, ◌∙◌, ℤ}
use Rattle.std.proofs.lemmas.Int.{ints}
use Rattle.rational_laws.specs.Fraction.{Fraction, rational}
use Rattle.rational_laws.specs.Rational.{ℚ, ◌*ℚ◌, inverse, quotient, whole}
use Rattle.rational_laws.specs.Solver.{number, ◌⊠◌, v0}
use Rattle.rational_laws.proofs.Inverses.{one-zero}
use Rattle.rational_laws.proofs.Quotients.{quotient-one}
use Rattle.rational_laws.proofs.RationalLaws.{ring_ℚ, *ℚ-inverse}
use Rattle.whole_rows.specs.declared.factor.Factor.{Factor}
use Rattle.whole_rows.specs.Wholes.{factor_value}

pub one_value : (v : Fraction) → v.num ≡ pos 1 → pos v.den ≡ pos 1 → rational v ≡ whole (pos 1)
one_value v n d =
    let one : v.den ≡ 1 = omega (arith, ints, d) in
    ap₂ quotient n one ∙ quotient-one (pos 1)

pub one_factor : (f : Factor ℤ) → f.over ≡ pos 1 → f.under ≡ pos 1 → factor_value f ≡ whole (pos 1)
one_factor f n d = ap₂ (λ a b. whole a *ℚ inverse (whole b)) n d ∙ *ℚ-inverse (whole (pos 1)) one-zero

pub times_one : (x f : ℚ) → f ≡ whole (pos 1) → x ≡ x *ℚ f
times_one x f e = ring_ℚ (x ∷ []) v0 (v0 ⊠ number (pos 1)) refl ∙ ap (λ z. x *ℚ z) (sym e)

pub over_one : (x f : ℚ) → f ≡ whole (pos 1) → x ≡ x *ℚ inverse f
over_one x f e =
    let one : inverse (whole (pos 1)) ≡ whole (pos 1) = ring_ℚ (inverse (whole (pos 1)) ∷ []) v0 (number (pos 1) ⊠ v0) refl ∙ *ℚ-inverse (whole (pos 1)) one-zero in
    times_one x (inverse f) (ap inverse e ∙ one)
