-- A factor that is taken from 0 is negated.
use Rattle.std.specs.Prelude.{[], ◌∷◌, pos, if◌then◌else◌}
use Rattle.std.proofs.Common.{refl, sym, ap, ◌∙◌}
use Rattle.rational_laws.specs.Fraction.{rational}
use Rattle.rational_laws.specs.Rational.{◌-ℚ◌, whole}
use Rattle.rational_laws.specs.Solver.{number, negated, ◌⊟◌, v0}
use Rattle.rational_laws.proofs.RationalLaws.{ring_ℚ}
use Rattle.frac_core.specs.Values.{value as value128}
use Rattle.cert_sums.proofs.projection.left_factor.Goals as goal

pub returns : goal.returns
returns c =
    let x = rational (value128 c.args.factor) in
    c.neg.ensures ∙ ring_ℚ (x ∷ []) (negated v0) (number (pos 0) ⊟ v0) refl
    ∙ ap (λ b. (if b then whole (pos 1) else whole (pos 0)) -ℚ x) (sym c.if-own.false)
