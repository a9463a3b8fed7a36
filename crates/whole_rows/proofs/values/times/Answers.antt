-- The product with the factor as a fraction.
use Rattle.std.proofs.Common.{rules, ◌≡◌, ap, ◌∙◌}
use Rattle.rational_laws.specs.Fraction.{rational}
use Rattle.rational_laws.specs.Rational.{◌*ℚ◌}
use Rattle.whole_rows.specs.Wholes.{factor_value}
use Rattle.whole_rows.proofs.values.times.Goals as goal

pub returns-in-Ok : goal.returns-in-Ok
returns-in-Ok g c =
    let value = g.F.Exact.value in
    let made : rational (value c.in_ok-other.other) ≡ factor_value c.args.factor = search rules in
    c.in-Ok.ensures.exact ∙ ap (λ z. rational (value c.args.value) *ℚ z) made
