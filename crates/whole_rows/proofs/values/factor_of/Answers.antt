-- Beyond the last factor.
use Rattle.std.specs.Prelude.{ℤ, Option}
use Rattle.std.specs.Option.{option_map_or}
use Rattle.std.proofs.Common.{◌≤◌, length, pos, arith, sym, ap, ◌∙◌}
use Rattle.std.proofs.lemmas.Option.{slice_get_past}
use Rattle.rational_laws.specs.Rational.{whole}
use Rattle.rational_laws.proofs.RationalLaws.{*ℚ-inverse}
use Rattle.rational_laws.proofs.Inverses.{one-zero}
use Rattle.whole_rows.specs.declared.factor.Factor.{Factor}
use Rattle.whole_rows.specs.Wholes.{factor_value}
use Rattle.whole_rows.proofs.values.factor_of.Goals as goal

pub returns-else-k-factors : goal.returns-else-k-factors
returns-else-k-factors c =
    let past : length c.args.factors.now ≤ c.args.k = omega (arith, c.if-k-factors.false) in
    *ℚ-inverse (whole (pos 1)) one-zero
    ∙ sym (ap (λ (o : Option (Factor ℤ)). option_map_or factor_value o (whole (pos 1))) (slice_get_past c.args.factors.now c.args.k past))
