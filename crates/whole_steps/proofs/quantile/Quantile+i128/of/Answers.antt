-- The parts of a fraction.
use Rattle.std.proofs.Common.{rules, ◌≡◌, to_z, of_z, ap₂}
use mir.Syntax.{w128}
use Rattle.whole_inverse.specs.Shares.{share}
use Rattle.whole_steps.proofs.quantile.Quantile+i128.of.Goals as goal

pub returns-clause-value : goal.returns-clause-value
returns-clause-value g c =
    let over : to_z w128 (of_z w128 c.numerator.result) ≡ c.numerator.result = search rules in
    let under : to_z w128 (of_z w128 c.denominator-under.result) ≡ c.denominator-under.result = search rules in
    rw (over, under) (ap₂ share c.numerator.ensures c.denominator-under.ensures)
