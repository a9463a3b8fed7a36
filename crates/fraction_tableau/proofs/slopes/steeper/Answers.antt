use Rattle.std.specs.Ordering.{is_lt}
use Rattle.std.proofs.Common.{refl, sym, ap, ◌∙◌, inr}
use Rattle.rational_laws.specs.Fraction.{rational}
use Rattle.rational_laws.proofs.Signs.{not_below}
use Rattle.fraction_tableau.proofs.slopes.steeper.Goals as goal

pub returns-else-is_lt : goal.returns-else-is_lt
returns-else-is_lt g c =
    inr (refl, not_below (rational (g.F.Exact.value c.args.second.slope)) (rational (g.F.Exact.value c.args.first.slope)) (sym (c.is_lt.ensures ∙ ap is_lt c.compare.ensures) ∙ c.if-is_lt.false))
