use Rattle.std.proofs.Common.{sym, ap, ◌∙◌}
use Rattle.rational_laws.specs.Fraction.{rational}
use Rattle.rational_laws.specs.Order.{cmp_ℚ}
use Rattle.rank_inversion.proofs.EntrySigns.{stays_by}
use Rattle.rank_inversion.proofs.station.direction_by.Goals as goal

pub returns-then-is_eq : goal.returns-then-is_eq
returns-then-is_eq g c =
    let entry = rational (g.F.Exact.value c.args.entry) in
    stays_by entry c.compare-order.result (c.compare-order.ensures ∙ ap (cmp_ℚ entry) c.zero.ensures) (sym c.is_eq.ensures ∙ c.if-is_eq.true)
