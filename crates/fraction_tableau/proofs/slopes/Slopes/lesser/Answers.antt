use Rattle.std.specs.Ordering.{is_lt}
use Rattle.std.proofs.Common.{sym, ap, ◌∙◌}
use Rattle.rational_laws.specs.Fraction.{rational}
use Rattle.fraction_tableau.specs.Slopes.{model, rows_of, inverse_of}
use Rattle.tableau_model.proofs.SlopeLaws.{down_lesser, up_lesser}
use Rattle.fraction_tableau.proofs.slopes.Slopes.lesser.Goals as goal

pub returns-then-is_lt-clause-lesser : goal.returns-then-is_lt-clause-lesser
returns-then-is_lt-clause-lesser g c =
    let value = g.F.Exact.value in
    let s = c.args.self.now in
    down_lesser value (model value s) (rows_of value s) (inverse_of value s) (rational (value s.theta)) c.args.position c.in_ok-up.up c.in_ok-down.down
    (c.in_ok-up.ensures {u = tt}).exact (c.in_ok-down.ensures {u = tt}).exact (sym (c.is_lt.ensures ∙ ap is_lt c.compare.ensures) ∙ c.if-is_lt.true)

pub returns-else-is_lt-clause-lesser : goal.returns-else-is_lt-clause-lesser
returns-else-is_lt-clause-lesser g c =
    let value = g.F.Exact.value in
    let s = c.args.self.now in
    up_lesser value (model value s) (rows_of value s) (inverse_of value s) (rational (value s.theta)) c.args.position c.in_ok-up.up c.in_ok-down.down
    (c.in_ok-up.ensures {u = tt}).exact (c.in_ok-down.ensures {u = tt}).exact (sym (c.is_lt.ensures ∙ ap is_lt c.compare.ensures) ∙ c.if-is_lt.false)
