use Rattle.std.proofs.Common.{◌≡◌, subst, arith, pos, ◌≤ℤ◌, ◌<ℤ◌}
use Rattle.std.proofs.lemmas.Int.{ints}
use Rattle.rational_laws.specs.Fraction.{rational}
use Rattle.tableau_model.specs.Slopes.{IsLeast}
use Rattle.fraction_tableau.specs.Slopes.{model, rows_of, inverse_of}
use Rattle.tableau_model.proofs.SlopeLaws.{one_more, none_negative, leaves}
use Rattle.fraction_tableau.proofs.SlopeLaws.{from_sign, from_negative_sign}
use Rattle.fraction_tableau.proofs.slopes.Slopes.steepest.Goals as goal

pub loop-position-preserved : goal.loop-position-preserved
loop-position-preserved g c =
    let value = g.F.Exact.value in
    let s = c.args.self.now in
    one_more value (model value s) (rows_of value s) (inverse_of value s) (rational (value s.theta))
    c.loop-position.least c.in_ok-next.next c.steeper-least.result c.loop-position.position c.loop-position.invariant (c.in_ok-next.ensures {u = tt}).lesser c.steeper-least.ensures

pub returns-then-sign-lt0-clause-leaving : goal.returns-then-sign-lt0-clause-leaving
returns-then-sign-lt0-clause-leaving g c =
    let value = g.F.Exact.value in
    let s = c.args.self.now in
    let end : c.loop-position.position ≡ s.tableau.now.problem.columns = omega (arith, c.loop-position-test.false, c.loop-position.auto.position-end, c.columns-position-end.ensures.columns, c.requires.duals.kept.shaped.some) in
    let h = subst (λ n. IsLeast value (model value s) (rows_of value s) (inverse_of value s) (rational (value s.theta)) n c.loop-position.least) end c.loop-position.invariant in
    let below : c.sign.result <ℤ pos 0 = omega (arith, ints) in
    leaves value (model value s) (rows_of value s) (inverse_of value s) (rational (value s.theta)) c.loop-position.least h (from_negative_sign (rational (value c.loop-position.least.slope)) c.sign.result c.sign.ensures below)

pub returns-else-sign-lt0-clause-leaving : goal.returns-else-sign-lt0-clause-leaving
returns-else-sign-lt0-clause-leaving g c =
    let value = g.F.Exact.value in
    let s = c.args.self.now in
    let end : c.loop-position.position ≡ s.tableau.now.problem.columns = omega (arith, c.loop-position-test.false, c.loop-position.auto.position-end, c.columns-position-end.ensures.columns, c.requires.duals.kept.shaped.some) in
    let h = subst (λ n. IsLeast value (model value s) (rows_of value s) (inverse_of value s) (rational (value s.theta)) n c.loop-position.least) end c.loop-position.invariant in
    let above : pos 0 ≤ℤ c.sign.result = omega (arith, ints) in
    none_negative value (model value s) (rows_of value s) (inverse_of value s) (rational (value s.theta)) c.loop-position.least s.tableau.now.problem.columns h
    (from_sign (rational (value c.loop-position.least.slope)) c.sign.result c.sign.ensures above)
