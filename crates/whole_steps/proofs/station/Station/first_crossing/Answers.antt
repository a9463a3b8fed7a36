use Rattle.std.proofs.Common.{◌≡◌, arith, subst}
use Rattle.tableau_model.specs.Crossings.{IsFirstOf}
use Rattle.tableau_model.proofs.Soonest.{one_more}
use Rattle.whole_steps.specs.Crossings.{quotient_value, falls_at, quotient_at}
use Rattle.whole_steps.proofs.station.Station.first_crossing.Goals as goal

pub loop-position-preserved : goal.loop-position-preserved
loop-position-preserved c =
    let s = c.args.self.now in
    record {
      first = one_more quotient_value (falls_at s) (quotient_at s) c.loop-position.position c.loop-position.least c.in-Ok.next c.sooner-least.result c.loop-position.invariant.first c.in-Ok.ensures.exact c.sooner-least.ensures.sooner;
      divisor = c.sooner-least.ensures.divisor;
    }

pub returns : goal.returns
returns c =
    let s = c.args.self.now in
    let end : c.loop-position.position ≡ c.args.columns = omega (arith, c.loop-position-test.false, c.loop-position.auto.position-end) in
    subst (λ n. IsFirstOf quotient_value (falls_at s) (quotient_at s) n c.loop-position.least) end c.loop-position.invariant.first
