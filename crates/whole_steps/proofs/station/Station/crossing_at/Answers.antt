use Rattle.pivot_model.specs.declared.direction.Direction.TheVariants.{Upward, Downward}
use Rattle.tableau_model.proofs.Soonest.{one_position}
use Rattle.whole_steps.specs.Crossings.{quotient_value, falls_at, quotient_at}
use Rattle.whole_steps.proofs.Crossed.{towards}
use Rattle.whole_steps.proofs.station.Station.crossing_at.Goals as goal

pub returns-clause-exact : goal.returns-clause-exact
returns-clause-exact c =
    let s = c.args.self.now in
    let j = c.args.position in
    one_position quotient_value (falls_at s) (quotient_at s) j c.in_ok-up.up c.in_ok-down.down c.sooner.result
    (towards s j Upward c.in_ok-up.up c.in_ok-up.ensures.crossing) (towards s j Downward c.in_ok-down.down c.in_ok-down.ensures.crossing) c.sooner.ensures.sooner
