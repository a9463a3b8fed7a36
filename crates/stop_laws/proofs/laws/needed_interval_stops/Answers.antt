use Rattle.stop_laws.proofs.IntervalsNeeded.{interval_needed}
use Rattle.stop_laws.proofs.laws.needed_interval_stops.Goals as goal

pub returns : goal.returns
returns g c = λ column tau crit limit stop costs inside h. interval_needed g.F.Exact.value g.F.Exact.range c.args.problem.now column tau crit limit stop costs inside h
