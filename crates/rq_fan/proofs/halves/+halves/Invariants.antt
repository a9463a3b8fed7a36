use Rattle.std.proofs.Common.{◌+◌, ◌*◌}
use Rattle.rq_fan.proofs.halves.+halves.Given as goal

abbrev pub decreases-in_halves : goal.decreases-in_halves
decreases-in_halves g l = 2 * l.halvings + 1

abbrev pub decreases-first : goal.decreases-first
decreases-first g l = 2 * l.halvings

abbrev pub decreases-second : goal.decreases-second
decreases-second g l = 2 * l.halvings
