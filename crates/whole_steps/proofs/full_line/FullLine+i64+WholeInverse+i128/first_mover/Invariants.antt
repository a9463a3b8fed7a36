-- The first of the movers before a row; at each step a row more was looked at.
use Rattle.std.proofs.Common.{◌≤◌, length}
use Rattle.whole_steps.specs.Lines.{IsFirstBelow}
use Rattle.whole_steps.proofs.full_line.FullLine+i64+WholeInverse+i128.first_mover.Given as goal

abbrev pub invariant-loop-step : goal.invariant-loop-step
invariant-loop-step l = record {
  best : IsFirstBelow l.self.line l.row l.best;
  within : l.row ≤ length l.self.line.basis.now.rows.now;
  steps : l.step ≤ l.row;
}
