-- The first of the movers among the near rows so far; at each step one more was looked at.
use Rattle.std.proofs.Common.{◌≤◌, length}
use Rattle.std.specs.Prelude.{slice_index}
use Rattle.whole_steps.specs.Lines.{IsFirstOf}
use Rattle.whole_steps.proofs.near_line.Look.first_near.Given as goal

abbrev pub invariant-loop-step : goal.invariant-loop-step
invariant-loop-step l = record {
  best : IsFirstOf l.self.near_line.line (slice_index l.self.near_line.near.now.rows) l.place l.best;
  within : l.place ≤ length l.self.near_line.near.now.rows;
  steps : l.step ≤ l.place;
}
