use Rattle.std.proofs.Common.{◌≤◌}
use Rattle.std.specs.Prelude.{slice_index}
use Rattle.whole_steps.specs.Lines.{IsFirstOf}
use Rattle.whole_steps.proofs.near_line.Look.next_rival.Given as goal

abbrev pub invariant-loop-k : goal.invariant-loop-k
invariant-loop-k g l = record {
  from : l.start ≤ l.k;
  best : IsFirstOf l.self.near_line.line (slice_index l.self.near_line.near.now.rows) l.k l.best;
}
