use Rattle.std.proofs.Common.{◌≤◌}
use Rattle.whole_steps.specs.Lines.{IsFirstBelow}
use Rattle.whole_steps.proofs.full_line.FullLine+i64+WholeInverse+i128.next_rival.Given as goal

abbrev pub invariant-loop-row : goal.invariant-loop-row
invariant-loop-row l = record {
  from : l.start ≤ l.row;
  best : IsFirstBelow l.self.line l.row l.best;
}
