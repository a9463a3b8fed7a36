use Rattle.std.proofs.Common.{◌≡◌, ◌++◌, drop}
use Rattle.nested_test.specs.Restricted.{without}
use Rattle.nested_test.proofs.restriction.entries_without.Given as goal

abbrev pub invariant-loop-column : goal.invariant-loop-column
invariant-loop-column g l = without l.tested 0 l.entries ≡ l.left ++ without l.tested l.column (drop l.column l.entries)
