-- All before hold, and the one that stands next begins as it should.
use Rattle.std.proofs.Common.{◌≡◌, ℕ, ◌<◌, ◌≤◌}
use Rattle.std.specs.Prelude.{slice_get, Some}
use Rattle.loss_model.specs.declared.process.Segment.{Segment}
use Rattle.cert_sums.specs.Ends.{IsHeldAt}
use Rattle.cert_sums.specs.Slopes.{IsCounted}
use Rattle.cert_sums.proofs.run.run_from.Given as goal

abbrev pub invariant-loop-place : goal.invariant-loop-place
invariant-loop-place l = record {
  held : (j : ℕ) → j < l.place → l.fn.first ≤ j → IsHeldAt l.whole.problem.now l.segments j;
  begun : (s : Segment) → slice_get l.segments l.place ≡ Some s → IsCounted l.whole.problem.now l.whole.table.now l.current s;
}
