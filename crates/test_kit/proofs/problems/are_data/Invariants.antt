use Rattle.std.specs.Prelude.{ℕ, ◌<◌}
use Rattle.loss_model.specs.Dual.{IsDataRow}
use Rattle.loss_model.specs.Problem.{sample}
use Rattle.test_kit.proofs.problems.are_data.Given as goal

abbrev pub invariant-loop-row : goal.invariant-loop-row
invariant-loop-row g l = (i : ℕ) → i < l.row → IsDataRow (sample g.F.Exact.value l.problem) i
