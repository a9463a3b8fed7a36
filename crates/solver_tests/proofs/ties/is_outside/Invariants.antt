use Rattle.std.specs.Prelude.{◌≢◌, ℕ, ◌<◌, slice_index}
use Rattle.solver_tests.proofs.ties.is_outside.Given as goal

abbrev pub invariant-loop-k : goal.invariant-loop-k
invariant-loop-k l = (i k : ℕ) → i < k → k < l.k → slice_index l.basis i ≢ slice_index l.basis k
