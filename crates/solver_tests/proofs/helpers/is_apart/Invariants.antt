use Rattle.std.specs.Prelude.{◌≢◌, ℕ, ◌<◌, slice_index}
use Rattle.solver_tests.proofs.helpers.is_apart.Given as goal

abbrev pub invariant-loop-j : goal.invariant-loop-j
invariant-loop-j l = (i : ℕ) → i < l.j → slice_index l.basis i ≢ l.row
