use Rattle.std.specs.Prelude.{ℕ, ◌+◌, ◌<◌, slice_index}
use Rattle.cases.proofs.nested.is_ascending.Given as goal

abbrev pub invariant-loop-place : goal.invariant-loop-place
invariant-loop-place l = (k : ℕ) → k + 1 < l.place → slice_index l.tested k < slice_index l.tested (k + 1)
