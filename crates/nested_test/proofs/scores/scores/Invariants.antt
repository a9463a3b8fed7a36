use Rattle.std.specs.Prelude.{◌≡◌, ℕ, ◌<◌, length, slice_index}
use Rattle.loss_model.specs.Problem.{value_at, sample}
use Rattle.nested_test.specs.Nested.{column_score}
use Rattle.nested_test.proofs.scores.scores.Given as goal

abbrev pub invariant-loop-column : goal.invariant-loop-column
invariant-loop-column g l = record {
  size : length l.made ≡ l.column-index;
  each : (j : ℕ) → j < l.column-index → value_at (λ x. x) l.made j ≡ column_score (sample g.F.Exact.value l.full) (value_at (λ x. x) l.wilcoxon) (slice_index l.tested j);
}
