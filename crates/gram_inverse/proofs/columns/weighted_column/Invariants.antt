use Rattle.std.specs.Prelude.{◌≡◌, ℕ, ◌<◌, length}
use Rattle.loss_model.specs.Problem.{value_at, sample}
use Rattle.gram_matrix.specs.Grams.{scaled}
use Rattle.gram_inverse.proofs.columns.weighted_column.Given as goal

abbrev pub invariant-loop-row : goal.invariant-loop-row
invariant-loop-row g l = record {
  size : length l.made ≡ l.row;
  each : (i : ℕ) → i < l.row → value_at (λ x. x) l.made i ≡ scaled (sample g.F.Exact.value l.problem) i l.column;
}
