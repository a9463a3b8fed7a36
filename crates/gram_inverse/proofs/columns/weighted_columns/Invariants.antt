use Rattle.std.specs.Prelude.{◌≡◌, ℕ, ◌<◌, All, length}
use Rattle.loss_model.specs.Problem.{sample}
use Rattle.basis_inverse.specs.Square.{entries}
use Rattle.gram_matrix.specs.Grams.{scaled}
use Rattle.gram_inverse.proofs.columns.weighted_columns.Given as goal

abbrev pub invariant-loop-column : goal.invariant-loop-column
invariant-loop-column g l = record {
  size : length l.made ≡ l.column;
  square : All (λ xs. length xs ≡ length l.problem.rows) l.made;
  each : (k i : ℕ) → k < l.column → i < length l.problem.rows → entries (λ x. x) l.made k i ≡ scaled (sample g.F.Exact.value l.problem) i k;
}
