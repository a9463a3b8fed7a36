use Rattle.std.specs.Prelude.{◌≡◌, ℕ, ◌<◌, length}
use Rattle.loss_model.specs.Problem.{value_at, sample}
use Rattle.rank_model.specs.Gram.{gram}
use Rattle.gram_matrix.proofs.matrix.FirstRows.next.Given as goal

abbrev pub invariant-loop-l : goal.invariant-loop-l
invariant-loop-l g l = record {
  size : length l.x ≡ l.l;
  each : (k : ℕ) → k < l.l → value_at g.F.Exact.value l.x k ≡ gram (sample g.F.Exact.value l.self.problem.now) (length l.self.rows.now) k;
}
