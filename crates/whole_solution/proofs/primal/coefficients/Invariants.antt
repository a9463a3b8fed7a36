use Rattle.std.proofs.Common.{◌≡◌, ℕ, ◌<◌, length}
use Rattle.std.specs.Prelude.{slice_index}
use Rattle.basis_model.specs.Basis.{coefficient}
use Rattle.whole_inverse.specs.Shares.{share_at}
use Rattle.whole_inverse.specs.Squares.{inverse_of}
use Rattle.whole_rows.specs.Wholes.{sample_of_rows}
use Rattle.whole_solution.proofs.primal.coefficients.Given as goal

abbrev pub invariant-loop-k : goal.invariant-loop-k
invariant-loop-k l = record {
  size : length l.made ≡ l.k;
  each : (k : ℕ) → k < l.k → share_at l.inverse.determinant l.made k ≡ coefficient (sample_of_rows l.n l.rows) (slice_index l.basis.rows) (inverse_of l.inverse) k;
}
