use Rattle.std.specs.Prelude.{◌≡◌, ℕ, ◌<◌, length}
use Rattle.loss_model.specs.Problem.{value_at}
use Rattle.basis_inverse.specs.Square.{inverse_entry}
use Rattle.rank_model.specs.Gram.{projection_of}
use Rattle.rank_inversion.proofs.projection.factors.Given as goal

abbrev pub invariant-loop-other : goal.invariant-loop-other
invariant-loop-other g l = record {
  size : length l.made ≡ l.other;
  each : (k : ℕ) → k < l.other → value_at g.F.Exact.value l.made k ≡ projection_of (inverse_entry g.F.Exact.value l.inverse) l.column k;
}
