-- The rows of the basis that were put.
use Rattle.std.specs.Prelude.{◌≡◌, ℕ, length, slice_index, if◌then◌else◌}
use Rattle.rational_laws.specs.Selections.{is_among}
use Rattle.loss_model.specs.declared.vertex.Side.TheVariants.{Basic}
use Rattle.loss_model.specs.Sides.{side_in}
use Rattle.whole_solution.proofs.sides.WholeBasis+i64+WholeInverse.with_basis.Given as goal

abbrev pub invariant-loop-j : goal.invariant-loop-j
invariant-loop-j l = record {
  size : length l.made ≡ length l.self.rows.now;
  each : (i : ℕ) → side_in l.made i ≡ (if is_among (slice_index l.self.basis.now.rows) l.j i then Basic else side_in l.fn.sides i);
}
