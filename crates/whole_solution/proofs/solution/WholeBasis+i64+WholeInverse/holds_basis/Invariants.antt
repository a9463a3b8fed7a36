use Rattle.std.specs.Prelude.{◌≡◌, ℕ, ◌<◌, slice_index}
use Rattle.loss_model.specs.declared.vertex.Side.TheVariants.{Basic}
use Rattle.loss_model.specs.Sides.{side_in}
use Rattle.whole_solution.proofs.solution.WholeBasis+i64+WholeInverse.holds_basis.Given as goal

abbrev pub invariant-loop-j : goal.invariant-loop-j
invariant-loop-j l = (j : ℕ) → j < l.j → side_in l.sides (slice_index l.self.basis.now.rows j) ≡ Basic
