use Rattle.std.proofs.Common.{◌≡◌, ℕ, ◌<◌, length}
use Rattle.loss_model.specs.declared.vertex.Side.TheVariants.{Basic}
use Rattle.loss_model.specs.Sides.{side_in}
use Rattle.whole_solution.proofs.sides.basic_sides.Given as goal

abbrev pub invariant-loop : goal.invariant-loop
invariant-loop l = record {
  size : length l.made ≡ l.counter;
  each : (i : ℕ) → i < l.counter → side_in l.made i ≡ Basic;
}
