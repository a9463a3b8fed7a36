use Rattle.std.specs.Prelude.{◌≡◌, ℕ, ◌<◌, length}
use Rattle.loss_model.specs.Problem.{value_at}
use Rattle.rank_inversion.specs.Nexts.{weighed_value}
use Rattle.rank_inversion.proofs.station.Station.values.Given as goal

abbrev pub invariant-loop-position : goal.invariant-loop-position
invariant-loop-position g l = record {
  size : length l.made ≡ l.position;
  each : (j : ℕ) → j < l.position → value_at g.F.Exact.value l.made j ≡ weighed_value g.F.Exact.value l.self l.weight j;
}
