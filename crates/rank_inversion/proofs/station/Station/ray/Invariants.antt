use Rattle.std.specs.Prelude.{◌≡◌, ℕ, ◌<◌, length}
use Rattle.loss_model.specs.Problem.{number_at}
use Rattle.rank_walk_model.specs.RankWalks.{ray}
use Rattle.rank_steps.specs.Ways.{way_of}
use Rattle.rank_inversion.specs.Stations.{entries_at}
use Rattle.rank_inversion.proofs.station.Station.ray.Given as goal

abbrev pub invariant-loop-column : goal.invariant-loop-column
invariant-loop-column g l = record {
  size : length l.made ≡ l.column;
  each : (m : ℕ) → m < l.column → number_at l.made m ≡ ray (way_of l.self.course.way) (entries_at g.F.Exact.value l.self) l.self.course.column l.position m;
}
