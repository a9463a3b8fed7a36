use Rattle.std.proofs.Common.{◌+◌, length, ap, ◌∙◌}
use Rattle.std.proofs.lemmas.List.{length_push}
use Rattle.rational_laws.specs.Fraction.{rational}
use Rattle.basis_inverse.proofs.Lists.{value_more}
use Rattle.rank_walk_model.specs.RankWalks.{ray}
use Rattle.rank_steps.specs.Ways.{way_of}
use Rattle.rank_inversion.specs.Stations.{entries_at}
use Rattle.rank_inversion.proofs.station.Station.ray.Goals as goal

pub loop-column-preserved : goal.loop-column-preserved
loop-column-preserved g c =
    let v = c.args.self.now in
    let at = c.loop-column in
    let added = (c.in_ok-add.ensures {u = tt}).added in
    record {
      size = ap length added ∙ length_push at.made c.in_ok-number.number ∙ ap (λ n. n + 1) at.invariant.size;
      each = value_more (λ x. x) at.made c.add.new.self c.in_ok-number.number at.column
          (ray (way_of v.course.way) (entries_at g.F.Exact.value v) v.course.column c.args.position) added at.invariant.size at.invariant.each
          (ap rational (c.in_ok-number.ensures {u = tt}) ∙ (c.in_ok-entry.ensures {u = tt}).exact);
    }
