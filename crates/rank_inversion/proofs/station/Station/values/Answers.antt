use Rattle.std.proofs.Common.{◌+◌, length, ap, ◌∙◌}
use Rattle.std.proofs.lemmas.List.{length_push}
use Rattle.basis_inverse.proofs.Lists.{value_more}
use Rattle.rank_inversion.specs.Nexts.{weighed_value}
use Rattle.rank_inversion.proofs.station.Station.values.Goals as goal

pub loop-position-preserved : goal.loop-position-preserved
loop-position-preserved g c =
    let value = g.F.Exact.value in
    let added = (c.in_ok-add.ensures {u = tt}).added in
    record {
      size = ap length added ∙ length_push c.loop-position.made c.in_ok-value.value ∙ ap (λ n. n + 1) c.loop-position.invariant.size;
      each = value_more value c.loop-position.made c.add.new.self c.in_ok-value.value c.loop-position.position (weighed_value value c.args.self.now c.args.weight) added
          c.loop-position.invariant.size c.loop-position.invariant.each (c.in_ok-value.ensures {u = tt}).exact;
    }
