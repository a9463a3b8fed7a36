-- An entry more.
use Rattle.std.proofs.Common.{length, ◌+◌, ap, ◌∙◌}
use Rattle.std.proofs.lemmas.List.{length_push}
use Rattle.basis_inverse.proofs.Lists.{value_more}
use Rattle.rank_walk_model.specs.RankWalks.{ray}
use Rattle.whole_tableau.specs.Kept.{place}
use Rattle.rank_steps.specs.Ways.{way_of}
use Rattle.rank_tableau.proofs.rays.ray_at.Goals as goal

pub loop-column-preserved : goal.loop-column-preserved
loop-column-preserved g c =
    let h = place g.F.Exact.value c.args.tableau.now in
    let course = c.args.course.now in
    let made = c.loop-column.made in
    let x = c.in_ok-entry.entry in
    let added = (c.in_ok-add.ensures {u = tt}).added in
    let before = c.loop-column.invariant in
    record {
      size = ap length added ∙ length_push made x ∙ ap (λ n. n + 1) before.size;
      each = value_more (λ x. x) made _ x c.loop-column.column (ray (way_of course.way) h.inverse course.column c.args.position) added before.size before.each (c.in_ok-entry.ensures {u = tt});
    }
