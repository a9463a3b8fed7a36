use Rattle.std.proofs.Common.{slice_index}
use Rattle.std.proofs.lemmas.Result.{err_from_is_err_and}
use Rattle.fraction_tableau.proofs.Refusals.{short_weaker}
use Rattle.rational_laws.proofs.Lists.{contains_item}
use Rattle.loss_model.specs.Spill.{AtSome}
use Rattle.rank_inversion.specs.Nexts.{IsSpillHere, IsWeighingSpill, IsRaySpill}
use Rattle.rank_inversion.proofs.StationLaws.{break_some, break_spill, ray_spill, values_there, endless_is}
use Rattle.rank_inversion.proofs.station.Station.endless.Goals as goal

pub basic_values-requires-clause-members : goal.basic_values-requires-clause-members
basic_values-requires-clause-members g c κs within =
    let vertex = c.in_ok-vertex.vertex in
    rw c.as_slice.ensures (λ k lk. ((c.in_ok-vertex.ensures {u = tt}).rows (slice_index vertex.basis.rows k)).0 (contains_item vertex.basis.rows k lk))

pub returns-in_err-inside-clause-spill : goal.returns-in_err-inside-clause-spill
returns-in_err-inside-clause-spill g c =
    let value = g.F.Exact.value in
    let range = g.F.Exact.range in
    let v = c.args.self.now in
    let weight = c.turned-weight.result in
    let returned = err_from_is_err_and c.from_residual-in_err-inside.result c.from_residual-in_err-inside.ensures.1 in
    rw (returned.1, returned.2)
    (short_weaker (λ s. AtSome v.tableau.now.problem.columns (λ j. IsWeighingSpill value range v weight j s)) (IsSpillHere value range v c.args.from)
    (break_spill value v c.requires.station c.args.from c.args.next c.requires.stuck.0 weight weight c.turned-weight.ensures range) _ (c.in_err-inside.ensures {u = tt}).spill)

pub ray-requires-clause-some : goal.ray-requires-clause-some
ray-requires-clause-some g c κs within = break_some g.F.Exact.value c.args.self.now c.requires.station c.args.from c.args.next c.requires.stuck.0

pub returns-in_err-ray-clause-spill : goal.returns-in_err-ray-clause-spill
returns-in_err-ray-clause-spill g c =
    let value = g.F.Exact.value in
    let range = g.F.Exact.range in
    let v = c.args.self.now in
    let returned = err_from_is_err_and c.from_residual-in_err-ray.result c.from_residual-in_err-ray.ensures.1 in
    rw (returned.1, returned.2)
    (short_weaker (λ s. AtSome v.tableau.now.problem.columns (λ m. IsRaySpill value range v c.args.next.position m s)) (IsSpillHere value range v c.args.from)
    (ray_spill value v c.requires.station c.args.from c.args.next c.requires.stuck range) _ (c.in_err-ray.ensures {u = tt}).spill)

pub returns-clause-end : goal.returns-clause-end
returns-clause-end g c =
    let value = g.F.Exact.value in
    let v = c.args.self.now in
    let vertex = c.in_ok-vertex.vertex in
    let weight = c.turned-weight.result in
    let inside = rw c.as_slice.ensures at (c.in_ok-inside.ensures {u = tt}) in
    let ray = c.in_ok-ray.ensures {u = tt} in
    endless_is value v c.requires.station c.args.from c.args.next c.requires.stuck vertex (c.in_ok-vertex.ensures {u = tt}) c.in_ok-inside.inside c.in_ok-ray.ray
    (values_there value v c.requires.station c.args.from c.args.next c.requires.stuck.0 weight weight c.turned-weight.ensures vertex c.in_ok-inside.inside inside.size inside.each)
    ray.size ray.each
