-- Far rows are still far, and both rows of the joint are near.
use Rattle.std.proofs.Common.{None, rules, ◌≡◌, length, slice_index, to_z, of_z, sym, subst}
use mir.Syntax.{w128}
use Rattle.whole_inverse.specs.Squares.{inverse_of}
use Rattle.whole_rows.specs.Wholes.{sample_of_rows}
use Rattle.whole_solution.specs.declared.near.Near.{Near}
use Rattle.whole_solution.specs.Far.{reaching}
use Rattle.loss_model.specs.Sides.{side_in}
use Rattle.whole_solution.specs.Standing.{IsNearby}
use Rattle.whole_solution.proofs.Chosen.{near_now, far_now}
use Rattle.whole_solution.proofs.Past.{each_near}
use Rattle.whole_solution.proofs.solution.WholeBasis+i64+WholeInverse.near_past.Goals as goal

pub returns-in-Some : goal.returns-in-Some
returns-in-Some c =
    let b = c.args.self.now in
    let s = b.inverse.now in
    let p = sample_of_rows (length s.columns) b.rows.now in
    let at = slice_index b.basis.now.rows in
    let a = inverse_of s in
    let d = s.determinant in
    let q = c.requires in
    let n = c.args.before.now.near in
    let old = c.args.before.now.sides in
    let made = c.args.sides.now in
    let coef = c.args.coef.now in
    let reach = c.in-Some.reach in
    let det : to_z w128 (of_z w128 c.determinant.result) ≡ c.determinant.result = search rules in
    let some = c.in-Some.ensures.some in
    let left = rw (det, c.determinant.ensures.value) at c.in-Some.ensures.left in
    let each = each_near p at a old c.args.met q.past made q.kept n q.before.near (c.holds.ensures c.if-holds.true) in
    let nearby : IsNearby p at a d (side_in made) (record { near = reaching n reach; residuals = None }) =
    record {
      near = near_now p at a d coef n reach old made q.size q.each q.before.near some left each;
      far = far_now p at a d coef n reach old made q.size q.each q.before.near some left each;
      residuals = tt;
    } in
    subst (λ (n : Near). IsNearby p at a d (side_in made) (record { near = n; residuals = None })) (sym (c.in_ok-near.ensures {u = tt})) nearby
