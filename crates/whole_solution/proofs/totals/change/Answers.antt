-- The difference of the bounds.
use Rattle.std.proofs.Common.{rules, ◌≡◌, ◌+ℤ◌, neg_ℤ, to_z, of_z}
use mir.Syntax.{w128}
use Rattle.whole_solution.proofs.Moved.{difference_whole}
use Rattle.whole_solution.proofs.totals.change.Goals as goal

pub returns : goal.returns
returns c =
    let w = c.in_ok-weight.weight in
    let plain : to_z w128 (of_z w128 w) ≡ w = search rules in
    let e : w ≡ c.in_ok-after.after +ℤ neg_ℤ c.in_ok-before.before = search rules in
    rw (plain) (difference_whole w c.in_ok-after.after c.in_ok-before.before _ _ e (c.in_ok-after.ensures {u = tt}) (c.in_ok-before.ensures {u = tt}))
