-- It has the size, and the sign of its side.
use Rattle.std.proofs.Common.{rules, ◌≡◌, leb, leb-true, to_z, of_z}
use mir.Syntax.{w128}
use Rattle.whole_solution.proofs.Keeping.{far_on}
use Rattle.whole_solution.proofs.near.is_far_on.Goals as goal

pub returns : goal.returns
returns c =
    let r = c.args.residual in
    let far = c.args.far in
    let plain : to_z w128 (of_z w128 r) ≡ r = search rules in
    let size = rw (plain) at c.size_over.ensures in
    let above = rw (plain) at c.is_above-above.ensures in
    let below = rw (plain) at c.is_below-below.ensures in
    let over = c.size_over.result in
    far_on c.args.side r c.args.class over far (leb far over) c.is_above-above.result c.is_below-below.result size (λ h. leb-true far over h) above below
