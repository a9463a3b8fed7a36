-- The sum of whole numbers, divided out.
use Rattle.std.proofs.Common.{rules, ◌≡◌, ◌*◌, pos, to_z, of_z}
use mir.Syntax.{w128}
use Rattle.cert_sums.proofs.totals.over_scales.Goals as goal

pub returns-in_ok-found-in-Ok : goal.returns-in_ok-found-in-Ok
returns-in_ok-found-in-Ok c =
    let t = c.args.table.now in
    let total = c.args.total in
    let all = c.in_ok-all.all in
    let product : all ≡ c.args.scale * t.cost_scale * t.scale = search rules in
    let whole_den : to_z w128 (of_z w128 c.in-Ok.den) ≡ c.in-Ok.den = search rules in
    let den : c.in-Ok.den ≡ pos all = search rules in
    let plain : to_z w128 (of_z w128 total) ≡ total = search rules in
    rw (plain, whole_den, den, product) at (c.in_ok-found-in-Ok.ensures {u = tt}).exact
