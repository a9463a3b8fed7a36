use Rattle.std.proofs.Common.{rules, ◌≡◌, ◌+ℤ◌, ◌*ℤ◌, to_z, of_z}
use mir.Syntax.{w128}
use Rattle.rational_laws.specs.Rational.{whole}
use Rattle.cert_sums.specs.Sums.{cell_at}
use Rattle.cert_sums.proofs.Unsettled.{product_more}
use Rattle.cert_sums.proofs.slopes.with_row.Goals as goal

pub returns : goal.returns
returns c =
    let x = c.in_ok-x.x in
    let y = c.in_ok-more.more in
    let r = c.in_ok-made.made in
    let plain : to_z w128 (of_z w128 r) ≡ r = search rules in
    let more : y ≡ c.args.value *ℤ x = search rules in
    let made : r ≡ c.args.sum +ℤ y = search rules in
    let cell : whole x ≡ cell_at c.args.rows.now c.args.place c.args.row = search rules in
    rw (plain) (product_more c.args.sum c.args.value x y r _ more made cell)
