-- Both parts of the line.
use Rattle.std.proofs.Common.{rules, ◌≡◌, ◌+ℤ◌, ◌*ℤ◌, pos, refl}
use Rattle.rational_laws.specs.Rational.{whole}
use Rattle.rational_laws.specs.WholeLists.{whole_at}
use Rattle.cert_sums.proofs.Unsettled.{line_sum}
use Rattle.cert_sums.proofs.long_sums.long_lines.Goals as goal

pub returns : goal.returns
returns c =
    let t = c.args.view.tally.now in
    let r = c.args.view.reach.now in
    let place = c.args.place in
    let a = c.number_at-start.result in
    let b = c.number_at-slope.result in
    let start : whole a ≡ whole_at t.starts place = rw (c.as_slice.ensures) at c.number_at-start.ensures in
    let slope : whole b ≡ whole_at t.slopes place = rw (c.as_slice-2.ensures) at c.number_at-slope.ensures in
    let first : c.in_ok-first.first ≡ a *ℤ pos r.scale = search rules in
    let made : c.in_ok-made.made ≡ c.in_ok-first.first +ℤ b *ℤ r.at = search rules in
    line_sum a b c.in_ok-first.first (b *ℤ r.at) c.in_ok-made.made r.scale r.at (whole_at t.starts place) (whole_at t.slopes place) first refl made start slope
