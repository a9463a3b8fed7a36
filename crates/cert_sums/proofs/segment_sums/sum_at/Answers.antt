-- Both parts of the line, and the basic rows.
use Rattle.std.proofs.Common.{rules, ◌≡◌, ◌+ℤ◌, ◌*ℤ◌, pos, to_z, of_z, ap, ◌∙◌}
use mir.Syntax.{w128}
use Rattle.rational_laws.specs.Rational.{◌+ℚ◌, whole}
use Rattle.rational_laws.specs.WholeLists.{whole_at}
use Rattle.cert_sums.specs.Slopes.{listed_total}
use Rattle.cert_sums.proofs.Unsettled.{line_sum}
use Rattle.cert_sums.proofs.segment_sums.sum_at.Goals as goal

pub returns : goal.returns
returns c =
    let view = c.args.view in
    let t = view.tally.now in
    let r = view.reach.now in
    let place = c.args.place in
    let a = c.number_at.result in
    let b = c.number_at-2.result in
    let l = c.in_ok-lines.lines in
    let basic = listed_total view.rows.now place t.unsettled view.values.now in
    let start : whole a ≡ whole_at t.starts place = rw (c.as_slice.ensures) at c.number_at.ensures in
    let slope : whole b ≡ whole_at t.slopes place = rw (c.as_slice-2.ensures) at c.number_at-2.ensures in
    let first : c.in_ok-first.first ≡ a *ℤ pos r.scale = search rules in
    let second : c.in_ok-second.second ≡ b *ℤ r.at = search rules in
    let lines : l ≡ c.in_ok-first.first +ℤ c.in_ok-second.second = search rules in
    let plain : to_z w128 (of_z w128 c.in_ok-made.made) ≡ c.in_ok-made.made = search rules in
    let plain_lines : to_z w128 (of_z w128 l) ≡ l = search rules in
    let made : whole c.in_ok-made.made ≡ whole l +ℚ basic = rw (plain_lines, c.as_slice-3.ensures) at (c.in_ok-made.ensures {u = tt}) in
    rw (plain) (made ∙ ap (λ z. z +ℚ basic) (line_sum a b c.in_ok-first.first c.in_ok-second.second l r.scale r.at (whole_at t.starts place) (whole_at t.slopes place) first second lines start slope))
