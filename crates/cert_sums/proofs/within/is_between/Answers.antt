-- Both bounds have room, and the number is compared with either.
use Rattle.std.proofs.Common.{rules, arith, ◌≡◌, ◌≤ℤ◌, to_z, of_z, subst, unsigned_abs}
use Rattle.std.proofs.lemmas.Int.{ints}
use mir.Syntax.{w128}
use Rattle.rational_laws.specs.Rational.{whole, ◌≤ℚ◌}
use Rattle.rational_laws.proofs.WholeNumbers.{whole-le}
use Rattle.cert_sums.specs.Duals.{at_line}
use Rattle.cert_sums.proofs.Costs.{line_room}
use Rattle.cert_sums.proofs.within.is_between.Goals as goal

pub line_at-requires-clause-room : goal.line_at-requires-clause-room
line_at-requires-clause-room c =
    let at : to_z w128 (of_z w128 c.args.at) ≡ c.args.at = search rules in
    let line = c.args.row.now.up in
    rw (at) (line_room (unsigned_abs line.start) (unsigned_abs line.slope) c.args.scale (unsigned_abs c.args.at) c.args.limit _ c.requires.up.at_start c.requires.up.rise c.requires.room)

pub line_at-requires-2-clause-room : goal.line_at-requires-2-clause-room
line_at-requires-2-clause-room c =
    let at : to_z w128 (of_z w128 c.args.at) ≡ c.args.at = search rules in
    let line = c.args.row.now.low in
    rw (at) (line_room (unsigned_abs line.start) (unsigned_abs line.slope) c.args.scale (unsigned_abs c.args.at) c.args.limit _ c.requires.low.at_start c.requires.low.rise c.requires.room)

pub returns : goal.returns
returns c =
    let row = c.args.row.now in
    let value = c.args.value in
    let up = c.line_at.result in
    let low = c.line_at-2.result in
    let at : to_z w128 (of_z w128 c.args.at) ≡ c.args.at = search rules in
    let is_up : up ≡ at_line row.up c.args.scale c.args.at = rw (at) at c.line_at.ensures in
    let is_low : low ≡ at_line row.low c.args.scale c.args.at = rw (at) at c.line_at-2.ensures in
    let plain : to_z w128 (of_z w128 value) ≡ value = search rules in
    let plain_low : to_z w128 (of_z w128 low) ≡ low = search rules in
    let under : value ≤ℤ up = omega (arith, ints, c.if-value-line_at.false) in
    λ h.
    let over : low ≤ℤ value = omega (arith, ints, rw (plain, plain_low) at h) in
    record {
      upper = subst (λ z. whole value ≤ℚ whole z) is_up (whole-le value up under);
      lower = subst (λ z. whole z ≤ℚ whole value) is_low (whole-le low value over);
    }
