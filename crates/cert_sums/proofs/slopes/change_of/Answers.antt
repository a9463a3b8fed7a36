use Rattle.std.proofs.Common.{rules, arith, ◌≡◌, ◌+ℤ◌, ◌-ℤ◌, to_z, of_z}
use Rattle.std.proofs.lemmas.Int.{ints}
use mir.Syntax.{w128}
use Rattle.rational_laws.specs.Rational.{whole}
use Rattle.cert_sums.specs.Slopes.{part_at}
use Rattle.cert_sums.proofs.Unsettled.{difference}
use Rattle.cert_sums.proofs.slopes.change_of.Goals as goal

pub returns : goal.returns
returns c =
    let turn = c.args.turn in
    let m = c.in_ok-new.new in
    let k = c.in_ok-old.old in
    let d = c.in_ok-made.made in
    let plain : to_z w128 (of_z w128 d) ≡ d = search rules in
    let made : d ≡ m -ℤ k = search rules in
    let new : whole m ≡ part_at c.args.part turn.rows.now turn.new.now c.args.row = search rules in
    let old : whole k ≡ part_at c.args.part turn.rows.now turn.old.now c.args.row = search rules in
    let whole_of : m ≡ d +ℤ k = omega (arith, ints, made) in
    rw (plain) (difference d m k _ _ whole_of new old)
