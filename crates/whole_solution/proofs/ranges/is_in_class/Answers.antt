-- An entry more.
use Rattle.std.proofs.Common.{rules, ◌<◌, ◌≤◌, ap, length, ◌*◌, ◌^◌, ◌-ℤ◌, get_or, pos, unsigned_abs, arith}
use Rattle.std.specs.Prelude.{slice_index}
use Rattle.whole_solution.proofs.Entries.{entry_more}
use Rattle.whole_solution.proofs.ranges.is_in_class.Goals as goal

pub loop-k-preserved : goal.loop-k-preserved
loop-k-preserved c =
    let x = c.args.row.now.x in
    let k = c.loop-k.k in
    let middles = c.args.middles.now in
    let halves = c.args.halves.now in
    let class = c.args.class in
    let distance = unsigned_abs (get_or x k (pos 0) -ℤ get_or middles k (pos 0)) in
    let up : distance ≤ c.rounded_up-half.result * 2 ^ class = search rules in
    let less : c.rounded_up-half.result ≤ slice_index halves k = search rules in
    let inside : k < length x = omega (arith, c.loop-k-test.true, ap length c.as_slice-x.ensures) in
    entry_more x middles halves class k c.rounded_up-half.result inside (omega (arith, c.requires.middles, inside)) up less c.loop-k.invariant
