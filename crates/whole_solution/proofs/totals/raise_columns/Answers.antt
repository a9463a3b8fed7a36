-- A column more.
use Rattle.std.proofs.Common.{rules, ◌≡◌, ◌<◌, length, get_or, slice_set, pos, to_z, of_z, ◌+ℤ◌, ◌*ℤ◌, arith, sym, ap₂, ◌∙◌, length-set}
use mir.Syntax.{w128}
use Rattle.rational_laws.specs.Rational.{◌+ℚ◌, ◌*ℚ◌, whole}
use Rattle.rational_laws.specs.WholeLists.{whole_at}
use Rattle.whole_solution.proofs.Numbers.{whole_read}
use Rattle.whole_solution.proofs.Reading.{whole_put, whole_behind}
use Rattle.whole_solution.proofs.Moved.{raised_whole}
use Rattle.whole_solution.proofs.totals.raise_columns.Goals as goal

pub loop-k-preserved : goal.loop-k-preserved
loop-k-preserved c =
    let before = c.args.totals.now in
    let x = c.args.x.now in
    let w = c.args.weight in
    let k = c.loop-k.k in
    let totals = c.loop-k.totals in
    let n = c.in_ok-total.total in
    let ew : to_z w128 (of_z w128 w) ≡ w = search rules in
    let m = rw (ew) at c.loop-k.invariant in
    let here : k < length x = search rules in
    let inside : k < length totals = omega (arith, here, c.requires, m.size) in
    let put : c.replace.new.self ≡ slice_set totals k n = search rules in
    let is : n ≡ get_or totals k (pos 0) +ℤ (w *ℤ get_or x k (pos 0)) = search rules in
    rw (put, ew) (record {
      size = length-set totals k n ∙ m.size;
      each = whole_put totals k n (λ k. whole_at before k +ℚ (whole_at x k *ℚ whole w)) inside m.each
          (raised_whole n (get_or totals k (pos 0)) w (get_or x k (pos 0)) is
          ∙ ap₂ (λ t x. t +ℚ (x *ℚ whole w)) (sym (whole_read totals k inside) ∙ m.left k (omega arith)) (sym (whole_read x k here)));
      left = λ j l. whole_behind totals k n j (omega (arith, l)) ∙ m.left j (omega (arith, l));
    })
