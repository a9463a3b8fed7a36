use Rattle.std.proofs.Common.{◌≤◌, ℤ, unsigned_abs, get_or, arith, below_more, subst}
use Rattle.std.specs.List.{All}
use Rattle.std.proofs.lemmas.List.{get_or_default}
use Rattle.std.proofs.lemmas.List.Elements.{All-weaker}
use Rattle.whole_rows.specs.declared.rows.WholeRow.{WholeRow}
use Rattle.whole_rows.proofs.limit.limit_of.Goals as goal

pub loop-i-preserved : goal.loop-i-preserved
loop-i-preserved c = λ j r l. below_more (λ j. (r : WholeRow ℤ) → All (λ e. unsigned_abs e ≤ c.largest-top.result) (get_or c.args.rows.now j r).x) c.loop-i.i
    (λ j l r. All-weaker (λ e. unsigned_abs e ≤ c.loop-i.top) (λ e. unsigned_abs e ≤ c.largest-top.result) (λ e h. omega (arith, h, c.largest-top.ensures.start)) (get_or c.args.rows.now j r).x (c.loop-i.invariant j r l))
    (λ r. subst (λ (w : WholeRow ℤ). All (λ e. unsigned_abs e ≤ c.largest-top.result) w.x) (get_or_default c.args.rows.now c.loop-i.i c.index-rows-i.result r c.loop-i-test.true) (rw (c.as_slice.ensures) at c.largest-top.ensures.all))
    j l r
