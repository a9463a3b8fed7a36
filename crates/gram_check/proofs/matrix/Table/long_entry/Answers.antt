use Rattle.std.proofs.Common.{rules, ◌≡◌, ◌+ℤ◌, ℤ, get_or, sym, subst}
use Rattle.rational_laws.specs.Rational.{◌*ℚ◌, whole}
use Rattle.rational_laws.specs.WholeLists.{whole_at}
use Rattle.whole_rows.specs.declared.rows.WholeRow.{WholeRow}
use Rattle.gram_check.proofs.Sums.{added}
use Rattle.gram_check.proofs.matrix.Table.long_entry.Goals as goal

pub loop-i-preserved : goal.loop-i-preserved
loop-i-preserved c =
    let rows = c.args.self.now.rows.now in
    let r = c.index-self-i.result in
    let more = c.in_ok-more.more in
    let is : r ≡ get_or rows c.loop-i.i r = search rules in
    let sum : c.in_ok-sum.sum ≡ c.loop-i.sum +ℤ more = search rules in
    let here = subst (λ (r : WholeRow ℤ). whole more ≡ (whole r.up1 *ℚ whole_at r.x c.args.k) *ℚ (whole r.up1 *ℚ whole_at r.x c.args.l)) (sym is) (c.in_ok-more.ensures {u = tt}) in
    added rows c.args.k c.args.l c.loop-i.i r c.loop-i.sum more c.in_ok-sum.sum c.loop-i-test.true is sum c.loop-i.invariant here
