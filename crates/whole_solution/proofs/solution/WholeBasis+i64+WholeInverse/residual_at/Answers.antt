-- The residual of a row that was read.
use Rattle.std.proofs.Common.{rules, ◌≡◌, length, to_z, of_z, sym, ap, ap₂, ◌∙◌, ℤ}
use mir.Syntax.{w64, w128}
use Rattle.std.proofs.lemmas.Result.{IfOk-weaker}
use Rattle.rational_laws.specs.Rational.{◌-ℚ◌, ◌*ℚ◌, whole}
use Rattle.rational_laws.specs.RationalSums.{sum_ℚ}
use Rattle.rational_laws.specs.WholeLists.{whole_at}
use Rattle.whole_inverse.specs.Shares.{share, share_at}
use Rattle.whole_rows.specs.declared.rows.WholeRow.{WholeRow}
use Rattle.whole_rows.specs.Wholes.{of_whole}
use Rattle.whole_solution.proofs.Reading.{product_of_row, row_read}
use Rattle.whole_solution.proofs.solution.WholeBasis+i64+WholeInverse.residual_at.Goals as goal

pub returns-in-Some : goal.returns-in-Some
returns-in-Some g c =
    let b = c.args.self.now in
    let s = b.inverse.now in
    let d = s.determinant in
    let row = c.args.row in
    let rows = b.rows.now in
    let coef = c.args.coef.now.numbers.now in
    let r = c.index-rows-row.result in
    let here = c.requires.row in
    let fit = c.in-Some.fit in
    let det : to_z w128 (of_z w128 c.determinant.result) ≡ c.determinant.result = search rules in
    let ef : to_z w128 (of_z w128 fit) ≡ fit = search rules in
    let ey : to_z w64 (of_z w64 r.y) ≡ r.y = search rules in
    let wide : length r.x ≡ length s.columns = ap (λ (w : WholeRow ℤ). length w.x) c.index-rows-row.is ∙ c.requires.basis.wide row r here in
    let product : share fit d ≡ sum_ℚ (length r.x) (λ k. whole_at r.x k *ℚ share_at d coef k) = rw (c.as_slice.ensures) at (c.in-Some.ensures d) in
    let of_row = product_of_row rows row r coef fit d here c.index-rows-row.is (wide ∙ sym c.requires.size) product in
    let fitted = of_row ∙ ap (λ n. sum_ℚ n (λ k. of_whole rows (λ r. whole_at r.x k) row *ℚ share_at d coef k)) c.requires.size in
    let made = rw (det, ef, ey, c.determinant.ensures.value) at c.residual_of.ensures in
    IfOk-weaker c.residual_of.result _ _ (λ n h. h ∙ ap₂ (λ y f. y -ℚ f) (sym (row_read rows row r (λ r. whole r.y) here c.index-rows-row.is)) fitted) made
