-- The product of the cell.
use Rattle.std.proofs.Common.{rules, ◌≡◌, ◌+ℤ◌, ◌*ℤ◌, ap, ◌∙◌}
use Rattle.rational_laws.specs.Rational.{◌+ℚ◌, ◌*ℚ◌, whole}
use Rattle.rational_laws.proofs.RationalLaws.{whole-add, whole-mul}
use Rattle.cert_sums.specs.Sums.{cell_at}
use Rattle.cert_sums.proofs.long_sums.long_with_row.Goals as goal

pub returns : goal.returns
returns c =
    let sum = c.args.sum.now in
    let x = c.in_ok-x.x in
    let value = c.args.value.now in
    let made : c.in_ok-made.made ≡ sum +ℤ x *ℤ value = search rules in
    let cell : whole x ≡ cell_at c.args.rows.now c.args.place c.args.row = search rules in
    ap whole made ∙ whole-add sum (x *ℤ value) ∙ ap (λ z. whole sum +ℚ z) (whole-mul x value ∙ ap (λ z. z *ℚ whole value) cell)
