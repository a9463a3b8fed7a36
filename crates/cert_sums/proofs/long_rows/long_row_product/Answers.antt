-- A product more.
use Rattle.std.proofs.Common.{rules, arith, ◌≡◌, ◌<◌, ◌+ℤ◌, ◌*ℤ◌, pos, length, get_or, refl, sym, ap, ◌∙◌, to_z, of_z}
use Rattle.std.specs.Prelude.{slice_get, Some}
use mir.Syntax.{w128}
use Rattle.std.proofs.lemmas.Option.{slice_get_read, slice_get-get_or, same_Some}
use Rattle.wide_int.proofs.Totals.{sum_all, sum_more}
use Rattle.cert_sums.proofs.long_rows.long_row_product.Goals as goal

pub loop-i-preserved : goal.loop-i-preserved
loop-i-preserved c =
    let row = c.args.row.now in
    let column = c.args.column.now in
    let i = c.loop-i.i in
    let n = c.index-column-i.result in
    let x = get_or row i (pos 0) in
    let within : i < length column = omega (arith, c.loop-i-test.true, c.requires) in
    let read : slice_get column i ≡ Some n = slice_get_read column (length column) i n refl within c.index-column-i.is in
    let item : n ≡ get_or column i (pos 0) = same_Some n (get_or column i (pos 0)) (sym read ∙ slice_get-get_or column i (pos 0) within) in
    let plain : to_z w128 (of_z w128 x) ≡ x = search rules in
    let made : c.in_ok-sum.sum ≡ c.loop-i.sum +ℤ x *ℤ n = rw (plain) at (c.in_ok-sum.ensures {u = tt}) in
    sum_more row column i c.loop-i.sum c.in_ok-sum.sum c.loop-i-test.true c.requires c.loop-i.invariant (made ∙ ap (λ z. c.loop-i.sum +ℤ x *ℤ z) item)

pub returns : goal.returns
returns c = sum_all c.args.row.now c.args.column.now c.loop-i.i c.loop-i.sum c.loop-i-test.false c.loop-i.invariant
