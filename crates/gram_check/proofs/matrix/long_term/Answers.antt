use Rattle.std.proofs.Common.{rules, ◌≡◌, ◌*ℤ◌, get_or, pos, refl}
use Rattle.gram_check.proofs.Sums.{term_is}
use Rattle.gram_check.proofs.matrix.long_term.Goals as goal

pub returns : goal.returns
returns c =
    let w = c.args.row.now.up1 in
    let xs = c.args.row.now.x in
    let first = c.in_ok-first.first in
    let second = c.in_ok-second.second in
    let n = c.in_ok-product.product in
    let ef : first ≡ w *ℤ get_or xs c.args.k (pos 0) = search rules in
    let es : second ≡ w *ℤ get_or xs c.args.l (pos 0) = search rules in
    let en : n ≡ first *ℤ second = search rules in
    term_is w (get_or xs c.args.k (pos 0)) (get_or xs c.args.l (pos 0)) first second n xs c.args.k c.args.l c.requires.first c.requires.second refl refl ef es en
