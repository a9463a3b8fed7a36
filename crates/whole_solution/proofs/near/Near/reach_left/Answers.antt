-- What all residuals can have moved, and the reach, are within the distance.
use Rattle.std.proofs.Common.{rules, ◌≡◌, ◌≤◌, ◌+◌, ◌*◌, length, pos, unsigned_abs, arith, refl, ap, subst, ◌∙◌}
use Rattle.std.proofs.lemmas.Int.{ints}
use Rattle.rational_laws.specs.Rational.{◌+ℚ◌, ◌≤ℚ◌, whole}
use Rattle.rational_laws.proofs.RationalLaws.{whole-add}
use Rattle.rational_laws.proofs.WholeNumbers.{whole-le}
use Rattle.wide_int.specs.Numbers.{joined}
use Rattle.whole_solution.specs.Far.{moves}
use Rattle.whole_solution.proofs.Moves.{room_left}
use Rattle.whole_solution.proofs.near.Near.reach_left.Goals as goal

pub returns-then-is_within-clause-left : goal.returns-then-is_within-clause-left
returns-then-is_within-clause-left c =
    let n = c.args.self.now in
    let coef = c.args.coef.now in
    let d = c.args.determinant in
    let reach = c.in_ok-reach.reach in
    let moved = c.in_ok-moved.moved in
    let all = c.in_ok-all.all in
    let over : c.unsigned_abs-over.result ≡ unsigned_abs d = search rules in
    let within : joined all.low all.high ≤ joined c.product-2.result.low c.product-2.result.high = c.is_within.ensures c.if-is_within.true in
    let sum : joined all.low all.high ≡ joined c.product.result.low c.product.result.high + joined moved.low moved.high = c.in_ok-all.ensures {u = tt} in
    let left : joined c.product.result.low c.product.result.high ≡ reach * unsigned_abs d = rw (over) at c.product.ensures in
    let most : joined c.product-2.result.low c.product-2.result.high ≡ n.distance * unsigned_abs d = rw (over) at c.product-2.ensures in
    let moves_are : whole (pos (joined moved.low moved.high)) ≡ moves n coef d (length coef) = search rules in
    let less : whole (pos (joined moved.low moved.high + reach * unsigned_abs d)) ≤ℚ whole (pos (n.distance * unsigned_abs d)) =
    whole-le (pos (joined moved.low moved.high + reach * unsigned_abs d)) (pos (n.distance * unsigned_abs d)) (omega (arith, ints, within, sum, left, most)) in
    room_left n.determinant d c.requires.some c.requires.now n refl coef c.requires.size reach n.distance
    (subst (λ z. z ≤ℚ whole (pos (n.distance * unsigned_abs d)))
    (whole-add (pos (joined moved.low moved.high)) (pos (reach * unsigned_abs d)) ∙ ap (λ z. z +ℚ whole (pos (reach * unsigned_abs d))) moves_are) less)
