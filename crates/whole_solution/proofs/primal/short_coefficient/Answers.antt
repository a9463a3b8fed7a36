-- A product more.
use Rattle.std.proofs.Common.{rules, ◌≡◌, ◌<◌, ◌+ℤ◌, ◌*ℤ◌, [], ◌∷◌, length, get_or, pos, to_z, of_z, arith, refl, sym, ap₂, subst, ◌∙◌}
use mir.Syntax.{w128}
use Rattle.std.proofs.lemmas.Option.{get_or_from_slice_get}
use Rattle.rational_laws.specs.Solver.{number, ◌⊠◌, v0}
use Rattle.rational_laws.specs.Rational.{◌*ℚ◌, inverse, whole}
use Rattle.rational_laws.proofs.RationalLaws.{ring_ℚ}
use Rattle.rational_laws.specs.WholeLists.{whole_at}
use Rattle.whole_inverse.specs.Shares.{share, shares}
use Rattle.whole_inverse.proofs.Lists.{share_read}
use Rattle.whole_solution.proofs.Balanced.{column_at, share_at-one, share_one}
use Rattle.whole_solution.proofs.ShareProducts.{share_product-more}
use Rattle.whole_solution.proofs.primal.short_coefficient.Goals as goal

pub bounds-column-k : goal.bounds-column-k
bounds-column-k c =
    let columns = c.args.inverse.now.columns in
    let j = c.loop-j.j in
    let column = c.numerators-column.result.now in
    let here : j < length columns = omega (arith, c.requires.size, c.loop-j-test.true) in
    let long : length column ≡ length columns = subst (λ xs. length xs ≡ length columns) (get_or_from_slice_get columns j column column c.numerators-column.ensures) (c.requires.square j column here) in
    omega (arith, long, c.requires.size, c.requires.within)

pub loop-j-init : goal.loop-j-init
loop-j-init c = λ d. ring_ℚ (inverse (whole d) ∷ []) (number (pos 0) ⊠ v0) (number (pos 0)) refl

pub loop-j-preserved : goal.loop-j-preserved
loop-j-preserved c = λ d.
    let columns = c.args.inverse.now.columns in
    let k = c.args.k in
    let j = c.loop-j.j in
    let column = c.numerators-column.result.now in
    let ys = c.args.ys.now in
    let x = get_or column k (pos 0) in
    let y = get_or ys j (pos 0) in
    let s = to_z w128 c.loop-j.sum-bits in
    let made : to_z w128 (of_z w128 c.in_ok-sum.sum) ≡ s +ℤ x *ℤ y = search rules in
    let here : j < length columns = omega (arith, c.requires.size, c.loop-j-test.true) in
    let long : length column ≡ length columns = subst (λ xs. length xs ≡ length columns) (get_or_from_slice_get columns j column column c.numerators-column.ensures) (c.requires.square j column here) in
    let entry : share x d ≡ shares columns d k j = share_read d column k (omega (arith, long, c.requires.size, c.requires.within)) ∙ column_at d columns j column c.numerators-column.ensures k in
    let response : whole y ≡ whole_at ys j = sym (share_one y) ∙ share_read (pos 1) ys j (omega (arith, c.requires.same, c.loop-j-test.true)) ∙ share_at-one ys j in
    rw (made) (share_product-more d s x y (λ j. shares columns d k j *ℚ whole_at ys j) j (c.loop-j.invariant d) (ap₂ (λ a b. a *ℚ b) entry response))
