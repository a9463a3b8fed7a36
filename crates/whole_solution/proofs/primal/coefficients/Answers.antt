-- A coefficient more.
use Rattle.std.proofs.Common.{rules, ◌≡◌, ◌++◌, ◌∷◌, [], refl, ◌∙◌}
use Rattle.std.specs.Prelude.{slice_index}
use Rattle.rational_laws.specs.Rational.{whole}
use Rattle.basis_model.specs.Basis.{coefficient}
use Rattle.rational_laws.specs.WholeLists.{whole_at}
use Rattle.whole_inverse.specs.Squares.{inverse_of}
use Rattle.whole_rows.specs.Wholes.{of_whole, sample_of_rows}
use Rattle.whole_inverse.proofs.Lists.{share_pushed, length_pushed}
use Rattle.whole_solution.proofs.ShareProducts.{products_same}
use Rattle.whole_solution.proofs.primal.coefficients.Goals as goal

pub loop-k-preserved : goal.loop-k-preserved
loop-k-preserved c =
    let s = c.args.inverse.now in
    let n = c.args.n in
    let k = c.loop-k.k in
    let at = slice_index c.args.basis.now.rows in
    let made = c.loop-k.made in
    let x = c.in_ok-number.number in
    let a = inverse_of s in
    let grown : c.push.new.self ≡ made ++ x ∷ [] = search rules in
    let ys = rw (c.as_slice.ensures, c.requires.basis) at c.in_ok-ys.ensures.each in
    let number = rw (c.as_slice-in-loop-k.ensures) at (c.in_ok-number.ensures {u = tt} s.determinant) in
    let all = products_same n (a k) (a k) (whole_at c.in_ok-ys.ys) (λ j. of_whole c.args.rows.now (λ r. whole r.y) (at j)) (λ j lj. refl) ys in
    rw (grown) (record {
      size = length_pushed made x k c.loop-k.invariant.size;
      each = share_pushed s.determinant made x k (coefficient (sample_of_rows n c.args.rows.now) at a) c.loop-k.invariant.size c.loop-k.invariant.each (number ∙ all);
    })
