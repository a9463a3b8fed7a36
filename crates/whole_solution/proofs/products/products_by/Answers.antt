-- A row more.
use Rattle.std.proofs.Common.{rules, ◌≡◌, ◌++◌, ◌∷◌, [], ℤ, length, ap, ◌∙◌}
use Rattle.rational_laws.specs.Rational.{◌*ℚ◌}
use Rattle.rational_laws.specs.RationalSums.{sum_ℚ}
use Rattle.rational_laws.specs.WholeLists.{whole_at}
use Rattle.whole_inverse.specs.Shares.{share, share_at}
use Rattle.whole_inverse.proofs.Lists.{share_pushed, length_pushed}
use Rattle.whole_rows.specs.Wholes.{of_whole}
use Rattle.whole_solution.proofs.Reading.{product_of_row}
use Rattle.whole_solution.proofs.products.products_by.Goals as goal

pub loop-i-preserved : goal.loop-i-preserved
loop-i-preserved g c =
    let rows = c.args.rows.now in
    let column = c.args.column.now.numbers.now in
    let i = c.loop-i.i in
    let r = c.index-rows-i.result in
    let made = c.loop-i.made in
    let x = c.in-Some.number in
    let grown : c.add.new.self ≡ made ++ x ∷ [] = search rules in
    let wide : length r.x ≡ length column = ap (λ w. length w.x) c.index-rows-i.is ∙ c.requires.wide i r c.loop-i-test.true in
    let own : (d : ℤ) → share x d ≡ sum_ℚ (length r.x) (λ k. whole_at r.x k *ℚ share_at d column k) = search rules in
    rw (grown) (record {
      size = length_pushed made x i c.loop-i.invariant.size;
      each = λ d. share_pushed d made x i (λ i. sum_ℚ (length column) (λ k. of_whole rows (λ r. whole_at r.x k) i *ℚ share_at d column k)) c.loop-i.invariant.size (c.loop-i.invariant.each d)
          (product_of_row rows i r column x d c.loop-i-test.true c.index-rows-i.is wide (own d));
    })
