-- What is left of the total of the responses.
use Rattle.std.proofs.Common.{rules, ◌≡◌, ◌+ℤ◌, ◌*ℤ◌, neg_ℤ}
use Rattle.wide_int.specs.Numbers.{number_of, total}
use Rattle.whole_solution.proofs.Numbers.{rest_share}
use Rattle.whole_solution.proofs.ShareProducts.{share-total}
use Rattle.whole_solution.proofs.totals.Totals+i128.residual.Goals as goal

pub returns-in-Some : goal.returns-in-Some
returns-in-Some c =
    let t = c.args.self.now in
    let coef = c.args.coef.now in
    let d = c.args.determinant in
    let n = number_of c.in-Some.number in
    let is : n ≡ (t.response *ℤ d) +ℤ neg_ℤ (total coef t.columns) = search rules in
    rest_share t.response d (total coef t.columns) n _ c.requires.some is (share-total coef t.columns d c.requires.same)
