-- A difference of products.
use Rattle.std.proofs.Common.{rules, ◌≡◌, ◌+ℤ◌, ◌*ℤ◌, neg_ℤ, get_or, pos, ap, ap₂, ◌∙◌}
use Rattle.wide_int.specs.Numbers.{number_of}
use Rattle.whole_solution.proofs.near.Near.move_of.Goals as goal

pub returns : goal.returns
returns c =
    let n = c.args.self.now in
    let old = get_or n.coef c.args.k (pos 0) in
    let here : number_of c.product-here.result ≡ c.args.number *ℤ n.determinant = search rules in
    let there : number_of c.product-there.result ≡ old *ℤ c.args.determinant = search rules in
    let other : number_of c.negation.result ≡ neg_ℤ (number_of c.product-there.result) = search rules in
    let sum : number_of c.in_ok-moved.moved ≡ number_of c.product-here.result +ℤ number_of c.negation.result = search rules in
    sum ∙ ap₂ (λ x y. x +ℤ y) here (other ∙ ap neg_ℤ there)
