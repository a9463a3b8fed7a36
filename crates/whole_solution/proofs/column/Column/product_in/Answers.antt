-- The sum of narrow products in 128 bits.
use Rattle.std.proofs.Common.{rules, ◌≡◌, to_z, of_z, ap, ◌∙◌}
use mir.Syntax.{w128}
use Rattle.wide_int.specs.Numbers.{total}
use Rattle.whole_inverse.specs.Shares.{share}
use Rattle.whole_inverse.proofs.ShareSums.{share-total}
use Rattle.whole_solution.proofs.column.Column.product_in.Goals as goal

pub returns-in-Narrow : goal.returns-in-Narrow
returns-in-Narrow g c = λ d.
    let x = c.args.x.now in
    let numbers = c.args.self.now.numbers.now in
    let sum : to_z w128 (of_z w128 c.from.result) ≡ total x numbers = search rules in
    ap (λ t. share t d) sum ∙ share-total x numbers d c.requires.same
