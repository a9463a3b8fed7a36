use Rattle.std.proofs.Common.{rules, ◌≡◌, to_z, of_z, ap, ◌∙◌}
use mir.Syntax.{w128}
use Rattle.wide_int.specs.Numbers.{total}
use Rattle.whole_inverse.specs.Shares.{share}
use Rattle.whole_solution.proofs.ShareProducts.{share-total}
use Rattle.whole_solution.proofs.primal.product_of.Goals as goal

pub returns-in-Some : goal.returns-in-Some
returns-in-Some c =
    let plain : to_z w128 (of_z w128 c.in-Some.s) ≡ c.in-Some.s = search rules in
    let e : c.in-Some.s ≡ total c.args.column.now c.args.ys.now = search rules in
    rw (plain) (λ d. ap (λ t. share t d) e ∙ share-total c.args.column.now c.args.ys.now d c.requires)
