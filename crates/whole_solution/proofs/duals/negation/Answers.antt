-- The numerator is negated.
use Rattle.std.proofs.Common.{rules, ◌≡◌, neg_ℤ, to_z, of_z}
use mir.Syntax.{w128}
use Rattle.whole_solution.proofs.Numbers.{share-neg}
use Rattle.whole_solution.proofs.duals.negation.Goals as goal

pub returns-in-Some : goal.returns-in-Some
returns-in-Some c =
    let e : c.in-Some.m ≡ neg_ℤ c.args.n = search rules in
    let plain : to_z w128 (of_z w128 c.in-Some.m) ≡ c.in-Some.m = search rules in
    rw (plain, e) (λ d. share-neg c.args.n d)
