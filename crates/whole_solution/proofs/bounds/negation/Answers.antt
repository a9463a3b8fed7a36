-- The number is negated.
use Rattle.std.proofs.Common.{rules, ◌≡◌, neg_ℤ, to_z, of_z, w64}
use Rattle.rational_laws.proofs.WholeNumbers.{whole-neg}
use Rattle.whole_solution.proofs.bounds.negation.Goals as goal

pub returns-in-Some : goal.returns-in-Some
returns-in-Some c =
    let e : c.in-Some.m ≡ neg_ℤ c.args.n = search rules in
    let plain : to_z w64 (of_z w64 c.in-Some.m) ≡ c.in-Some.m = search rules in
    rw (plain, e) (whole-neg c.args.n)
