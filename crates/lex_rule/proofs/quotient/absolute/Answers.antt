use Rattle.std.proofs.Common.{arith, subst, pos, ◌≤ℤ◌}
use Rattle.std.proofs.lemmas.Int.{ints}
use Rattle.rational_laws.specs.Fraction.{rational}
use Rattle.lex_rule.proofs.Values.{own_size}
use Rattle.lex_rule.proofs.quotient.absolute.Goals as goal

pub returns-else-sign-lt0 : goal.returns-else-sign-lt0
returns-else-sign-lt0 g c =
    let above : pos 0 ≤ℤ c.sign.result = omega (arith, ints) in
    own_size (rational (g.F.Exact.value c.args.value)) (subst (λ s. pos 0 ≤ℤ s) c.sign.ensures above)
