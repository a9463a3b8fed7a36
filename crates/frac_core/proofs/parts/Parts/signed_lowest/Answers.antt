use Rattle.std.proofs.Common.{◌≡◌, ◌<ℤ◌, pos, unsigned_abs, SFits, to_z-of_z, ap, ◌∙◌, arith}
use Rattle.std.proofs.lemmas.Int.{ints}
use mir.Syntax.{w128}
use Rattle.rational_laws.specs.Rational.{neg_ℚ, quotient}
use Rattle.rational_laws.proofs.Quotients.{quotient-negative}
use Rattle.frac_core.proofs.parts.Parts.signed_lowest.Goals as goal

pub returns-then-d-lt0-clause-exact : goal.returns-then-d-lt0-clause-exact
returns-then-d-lt0-clause-exact c =
    let n = c.args.n in
    let d = c.args.d in
    let fn : SFits w128 n = c.ranges.n in
    let fd : SFits w128 d = c.ranges.d in
    let size : c.unsigned_abs.result ≡ unsigned_abs d = simp to_z-of_z at c.unsigned_abs.ensures.value in
    let negative : d <ℤ pos 0 = omega (arith, ints, c.if-d-lt0.true) in
    let parts = (c.in_ok-parts.ensures {u = tt}).exact in
    record {
      within = c.negation.ensures.exact.within;
      exact = c.negation.ensures.exact.exact ∙ ap neg_ℚ (simp to_z-of_z at parts.exact) ∙ ap (λ m. neg_ℚ (quotient n m)) size ∙ quotient-negative n d negative;
    }
