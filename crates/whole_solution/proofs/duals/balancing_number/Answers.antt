-- The weight is negated.
use Rattle.std.proofs.Common.{rules, ◌≡◌, ℤ, IfOk, length, to_z, of_z, subst, sym, ◌∙◌}
use mir.Syntax.{w128}
use Rattle.std.proofs.lemmas.Result.{IfOk-weaker}
use Rattle.std.proofs.lemmas.Option.{get_or_from_slice_get}
use Rattle.rational_laws.specs.Rational.{neg_ℚ}
use Rattle.whole_inverse.specs.Shares.{share}
use Rattle.whole_solution.proofs.Balanced.{balancing_share}
use Rattle.whole_solution.proofs.duals.balancing_number.Goals as goal

pub returns : goal.returns
returns c =
    let columns = c.args.inverse.now.columns in
    let w = c.in_ok-weight.weight in
    let plain : to_z w128 (of_z w128 w) ≡ w = search rules in
    let h : IfOk c.negation.result (λ m. (d : ℤ) → share m d ≡ neg_ℚ (share w d)) = rw (plain) at c.negation.ensures in
    let same : length c.numerators.result.now ≡ length c.args.totals.now = subst (λ xs. length xs ≡ length columns) (get_or_from_slice_get columns c.args.position c.numerators.result.now c.numerators.result.now c.numerators.ensures)
    (c.requires.square c.args.position c.numerators.result.now c.requires.within) ∙ sym c.requires.size in
    IfOk-weaker c.negation.result _ _ (λ m e d. e d ∙ balancing_share c.args.inverse.now.columns c.numerators.result.now c.args.totals.now c.args.position w d c.numerators.ensures same (c.in_ok-weight.ensures {u = tt} d)) h
