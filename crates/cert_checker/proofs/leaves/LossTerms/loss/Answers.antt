use Rattle.std.proofs.Common.{refl, sym, ap, ◌∙◌}
use Rattle.rational_laws.specs.Fraction.{rational}
use Rattle.rational_laws.specs.Rational.{neg_ℚ}
use Rattle.frac_core.specs.Values.{value as value128}
use Rattle.loss_model.specs.Problem.{number_at, sample}
use Rattle.cert_checker.specs.Formulas.{worth}
use Rattle.cert_checker.specs.Conditions.{up_formula, down_formula, residual_formula}
use Rattle.cert_checker.proofs.Wide.{above_is, below_is, below_zero, negated_product, not_below_zero}
use Rattle.cert_checker.proofs.leaves.LossTerms.loss.Goals as goal

pub returns-then-is_lt : goal.returns-then-is_lt
returns-then-is_lt c =
    let t = c.args.self in
    let p = sample value128 t.problem.now in
    let b = number_at t.coef.now in
    let r = worth (residual_formula p b c.args.i) in
    below_is p (rational t.theta.now) b c.args.i (worth (down_formula p (rational t.theta.now) c.args.i)) (neg_ℚ (rational c.args.size.now)) (rational c.neg.result)
    (below_zero (rational c.args.size.now) r c.in_ok-sign.field-0 c.requires c.in_ok-sign.ensures (sym c.is_lt.ensures ∙ c.if-is_lt.true))
    refl (ap neg_ℚ c.requires) (c.neg.ensures ∙ ap neg_ℚ c.in_ok-gain.ensures ∙ negated_product _ _)

pub returns : goal.returns
returns c =
    let t = c.args.self in
    let p = sample value128 t.problem.now in
    let b = number_at t.coef.now in
    above_is p (rational t.theta.now) b c.args.i (worth (up_formula p (rational t.theta.now) c.args.i)) (rational c.args.size.now) (rational c.in_ok-loss.loss)
    (not_below_zero (rational c.args.size.now) (worth (residual_formula p b c.args.i)) c.in_ok-sign.field-0 c.requires c.in_ok-sign.ensures (sym c.is_lt.ensures ∙ c.if-is_lt.false))
    refl c.requires c.in_ok-loss.ensures
