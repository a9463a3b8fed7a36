use Rattle.std.proofs.Common.{ap, refl, ◌∙◌}
use Rattle.rational_laws.specs.Rational.{◌*ℚ◌, inverse}
use Rattle.rational_laws.proofs.RationalLaws.{one-*ℚ}
use Rattle.frac_core.specs.declared.exact.OpKind.TheVariants.{Div}
use Rattle.frac_core.specs.Values.{exact}
use Rattle.tv_penalty.proofs.Overflowing.{fits, spilt}
use Rattle.tv_penalty.proofs.bends.reciprocal.Goals as goal

pub returns-in-Ok-clause-fits : goal.returns-in-Ok-clause-fits
returns-in-Ok-clause-fits c = fits (record c.args.site { kind = Div }) c.one.result c.args.gap _ _ c.one.ensures refl (λ o. let e = c.in-Ok.ensures.refused.1 o in cc)

pub returns-in-Err-clause-spill : goal.returns-in-Err-clause-spill
returns-in-Err-clause-spill c = spilt (record c.args.site { kind = Div }) c.one.result c.args.gap _ _ c.in-Err.spill c.one.ensures refl c.in-Err.ensures.operands (c.in-Err.ensures.refused.0 refl)

pub returns-in-Ok-clause-exact : goal.returns-in-Ok-clause-exact
returns-in-Ok-clause-exact c =
    c.in-Ok.ensures.exact ∙ ap (λ z. z *ℚ inverse (exact c.args.gap)) c.one.ensures ∙ one-*ℚ (inverse (exact c.args.gap))
