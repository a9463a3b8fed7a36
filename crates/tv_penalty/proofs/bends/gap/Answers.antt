use Rattle.std.proofs.Common.{refl}
use Rattle.frac_core.specs.declared.exact.OpKind.TheVariants.{Sub}
use Rattle.tv_penalty.proofs.Overflowing.{fits, spilt}
use Rattle.tv_penalty.proofs.bends.gap.Goals as goal

pub returns-in-Ok-clause-fits : goal.returns-in-Ok-clause-fits
returns-in-Ok-clause-fits c = fits (record c.args.site { kind = Sub }) c.args.upper c.args.lower _ _ refl refl (λ o. let e = c.in-Ok.ensures.refused.1 o in cc)

pub returns-in-Err-clause-spill : goal.returns-in-Err-clause-spill
returns-in-Err-clause-spill c = spilt (record c.args.site { kind = Sub }) c.args.upper c.args.lower _ _ c.in-Err.spill refl refl c.in-Err.ensures.operands (c.in-Err.ensures.refused.0 refl)
