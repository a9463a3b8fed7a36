use Rattle.std.proofs.Common.{refl, true}
use Rattle.frac_core.specs.Values.{exact}
use Rattle.formula_arith.specs.Arithmetics.{Plus}
use Rattle.formula_arith.specs.Values.{signed_operation}
use Rattle.formula_arith.proofs.Overflows.{fits_alone, is_named}
use Rattle.formula_arith.proofs.operations.add.Goals as goal

pub returns-in-Ok-clause-fits : goal.returns-in-Ok-clause-fits
returns-in-Ok-clause-fits c =
    fits_alone (signed_operation Plus (exact c.args.left) (exact c.args.right)) c.args.left c.args.right refl refl (λ o. absurd (cc (c.in-Ok.ensures.refused.1 o)))

pub returns-in-Err-clause-named : goal.returns-in-Err-clause-named
returns-in-Err-clause-named c =
    is_named c.args.term (signed_operation Plus (exact c.args.left) (exact c.args.right)) c.in-Err.op c.args.left c.args.right c.in-Err.ensures.operands refl refl
    (c.in-Err.ensures.refused.0 (refl {a = true}))
