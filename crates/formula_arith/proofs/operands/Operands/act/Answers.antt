use Rattle.formula_arith.specs.Arithmetics.{Plus, Minus}
use Rattle.formula_arith.specs.Values.{multiplication, signed_operation}
use Rattle.formula_arith.proofs.Overflows.{halts_by}
use Rattle.formula_arith.proofs.operands.Operands.act.Goals as goal

pub returns-in-Add-clause-cause : goal.returns-in-Add-clause-cause
returns-in-Add-clause-cause c =
    rw c.in-Add.is (halts_by c.add.result c.args.count (signed_operation Plus) _ _ _ _ c.pair.ensures.left c.pair.ensures.right c.add.ensures.named)

pub returns-in-Sub-clause-cause : goal.returns-in-Sub-clause-cause
returns-in-Sub-clause-cause c =
    rw c.in-Sub.is (halts_by c.subtract.result c.args.count (signed_operation Minus) _ _ _ _ c.pair-in-Sub.ensures.left c.pair-in-Sub.ensures.right c.subtract.ensures.named)

pub returns-in-Mul-clause-cause : goal.returns-in-Mul-clause-cause
returns-in-Mul-clause-cause c =
    rw c.in-Mul.is (halts_by c.multiply.result c.args.count multiplication _ _ _ _ c.pair-in-Mul.ensures.left c.pair-in-Mul.ensures.right c.multiply.ensures.named)
