use Rattle.std.proofs.Common.{◌∙◌, Some, None, ap, cond, inr, sym}
use Rattle.design_matrix.specs.declared.fault.DesignFault.TheVariants.{ArithNotNumeric}
use Rattle.design_matrix.specs.Faults.{named_fault}
use Rattle.design_matrix.proofs.Firsts.{next_found, next_none}
use Rattle.design_matrix.proofs.Responses.{name_is}
use Rattle.design_matrix.proofs.used.check_names.Goals as goal

pub returns-then-is_text-clause-fault : goal.returns-then-is_text-clause-fault
returns-then-is_text-clause-fault c =
    let name = c.name-item.result in
    inr (next_found (named_fault c.args.frame.now) c.args.names.now _ _ _ c.loop-name-test.true c.name-item.is c.loop-name.invariant
    (name_is c.args.frame.now name c.as_str.result.now _ _ c.is_text.ensures c.column.ensures c.as_str.ensures
    ∙ ap (λ b. cond b (Some (ArithNotNumeric name)) None) c.if-is_text.true
    ∙ ap (λ n. Some (ArithNotNumeric n)) (sym (c.in_ok-new.ensures ∙ c.as_str-then-is_text.ensures))))

pub loop-name-preserved : goal.loop-name-preserved
loop-name-preserved c =
    next_none (named_fault c.args.frame.now) c.args.names.now _ _ c.loop-name-test.true c.name-item.is c.loop-name.invariant
    (name_is c.args.frame.now c.name-item.result c.as_str.result.now _ _ c.is_text.ensures c.column.ensures c.as_str.ensures
    ∙ ap (λ b. cond b (Some (ArithNotNumeric c.name-item.result)) None) c.if-is_text.false)
