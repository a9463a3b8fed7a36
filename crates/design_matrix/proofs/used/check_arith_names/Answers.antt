use Rattle.std.proofs.Common.{◌∙◌, ap, inl, inr, sym}
use Rattle.std.proofs.lemmas.Result.{err_from_is_err_and}
use Rattle.frac_core.specs.declared.arith.Arith.{Arith}
use Rattle.design_matrix.specs.Faults.{ariths_fault, named_fault}
use Rattle.design_matrix.specs.Lists.{first_some}
use Rattle.design_matrix.proofs.Firsts.{first_found, first_more}
use Rattle.design_matrix.proofs.used.check_arith_names.Goals as goal

pub returns-in_err-check_names-clause-fault : goal.returns-in_err-check_names-clause-fault
unfolding ariths_fault
returns-in_err-check_names-clause-fault c =
    let p = err_from_is_err_and c.from_residual.result c.from_residual.ensures.1 in
    rw (p.1, p.2) (elim c.in_err-check_names.ensures.fault [
      | inl memory ↦ inl memory
      | inr fault ↦ inr (first_found (λ (a : Arith). first_some (named_fault c.args.frame.now) a.names) (λ a. a.now) c.args.ariths.now _ _ _ c.loop-arith-test.true
          c.arith-item.is c.loop-arith.invariant (ap (first_some (named_fault c.args.frame.now)) (sym c.as_slice.ensures) ∙ fault))
    ])

pub loop-arith-preserved : goal.loop-arith-preserved
loop-arith-preserved c =
    first_more (λ (a : Arith). first_some (named_fault c.args.frame.now) a.names) (λ a. a.now) c.args.ariths.now _ _ c.loop-arith-test.true
    c.arith-item.is c.loop-arith.invariant
    (ap (first_some (named_fault c.args.frame.now)) (sym c.as_slice.ensures) ∙ c.in_ok-check_names.ensures.sound)
