use Rattle.std.proofs.Common.{◌∙◌, ap, inl, inr, map, sym}
use Rattle.std.proofs.lemmas.Result.{err_from_is_err_and}
use Rattle.design_matrix.specs.Faults.{ariths_fault}
use Rattle.design_matrix.proofs.used.check_ariths.Goals as goal

pub returns-in_err-check_arith_names-clause-fault : goal.returns-in_err-check_arith_names-clause-fault
returns-in_err-check_arith_names-clause-fault c =
    let ariths = ap (map (λ a. a.now)) c.deref.ensures.value ∙ c.in_ok-ariths.ensures in
    let p = err_from_is_err_and c.from_residual-in_err-check_arith_names.result c.from_residual-in_err-check_arith_names.ensures.1 in
    rw (p.1, p.2) (elim c.in_err-check_arith_names.ensures.fault [
      | inl memory ↦ inl memory
      | inr fault ↦ inr (ap (ariths_fault c.args.frame.now) (sym ariths) ∙ fault)
    ])

pub returns-clause-sound : goal.returns-clause-sound
returns-clause-sound c =
    ap (ariths_fault c.args.frame.now) (sym (ap (map (λ a. a.now)) c.deref.ensures.value ∙ c.in_ok-ariths.ensures)) ∙ c.in_ok-check_arith_names.ensures.sound
