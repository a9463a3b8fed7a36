use Rattle.std.proofs.Common.{ap, inl, inr, sym, ◌∙◌}
use Rattle.std.proofs.lemmas.Result.{err_from_is_err_and}
use Rattle.design_matrix.specs.Lists.{first_some}
use Rattle.design_matrix.specs.Predicted.{unknown_fault, unknown_level}
use Rattle.design_matrix.proofs.Firsts.{all_none, next_found, next_none}
use Rattle.design_matrix.proofs.predicted_row.check_levels.Goals as goal

pub returns-in_err-check_variables-clause-fault : goal.returns-in_err-check_variables-clause-fault
unfolding unknown_level
returns-in_err-check_variables-clause-fault c =
    let fault_in = unknown_fault c.args.frame.now c.args.kept.now c.args.index in
    let p = err_from_is_err_and c.from_residual.result c.from_residual.ensures.1 in
    rw (p.1, p.2) (elim c.in_err-check_variables.ensures.fault [
      | inl memory ↦ inl memory
      | inr fault ↦ inr (ap (first_some (λ t. first_some fault_in t.variables)) (sym c.as_slice-terms.ensures)
          ∙ next_found (λ t. first_some fault_in t.variables) c.as_slice-terms.result.now _ _ _ c.loop-term-test.true c.term-item.is c.loop-term.invariant
          (ap (first_some fault_in) (sym c.as_slice.ensures) ∙ fault))
    ])

pub loop-term-preserved : goal.loop-term-preserved
loop-term-preserved c =
    let fault_in = unknown_fault c.args.frame.now c.args.kept.now c.args.index in
    next_none (λ t. first_some fault_in t.variables) c.as_slice-terms.result.now _ _ c.loop-term-test.true c.term-item.is c.loop-term.invariant
    (ap (first_some fault_in) (sym c.as_slice.ensures) ∙ c.in_ok-check_variables.ensures.sound)

pub returns-clause-sound : goal.returns-clause-sound
unfolding unknown_level
returns-clause-sound c =
    let fault_in = unknown_fault c.args.frame.now c.args.kept.now c.args.index in
    ap (first_some (λ t. first_some fault_in t.variables)) (sym c.as_slice-terms.ensures)
    ∙ all_none (λ t. first_some fault_in t.variables) c.as_slice-terms.result.now _ c.loop-term-test.false c.loop-term.invariant
