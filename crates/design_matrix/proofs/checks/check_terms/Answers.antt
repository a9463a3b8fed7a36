use Rattle.std.proofs.Common.{ap, inl, inr, map, sym, ◌∙◌}
use Rattle.std.proofs.lemmas.Result.{err_from_is_err_and}
use Rattle.design_matrix.specs.Faults.{levels_fault, terms_fault}
use Rattle.design_matrix.specs.Views.{coded_seen}
use Rattle.design_matrix.proofs.Firsts.{first_all, first_found, first_more}
use Rattle.design_matrix.proofs.checks.check_terms.Goals as goal

pub returns-in_err-check_variables-clause-fault : goal.returns-in_err-check_variables-clause-fault
unfolding terms_fault
returns-in_err-check_variables-clause-fault c =
    let p = err_from_is_err_and c.from_residual.result c.from_residual.ensures.1 in
    rw (p.1, p.2) (elim c.in_err-check_variables.ensures.fault [
      | inl memory ↦ inl memory
      | inr fault ↦ inr (first_found levels_fault (λ vs. map coded_seen vs.items) _ _ _ _ c.loop-term-test.true c.term-item.is c.loop-term.invariant
          (ap (λ l. levels_fault (map coded_seen l)) (sym c.deref.ensures.value) ∙ fault))
    ])

pub loop-term-preserved : goal.loop-term-preserved
loop-term-preserved c =
    first_more levels_fault (λ vs. map coded_seen vs.items) _ _ _ c.loop-term-test.true c.term-item.is c.loop-term.invariant
    (ap (λ l. levels_fault (map coded_seen l)) (sym c.deref.ensures.value) ∙ c.in_ok-check_variables.ensures.sound)

pub returns-clause-sound : goal.returns-clause-sound
unfolding terms_fault
returns-clause-sound c = first_all levels_fault (λ vs. map coded_seen vs.items) _ _ c.loop-term-test.false c.loop-term.invariant
