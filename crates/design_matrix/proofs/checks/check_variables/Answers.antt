use Rattle.std.proofs.Common.{inr, sym, ◌∙◌}
use Rattle.design_matrix.specs.Faults.{level_fault, levels_fault}
use Rattle.design_matrix.specs.Views.{coded_seen}
use Rattle.design_matrix.proofs.Firsts.{first_all, first_found, first_more}
use Rattle.design_matrix.proofs.Usable.{level_found, level_none}
use Rattle.design_matrix.proofs.checks.check_variables.Goals as goal

pub returns-then-width-eq0-clause-fault : goal.returns-then-width-eq0-clause-fault
unfolding levels_fault
returns-then-width-eq0-clause-fault c =
    inr (first_found level_fault coded_seen _ _ _ _ c.loop-variable-test.true c.variable-item.is c.loop-variable.invariant
    (level_found _ _ (sym c.width.ensures ∙ c.if-width-eq0.true) (c.in_ok-new.ensures ∙ c.as_str.ensures)))

pub loop-variable-preserved : goal.loop-variable-preserved
loop-variable-preserved c =
    first_more level_fault coded_seen _ _ _ c.loop-variable-test.true c.variable-item.is c.loop-variable.invariant
    (level_none _ (λ e. c.if-width-eq0.false (c.width.ensures ∙ e)))

pub returns-clause-sound : goal.returns-clause-sound
unfolding levels_fault
returns-clause-sound c = first_all level_fault coded_seen _ _ c.loop-variable-test.false c.loop-variable.invariant
