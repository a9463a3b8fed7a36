use Rattle.std.specs.Ordering.{is_lt}
use Rattle.std.proofs.Common.{ap, ◌∙◌}
use Rattle.std.proofs.lemmas.Result.{IfOk-weaker, IfErr-weaker}
use Rattle.rational_laws.specs.Fraction.{rational}
use Rattle.walk_model.specs.WalkSpills.{IsStaySpill}
use Rattle.fraction_tableau.specs.Views.{sample_at, rows_at, entries_at}
use Rattle.fraction_tableau.specs.WalkingSteps.{IsStepSpillAt}
use Rattle.tableau_model.proofs.Tests.{not_below_by, is_below_by}
use Rattle.tableau_model.proofs.Steps.{none_behind}
use Rattle.fraction_tableau.proofs.Stepping.{none_left, crossings_spill, first_crosses, step_is, step_spill}
use Rattle.fraction_tableau.proofs.Refusals.{short_weaker}
use Rattle.fraction_tableau.proofs.view.BasisView.step_from.Goals as goal

pub returns-then-not-is_lt-clause-step : goal.returns-then-not-is_lt-clause-step
returns-then-not-is_lt-clause-step g c =
    let value = g.F.Exact.value in
    let view = c.args.self.now in
    let from = rational (value c.args.from) in
    let hi = rational (value c.args.hi) in
    none_behind (sample_at value view) (rows_at value view) (entries_at value view) from hi (not_below_by from hi c.is_lt.result (c.is_lt.ensures ∙ ap is_lt c.compare.ensures) c.if-not-is_lt.true)

pub returns-in-Ok-None-clause-step : goal.returns-in-Ok-None-clause-step
returns-in-Ok-None-clause-step g c =
    let value = g.F.Exact.value in
    let view = c.args.self.now in
    none_left value (sample_at value view) (rows_at value view) (entries_at value view) (rational (value c.args.from)) (rational (value c.args.hi)) (rw c.in-Ok-None.field-0-is at (c.in-Ok-None.ensures {u = tt}).exact)

pub step_at-requires-clause-crosses : goal.step_at-requires-clause-crosses
step_at-requires-clause-crosses g c κs within =
    let value = g.F.Exact.value in
    let view = c.args.self.now in
    first_crosses value (sample_at value view) (rows_at value view) (entries_at value view) (rational (value c.args.from)) c.in-Ok-Some.next c.requires.optimal (rw c.in-Ok-Some.field-0-is at (c.in-Ok-Some.ensures {u = tt}).exact)

pub returns-in-Ok-Some-clause-step : goal.returns-in-Ok-Some-clause-step
returns-in-Ok-Some-clause-step g c =
    let value = g.F.Exact.value in
    let first = rw c.in-Ok-Some.field-0-is at (c.in-Ok-Some.ensures {u = tt}).exact in
    IfOk-weaker c.step_at.result _ _ (step_is value c.args.self.now (rational (value c.args.from)) (rational (value c.args.hi)) c.requires.optimal c.in-Ok-Some.next first) c.step_at.ensures.step

pub returns-in-Ok-Some-clause-spill : goal.returns-in-Ok-Some-clause-spill
returns-in-Ok-Some-clause-spill g c =
    let value = g.F.Exact.value in
    let view = c.args.self.now in
    let from = rational (value c.args.from) in
    let hi = rational (value c.args.hi) in
    let first = rw c.in-Ok-Some.field-0-is at (c.in-Ok-Some.ensures {u = tt}).exact in
    IfErr-weaker c.step_at.result _ _
    (λ e k. short_weaker (IsStepSpillAt value g.F.Exact.range view c.in-Ok-Some.next hi) (IsStaySpill value g.F.Exact.range (sample_at value view) (rows_at value view) (entries_at value view) from hi)
    (step_spill value view from hi c.requires.optimal c.in-Ok-Some.next first g.F.Exact.range) e k) c.step_at.ensures.spill

pub returns-in-Err-clause-spill : goal.returns-in-Err-clause-spill
returns-in-Err-clause-spill g c =
    let value = g.F.Exact.value in
    let view = c.args.self.now in
    let from = rational (value c.args.from) in
    let hi = rational (value c.args.hi) in
    crossings_spill value (sample_at value view) (rows_at value view) (entries_at value view) from hi g.F.Exact.range c.in-Err.spill
    (is_below_by from hi c.is_lt.result (c.is_lt.ensures ∙ ap is_lt c.compare.ensures) c.if-not-is_lt.false) (c.in-Err.ensures {u = tt}).spill
