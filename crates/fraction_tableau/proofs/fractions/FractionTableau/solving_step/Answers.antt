use Rattle.std.proofs.Common.{slice_index, refl}
use Rattle.rational_laws.specs.Fraction.{rational}
use Rattle.loss_model.specs.Problem.{sample}
use Rattle.basis_inverse.specs.Square.{inverse_entry}
use Rattle.pivot_model.specs.Spills.{IsStepSpill}
use Rattle.tableau_model.specs.Questions.{solving}
use Rattle.fraction_tableau.specs.Kept.{place}
use Rattle.fraction_tableau.proofs.Refusals.{short_refused}
use Rattle.fraction_tableau.proofs.fractions.FractionTableau.solving_step.Goals as goal

pub returns-clause-refused : goal.returns-clause-refused
returns-clause-refused g c =
    let value = g.F.Exact.value in
    let range = g.F.Exact.range in
    let k = c.args.self.now in
    let theta = rational (value c.args.theta) in
    short_refused value range (place value k) (solving theta) (IsStepSpill value range (sample value k.problem) (slice_index k.rows) (inverse_entry value k.square) theta) c.in-Err.short c.failure.result refl (λ s h. h)
    (c.in-Err.ensures {u = tt}).spilled c.failure.ensures
