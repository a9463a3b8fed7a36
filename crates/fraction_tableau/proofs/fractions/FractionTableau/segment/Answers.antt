use Rattle.std.proofs.Common.{slice_index, refl}
use Rattle.rational_laws.specs.Fraction.{rational}
use Rattle.loss_model.specs.Problem.{sample}
use Rattle.basis_inverse.specs.Square.{inverse_entry}
use Rattle.walk_model.specs.WalkSpills.{IsStaySpill}
use Rattle.tableau_model.specs.Questions.{walking}
use Rattle.fraction_tableau.specs.Kept.{place}
use Rattle.fraction_tableau.proofs.Refusals.{short_refused}
use Rattle.fraction_tableau.proofs.fractions.FractionTableau.segment.Goals as goal

pub returns-in-Err-clause-refused : goal.returns-in-Err-clause-refused
returns-in-Err-clause-refused g c = λ hi stay.
    let value = g.F.Exact.value in
    let range = g.F.Exact.range in
    let k = c.args.self.now in
    let from = rational (value c.args.from) in
    short_refused value range (place value k) (walking from hi) (IsStaySpill value range (sample value k.problem) (slice_index k.rows) (inverse_entry value k.square) from hi) c.in-Err.short c.failure.result refl (λ s h. h)
    ((c.in-Err.ensures {u = tt}).refused hi stay) c.failure.ensures
