use Rattle.std.proofs.Common.{refl}
use Rattle.loss_model.specs.Quantities.{IsExchangeSpill}
use Rattle.loss_model.specs.Problem.{sample}
use Rattle.basis_inverse.specs.Square.{inverse_entry}
use Rattle.tableau_model.specs.Questions.{Question}
use Rattle.fraction_tableau.specs.Kept.{place}
use Rattle.fraction_tableau.proofs.Places.{kept_is_place}
use Rattle.fraction_tableau.proofs.Refusals.{short_refused, exchange_spill}
use Rattle.fraction_tableau.proofs.fractions.FractionTableau.exchange.Goals as goal

pub returns-in-Ok-clause-place : goal.returns-in-Ok-clause-place
returns-in-Ok-clause-place g c = kept_is_place g.F.Exact.value _ (c.in-Ok.ensures {u = tt}).kept

pub returns-in-Err-clause-refused : goal.returns-in-Err-clause-refused
returns-in-Err-clause-refused g c = λ (asked : Question) step.
    let value = g.F.Exact.value in
    let range = g.F.Exact.range in
    let k = c.args.self.now in
    let p = sample value k.problem in
    short_refused value range (place value k) asked (IsExchangeSpill value range p.columns (inverse_entry value k.square) (p.x c.args.step.row) c.args.step.row c.args.step.position) c.in-Err.short c.failure.result refl
    (λ s h. exchange_spill value range (place value k) asked c.args.step.position c.args.step.row s step h) (c.in-Err.ensures {u = tt}).spill c.failure.ensures
