use Rattle.std.proofs.Common.{refl}
use Rattle.tableau_model.specs.Questions.{Question}
use Rattle.whole_tableau.specs.Kept.{place}
use Rattle.whole_tableau.proofs.body.WholeTableau.exchange_first.Goals as goal

pub returns-in-Err-clause-refused : goal.returns-in-Err-clause-refused
returns-in-Err-clause-refused g c = λ (asked : Question) step. c.failure.ensures (place g.F.Exact.value c.args.self.now) refl asked
