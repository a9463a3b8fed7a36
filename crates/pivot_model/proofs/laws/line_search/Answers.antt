use Rattle.pivot_model.proofs.Entering.{enough}
use Rattle.pivot_model.proofs.Passing.{passed}
use Rattle.pivot_model.proofs.laws.line_search.Goals as goal

pub returns : goal.returns
returns c =
    record {
      enters = λ p at a theta j d basis costs lj. enough p at a theta costs j d (basis.distinct.within j lj);
      order = λ p at a theta j d order k r distinct known all. passed p at a j theta d order k r distinct known all;
    }
