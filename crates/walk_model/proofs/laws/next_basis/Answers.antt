use Rattle.walk_model.proofs.Trails.{list_exchanged}
use Rattle.walk_model.proofs.NextBasis.{next_basis, next_ends}
use Rattle.walk_model.proofs.laws.next_basis.Goals as goal

pub returns : goal.returns
returns c =
    record {
      list = list_exchanged;
      basis = λ p at next a j r d basis lj first ex. (next_basis p at next a j r d basis lj first ex, next_ends p at next a j r d basis lj first ex);
    }
