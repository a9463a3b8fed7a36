use Rattle.rank_model.proofs.Lengths as law
use Rattle.rank_model.proofs.laws.one_length.Goals as goal

pub returns : goal.returns
returns c =
    record {
      one = λ p j c d lj pc pd. law.one_length p j c d lj pc pd;
      entries = law.by_entries;
      weights = law.data_rows_have_weights;
    }
