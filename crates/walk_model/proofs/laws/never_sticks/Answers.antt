use Rattle.walk_model.proofs.Movers.{first_mover, some_row, walk_never_sticks}
use Rattle.walk_model.proofs.Walked.{end_reached}
use Rattle.walk_model.proofs.laws.never_sticks.Goals as goal

pub returns : goal.returns
returns c =
    record {
      first = λ p at a j d basis. first_mover p at a basis j d;
      moves = λ p at a later j d basis. some_row p at a basis j d later;
      goes_on = walk_never_sticks;
      ends = end_reached;
    }
