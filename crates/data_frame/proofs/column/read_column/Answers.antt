use Rattle.csv.specs.Records.{fields_of}
use Rattle.data_frame.proofs.Numeric.{factor_column}
use Rattle.data_frame.proofs.column.read_column.Goals as goal

pub returns-in_ok-read_texts-in-None : goal.returns-in_ok-read_texts-in-None
returns-in_ok-read_texts-in-None c =
    let word = rw c.in-None.is at c.in_ok-column.ensures in
    rw c.in_ok-read_texts-in-None.ensures (factor_column (fields_of c.args.cells.now) word)
