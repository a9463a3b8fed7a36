use Rattle.data_frame.specs.Records.{records_of}
use Rattle.data_frame.proofs.Accepting.{accepts_tables, tables_accepted}
use Rattle.data_frame.proofs.frame.read_table.Goals as goal

pub returns-clause-accepts : goal.returns-clause-accepts
returns-clause-accepts c = accepts_tables c.read_frame.result (records_of c.args.bytes.now) (rw c.open-reader.ensures.records at c.read_frame.ensures.table)

pub returns-clause-accepted : goal.returns-clause-accepted
returns-clause-accepted c = tables_accepted c.read_frame.result (records_of c.args.bytes.now) (rw c.open-reader.ensures.records at c.read_frame.ensures.fault)
