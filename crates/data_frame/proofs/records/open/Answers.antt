use Rattle.data_frame.proofs.Reading.{opened, opened_short}
use Rattle.data_frame.proofs.records.open.Goals as goal

pub returns-clause-records : goal.returns-clause-records
returns-clause-records c = opened c.from_reader.result c.args.bytes.now c.from_reader.ensures.state c.from_reader.ensures.source

pub returns-clause-unread : goal.returns-clause-unread
returns-clause-unread c = opened_short c.from_reader.result c.args.bytes.now c.from_reader.ensures.source
