use Rattle.std.proofs.Common.{sym}
use Rattle.csv.specs.Records.{fields_of}
use Rattle.data_frame.proofs.Fields.{field_is, field_none}
use Rattle.data_frame.proofs.records.text_at.Goals as goal

pub returns-in-Some : goal.returns-in-Some
returns-in-Some c = sym (field_is (fields_of c.args.row.now) c.args.place c.in-Some.text.now (sym c.in-Some.ensures.value))

pub returns-in-None : goal.returns-in-None
returns-in-None c = sym (field_none (fields_of c.args.row.now) c.args.place (sym c.in-None.ensures.value))
