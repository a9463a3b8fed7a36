-- Inner. What a reader of records has yet to give.
use Rattle.std.specs.Prelude.{◌≡◌, ◌≤◌, ℕ, ◌+◌, ◌-◌, true, false, List, [], ◌∷◌, Option, Some, length, unwrap_or}
use Rattle.std.specs.Borrow.{Bor}
use Rattle.csv.specs.Reading.{Ready, default_config, is_flexible, reader_config, reader_state, reader_trim, records_from, source_of}
use Rattle.csv.specs.declared.reader.Reader.{Reader}
use Rattle.csv.specs.declared.reader.Trim.TheVariants as trim
use Rattle.csv.specs.declared.parser.State.{State}
use Rattle.data_frame.specs.Records.{Row, are_text}
use Rattle.data_frame.specs.declared.records.NextRecord.{NextRecord}
use Rattle.data_frame.specs.declared.records.NextRecord.TheVariants as found

-- a reader over bytes in memory
abbrev pub Records : Type 0
Records = Reader (Bor (List ℕ))

-- the bytes that are left in a slice
abbrev pub remaining : Bor (List ℕ) → Option (List ℕ)
remaining s = Some s.now

-- the bytes that are left
abbrev pub unread : Records → List ℕ
unread r = unwrap_or (source_of remaining r) []

-- the records of these bytes from a state
unfoldable pub left_from : State → List ℕ → List Row
left_from s bytes = records_from default_config (length bytes + 1) s bytes

-- the records that are left
abbrev pub left_of : Records → List Row
left_of r = left_from (reader_state r) (unread r)

-- the reader is set up as a table is read, and has not failed
pub record IsReading (r : Records) : Type 0 where
  pub trim : reader_trim r ≡ trim.None
  pub ready : Ready r
  pub config : reader_config r ≡ default_config
  pub flexible : is_flexible r ≡ true
  pub source : source_of remaining r ≡ Some (unread r)

-- the next record was taken: it has these fields, no more than one for each byte that was left and one more
pub record TakesRow (old new : Records) (fields : Row) : Type 0 where
  pub next : left_of old ≡ fields ∷ left_of new
  pub text : are_text fields ≡ true
  pub reading : IsReading new
  pub few : length fields ≤ length (unread old) + 1
  pub shorter : length (unread new) ≤ length (unread old) - 1

-- what a read found: the next record into `fields`, one that is no text, or the end
abbrev pub Finds : Records → Records → Row → NextRecord → Type 0
Finds old new fields found.Row = TakesRow old new fields
Finds old new fields found.NotText =
    (row : Row) × (rest : List Row) × (left_of old ≡ row ∷ rest) × (are_text row ≡ false)
Finds old new fields found.End = left_of old ≡ []
