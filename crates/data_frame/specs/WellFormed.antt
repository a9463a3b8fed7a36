-- Law. Which records are a table.
use Rattle.std.specs.Prelude.{◌≡◌, ◌≢◌, ◌≤◌, true, List, [], ◌∷◌, All, AllPairs, length}
use Rattle.frac_core.specs.Limits.{most_rows}
use Rattle.data_frame.specs.Records.{Row, Text, are_text}
use Rattle.data_frame.specs.Faults.{names_of}

-- no name is empty, and no two are the same
pub record AreNames (names : List Text) : Type 0 where
  pub filled : All (λ name. name ≢ []) names
  pub distinct : AllPairs (λ a b. a ≢ b) names

-- Every field is UTF-8. The header has at most 1,024 fields, whose names are as they should be but for one that is set
-- aside, and under it stand at most 16,384 records of as many fields.
pub record IsWellFormed (header : Row) (rows : List Row) : Type 0 where
  pub text : All (λ row. are_text row ≡ true) (header ∷ rows)
  pub narrow : length header ≤ 1024
  pub names : AreNames (names_of header)
  pub short : length rows ≤ most_rows
  pub even : All (λ row. length row ≡ length header) rows

-- there is a header, and all is as it should be
abbrev pub AreTable : List Row → Type 0
AreTable [] = ⊥
AreTable (header ∷ rows) = IsWellFormed header rows
