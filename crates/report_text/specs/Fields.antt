-- Inner. How the program's own fields are printed.
use Rattle.std.specs.Prelude.{ℕ, List}
use Rattle.report_text.specs.FaultText.{fraction, fractions, number, place_text, position, spill_text, text, word}
use Rattle.report_text.specs.declared.line.Field.{Field}
use Rattle.report_text.specs.declared.line.Field.TheVariants.{Number, Length, Position, Name, Fraction, Fractions, Place, Spill}

-- a field by its kind
abbrev pub shown : Field → List ℕ
shown (Number name n) = number name.now n
shown (Length name n) = number name.now n
shown (Position name n) = position name.now n
shown (Name name t) = text name.now t.now
shown (Fraction name x) = fraction name.now x.now
shown (Fractions name xs) = fractions name.now xs.now
shown (Place name place) = word name.now (place_text place)
shown (Spill spill) = spill_text spill.now
