-- Inner. The text that a page is said to have, and the mark of a row on a side.
use Rattle.std.specs.Prelude.{ℕ, Bool, List, [], ◌∷◌, ◌++◌}
use Rattle.loss_model.specs.declared.vertex.Side.{Side}
use Rattle.ratio.specs.Text.{ratio_text}
use Rattle.report_text.specs.declared.ghost_text.Said.{Said}
use Rattle.report_text.specs.declared.ghost_text.Said.TheVariants.{Nothing, Bytes, Fraction, Marks}
use Rattle.report_text.specs.ReportText.{numbered, row_mark, score_mark}

-- no text, or an earlier one and behind it bytes as they stand, or a fraction in its text, or the marks of rows
abbrev pub said_text : Said → List ℕ
said_text Nothing = []
said_text (Bytes before bytes) = before.now.text ++ bytes.now
said_text (Fraction before number) = before.now.text ++ ratio_text number.now
said_text (Marks before n sides) = before.now.text ++ numbered (row_mark n) 0 sides.now

-- the mark of a row on a side, a data row or none
abbrev pub side_mark : Bool → Side → List ℕ
side_mark is_data side = score_mark is_data side ∷ []
