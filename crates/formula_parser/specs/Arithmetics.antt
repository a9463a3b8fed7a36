-- Stated. The arithmetics of a formula over the names of a table. The text of one is its tokens, with one space on both
-- sides of a `+`, `-` or `*` between two operands and no other spaces, and each number as its number text. A name stands in
-- backticks where it was written so.
use Rattle.std.specs.Prelude.{ℕ, ◌==◌, not, Bool, true, false, List, [], ◌∷◌, ◌++◌, map, length, bytes_eq, codes, decimal, nat_lt, if◌then◌else◌}
use Rattle.std.specs.List.{position_or_len}
use Rattle.frac_core.specs.NumberText.{number_text_of}
use Rattle.frac_core.specs.declared.arith.Arith.{Arith}
use Rattle.frac_core.specs.declared.arith.ArithOp.{ArithOp}
use Rattle.frac_core.specs.declared.arith.ArithOp.TheVariants as op
use Rattle.formula_arith.specs.Arithmetics.{with_name}
use Rattle.formula_arith.specs.Codes.{name_index}
use Rattle.formula_arith.specs.Texts.{between, name_text}
use Rattle.formula_parser.specs.Words.{Span, Sign, Plus, Minus, Numeral, Digits, Kind, Name, Number, Signed}
use Rattle.formula_parser.specs.Words.{Star, Caret, Open, Close, Token, ArithPart, ArithStep, Step, LoadArith}
use Rattle.formula_grammar.specs.declared.reading.ArithStep.TheVariants as step
use Rattle.formula_grammar.specs.Numerals.{fraction_of, power_of}
use Rattle.formula_parser.specs.Columns.{Text, column_at, name_at}

-- a sign, which stands between blanks where it doesn't lead
abbrev pub sign_text : Sign → Bool → Text
sign_text Plus true = codes "+"
sign_text Plus false = between (codes "+")
sign_text Minus true = codes "-"
sign_text Minus false = between (codes "-")

-- a token that is no name and no number
abbrev pub mark_text : Kind → Bool → Text
mark_text (Signed s) leads = sign_text s leads
mark_text Star leads = between (codes "*")
mark_text Caret leads = codes "^"
mark_text Open leads = codes "("
mark_text Close leads = codes ")"
mark_text k leads = []

-- a sign behind this token leads
abbrev pub opens_operand : Kind → Bool
opens_operand Open = true
opens_operand k = false

-- the number text of a number's value
abbrev pub value_text : Numeral → Text
value_text v = number_text_of (record { num = (fraction_of v).num; den = (fraction_of v).den })

-- an exponent as its digits, which are its number text
abbrev pub exponent_text : Numeral → Text
exponent_text (Digits k) = decimal (power_of k)
exponent_text v = value_text v

-- a number behind a token of this kind, as its number text
abbrev pub numeral_text : Kind → Numeral → Text
numeral_text Caret v = exponent_text v
numeral_text last v = value_text v

module _ (text : Text) (names : List Text) where
  -- the name of the column that a piece of the text stands for
  abbrev pub column_name : Span → Text
  column_name x = name_at names (column_at text names x)

  -- a token as it is printed behind one of this kind, by its kind and its place
  abbrev pub kind_text : Kind → Kind → ℕ → Text
  kind_text last (Name x) n = name_text (not (x.start == n)) (column_name x)
  kind_text last (Number v) n = numeral_text last v
  kind_text last k n = mark_text k (opens_operand last)

  -- a token as it is printed behind one of this kind
  abbrev pub token_text : Kind → Token → Text
  token_text last t = kind_text last t.kind t.at

  -- the text of tokens behind a token of this kind
  abbrev pub tokens_text : Kind → List Token → Text
  tokens_text last [] = []
  tokens_text last (t ∷ ts) = token_text last t ++ tokens_text t.kind ts

  -- the names with that of a step, where it has one that isn't there yet
  abbrev pub name_loaded : List Text → ArithStep → List Text
  name_loaded found (step.Load x) = with_name found (column_name x)
  name_loaded found s = found

  -- the distinct names that steps load, behind those that were found
  abbrev pub names_from : List Text → List ArithStep → List Text
  names_from found [] = found
  names_from found (s ∷ ss) = names_from (name_loaded found s) ss

  -- a step whose name is a number
  abbrev pub op_of : List Text → ArithStep → ArithOp
  op_of known (step.Load x) = op.Load (name_index known (column_name x))
  op_of known (step.Constant v) = op.Constant (fraction_of v)
  op_of known step.Negate = op.Negate
  op_of known step.Add = op.Add
  op_of known step.Sub = op.Sub
  op_of known step.Mul = op.Mul
  op_of known (step.Power k) = op.Power k

  -- an arithmetic by its tokens and its code
  abbrev pub part_said : ArithPart → Arith
  part_said p = record {
    text = tokens_text Open p.tokens;
    names = names_from [] p.steps;
    code = map (op_of (names_from [] p.steps)) p.steps;
  }

  -- the place of an arithmetic among others, by its text, or their number
  abbrev pub arith_place : List Arith → ArithPart → ℕ
  arith_place ariths p = position_or_len (λ a. bytes_eq a.text (tokens_text Open p.tokens)) ariths

  -- the arithmetics with one more, where none has its text
  abbrev pub with_arith : List Arith → ArithPart → List Arith
  with_arith found p = if nat_lt (arith_place found p) (length found) then found else (found ++ part_said p ∷ [])

  -- the arithmetics with that of a step, where it has one
  abbrev pub arith_loaded : List Arith → Step → List Arith
  arith_loaded found (LoadArith p) = with_arith found p
  arith_loaded found s = found

  -- the arithmetics that steps load, each text once
  abbrev pub ariths_from : List Arith → List Step → List Arith
  ariths_from found [] = found
  ariths_from found (s ∷ ss) = ariths_from (arith_loaded found s) ss
