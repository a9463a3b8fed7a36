-- Stated. The formula of a text over the columns of a table, or its first fault.
use Rattle.std.specs.Prelude.{◌≡◌, ℕ, ◌-◌, ◌++◌, Bool, false, List, [], ◌∷◌, codes, nat_lt, slice_get}
use Rattle.std.specs.Prelude.{map, zip, length, Option, Some, None, is_none, Result, Ok, Err, if◌then◌else◌}
use Rattle.std.specs.List.{filter}
use Rattle.std.specs.List.Sorted.{IsPermutation, IsSortedByKey, IsStableByKey}
use Rattle.std.specs.Ordering.{nat_cmp}
use Rattle.rational_laws.specs.Rational.{ℚ}
use Rattle.formula_parser.specs.Words.{Span, Kind, Name, Token, SmoothPart}
use Rattle.formula_grammar.specs.declared.fault.ReadFault.TheVariants as read_fault
use Rattle.formula_grammar.specs.Numerals.{value_of}
use Rattle.formula_grammar.specs.Grammar.{Formula as Tree}
use Rattle.formula_grammar.specs.Codes.{items_code, has_intercept, offsets_of, smooths_of}
use Rattle.formula_grammar.specs.Faults.{IsFormula, IsFirstFault}
use Rattle.formula_grammar.specs.Tokens.{tokens}
use Rattle.formula_parser.specs.Scope.{Mention, Text, arith_term, column_at, column_of, dot_terms, name_at, named_term, other_columns, piece, variables_of}
pub use Rattle.frac_core.specs.Values.{exact}
pub use Rattle.formula_parser.specs.declared.formula.Variable.{Variable}
pub use Rattle.formula_parser.specs.declared.formula.Term.{Term}
pub use Rattle.formula_parser.specs.declared.formula.Smooth.{Smooth}
pub use Rattle.formula_parser.specs.declared.formula.Formula.{Formula}
pub use Rattle.formula_parser.specs.declared.fault.FormulaFault.{FormulaFault}
pub use Rattle.formula_parser.specs.declared.fault.FormulaFault.TheVariants.{OutOfMemory, Syntax, UnknownName, TooDeep, TooManyTerms, PowerRange, NumberTooWide}
use Rattle.frac_core.specs.declared.arith.Arith.{Arith}
use Rattle.formula_parser.specs.Arithmetics.{ariths_from, part_said}
use Rattle.formula_parser.specs.Terms.{Terms, size}
use Rattle.formula_parser.specs.Terms.{Term as Bools}
use Rattle.formula_parser.specs.Meaning.{items_meaning}

-- ---- names

-- the token is a name that is no column's
abbrev pub is_unknown : Text → List Text → Kind → Bool
is_unknown text names (Name x) = is_none (column_of names (piece text x))
is_unknown text names k = false

-- where the first such name stands
abbrev pub unknown_name : Text → List Text → List Token → Option ℕ
unknown_name text names [] = None
unknown_name text names (t ∷ ts) = if is_unknown text names t.kind then Some t.at else unknown_name text names ts

-- ---- terms and smooths

-- terms by number of variables; ties keep their order
pub record IsBySize (old new : Terms) : Type 0 where
  pub moved : IsPermutation old new
  pub sorted : IsSortedByKey size nat_cmp new
  pub stable : IsStableByKey size nat_cmp old new

-- the arithmetic that counts as a column behind those of the table
abbrev pub arith_of_column : List Text → List Arith → ℕ → Option Arith
arith_of_column names ariths column = if nat_lt column (length names) then None else slice_get ariths (column - length names)

-- `I(`, the text of an arithmetic and `)`
abbrev pub computed_name : Arith → Text
computed_name a = codes "I(" ++ (a.text ++ codes ")")

-- a variable by the name of its column, or by its arithmetic
abbrev pub spoken_by : List Text → Mention → Option Arith → Variable
spoken_by names v None = record { name = name_at names v.column; as_factor = v.as_factor; arith = None }
spoken_by names v (Some a) = record { name = computed_name a; as_factor = v.as_factor; arith = Some a }

-- a variable that was mentioned
abbrev pub spoken_variable : List Text → List Arith → Mention → Variable
spoken_variable names ariths v = spoken_by names v (arith_of_column names ariths v.column)

-- the variables of a term, in their order
abbrev pub members : List Mention → Bools → List Mention
members vs t = map (λ p. p.0) (filter (λ p. p.1) (zip vs t))

-- a term by its variables
abbrev pub spoken_term : List Text → List Arith → List Mention → Bools → Term
spoken_term names ariths vs t = record { variables = map (spoken_variable names ariths) (members vs t) }

-- a smooth, as its name and its number
pub record NamedNumber : Type 0 where
  pub name : Text
  pub lambda : ℚ

-- a smooth that was given
abbrev pub told_smooth : Smooth → NamedNumber
told_smooth s = record { name = s.name; lambda = exact s.lambda }

-- a smooth that the text has
abbrev pub meant_smooth : Text → List Text → SmoothPart → NamedNumber
meant_smooth text names s = record { name = name_at names (column_at text names s.name); lambda = value_of s.lambda }

-- ---- the formula

-- the columns that `.` stands for in this text
abbrev pub others_of : Text → List Text → Span → List ℕ
others_of text names response = other_columns (length names) (column_at text names response)

-- the arithmetics of a formula, each text once, in the order in which they first stand in its text
abbrev pub ariths_in : Text → List Text → Tree → List Arith
ariths_in text names f = ariths_from text names [] (items_code f.items)

-- the variables of a formula, in the order in which they first stand in its text
abbrev pub variables_in : Text → List Text → Tree → List Mention
variables_in text names f = variables_of text names (others_of text names f.head.response) (ariths_in text names f) (items_code f.items)

-- the terms of a formula, or the offset of the first operator that has too many
abbrev pub meaning_of : Text → List Text → Tree → Result Terms ℕ
meaning_of text names f =
    items_meaning (named_term text names (variables_in text names f)) (arith_term text names (ariths_in text names f) (variables_in text names f))
    (dot_terms (variables_in text names f) (others_of text names f.head.response)) f.items

-- the text is a formula over the columns, and this is what it says
pub record IsParsed (text : Text) (names : List Text) (f : Formula) : Type 0 where
  pub formula : Tree
  pub is : IsFormula (tokens text) formula
  pub known : unknown_name text names (tokens text) ≡ None
  pub meaning : Terms
  pub means : meaning_of text names formula ≡ Ok meaning
  pub ordered : Terms
  pub by_size : IsBySize meaning ordered
  pub response : f.response ≡ name_at names (column_at text names formula.head.response)
  pub intercept : f.intercept ≡ has_intercept formula.items
  pub terms : f.terms ≡ map (spoken_term names (ariths_in text names formula) (variables_in text names formula)) ordered
  pub smooths : map told_smooth f.smooths ≡ map (meant_smooth text names) (smooths_of formula.items)
  pub offsets : f.offsets ≡ map (part_said text names) (offsets_of formula.items)

-- the text is a formula, and this is the first name that is no column
pub record HasUnknownName (text : Text) (names : List Text) (n : ℕ) : Type 0 where
  pub formula : Tree
  pub is : IsFormula (tokens text) formula
  pub unknown : unknown_name text names (tokens text) ≡ Some n

-- the text is a formula over the columns, and this is the first operator with too many terms
pub record HasTooManyTerms (text : Text) (names : List Text) (n : ℕ) : Type 0 where
  pub formula : Tree
  pub is : IsFormula (tokens text) formula
  pub known : unknown_name text names (tokens text) ≡ None
  pub many : meaning_of text names formula ≡ Err n

-- why a text is no formula: the first fault from left to right, then an unknown name, then too many terms
abbrev pub IsFault : Text → List Text → FormulaFault → Type 0
IsFault text names OutOfMemory = Unit {0}
IsFault text names (Syntax n) = IsFirstFault (tokens text) (read_fault.Syntax n)
IsFault text names (TooDeep n) = IsFirstFault (tokens text) (read_fault.TooDeep n)
IsFault text names (PowerRange n) = IsFirstFault (tokens text) (read_fault.PowerRange n)
IsFault text names (NumberTooWide n) = IsFirstFault (tokens text) (read_fault.NumberTooWide n)
IsFault text names (UnknownName n) = HasUnknownName text names n
IsFault text names (TooManyTerms n) = HasTooManyTerms text names n
