-- Stated. The columns of a design.
use Rattle.std.specs.Prelude.{ℕ, ◌*◌, ◌/◌, ◌%◌, ◌++◌, Bool, true, false, List, [], ◌∷◌, codes, length, map, pos, slice_index_or}
use Rattle.std.specs.List.{flat_map, range_with_len}
use Rattle.rational_laws.specs.Rational.{ℚ, whole}
use Rattle.contrasts.specs.declared.Coding.{Coding}
use Rattle.contrasts.specs.Coding.{entry_of, label_of}
use Rattle.data_frame.specs.Records.{Text}
use Rattle.formula_parser.specs.declared.formula.Formula.{Formula}
use Rattle.design_matrix.specs.Cells.{Table}
use Rattle.design_matrix.specs.CodedVariable.{CodedVariable, Values, numeric, categorical, coded_terms, width}

-- one of a variable's columns: what it is called, and its entry at each kept record
pub record Part : Type 0 where
  pub label : Text
  pub entries : List ℚ

-- column j of a variable: the numbers themselves, or what the coding gives at the level of each record
abbrev pub part_in : Text → Coding → Values → ℕ → Part
part_in name coding (numeric xs) j = record { label = name; entries = xs }
part_in name coding (categorical texts places) j = record {
  label = label_of coding texts name j;
  entries = map (λ l. whole (entry_of coding (length texts) l j)) places;
}

-- column j of a variable
abbrev pub part_of : CodedVariable → ℕ → Part
part_of v j = part_in v.name v.coding v.values j

-- One column of each variable. The number n is read with a digit for each: the first variable's is the remainder by the
-- number of its columns, and the quotient has the digits of the others.
abbrev pub chosen : List CodedVariable → ℕ → List Part
chosen [] n = []
chosen (v ∷ vs) n = part_of v (n % width v) ∷ chosen vs (n / width v)

-- how many such numbers there are
abbrev pub count : List CodedVariable → ℕ
count [] = 1
count (v ∷ vs) = width v * count vs

-- the columns of a term, each as the parts that it is the product of
abbrev pub term_columns : List CodedVariable → List (List Part)
term_columns vs = map (chosen vs) (range_with_len 0 (count vs))

-- the columns of a design: the intercept, which is a product of nothing, and those of the terms
abbrev pub columns_in : Bool → List (List CodedVariable) → List (List Part)
columns_in true terms = [] ∷ flat_map term_columns terms
columns_in false terms = flat_map term_columns terms

-- the columns of the design of a table and a formula at the records that are kept
unfoldable pub columns_of : Table → Formula → Coding → List ℕ → List (List Part)
columns_of table model coding records = columns_in model.intercept (coded_terms table model coding records)

-- the labels with colons between
abbrev pub column_name : List Part → Text
column_name [] = codes "(Intercept)"
column_name (p ∷ ps) = p.label ++ flat_map (λ q. 58 ∷ q.label) ps

-- the entries of a column's parts at a kept record
abbrev pub factors : List Part → ℕ → List ℚ
factors column place = map (λ p. slice_index_or p.entries place (whole (pos 0))) column
