-- Stated. The variables of terms with their values at the kept records and their codings (Chambers and Hastie 1992,
-- chapter 2; the rule for terms of two or more variables is this project's own).
use Rattle.std.specs.Prelude.{◌==◌, ℕ, ◌+◌, ◌++◌, ◌&&◌, ◌||◌, Bool, true, false, List, [], ◌∷◌}
use Rattle.std.specs.Prelude.{Option, Some, None, is_none, is_some, codes, length, map, take, drop, if◌then◌else◌}
use Rattle.std.specs.List.{list_all, list_any}
use Rattle.std.specs.Str.{bytes_eq}
use Rattle.std.specs.declared.cmp.Ordering.{Ordering}
use Rattle.rational_laws.specs.Rational.{ℚ}
use Rattle.contrasts.specs.declared.Coding.{Coding}
use Rattle.contrasts.specs.declared.Coding.TheVariants.{Indicator}
use Rattle.contrasts.specs.Coding.{width_of}
use Rattle.data_frame.specs.Cells.{numbers, factor, too_wide}
use Rattle.data_frame.specs.Records.{Text}
use Rattle.formula_parser.specs.declared.formula.Variable.{Variable}
use Rattle.formula_parser.specs.declared.formula.Term.{Term}
use Rattle.formula_parser.specs.declared.formula.Formula.{Formula}
use Rattle.design_matrix.specs.Lists.{each}
use Rattle.frac_core.specs.declared.arith.Arith.{Arith}
use Rattle.design_matrix.specs.Computed.{arith_at}
use Rattle.design_matrix.specs.Cells.{Column, Table, column_of, number_in, present}
use Rattle.design_matrix.specs.Levels.{level_of, levels_of, number_order, number_text, text_order}

-- what a variable is at the kept records: numbers, or a factor by the texts of its levels and the level of each record
pub data Values : Type 0 where
  numeric : List ℚ → Values
  categorical : List Text → List ℕ → Values

-- a variable of a term: its name as it is printed, its values, and the coding of a factor
pub record CodedVariable : Type 0 where
  pub name : Text
  pub coding : Coding
  pub values : Values

-- a factor by its cells at the kept records: the texts of its levels, and the level of each cell
abbrev pub factor_values : {K : Type 0} → (K → K → Ordering) → (K → Text) → List K → Values
factor_values order spelled cells =
    categorical (map spelled (levels_of order cells)) (map (level_of order (levels_of order cells)) cells)

-- the values of a column, as numbers or as a factor
abbrev pub values_in : Bool → Column → List ℕ → Values
values_in as_factor (factor cells) records = factor_values text_order (λ text. text) (present cells records)
values_in true (numbers cells) records = factor_values number_order number_text (present cells records)
values_in false (numbers cells) records = numeric (map (number_in cells) records)
values_in as_factor (too_wide rec) records = numeric []

-- the values of a variable: those of its column, or what its arithmetic comes to
abbrev pub values_by : Table → Variable → Option Arith → List ℕ → Values
values_by table v None records = values_in v.as_factor (column_of table v.name) records
values_by table v (Some a) records = numeric (map (arith_at table a) records)

-- the name of a variable in names of columns: factor(NAME) where `factor` was written
abbrev pub printed_name : Bool → Text → Text
printed_name true name = codes "factor(" ++ (name ++ codes ")")
printed_name false name = name

-- the column is a factor
abbrev pub is_text : Column → Bool
is_text (numbers cells) = false
is_text (factor cells) = true
is_text (too_wide rec) = false

-- the column is a factor, or `factor` was written; an arithmetic is none
unfoldable pub is_factor : Table → Variable → Bool
is_factor table v = is_none v.arith && (v.as_factor || is_text (column_of table v.name))

-- both are true, or both false
abbrev pub same_bool : Bool → Bool → Bool
same_bool true b = b
same_bool false true = false
same_bool false false = true

-- of the same name, and both or neither an arithmetic, or written with `factor`
abbrev pub same_variable : Variable → Variable → Bool
same_variable v w = bytes_eq v.name w.name && (same_bool v.as_factor w.as_factor && same_bool (is_some v.arith) (is_some w.arith))

-- the same variables in the same order
abbrev pub same_variables : List Variable → List Variable → Bool
same_variables [] [] = true
same_variables [] (w ∷ ws) = false
same_variables (v ∷ vs) [] = false
same_variables (v ∷ vs) (w ∷ ws) = same_variable v w && same_variables vs ws

-- the variables without the one at the place
abbrev pub without : ℕ → List Variable → List Variable
without place vs = take place vs ++ drop (place + 1) vs

-- one of the terms has just these variables
unfoldable pub is_in_model : List Term → List Variable → Bool
is_in_model terms vs = list_any (λ t. same_variables vs t.variables) terms

-- the term is one factor
unfoldable pub is_whole_factor : Table → Term → Bool
is_whole_factor table t = (length t.variables == 1) && list_all (is_factor table) t.variables

-- The columns of a factor would add up to columns that the model has: where the factor is the whole term, to the
-- intercept or to those of an earlier term that is a factor; in a longer term, to those of the term without it.
unfoldable pub is_spanned : Table → Formula → ℕ → List Variable → ℕ → Bool
is_spanned table model number vs place =
    if length vs == 1
    then model.intercept || list_any (is_whole_factor table) (take number model.terms)
    else is_in_model model.terms (without place vs)

-- there a factor is coded by contrasts, else by indicators
abbrev pub coding_of : Table → Formula → Coding → ℕ → List Variable → ℕ → Coding
coding_of table model contrasts number vs place =
    if is_spanned table model number vs place then contrasts else Indicator

-- a variable at a place of the term of this number
unfoldable pub coded_variable : Table → Formula → Coding → List ℕ → ℕ → List Variable → ℕ → Variable → CodedVariable
coded_variable table model contrasts records number vs place v = record {
  name = printed_name v.as_factor v.name;
  coding = coding_of table model contrasts number vs place;
  values = values_by table v v.arith records;
}

-- the variables of the term of this number, each at its place
abbrev pub coded_term : Table → Formula → Coding → List ℕ → ℕ → Term → List CodedVariable
coded_term table model contrasts records number t =
    each (coded_variable table model contrasts records number t.variables) 0 t.variables

-- the terms of a formula, variable by variable
unfoldable pub coded_terms : Table → Formula → Coding → List ℕ → List (List CodedVariable)
coded_terms table model contrasts records = each (coded_term table model contrasts records) 0 model.terms

-- the number of a variable's columns
abbrev pub width_in : Coding → Values → ℕ
width_in coding (numeric xs) = 1
width_in coding (categorical texts places) = width_of coding (length texts)

-- the number of columns of a coded variable
abbrev pub width : CodedVariable → ℕ
width v = width_in v.coding v.values
