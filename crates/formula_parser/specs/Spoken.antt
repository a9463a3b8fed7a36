-- Inner. What the code of a formula says over the columns of a table.
use Rattle.std.specs.Prelude.{◌≡◌, ◌<◌, ◌^◌, ℕ, List, [], All, length, map, Result, Ok, Err}
use Rattle.formula_parser.specs.Words.{ArithPart, LoadArith, Reading, Step}
use Rattle.formula_parser.specs.Scope.{Mention, Text, arith_term, column_at, dot_terms, name_at, named_term, variables_of}
use Rattle.formula_parser.specs.Parsed.{Formula, FormulaFault, Term, OutOfMemory, TooManyTerms, IsBySize, meant_smooth, others_of, spoken_term, told_smooth}
use Rattle.frac_core.specs.declared.arith.Arith.{Arith}
use Rattle.formula_parser.specs.Arithmetics.{ariths_from, part_said}
use Rattle.formula_parser.specs.Terms.{Terms}
use Rattle.formula_parser.specs.Stack.{run_steps}

-- the arithmetics of what was read, each text once
abbrev pub loaded_ariths : Text → List Text → Reading → List Arith
loaded_ariths text names r = ariths_from text names [] r.steps

-- the variables of what was read, in the order in which they first stand
abbrev pub loaded_variables : Text → List Text → Reading → List Mention
loaded_variables text names r = variables_of text names (others_of text names r.response) (loaded_ariths text names r) r.steps

-- the terms that the code leaves, or the operator that has too many
abbrev pub code_meaning : Text → List Text → Reading → Result Terms ℕ
code_meaning text names r =
    run_steps (named_term text names (loaded_variables text names r)) (arith_term text names (loaded_ariths text names r) (loaded_variables text names r))
    (dot_terms (loaded_variables text names r) (others_of text names r.response)) r.steps

-- the terms that steps leave over the columns that `.` stands for and over arithmetics, or the operator that has too many
abbrev pub meaning_by : Text → List Text → List ℕ → List Arith → List Step → Result Terms ℕ
meaning_by text names others ariths steps =
    let vs = variables_of text names others ariths steps in
    run_steps (named_term text names vs) (arith_term text names ariths vs) (dot_terms vs others) steps

-- these are the terms that steps leave, by their number of variables
pub record AreTermsBy (text : Text) (names : List Text) (others : List ℕ) (ariths : List Arith) (steps : List Step) (ts : List Term) : Type 0 where
  pub meaning : Terms
  pub means : meaning_by text names others ariths steps ≡ Ok meaning
  pub ordered : Terms
  pub by_size : IsBySize meaning ordered
  pub terms : ts ≡ map (spoken_term names ariths (variables_of text names others ariths steps)) ordered

-- why steps leave no terms
abbrev pub IsHaltedBy : Result Terms ℕ → FormulaFault → Type 0
IsHaltedBy q OutOfMemory = Unit {0}
IsHaltedBy q (TooManyTerms n) = q ≡ Err n
IsHaltedBy q fault = ⊥

-- the formula has these terms, and else what was read, with its response in this column
pub record IsSaidWith (text : Text) (names : List Text) (r : Reading) (column : ℕ) (ts : List Term) (f : Formula) : Type 0 where
  pub response : f.response ≡ name_at names column
  pub intercept : f.intercept ≡ r.intercept
  pub terms : f.terms ≡ ts
  pub smooths : map told_smooth f.smooths ≡ map (meant_smooth text names) r.smooths
  pub offsets : f.offsets ≡ map (part_said text names) r.offsets

-- the formula is what was read, over the names of the columns
pub record IsSpoken (text : Text) (names : List Text) (r : Reading) (f : Formula) : Type 0 where
  pub meaning : Terms
  pub means : code_meaning text names r ≡ Ok meaning
  pub ordered : Terms
  pub by_size : IsBySize meaning ordered
  pub response : f.response ≡ name_at names (column_at text names r.response)
  pub intercept : f.intercept ≡ r.intercept
  pub terms : f.terms ≡ map (spoken_term names (loaded_ariths text names r) (loaded_variables text names r)) ordered
  pub smooths : map told_smooth f.smooths ≡ map (meant_smooth text names) r.smooths
  pub offsets : f.offsets ≡ map (part_said text names) r.offsets

-- why it can't be said: an operator that has too many terms
abbrev pub IsHalted : Text → List Text → Reading → FormulaFault → Type 0
IsHalted text names r OutOfMemory = Unit {0}
IsHalted text names r (TooManyTerms n) = code_meaning text names r ≡ Err n
IsHalted text names r fault = ⊥

-- the steps of an arithmetic are counted in 32 bits
abbrev pub IsShort : ArithPart → Type 0
IsShort p = length p.steps < 2 ^ 32

-- those of one that a step loads are
abbrev pub LoadsShort : Step → Type 0
LoadsShort (LoadArith p) = IsShort p
LoadsShort s = Unit {0}

-- those of all arithmetics that were read are
pub record IsCounted (r : Reading) : Type 0 where
  pub steps : All LoadsShort r.steps
  pub offsets : All IsShort r.offsets
