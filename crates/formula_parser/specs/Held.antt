-- Stated. What the arithmetics of a formula hold, and which they are.
use Rattle.std.specs.Prelude.{◌≡◌, ◌<◌, ◌^◌, ◌++◌, List, All, Contains, flat_map, option_to_list}
use Rattle.frac_core.specs.declared.arith.Arith.{Arith}
use Rattle.formula_arith.specs.Arithmetics.{Arithmetic}
use Rattle.formula_arith.specs.Codes.{numbered_in}
use Rattle.formula_arith.specs.Evaluations.{IsArithmetic}
use Rattle.formula_arith.specs.Texts.{arithmetic_text}
use Rattle.formula_parser.specs.Columns.{Text}
use Rattle.formula_parser.specs.declared.formula.Formula.{Formula}
use Rattle.formula_parser.specs.declared.formula.Term.{Term}

-- those of a term's variables
abbrev pub term_ariths : Term → List Arith
term_ariths t = flat_map (λ v. option_to_list v.arith) t.variables

-- the arithmetics of a formula: those of the terms, by terms and then by variables, and then the offsets
abbrev pub ariths_of : Formula → List Arith
ariths_of f = flat_map term_ariths f.terms ++ f.offsets

-- it holds the text, the names and the code of one arithmetic, which can be evaluated, and its names are among these
pub record IsHeld (names : List Text) (arith : Arith) : Type 0 where
  pub tree : Arithmetic
  pub text : arith.text ≡ arithmetic_text tree
  pub is : IsArithmetic arith tree
  pub short : numbered_in arith.code < 2 ^ 32
  pub known : All (Contains names) arith.names
