-- Stated. The code of an arithmetic: its operands, left first, and then its operator. A leading `+` and parentheses add
-- nothing.
use Rattle.std.specs.Prelude.{List, [], ◌∷◌, ◌++◌}
use Rattle.formula_grammar.specs.Words.{Sign, Plus, Minus, ArithPart, ArithStep}
use Rattle.formula_grammar.specs.declared.reading.ArithStep.TheVariants as arith
use Rattle.formula_grammar.specs.Numerals.{power_of}
use Rattle.formula_grammar.specs.Arithmetics.{Lead, Led, Arith, First, More, Aprod, One, Times, Apow, Plain, Raised, Aatom, Leaf, Constant, Group, arith_tokens}

-- the step of a sign between two products
abbrev pub arith_signed_step : Sign → ArithStep
arith_signed_step Plus = arith.Add
arith_signed_step Minus = arith.Sub

-- a leading `-` negates the first product
abbrev pub lead_steps : Lead → List ArithStep
lead_steps (Led Minus n) = arith.Negate ∷ []
lead_steps l = []

abbrev mutual
  -- the code of each of these
  pub arith_code : Arith → List ArithStep
  arith_code (First l p) = aprod_code p ++ lead_steps l
  arith_code (More a s n p) = arith_code a ++ (aprod_code p ++ (arith_signed_step s ∷ []))

  pub aprod_code : Aprod → List ArithStep
  aprod_code (One p) = apow_code p
  aprod_code (Times a n p) = aprod_code a ++ (apow_code p ++ (arith.Mul ∷ []))

  pub apow_code : Apow → List ArithStep
  apow_code (Plain a) = aatom_code a
  apow_code (Raised a n k m) = aatom_code a ++ (arith.Power (power_of k) ∷ [])

  pub aatom_code : Aatom → List ArithStep
  aatom_code (Leaf x n) = arith.Load x ∷ []
  aatom_code (Constant v n) = arith.Constant v ∷ []
  aatom_code (Group o a c) = arith_code a

-- an arithmetic as its tokens and its code
abbrev pub part_of : Arith → ArithPart
part_of a = record { tokens = arith_tokens a; steps = arith_code a }
