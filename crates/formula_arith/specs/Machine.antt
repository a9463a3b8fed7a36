-- Stated. The steps of an arithmetic's code on a stack of values, the top first. A missing operand is 0.
use Rattle.std.specs.Prelude.{◌≡◌, ℕ, ◌+◌, ◌-◌, List, [], ◌∷◌, ◌++◌, map, pos, reverse, slice_index_or}
use Rattle.rational_laws.specs.Rational.{ℚ, ◌+ℚ◌, ◌-ℚ◌, ◌*ℚ◌, neg_ℚ, whole}
use Rattle.frac_core.specs.declared.exact.Op.{Op}
use Rattle.frac_core.specs.declared.frac128.Frac128.{Frac128}
use Rattle.frac_core.specs.declared.arith.ArithOp.{ArithOp}
use Rattle.frac_core.specs.declared.arith.ArithOp.TheVariants.{Load, Constant, Negate, Add, Sub, Mul, Power}
use Rattle.frac_core.specs.Values.{exact}
use Rattle.formula_arith.specs.declared.operands.Operands.{Operands}
use Rattle.formula_arith.specs.declared.fault.ArithFault.{ArithFault}
use Rattle.formula_arith.specs.declared.fault.ArithFault.TheVariants.{OutOfMemory, Overflow}
use Rattle.formula_arith.specs.Arithmetics.{Plus, Minus}
use Rattle.formula_arith.specs.Values.{Operation, multiplication, power_multiplications, raised_by, signed_operation}
use Rattle.formula_arith.specs.Evaluations.{IsFirstOverflow, IsOverflowOf}

-- a stack of fractions as their values
abbrev pub stacked : Operands → List ℚ
stacked s = map exact (reverse s.values.items)

-- the last value
abbrev pub top : List ℚ → ℚ
top [] = whole (pos 0)
top (x ∷ stack) = x

-- those before it
abbrev pub below : List ℚ → List ℚ
below [] = []
below (x ∷ stack) = stack

-- the operations of a step
abbrev pub step_operations : ArithOp → List ℚ → List Operation
step_operations Add stack = signed_operation Plus (top (below stack)) (top stack) ∷ []
step_operations Sub stack = signed_operation Minus (top (below stack)) (top stack) ∷ []
step_operations Mul stack = multiplication (top (below stack)) (top stack) ∷ []
step_operations (Power k) stack = power_multiplications (k - 1) (top stack)
step_operations op stack = []

module _ (values : List ℚ) where
  -- one step
  abbrev pub act : ArithOp → List ℚ → List ℚ
  act (Load n) stack = slice_index_or values n (whole (pos 0)) ∷ stack
  act (Constant v) stack = exact v ∷ stack
  act Negate stack = neg_ℚ (top stack) ∷ below stack
  act Add stack = (top (below stack) +ℚ top stack) ∷ below (below stack)
  act Sub stack = (top (below stack) -ℚ top stack) ∷ below (below stack)
  act Mul stack = (top (below stack) *ℚ top stack) ∷ below (below stack)
  act (Power k) stack = raised_by (k - 1) (top stack) ∷ below stack

  -- step after step
  abbrev pub exec : List ArithOp → List ℚ → List ℚ
  exec [] stack = stack
  exec (op ∷ ops) stack = exec ops (act op stack)

  -- the operations of steps, in order
  abbrev pub code_operations : List ArithOp → List ℚ → List Operation
  code_operations [] stack = []
  code_operations (op ∷ ops) stack = step_operations op stack ++ code_operations ops (act op stack)

-- behind so many operations, the fault names the first of these that overflows, or memory ended
abbrev pub Halts : ℕ → List Operation → ArithFault → Type 0
Halts count os OutOfMemory = Unit {0}
Halts count os (Overflow term op) = (n : ℕ) × IsFirstOverflow os n op × (term ≡ count + n)

-- the fault names this operation, which overflows, by this number
pub record IsNamed (term : ℕ) (o : Operation) (fault : ArithFault) : Type 0 where
  pub op : Op Frac128
  pub named : fault ≡ Overflow term op
  pub overflows : IsOverflowOf o op
