-- Stated. The code of an arithmetic: that of its operands, left first, and then its operation. A leading `+` and
-- parentheses add nothing.
use Rattle.std.specs.Prelude.{ℕ, ◌+◌, ◌-◌, List, [], ◌∷◌, ◌++◌, bytes_eq}
use Rattle.std.specs.List.{position_or_len}
use Rattle.frac_core.specs.declared.arith.ArithOp.{ArithOp}
use Rattle.frac_core.specs.declared.arith.ArithOp.TheVariants.{Load, Constant, Negate, Add, Sub, Mul}
use Rattle.frac_core.specs.declared.arith.ArithOp.TheVariants.{Power as Raise}
use Rattle.formula_arith.specs.Arithmetics.{Text, Sign, Plus, Minus, Lead, Led, Arithmetic, First, More, Product}
use Rattle.formula_arith.specs.Arithmetics.{One, Times, Power, Plain, Raised, Atom, Named, Number, Group}

-- the place of a name among the distinct ones
abbrev pub name_index : List Text → Text → ℕ
name_index names x = position_or_len (λ y. bytes_eq y x) names

-- the operation between two products
abbrev pub signed_op : Sign → ArithOp
signed_op Plus = Add
signed_op Minus = Sub

-- what a leading sign does to the first product
abbrev pub lead_code : Lead → List ArithOp
lead_code (Led Minus) = Negate ∷ []
lead_code l = []

-- `names` are the distinct names of the whole arithmetic
module _ (names : List Text) where
  -- the code of each of these
  abbrev mutual
    pub arithmetic_code : Arithmetic → List ArithOp
    arithmetic_code (First l p) = product_code p ++ lead_code l
    arithmetic_code (More a s p) = arithmetic_code a ++ (product_code p ++ (signed_op s ∷ []))

    pub product_code : Product → List ArithOp
    product_code (One p) = power_code p
    product_code (Times a p) = product_code a ++ (power_code p ++ (Mul ∷ []))

    pub power_code : Power → List ArithOp
    power_code (Plain a) = atom_code a
    power_code (Raised a k) = atom_code a ++ (Raise k ∷ [])

    pub atom_code : Atom → List ArithOp
    atom_code (Named q x) = Load (name_index names x) ∷ []
    atom_code (Number v) = Constant v ∷ []
    atom_code (Group a) = arithmetic_code a

-- how many numbered operations a step has: `A^k` multiplies k - 1 times, and a negation isn't numbered
abbrev pub numbered : ArithOp → ℕ
numbered Add = 1
numbered Sub = 1
numbered Mul = 1
numbered (Raise k) = k - 1
numbered op = 0

-- how many numbered operations some code has
abbrev pub numbered_in : List ArithOp → ℕ
numbered_in [] = 0
numbered_in (op ∷ ops) = numbered op + numbered_in ops
