-- Stated. The value of an arithmetic, and its operations in the order of its code: operands first, and left first. A
-- negation is no operation, for it never overflows.
use Rattle.std.specs.Prelude.{ℕ, zero, suc, ◌-◌, List, [], ◌∷◌, ◌++◌}
use Rattle.rational_laws.specs.Rational.{ℚ, ◌+ℚ◌, ◌-ℚ◌, ◌*ℚ◌, neg_ℚ}
use Rattle.frac_core.specs.declared.exact.OpKind.{OpKind}
use Rattle.frac_core.specs.declared.exact.OpKind.TheVariants.{Add, Sub, Mul}
use Rattle.frac_core.specs.Values.{exact}
use Rattle.formula_arith.specs.Arithmetics.{Text, Sign, Plus, Minus, Lead, Led, Arithmetic, First, More, Product}
use Rattle.formula_arith.specs.Arithmetics.{One, Times, Power, Plain, Raised, Atom, Named, Number, Group}

-- by a plus or by a minus
abbrev pub combined : Sign → ℚ → ℚ → ℚ
combined Plus x y = x +ℚ y
combined Minus x y = x -ℚ y

-- a leading `-` negates the first product, and a leading `+` adds nothing
abbrev pub led : Lead → ℚ → ℚ
led (Led Minus) x = neg_ℚ x
led l x = x

-- x^(1 + n): factors are multiplied from the left
abbrev pub raised_by : ℕ → ℚ → ℚ
raised_by zero x = x
raised_by (suc n) x = raised_by n x *ℚ x

-- `given` has the value of each name
module _ (given : Text → ℚ) where
  -- the value of each of these
  abbrev mutual
    pub arithmetic_value : Arithmetic → ℚ
    arithmetic_value (First l p) = led l (product_value p)
    arithmetic_value (More a s p) = combined s (arithmetic_value a) (product_value p)

    pub product_value : Product → ℚ
    product_value (One p) = power_value p
    product_value (Times a p) = product_value a *ℚ power_value p

    pub power_value : Power → ℚ
    power_value (Plain a) = atom_value a
    power_value (Raised a k) = raised_by (k - 1) (atom_value a)

    pub atom_value : Atom → ℚ
    atom_value (Named q x) = given x
    atom_value (Number v) = exact v
    atom_value (Group a) = arithmetic_value a

-- an operation by its operands
pub record Operation : Type 0 where
  pub kind : OpKind
  pub left : ℚ
  pub right : ℚ

-- the operation between two products
abbrev pub signed_operation : Sign → ℚ → ℚ → Operation
signed_operation Plus x y = record { kind = Add; left = x; right = y }
signed_operation Minus x y = record { kind = Sub; left = x; right = y }

-- a multiplication
abbrev pub multiplication : ℚ → ℚ → Operation
multiplication x y = record { kind = Mul; left = x; right = y }

-- the n multiplications of x^(1 + n)
abbrev pub power_multiplications : ℕ → ℚ → List Operation
power_multiplications zero x = []
power_multiplications (suc n) x = power_multiplications n x ++ (multiplication (raised_by n x) x ∷ [])

module _ (given : Text → ℚ) where
  -- the operations of each of these
  abbrev mutual
    pub arithmetic_operations : Arithmetic → List Operation
    arithmetic_operations (First l p) = product_operations p
    arithmetic_operations (More a s p) =
        arithmetic_operations a ++ (product_operations p ++ (signed_operation s (arithmetic_value given a) (product_value given p) ∷ []))

    pub product_operations : Product → List Operation
    product_operations (One p) = power_operations p
    product_operations (Times a p) = product_operations a ++ (power_operations p ++ (multiplication (product_value given a) (power_value given p) ∷ []))

    pub power_operations : Power → List Operation
    power_operations (Plain a) = atom_operations a
    power_operations (Raised a k) = atom_operations a ++ power_multiplications (k - 1) (atom_value given a)

    pub atom_operations : Atom → List Operation
    atom_operations (Group a) = arithmetic_operations a
    atom_operations a = []
