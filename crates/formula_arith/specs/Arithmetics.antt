-- Stated. Arithmetics, one type for each line of the grammar, and their names.
--
--   arith = [ "+" | "-" ] aprod { ( "+" | "-" ) aprod }
--   aprod = apow { "*" apow }
--   apow  = aatom [ "^" DIGITS ]
--   aatom = NAME | NUMBER | "(" arith ")"
use Rattle.std.specs.Prelude.{ℕ, Bool, true, List, [], ◌∷◌, ◌++◌, bytes_eq, cond, nat_le, ◌&&◌}
use Rattle.std.specs.List.{list_any}
use Rattle.frac_core.specs.declared.frac128.Frac128.{Frac128}

-- bytes
abbrev pub Text : Type 0
Text = List ℕ

-- plus or minus
pub data Sign : Type 0 where
  Plus : Sign
  Minus : Sign

-- a leading sign, or none
pub data Lead : Type 0 where
  Bare : Lead
  Led : (sign : Sign) → Lead

mutual
  -- arith: products with the signs between them
  pub data Arithmetic : Type 0 where
    First : (lead : Lead) (only : Product) → Arithmetic
    More : (left : Arithmetic) (sign : Sign) (right : Product) → Arithmetic

  -- aprod: powers with stars between them
  pub data Product : Type 0 where
    One : (only : Power) → Product
    Times : (left : Product) (right : Power) → Product

  -- apow: an atom, or one with an exponent
  pub data Power : Type 0 where
    Plain : (only : Atom) → Power
    Raised : (base : Atom) (exponent : ℕ) → Power

  -- aatom: a name, which may stand in backticks, a number, or an arithmetic in parentheses
  pub data Atom : Type 0 where
    Named : (quoted : Bool) (name : Text) → Atom
    Number : (value : Frac128) → Atom
    Group : (inner : Arithmetic) → Atom

abbrev mutual
  -- the names from left to right
  pub arithmetic_names : Arithmetic → List Text
  arithmetic_names (First l p) = product_names p
  arithmetic_names (More a s p) = arithmetic_names a ++ product_names p

  pub product_names : Product → List Text
  product_names (One p) = power_names p
  product_names (Times a p) = product_names a ++ power_names p

  pub power_names : Power → List Text
  power_names (Plain a) = atom_names a
  power_names (Raised a k) = atom_names a

  pub atom_names : Atom → List Text
  atom_names (Named q x) = x ∷ []
  atom_names (Number v) = []
  atom_names (Group a) = arithmetic_names a

-- a name at the end, where the list lacks it
abbrev pub with_name : List Text → Text → List Text
with_name found x = cond (list_any (λ y. bytes_eq y x) found) found (found ++ x ∷ [])

-- each name once, where it first stands
abbrev pub each_once : List Text → List Text → List Text
each_once found [] = found
each_once found (x ∷ xs) = each_once (with_name found x) xs

-- the distinct names in the order in which they first stand
abbrev pub distinct_names : Arithmetic → List Text
distinct_names a = each_once [] (arithmetic_names a)

-- an exponent is 1 to 8
abbrev pub is_exponent : ℕ → Bool
is_exponent k = nat_le 1 k && nat_le k 8

abbrev mutual
  -- every exponent is 1 to 8
  pub has_exponents : Arithmetic → Bool
  has_exponents (First l p) = product_has p
  has_exponents (More a s p) = has_exponents a && product_has p

  pub product_has : Product → Bool
  product_has (One p) = power_has p
  product_has (Times a p) = product_has a && power_has p

  pub power_has : Power → Bool
  power_has (Plain a) = atom_has a
  power_has (Raised a k) = atom_has a && is_exponent k

  pub atom_has : Atom → Bool
  atom_has (Group a) = has_exponents a
  atom_has a = true
