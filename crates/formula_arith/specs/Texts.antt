-- Stated. The text of an arithmetic: its tokens, with one space on both sides of a `+`, `-` or `*` between two operands
-- and no other spaces. A name stands in backticks where it was written so, and each number is its number text.
use Rattle.std.specs.Prelude.{Bool, true, false, [], ◌++◌, codes, decimal}
use Rattle.frac_core.specs.NumberText.{number_text_of}
use Rattle.formula_arith.specs.Arithmetics.{Text, Sign, Plus, Minus, Lead, Bare, Led, Arithmetic, First, More}
use Rattle.formula_arith.specs.Arithmetics.{Product, One, Times, Power, Plain, Raised, Atom, Named, Number, Group}

-- the byte of a sign
abbrev pub sign_text : Sign → Text
sign_text Plus = codes "+"
sign_text Minus = codes "-"

-- a leading sign stands without a space
abbrev pub lead_text : Lead → Text
lead_text Bare = []
lead_text (Led s) = sign_text s

-- the text of an operator between two operands
abbrev pub between : Text → Text
between mark = codes " " ++ mark ++ codes " "

-- a name, in backticks or without them
abbrev pub name_text : Bool → Text → Text
name_text true x = codes "`" ++ x ++ codes "`"
name_text false x = x

-- the text of each of these
abbrev mutual
  pub arithmetic_text : Arithmetic → Text
  arithmetic_text (First l p) = lead_text l ++ product_text p
  arithmetic_text (More a s p) = arithmetic_text a ++ between (sign_text s) ++ product_text p

  pub product_text : Product → Text
  product_text (One p) = power_text p
  product_text (Times a p) = product_text a ++ between (codes "*") ++ power_text p

  pub power_text : Power → Text
  power_text (Plain a) = atom_text a
  power_text (Raised a k) = atom_text a ++ codes "^" ++ decimal k

  pub atom_text : Atom → Text
  atom_text (Named q x) = name_text q x
  atom_text (Number v) = number_text_of (record { num = v.num; den = v.den })
  atom_text (Group a) = codes "(" ++ arithmetic_text a ++ codes ")"
