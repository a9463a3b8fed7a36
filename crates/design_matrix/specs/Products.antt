-- Stated. Products from the left, and those that are in the range of fractions.
use Rattle.std.specs.Prelude.{◌≡◌, ◌≤◌, ℕ, List, [], ◌∷◌, length, pos, take}
use Rattle.rational_laws.specs.Rational.{ℚ, ◌*ℚ◌, whole}
use Rattle.frac_core.specs.declared.frac128.Frac128.{Frac128}
use Rattle.frac_core.specs.Values.{exact}

-- a number times the numbers of a list, from the left
abbrev pub product_onto : ℚ → List ℚ → ℚ
product_onto x [] = x
product_onto x (y ∷ ys) = product_onto (x *ℚ y) ys

-- the product of numbers, multiplied from the left
abbrev pub product : List ℚ → ℚ
product xs = product_onto (whole (pos 1)) xs

-- it is a fraction of the program
abbrev pub IsValue : ℚ → Type 0
IsValue x = (v : Frac128) × (exact v ≡ x)

-- so are the products of the first numbers, however many
abbrev pub Fits : List ℚ → Type 0
Fits xs = (t : ℕ) → t ≤ length xs → IsValue (product (take t xs))

-- so are the products of at most the first `term` of them
abbrev pub FitUpTo : List ℚ → ℕ → Type 0
FitUpTo xs term = (t : ℕ) → t ≤ term → IsValue (product (take t xs))
