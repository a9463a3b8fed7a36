-- Stated. When an operation on fractions of limited size is refused (Knuth, TAOCP 4.5.1, for the sum).
use Rattle.std.specs.Prelude.{ℕ, ℤ, pos, ◌≡◌, ◌*◌, ◌/◌, ◌≤◌, ◌+ℤ◌, ◌*ℤ◌, neg_ℤ, unsigned_abs, int_lt, if◌then◌else◌}
use Rattle.rational_laws.specs.Fraction.{Fraction}
use Rattle.frac_core.specs.Gcd.{gcd}
use Rattle.frac_core.specs.declared.exact.OpKind.{OpKind}
use Rattle.frac_core.specs.declared.exact.OpKind.TheVariants.{Add, Sub, Mul, Div}

-- a fraction in lowest terms, neither part of which is beyond `range`
pub record IsWithin (range : ℕ) (x : Fraction) : Type 0 where
  pub positive : 1 ≤ x.den
  pub lowest : gcd (unsigned_abs x.num) x.den ≡ 1
  pub num_fits : unsigned_abs x.num ≤ range
  pub den_fits : x.den ≤ range

-- -x
abbrev pub negated : Fraction → Fraction
negated x = record { num = neg_ℤ x.num; den = x.den }

-- 1/x, where x is not 0
abbrev pub inverse_of : Fraction → Fraction
inverse_of x = record { num = if int_lt x.num (pos 0) then neg_ℤ (pos x.den) else pos x.den; den = unsigned_abs x.num }

-- n/d in lowest terms is within `range`
pub record ReducesWithin (range : ℕ) (n : ℤ) (d : ℕ) : Type 0 where
  pub num : unsigned_abs n / gcd (unsigned_abs n) d ≤ range
  pub den : d / gcd (unsigned_abs n) d ≤ range

-- the numbers of a sum a/b + c/d: a*(d/g), c*(b/g) and their sum t, where g is gcd(b, d)
abbrev pub left_part : Fraction → Fraction → ℤ
left_part x y = x.num *ℤ pos (y.den / gcd x.den y.den)

-- c*(b/g)
abbrev pub right_part : Fraction → Fraction → ℤ
right_part x y = y.num *ℤ pos (x.den / gcd x.den y.den)

-- t, their sum
abbrev pub joined : Fraction → Fraction → ℤ
joined x y = left_part x y +ℤ right_part x y

-- (b/g)*(d/g2), where g2 is gcd(t, g)
abbrev pub sum_den : Fraction → Fraction → ℕ
sum_den x y = x.den / gcd x.den y.den * (y.den / gcd (unsigned_abs (joined x y)) (gcd x.den y.den))

-- none of these four numbers is beyond `range`
pub record SumFits (range : ℕ) (x y : Fraction) : Type 0 where
  pub left : unsigned_abs (left_part x y) ≤ range
  pub right : unsigned_abs (right_part x y) ≤ range
  pub sum : unsigned_abs (joined x y) ≤ range
  pub den : sum_den x y ≤ range

-- the numbers that the operation needs are within `range`; a difference is a sum with the second negated,
-- a quotient a product with it inverted
abbrev pub Fits : ℕ → OpKind → Fraction → Fraction → Type 0
Fits range Add x y = SumFits range x y
Fits range Sub x y = SumFits range x (negated y)
Fits range Mul x y = ReducesWithin range (x.num *ℤ y.num) (x.den * y.den)
Fits range Div x y = ReducesWithin range (x.num *ℤ (inverse_of y).num) (x.den * (inverse_of y).den)

-- the operation on x and y is refused
abbrev pub Overflows : ℕ → OpKind → Fraction → Fraction → Type 0
Overflows range kind x y = ¬ (Fits range kind x y)
