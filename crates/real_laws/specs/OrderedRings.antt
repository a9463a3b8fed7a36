-- Law. What is asked of numbers beyond the fractions: a commutative ring with an order, in which the fractions stand. The
-- real numbers are such a ring, and so is every ordered field. Nothing is divided, so that no more is asked.
use Rattle.std.specs.Prelude.{◌≡◌, ℕ, zero, suc, pos}
use Rattle.rational_laws.specs.Rational.{ℚ, ◌+ℚ◌, ◌*ℚ◌, whole, ◌≤ℚ◌}

pub record OrderedRing : Type 1 where
  pub Number : Type 0
  pub sum : Number → Number → Number
  pub product : Number → Number → Number
  pub minus : Number → Number
  -- a fraction as such a number, the greater of two numbers, and their order
  pub fraction : ℚ → Number
  pub greater : Number → Number → Number
  pub at_most : Number → Number → Type 0
  -- a commutative ring
  pub sum_assoc : (x y z : Number) → sum (sum x y) z ≡ sum x (sum y z)
  pub sum_comm : (x y : Number) → sum x y ≡ sum y x
  pub sum_zero : (x : Number) → sum (fraction (whole (pos 0))) x ≡ x
  pub sum_minus : (x : Number) → sum x (minus x) ≡ fraction (whole (pos 0))
  pub product_assoc : (x y z : Number) → product (product x y) z ≡ product x (product y z)
  pub product_comm : (x y : Number) → product x y ≡ product y x
  pub product_one : (x : Number) → product (fraction (whole (pos 1))) x ≡ x
  pub product_sum : (x y z : Number) → product x (sum y z) ≡ sum (product x y) (product x z)
  -- the order, which sums and products of numbers that aren't negative keep
  pub reflexive : (x : Number) → at_most x x
  pub transitive : (x y z : Number) → at_most x y → at_most y z → at_most x z
  pub antisymmetric : (x y : Number) → at_most x y → at_most y x → x ≡ y
  pub kept_by_sum : (x y z : Number) → at_most x y → at_most (sum z x) (sum z y)
  pub kept_by_product : (x y : Number) → at_most (fraction (whole (pos 0))) x → at_most (fraction (whole (pos 0))) y
      → at_most (fraction (whole (pos 0))) (product x y)
  -- the greater of two numbers is the least that both are at most
  pub left_at_most : (x y : Number) → at_most x (greater x y)
  pub right_at_most : (x y : Number) → at_most y (greater x y)
  pub greater_is_least : (x y z : Number) → at_most x z → at_most y z → at_most (greater x y) z
  -- fractions keep their sums, their products and their order
  pub fraction_sum : (x y : ℚ) → fraction (x +ℚ y) ≡ sum (fraction x) (fraction y)
  pub fraction_product : (x y : ℚ) → fraction (x *ℚ y) ≡ product (fraction x) (fraction y)
  pub fraction_order : (x y : ℚ) → x ≤ℚ y → at_most (fraction x) (fraction y)

module _ (R : OrderedRing) where
  -- f 0 + f 1 + .. + f (n - 1)
  abbrev pub total : ℕ → (ℕ → R.Number) → R.Number
  total zero f = R.fraction (whole (pos 0))
  total (suc n) f = R.sum (total n f) (f n)

  -- x, or 0 where it is negative
  abbrev pub positive_in : R.Number → R.Number
  positive_in x = R.greater (R.fraction (whole (pos 0))) x

  -- -x, or 0 where x is positive
  abbrev pub negative_in : R.Number → R.Number
  negative_in x = R.greater (R.fraction (whole (pos 0))) (R.minus x)
