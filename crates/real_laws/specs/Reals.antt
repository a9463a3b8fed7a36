-- Law. The real numbers: sequences of fractions that come together, two of which are one number where their terms come as near
-- to one another as is asked (Cantor 1872).
--
--     real q                                                     a fraction
--     sum_ℝ x y, product_ℝ x y, minus_ℝ x, greater_ℝ x y         term by term
--     x ≤ℝ y                                                     y is the greater of both
use Rattle.std.specs.Prelude.{◌≡◌}
use mathlib.Core.Quot.{Quot, mk, sound, ind, lift, Quot-set}
use Rattle.rational_laws.specs.Rational.{ℚ}
use Rattle.real_laws.specs.Sequences.{Sequence, Same}
use Rattle.real_laws.specs.Operations.{constant, plus_terms, minus_terms, times_terms, greater_terms}
use Rattle.real_laws.specs.Operations.{plus_left, plus_right, minus_same, times_left, times_right, greater_left, greater_right}

-- the real numbers
abbrev pub ℝ : Type 0
ℝ = Quot Same

pub ℝ_set : IsSet ℝ
ℝ_set = Quot-set

-- f gives one number where its first argument is of one, and where its second is
abbrev pub RespectsLeft : (Sequence → Sequence → Sequence) → Type 0
RespectsLeft f = (x x' y : Sequence) → Same x x' → Same (f x y) (f x' y)

abbrev pub RespectsRight : (Sequence → Sequence → Sequence) → Type 0
RespectsRight f = (x y y' : Sequence) → Same y y' → Same (f x y) (f x y')

-- so it is an operation on real numbers
module _ (f : Sequence → Sequence → Sequence) (left : RespectsLeft f) (right : RespectsRight f) where
  abbrev pub with_first : Sequence → ℝ → ℝ
  with_first x y = lift ℝ_set (λ b. mk (f x b)) (λ b b' s. sound (right x b b' s)) y

  pub with_first-same : (x x' : Sequence) → Same x x' → (y : ℝ) → with_first x y ≡ with_first x' y
  with_first-same x x' s = ind {β = λ y. with_first x y ≡ with_first x' y} (λ y. ℝ_set _ _) (λ b. sound (left x x' b s))

  abbrev pub on_both : ℝ → ℝ → ℝ
  on_both x y = lift ℝ_set (λ a. with_first a y) (λ a a' s. with_first-same a a' s y) x

-- a fraction as a real number
abbrev pub real : ℚ → ℝ
real q = mk (constant q)

-- the sum, the product, the negated number, and the greater of two
abbrev pub sum_ℝ : ℝ → ℝ → ℝ
sum_ℝ x y = on_both plus_terms plus_left plus_right x y

abbrev pub product_ℝ : ℝ → ℝ → ℝ
product_ℝ x y = on_both times_terms times_left times_right x y

abbrev pub minus_ℝ : ℝ → ℝ
minus_ℝ x = lift ℝ_set (λ a. mk (minus_terms a)) (λ a b s. sound (minus_same a b s)) x

abbrev pub greater_ℝ : ℝ → ℝ → ℝ
greater_ℝ x y = on_both greater_terms greater_left greater_right x y

-- x is at most y where y is the greater of both
infix 50 ◌≤ℝ◌
abbrev pub ◌≤ℝ◌ : ℝ → ℝ → Type 0
x ≤ℝ y = greater_ℝ x y ≡ y
