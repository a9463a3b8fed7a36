-- Law. The real numbers are an ordered ring in which the fractions stand: each of its laws is one of terms, which are fractions.
use Rattle.std.specs.Prelude.{◌≡◌, ℕ, Bool, true, false, cond, pos}
use Rattle.std.proofs.Common.{refl, sym, ap, ap₂, subst, ◌∙◌}
use mathlib.Core.Quot.{mk, sound, ind}
use Rattle.rational_laws.specs.Rational.{ℚ, ◌+ℚ◌, ◌*ℚ◌, whole, le_ℚ, ◌≤ℚ◌}
use Rattle.rational_laws.proofs.RationalLaws.{+ℚ_assoc, +ℚ_comm, zero-+ℚ, +ℚ_invr, *ℚ_assoc, *ℚ_comm, one-*ℚ, *ℚ-+ℚ}
use Rattle.rational_laws.proofs.RationalLaws.{≤ℚ_refl, ≤ℚ_trans, ≤ℚ_antisym, ≤ℚ_add}
use Rattle.rational_laws.proofs.Signs.{product_not_negative}
use Rattle.real_laws.specs.OrderedRings.{OrderedRing}
use Rattle.real_laws.specs.Fractions.{greater_ℚ, left_at_most, right_at_most, greater_is_least}
use Rattle.real_laws.specs.Sequences.{Sequence}
use Rattle.real_laws.specs.Operations.{pointwise, constant, plus_terms, minus_terms, times_terms, greater_terms}
use Rattle.real_laws.specs.Reals.{ℝ, ℝ_set, real, sum_ℝ, product_ℝ, minus_ℝ, greater_ℝ, ◌≤ℝ◌}

-- ---- what holds of all sequences holds of all real numbers

at_one : (f g : ℝ → ℝ) → ((a : Sequence) → f (mk a) ≡ g (mk a)) → (x : ℝ) → f x ≡ g x
at_one f g h x = ind {β = λ x. f x ≡ g x} (λ x. ℝ_set (f x) (g x)) h x

at_two : (f g : ℝ → ℝ → ℝ) → ((a b : Sequence) → f (mk a) (mk b) ≡ g (mk a) (mk b)) → (x y : ℝ) → f x y ≡ g x y
at_two f g h x y = at_one (λ x. f x y) (λ x. g x y) (λ a. at_one (λ y. f (mk a) y) (λ y. g (mk a) y) (λ b. h a b) y) x

at_three : (f g : ℝ → ℝ → ℝ → ℝ) → ((a b c : Sequence) → f (mk a) (mk b) (mk c) ≡ g (mk a) (mk b) (mk c))
    → (x y z : ℝ) → f x y z ≡ g x y z
at_three f g h x y z =
    at_two (λ x y. f x y z) (λ x y. g x y z) (λ a b. at_one (λ z. f (mk a) (mk b) z) (λ z. g (mk a) (mk b) z) (λ c. h a b c) z) x y

-- sequences of equal terms are one number
pub same_terms : (x y : Sequence) → ((n : ℕ) → x.at n ≡ y.at n) → ◌≡◌ {A = ℝ} (mk x) (mk y)
same_terms x y h = sound (pointwise x y h)

-- ---- the greater of two fractions

greater_when : (x y : ℚ) → x ≤ℚ y → greater_ℚ x y ≡ y
greater_when x y h = ≤ℚ_antisym (greater_ℚ x y) y (greater_is_least x y y h (≤ℚ_refl y)) (right_at_most x y)

greater_self : (x : ℚ) → greater_ℚ x x ≡ x
greater_self x = greater_when x x (≤ℚ_refl x)

greater_comm : (x y : ℚ) → greater_ℚ x y ≡ greater_ℚ y x
greater_comm x y = ≤ℚ_antisym (greater_ℚ x y) (greater_ℚ y x) (half x y) (half y x)
  where
    half : (a b : ℚ) → greater_ℚ a b ≤ℚ greater_ℚ b a
    half a b = greater_is_least a b (greater_ℚ b a) (right_at_most b a) (left_at_most b a)

greater_assoc : (x y z : ℚ) → greater_ℚ (greater_ℚ x y) z ≡ greater_ℚ x (greater_ℚ y z)
greater_assoc x y z =
    let left = greater_ℚ (greater_ℚ x y) z in
    let right = greater_ℚ x (greater_ℚ y z) in
    ≤ℚ_antisym left right
    (greater_is_least (greater_ℚ x y) z right
    (greater_is_least x y right (left_at_most x (greater_ℚ y z))
    (≤ℚ_trans y (greater_ℚ y z) right (left_at_most y z) (right_at_most x (greater_ℚ y z))))
    (≤ℚ_trans z (greater_ℚ y z) right (right_at_most y z) (right_at_most x (greater_ℚ y z))))
    (greater_is_least x (greater_ℚ y z) left (≤ℚ_trans x (greater_ℚ x y) left (left_at_most x y) (left_at_most (greater_ℚ x y) z))
    (greater_is_least y z left (≤ℚ_trans y (greater_ℚ x y) left (right_at_most x y) (left_at_most (greater_ℚ x y) z))
    (right_at_most (greater_ℚ x y) z)))

greater_moved : (x y z : ℚ) → greater_ℚ (z +ℚ x) (z +ℚ y) ≡ z +ℚ greater_ℚ x y
greater_moved x y z = by (le_ℚ x y) refl
  where
    other : le_ℚ x y ≡ false → y ≤ℚ x
    other e = subst (λ t. y ≤ℚ cond t y x) e (right_at_most x y)

    by : (t : Bool) → le_ℚ x y ≡ t → greater_ℚ (z +ℚ x) (z +ℚ y) ≡ z +ℚ cond t y x
    by true e = greater_when (z +ℚ x) (z +ℚ y) (≤ℚ_add x y z (record { le = e }))
    by false e = greater_comm (z +ℚ x) (z +ℚ y) ∙ greater_when (z +ℚ y) (z +ℚ x) (≤ℚ_add y x z (other e))

-- x, or 0 where it is negative
abbrev positive : ℚ → ℚ
positive x = greater_ℚ (whole (pos 0)) x

greater_product : (x y : ℚ) → positive (positive x *ℚ positive y) ≡ positive x *ℚ positive y
greater_product x y =
    greater_when (whole (pos 0)) (positive x *ℚ positive y)
    (product_not_negative (positive x) (positive y) (left_at_most (whole (pos 0)) x) (left_at_most (whole (pos 0)) y))

-- ---- a commutative ring, term by term

pub sum_assoc : (x y z : ℝ) → sum_ℝ (sum_ℝ x y) z ≡ sum_ℝ x (sum_ℝ y z)
sum_assoc =
    at_three (λ x y z. sum_ℝ (sum_ℝ x y) z) (λ x y z. sum_ℝ x (sum_ℝ y z))
    (λ a b c. same_terms (plus_terms (plus_terms a b) c) (plus_terms a (plus_terms b c)) (λ n. +ℚ_assoc (a.at n) (b.at n) (c.at n)))

pub sum_comm : (x y : ℝ) → sum_ℝ x y ≡ sum_ℝ y x
sum_comm =
    at_two sum_ℝ (λ x y. sum_ℝ y x) (λ a b. same_terms (plus_terms a b) (plus_terms b a) (λ n. +ℚ_comm (a.at n) (b.at n)))

pub sum_zero : (x : ℝ) → sum_ℝ (real (whole (pos 0))) x ≡ x
sum_zero =
    at_one (λ x. sum_ℝ (real (whole (pos 0))) x) (λ x. x)
    (λ a. same_terms (plus_terms (constant (whole (pos 0))) a) a (λ n. zero-+ℚ (a.at n)))

pub sum_minus : (x : ℝ) → sum_ℝ x (minus_ℝ x) ≡ real (whole (pos 0))
sum_minus =
    at_one (λ x. sum_ℝ x (minus_ℝ x)) (λ x. real (whole (pos 0)))
    (λ a. same_terms (plus_terms a (minus_terms a)) (constant (whole (pos 0))) (λ n. +ℚ_invr (a.at n)))

pub product_assoc : (x y z : ℝ) → product_ℝ (product_ℝ x y) z ≡ product_ℝ x (product_ℝ y z)
product_assoc =
    at_three (λ x y z. product_ℝ (product_ℝ x y) z) (λ x y z. product_ℝ x (product_ℝ y z))
    (λ a b c. same_terms (times_terms (times_terms a b) c) (times_terms a (times_terms b c)) (λ n. *ℚ_assoc (a.at n) (b.at n) (c.at n)))

pub product_comm : (x y : ℝ) → product_ℝ x y ≡ product_ℝ y x
product_comm =
    at_two product_ℝ (λ x y. product_ℝ y x)
    (λ a b. same_terms (times_terms a b) (times_terms b a) (λ n. *ℚ_comm (a.at n) (b.at n)))

pub product_one : (x : ℝ) → product_ℝ (real (whole (pos 1))) x ≡ x
product_one =
    at_one (λ x. product_ℝ (real (whole (pos 1))) x) (λ x. x)
    (λ a. same_terms (times_terms (constant (whole (pos 1))) a) a (λ n. one-*ℚ (a.at n)))

pub product_sum : (x y z : ℝ) → product_ℝ x (sum_ℝ y z) ≡ sum_ℝ (product_ℝ x y) (product_ℝ x z)
product_sum =
    at_three (λ x y z. product_ℝ x (sum_ℝ y z)) (λ x y z. sum_ℝ (product_ℝ x y) (product_ℝ x z))
    (λ a b c. same_terms (times_terms a (plus_terms b c)) (plus_terms (times_terms a b) (times_terms a c))
    (λ n. *ℚ-+ℚ (a.at n) (b.at n) (c.at n)))

-- ---- the greater of two, term by term

pub greater_self_ℝ : (x : ℝ) → greater_ℝ x x ≡ x
greater_self_ℝ = at_one (λ x. greater_ℝ x x) (λ x. x) (λ a. same_terms (greater_terms a a) a (λ n. greater_self (a.at n)))

greater_comm_ℝ : (x y : ℝ) → greater_ℝ x y ≡ greater_ℝ y x
greater_comm_ℝ =
    at_two greater_ℝ (λ x y. greater_ℝ y x)
    (λ a b. same_terms (greater_terms a b) (greater_terms b a) (λ n. greater_comm (a.at n) (b.at n)))

greater_assoc_ℝ : (x y z : ℝ) → greater_ℝ (greater_ℝ x y) z ≡ greater_ℝ x (greater_ℝ y z)
greater_assoc_ℝ =
    at_three (λ x y z. greater_ℝ (greater_ℝ x y) z) (λ x y z. greater_ℝ x (greater_ℝ y z))
    (λ a b c. same_terms (greater_terms (greater_terms a b) c) (greater_terms a (greater_terms b c))
    (λ n. greater_assoc (a.at n) (b.at n) (c.at n)))

greater_moved_ℝ : (x y z : ℝ) → greater_ℝ (sum_ℝ z x) (sum_ℝ z y) ≡ sum_ℝ z (greater_ℝ x y)
greater_moved_ℝ =
    at_three (λ x y z. greater_ℝ (sum_ℝ z x) (sum_ℝ z y)) (λ x y z. sum_ℝ z (greater_ℝ x y))
    (λ a b c. same_terms (greater_terms (plus_terms c a) (plus_terms c b)) (plus_terms c (greater_terms a b))
    (λ n. greater_moved (a.at n) (b.at n) (c.at n)))

-- the same of a real number, and of a sequence
abbrev positive_ℝ : ℝ → ℝ
positive_ℝ x = greater_ℝ (real (whole (pos 0))) x

abbrev positive_terms : Sequence → Sequence
positive_terms a = greater_terms (constant (whole (pos 0))) a

greater_product_ℝ : (x y : ℝ) → positive_ℝ (product_ℝ (positive_ℝ x) (positive_ℝ y)) ≡ product_ℝ (positive_ℝ x) (positive_ℝ y)
greater_product_ℝ =
    at_two (λ x y. positive_ℝ (product_ℝ (positive_ℝ x) (positive_ℝ y))) (λ x y. product_ℝ (positive_ℝ x) (positive_ℝ y))
    (λ a b. same_terms (positive_terms (times_terms (positive_terms a) (positive_terms b))) (times_terms (positive_terms a) (positive_terms b))
    (λ n. greater_product (a.at n) (b.at n)))

-- ---- the order

pub transitive : (x y z : ℝ) → x ≤ℝ y → y ≤ℝ z → x ≤ℝ z
transitive x y z h k = ap (λ v. greater_ℝ x v) (sym k) ∙ sym (greater_assoc_ℝ x y z) ∙ ap (λ v. greater_ℝ v z) h ∙ k

pub antisymmetric : (x y : ℝ) → x ≤ℝ y → y ≤ℝ x → x ≡ y
antisymmetric x y h k = sym k ∙ greater_comm_ℝ y x ∙ h

pub kept_by_sum : (x y z : ℝ) → x ≤ℝ y → sum_ℝ z x ≤ℝ sum_ℝ z y
kept_by_sum x y z h = greater_moved_ℝ x y z ∙ ap (λ v. sum_ℝ z v) h

pub kept_by_product : (x y : ℝ) → real (whole (pos 0)) ≤ℝ x → real (whole (pos 0)) ≤ℝ y → real (whole (pos 0)) ≤ℝ product_ℝ x y
kept_by_product x y h k = subst (λ v. positive_ℝ v ≡ v) (ap₂ product_ℝ h k) (greater_product_ℝ x y)

pub left_most : (x y : ℝ) → x ≤ℝ greater_ℝ x y
left_most x y = sym (greater_assoc_ℝ x x y) ∙ ap (λ v. greater_ℝ v y) (greater_self_ℝ x)

pub right_most : (x y : ℝ) → y ≤ℝ greater_ℝ x y
right_most x y = greater_comm_ℝ y (greater_ℝ x y) ∙ greater_assoc_ℝ x y y ∙ ap (λ v. greater_ℝ x v) (greater_self_ℝ y)

pub least : (x y z : ℝ) → x ≤ℝ z → y ≤ℝ z → greater_ℝ x y ≤ℝ z
least x y z h k = greater_assoc_ℝ x y z ∙ ap (λ v. greater_ℝ x v) k ∙ h

-- ---- fractions

pub real-order : (x y : ℚ) → x ≤ℚ y → real x ≤ℝ real y
real-order x y h = same_terms (greater_terms (constant x) (constant y)) (constant y) (λ n. greater_when x y h)

pub real-sum : (x y : ℚ) → real (x +ℚ y) ≡ sum_ℝ (real x) (real y)
real-sum x y = same_terms (constant (x +ℚ y)) (plus_terms (constant x) (constant y)) (λ n. refl)

pub real-product : (x y : ℚ) → real (x *ℚ y) ≡ product_ℝ (real x) (real y)
real-product x y = same_terms (constant (x *ℚ y)) (times_terms (constant x) (constant y)) (λ n. refl)

-- the ring of the real numbers
abbrev pub reals : OrderedRing
reals =
    record {
      Number = ℝ;
      sum = sum_ℝ;
      product = product_ℝ;
      minus = minus_ℝ;
      fraction = real;
      greater = greater_ℝ;
      at_most = ◌≤ℝ◌;
      sum_assoc = sum_assoc;
      sum_comm = sum_comm;
      sum_zero = sum_zero;
      sum_minus = sum_minus;
      product_assoc = product_assoc;
      product_comm = product_comm;
      product_one = product_one;
      product_sum = product_sum;
      reflexive = greater_self_ℝ;
      transitive = transitive;
      antisymmetric = antisymmetric;
      kept_by_sum = kept_by_sum;
      kept_by_product = kept_by_product;
      left_at_most = left_most;
      right_at_most = right_most;
      greater_is_least = least;
      fraction_sum = real-sum;
      fraction_product = real-product;
      fraction_order = real-order;
    }
