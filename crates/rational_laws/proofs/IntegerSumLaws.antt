-- Laws of sums by index.
use Rattle.std.specs.Prelude.{◌≡◌, ℕ, zero, suc, ◌<◌, ℤ, pos, negsuc, ◌+ℤ◌, ◌-ℤ◌, ◌*ℤ◌, ◌≤ℤ◌}
use Rattle.std.proofs.Common.{arith, refl, sym, ap, ◌∙◌}
use Rattle.std.proofs.lemmas.Int.{ints}
use Rattle.rational_laws.specs.IntegerSums.{sum_to, positive_part, negative_part}
use Rattle.rational_laws.specs.Integers.{mul-add}

pub sum_to-same : (n : ℕ) (f g : ℕ → ℤ) → ((k : ℕ) → k < n → f k ≡ g k) → sum_to n f ≡ sum_to n g
sum_to-same zero f g h = refl
sum_to-same (suc n) f g h =
    let rest : sum_to n f ≡ sum_to n g = sum_to-same n f g (λ k l. h k (omega arith)) in
    let last : f n ≡ g n = h n (omega arith) in
    cc

pub sum_to-le : (n : ℕ) (f g : ℕ → ℤ) → ((k : ℕ) → k < n → f k ≤ℤ g k) → sum_to n f ≤ℤ sum_to n g
sum_to-le zero f g h = omega (arith, ints)
sum_to-le (suc n) f g h = omega (arith, ints, sum_to-le n f g (λ k l. h k (omega arith)), h n (omega arith))

pub sum_to-zero : (n : ℕ) → sum_to n (λ k. pos 0) ≡ pos 0
sum_to-zero zero = refl
sum_to-zero (suc n) = omega (arith, ints, sum_to-zero n)

pub sum_to-add : (n : ℕ) (f g : ℕ → ℤ) → sum_to n (λ k. f k +ℤ g k) ≡ sum_to n f +ℤ sum_to n g
sum_to-add zero f g = refl
sum_to-add (suc n) f g = omega (arith, ints, sum_to-add n f g)

pub sum_to-scale : (n : ℕ) (a : ℤ) (f : ℕ → ℤ) → sum_to n (λ k. a *ℤ f k) ≡ a *ℤ sum_to n f
sum_to-scale zero a f = omega (arith, ints)
sum_to-scale (suc n) a f = omega (arith, ints, sum_to-scale n a f, mul-add a (sum_to n f) (f n))

-- the two orders of a double sum
pub sum_to-swap : (m n : ℕ) (f : ℕ → ℕ → ℤ) → sum_to m (λ i. sum_to n (λ k. f i k)) ≡ sum_to n (λ k. sum_to m (λ i. f i k))
sum_to-swap zero n f = sym (sum_to-zero n)
sum_to-swap (suc m) n f =
    ap (λ z. z +ℤ sum_to n (λ k. f m k)) (sum_to-swap m n f)
    ∙ sym (sum_to-add n (λ k. sum_to m (λ i. f i k)) (λ k. f m k))

pub sum_to-mix : (n : ℕ) (a b : ℤ) (f g : ℕ → ℤ) → sum_to n (λ k. (a *ℤ f k) +ℤ (b *ℤ g k)) ≡ (a *ℤ sum_to n f) +ℤ (b *ℤ sum_to n g)
sum_to-mix n a b f g = omega (arith, ints, sum_to-add n (λ k. a *ℤ f k) (λ k. b *ℤ g k), sum_to-scale n a f, sum_to-scale n b g)

-- a number is the difference of its two parts, and neither is negative
pub parts : (z : ℤ) → (z ≡ positive_part z -ℤ negative_part z) × (pos 0 ≤ℤ positive_part z) × (pos 0 ≤ℤ negative_part z)
parts (pos zero) = omega (arith, ints)
parts (pos (suc n)) = omega (arith, ints)
parts (negsuc n) = omega (arith, ints)
