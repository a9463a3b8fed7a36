-- How many numbers pass a test.
use Rattle.std.specs.Prelude.{◌≡◌, ℕ, zero, suc, ◌<◌, ◌≤◌, Bool, true, false, if◌then◌else◌, [], ◌∷◌, pos, ◌+ℤ◌}
use Rattle.std.proofs.Common.{arith, refl, sym, ap, ap₂, ◌∙◌}
use Rattle.std.proofs.lemmas.Int.{ints}
use Rattle.rational_laws.specs.Solver.{number, ◌⊞◌, v0}
use Rattle.rational_laws.specs.Rational.{◌+ℚ◌, whole}
use Rattle.rational_laws.proofs.RationalLaws.{whole-add, ring_ℚ}
use Rattle.rational_laws.specs.RationalSums.{sum_ℚ}
use Rattle.rational_laws.proofs.WholeNumbers.{same_from_whole}
use Rattle.rational_laws.specs.Selections.{is_among, AreDistinct}
use Rattle.rational_laws.proofs.SelectionLaws.{sum_ℚ-among}
use Rattle.pivot_model.specs.Spills.{count}

next_whole : (n : ℕ) → whole (pos (suc n)) ≡ whole (pos n) +ℚ whole (pos 1)
next_whole n = let e : pos (suc n) ≡ pos n +ℤ pos 1 = omega (arith, ints) in ap whole e ∙ whole-add (pos n) (pos 1)

-- a count is a sum of ones
count_sum : (n : ℕ) (test : ℕ → Bool) → whole (pos (count n test)) ≡ sum_ℚ n (λ i. if test i then whole (pos 1) else whole (pos 0))
count_sum zero test = refl
count_sum (suc n) test = by (test n) (count_sum n test)
  where
    by : (t : Bool) → whole (pos (count n test)) ≡ sum_ℚ n (λ i. if test i then whole (pos 1) else whole (pos 0))
        → whole (pos (if t then suc (count n test) else count n test)) ≡ sum_ℚ n (λ i. if test i then whole (pos 1) else whole (pos 0)) +ℚ (if t then whole (pos 1) else whole (pos 0))
    by true ih = next_whole (count n test) ∙ ap (λ z. z +ℚ whole (pos 1)) ih
    by false ih = ring_ℚ (whole (pos (count n test)) ∷ []) v0 (v0 ⊞ number (pos 0)) refl ∙ ap (λ z. z +ℚ whole (pos 0)) ih

ones : (n : ℕ) → sum_ℚ n (λ i. whole (pos 1)) ≡ whole (pos n)
ones zero = refl
ones (suc n) = ap (λ z. z +ℚ whole (pos 1)) (ones n) ∙ sym (next_whole n)

pub count-same : (n : ℕ) (f g : ℕ → Bool) → ((i : ℕ) → i < n → f i ≡ g i) → count n f ≡ count n g
count-same zero f g h = refl
count-same (suc n) f g h = ap₂ (λ t c. if t then suc c else c) (h n (omega arith)) (count-same n f g (λ i l. h i (omega arith)))

-- as many numbers are listed as the list is long
pub count-among : (order : ℕ → ℕ) (k n : ℕ) → AreDistinct order k n → count n (is_among order k) ≡ k
count-among order k n distinct =
    let e : pos (count n (is_among order k)) ≡ pos k = same_from_whole (pos (count n (is_among order k))) (pos k)
    (count_sum n (is_among order k) ∙ sum_ℚ-among order k n (λ i. whole (pos 1)) distinct ∙ ones k) in
    cc

pub count-at_most : (n : ℕ) (test : ℕ → Bool) → count n test ≤ n
count-at_most zero test = omega arith
count-at_most (suc n) test = by (test n) (count-at_most n test)
  where
    by : (t : Bool) → count n test ≤ n → (if t then suc (count n test) else count n test) ≤ suc n
    by true ih = omega arith
    by false ih = omega arith
