-- Pairs of tested columns, and sums that are made by one term more at a time.
use Rattle.std.specs.Prelude.{◌≡◌, ℕ, ◌+◌, ◌<◌, ◌≤◌, List, [], ◌∷◌, ◌++◌, length, get_or}
use Rattle.std.proofs.Common.{arith, sym, ap, ap₂, ◌∙◌}
use Rattle.rational_laws.specs.Fraction.{Fraction, rational}
use Rattle.rational_laws.specs.Rational.{ℚ, ◌+ℚ◌, ◌*ℚ◌}
use Rattle.rational_laws.specs.RationalSums.{sum_ℚ}
use Rattle.rational_laws.proofs.RationalSumLaws.{sum_ℚ-next, sum_ℚ-same}
use Rattle.loss_model.specs.Problem.{value_at}
use Rattle.loss_model.proofs.Products.{value_at-item}
use Rattle.ratio.specs.Sums.{total}
use Rattle.ratio.proofs.Totals.{total_push}
use Rattle.nested_test.specs.Pairs.{pair, pairs}

module _ (at : ℕ → ℕ) (n : ℕ) (a : ℕ → ℕ → ℚ) (scores : List Fraction) where
  score_at : (j : ℕ) (x : Fraction) → j < length scores → x ≡ get_or scores j x → rational (get_or scores j x) ≡ value_at (λ x. x) scores j
  score_at j x l is = sym (ap rational is) ∙ sym (value_at-item (λ x. x) scores j x l is)

  -- the term of a pair, from what is read
  pub pair_read : (j m : ℕ) (x y : Fraction) (entry weighted product : ℚ) → length scores ≡ n → j < n → m < n → x ≡ get_or scores j x → y ≡ get_or scores m y → entry ≡ a (at j) (at m)
      → weighted ≡ rational (get_or scores j x) *ℚ entry → product ≡ weighted *ℚ rational (get_or scores m y) → product ≡ pair at n a (value_at (λ x. x) scores) j m
  pair_read j m x y entry weighted product size lj lm at_j at_m e w p =
      p ∙ ap₂ (λ x y. x *ℚ y) (w ∙ ap₂ (λ x y. x *ℚ y) (score_at j x (omega (arith, size, lj)) at_j) e) (score_at m y (omega (arith, size, lm)) at_m)

-- a sum with one term more
pub sum_more : (f : ℕ → ℚ) (m : ℕ) (terms next : List Fraction) (x : Fraction) → total terms ≡ sum_ℚ m f → rational x ≡ f m → next ≡ terms ++ x ∷ [] → total next ≡ sum_ℚ (m + 1) f
sum_more f m terms next x so_far is grown = ap total grown ∙ total_push terms x ∙ ap₂ (λ t y. t +ℚ y) so_far is ∙ sym (sum_ℚ-next m f)

module _ (at : ℕ → ℕ) (n : ℕ) (a : ℕ → ℕ → ℚ) (score : ℕ → ℚ) where
  -- the same by other scores that are equal
  module _ (other : ℕ → ℚ) (same : (j : ℕ) → j < n → score j ≡ other j) where
    same_pair : (j m : ℕ) → j < n → m < n → pair at n a score j m ≡ pair at n a other j m
    same_pair j m lj lm = ap₂ (λ x y. (x *ℚ a (at j) (at m)) *ℚ y) (same j lj) (same m lm)

    same_row : (j m : ℕ) → j < n → m ≤ n → sum_ℚ m (pair at n a score j) ≡ sum_ℚ m (pair at n a other j)
    same_row j m lj lm = sum_ℚ-same m (pair at n a score j) (pair at n a other j) (λ k lk. same_pair j k lj (omega (arith, lk, lm)))

    same_rows : (j : ℕ) → j ≤ n → sum_ℚ j (λ i. sum_ℚ n (pair at n a score i)) ≡ sum_ℚ j (λ i. sum_ℚ n (pair at n a other i))
    same_rows j lj = sum_ℚ-same j (λ i. sum_ℚ n (pair at n a score i)) (λ i. sum_ℚ n (pair at n a other i)) (λ i li. same_row i n (omega (arith, li, lj)) (omega arith))

    pub same_pairs : pairs at n a score ≡ pairs at n a other
    same_pairs = same_rows n (omega arith)
