-- The factors are what the inverse of the Gram matrix makes of the scores of the tested columns, and 0 for the others.
use Rattle.std.specs.Prelude.{◌≡◌, ℕ, ◌<◌, Bool, true, false, if◌then◌else◌, [], ◌∷◌, pos, negsuc, ◌≤ℤ◌}
use Rattle.std.proofs.Common.{arith, refl, sym, ap, ap₂, subst, ◌∙◌}
use Rattle.std.proofs.lemmas.Int.{ints}
use Rattle.rational_laws.specs.Solver.{number, negated, ◌⊞◌, ◌⊟◌, ◌⊠◌, v0, v1, v2}
use Rattle.rational_laws.specs.Rational.{ℚ, ◌+ℚ◌, ◌*ℚ◌, neg_ℚ, whole, ◌≤ℚ◌}
use Rattle.rational_laws.proofs.RationalLaws.{ring_ℚ}
use Rattle.rational_laws.specs.RationalSums.{sum_ℚ}
use Rattle.rational_laws.proofs.RationalSumLaws.{sum_ℚ-same, sum_ℚ-scale, sum_ℚ-swap}
use Rattle.rational_laws.proofs.OrderLaws.{sign_ℚ-not_below, sign_ℚ-whole}
use Rattle.rational_laws.proofs.Signs.{product_not_negative}
use Rattle.rational_laws.specs.Terms.{delta}
use Rattle.rational_laws.proofs.TermLaws.{sum_ℚ-delta, delta-turned}
use Rattle.rational_laws.specs.Matrices.{AreInverse}
use Rattle.rational_laws.specs.Selections.{is_among, AreDistinct, among}
use Rattle.rational_laws.proofs.SelectionLaws.{sum_ℚ-among, sum_ℚ-split}
use Rattle.loss_model.specs.Sample.{Sample}
use Rattle.pivot_model.proofs.Among.{among_at, among_place}
use Rattle.rank_model.specs.Gram.{gram}
use Rattle.rank_model.proofs.Lengths.{squares_not_negative}
use Rattle.rank_model.proofs.Grams.{weighted, gram_row, gram_square}
use Rattle.gram_matrix.specs.Grams.{scaled}
use Rattle.nested_test.specs.Nested.{rest, AreNestedFactors, nested_statistic, IsNestedStatistic}
use Rattle.nested_test.specs.Pairs.{pairs}
use Rattle.nested_test.specs.Laws.{StatisticIsSquare}

-- a matrix that sends c to g has an inverse that sends g to c
sent_back : (n : ℕ) (b a : ℕ → ℕ → ℚ) → AreInverse n b a → (c g : ℕ → ℚ) → ((k : ℕ) → k < n → sum_ℚ n (λ l. b k l *ℚ c l) ≡ g k) → (k : ℕ) → k < n → c k ≡ sum_ℚ n (λ l. a k l *ℚ g l)
sent_back n b a inv c g h k lk =
    sym (sum_ℚ-delta n c k lk)
    ∙ sum_ℚ-same n (λ m. c m *ℚ delta m k) (λ m. sum_ℚ n (λ l. c m *ℚ (a k l *ℚ b l m)))
    (λ m lm. ap (λ z. c m *ℚ z) (delta-turned m k ∙ sym (inv.right k m lk lm)) ∙ sym (sum_ℚ-scale n (c m) (λ l. a k l *ℚ b l m)))
    ∙ sum_ℚ-swap n n (λ m l. c m *ℚ (a k l *ℚ b l m))
    ∙ sum_ℚ-same n (λ l. sum_ℚ n (λ m. c m *ℚ (a k l *ℚ b l m))) (λ l. a k l *ℚ g l)
    (λ l ll. sum_ℚ-same n (λ m. c m *ℚ (a k l *ℚ b l m)) (λ m. a k l *ℚ (b l m *ℚ c m)) (λ m lm. ring_ℚ (c m ∷ a k l ∷ b l m ∷ []) (v0 ⊠ (v1 ⊠ v2)) (v1 ⊠ (v2 ⊠ v0)) refl)
    ∙ sum_ℚ-scale n (a k l) (λ m. b l m *ℚ c m) ∙ ap (λ z. a k l *ℚ z) (h l ll))

module _ (p : Sample) (at : ℕ → ℕ) (n : ℕ) (distinct : AreDistinct at n p.columns) where
  abbrev tested : ℕ → Bool
  tested = is_among at n

  -- the factors of all columns
  abbrev factors : (ℕ → ℚ) → (ℕ → ℚ) → ℕ → ℚ
  factors v u k = if is_among at n k then v k else neg_ℚ (u k)

  -- the rest is their weighted fit
  rest_is : (v u : ℕ → ℚ) (i : ℕ) → rest p at n v u i ≡ weighted p (factors v u) i
  rest_is v u i =
      sym (
      sym (sum_ℚ-scale p.columns (p.up1 i) (λ k. p.x i k *ℚ factors v u k))
      ∙ sum_ℚ-split tested p.columns (λ k. p.up1 i *ℚ (p.x i k *ℚ factors v u k))
      ∙ ap₂ (λ x y. x +ℚ y)
      (sum_ℚ-same p.columns (λ k. if is_among at n k then p.up1 i *ℚ (p.x i k *ℚ factors v u k) else whole (pos 0)) (among at n (λ k. scaled p i k *ℚ v k)) (λ k lk. one (is_among at n k) k)
      ∙ sum_ℚ-among at n p.columns (λ k. scaled p i k *ℚ v k) distinct)
      (sum_ℚ-same p.columns (λ k. if is_among at n k then whole (pos 0) else p.up1 i *ℚ (p.x i k *ℚ factors v u k)) (λ k. whole (negsuc 0) *ℚ (if is_among at n k then whole (pos 0) else scaled p i k *ℚ u k))
      (λ k lk. two (is_among at n k) k)
      ∙ sum_ℚ-scale p.columns (whole (negsuc 0)) (λ k. if is_among at n k then whole (pos 0) else scaled p i k *ℚ u k))
      ∙ ring_ℚ (sum_ℚ n (λ j. scaled p i (at j) *ℚ v (at j)) ∷ sum_ℚ p.columns (λ k. if is_among at n k then whole (pos 0) else scaled p i k *ℚ u k) ∷ []) (v0 ⊞ number (negsuc 0) ⊠ v1) (v0 ⊟ v1) refl)
    where
      one : (t : Bool) (k : ℕ) → (if t then p.up1 i *ℚ (p.x i k *ℚ (if t then v k else neg_ℚ (u k))) else whole (pos 0)) ≡ (if t then scaled p i k *ℚ v k else whole (pos 0))
      one true k = ring_ℚ (p.up1 i ∷ p.x i k ∷ v k ∷ []) (v0 ⊠ (v1 ⊠ v2)) ((v0 ⊠ v1) ⊠ v2) refl
      one false k = refl

      two : (t : Bool) (k : ℕ) → (if t then whole (pos 0) else p.up1 i *ℚ (p.x i k *ℚ (if t then v k else neg_ℚ (u k)))) ≡ whole (negsuc 0) *ℚ (if t then whole (pos 0) else scaled p i k *ℚ u k)
      two true k = ring_ℚ [] (number (pos 0)) (number (negsuc 0) ⊠ number (pos 0)) refl
      two false k = ring_ℚ (p.up1 i ∷ p.x i k ∷ u k ∷ []) (v0 ⊠ (v1 ⊠ negated v2)) (number (negsuc 0) ⊠ ((v0 ⊠ v1) ⊠ v2)) refl

  -- its product with a scaled column, by the Gram matrix
  product_is : (v u : ℕ → ℚ) (k : ℕ) → sum_ℚ p.rows (λ i. rest p at n v u i *ℚ scaled p i k) ≡ sum_ℚ p.columns (λ l. gram p k l *ℚ factors v u l)
  product_is v u k =
      sum_ℚ-same p.rows (λ i. rest p at n v u i *ℚ scaled p i k) (λ i. weighted p (factors v u) i *ℚ scaled p i k) (λ i li. ap (λ z. z *ℚ scaled p i k) (rest_is v u i))
      ∙ gram_row p (factors v u) k

  -- what the products are to be
  abbrev wanted : (ℕ → ℚ) → ℕ → ℚ
  wanted s k = if is_among at n k then s k else whole (pos 0)

  wanted_at : (s : ℕ → ℚ) (j : ℕ) → j < n → wanted s (at j) ≡ s (at j)
  wanted_at s j lj = ap (λ t. if t then s (at j) else whole (pos 0)) (among_at at n j lj)

  factors_at : (v u : ℕ → ℚ) (j : ℕ) → j < n → factors v u (at j) ≡ v (at j)
  factors_at v u j lj = ap (λ t. if t then v (at j) else neg_ℚ (u (at j))) (among_at at n j lj)

  products : (s v u : ℕ → ℚ) → AreNestedFactors p at n s v u → (k : ℕ) → k < p.columns → sum_ℚ p.columns (λ l. gram p k l *ℚ factors v u l) ≡ wanted s k
  products s v u h k lk = by (is_among at n k) refl
    where
      by : (t : Bool) → is_among at n k ≡ t → sum_ℚ p.columns (λ l. gram p k l *ℚ factors v u l) ≡ (if t then s k else whole (pos 0))
      by true e =
          let place : (j : ℕ) × (j < n) × (at j ≡ k) = among_place at n k e in
          sym (product_is v u k) ∙ subst (λ k. sum_ℚ p.rows (λ i. rest p at n v u i *ℚ scaled p i k) ≡ s k) place.2 (h.product place.0 place.1)
      by false e = sym (product_is v u k) ∙ h.orthogonal k lk e

  -- a row of the inverse and the scores
  scored : (a : ℕ → ℕ → ℚ) (s : ℕ → ℚ) (k : ℕ) → sum_ℚ p.columns (λ l. a k l *ℚ wanted s l) ≡ sum_ℚ n (λ m. a k (at m) *ℚ s (at m))
  scored a s k =
      sum_ℚ-same p.columns (λ l. a k l *ℚ wanted s l) (among at n (λ l. a k l *ℚ s l)) (λ l ll. by (is_among at n l) l)
      ∙ sum_ℚ-among at n p.columns (λ l. a k l *ℚ s l) distinct
    where
      by : (t : Bool) (l : ℕ) → a k l *ℚ (if t then s l else whole (pos 0)) ≡ (if t then a k l *ℚ s l else whole (pos 0))
      by true l = refl
      by false l = ring_ℚ (a k l ∷ []) (v0 ⊠ number (pos 0)) (number (pos 0)) refl

  by_pairs : (a : ℕ → ℕ → ℚ) (s v u : ℕ → ℚ) → AreInverse p.columns (gram p) a → AreNestedFactors p at n s v u → nested_statistic p at n s v ≡ whole (pos 12) *ℚ pairs at n a (λ j. s (at j))
  by_pairs a s v u inv h =
      ap (λ z. whole (pos 12) *ℚ z)
      (sum_ℚ-same n (λ j. s (at j) *ℚ v (at j)) (λ j. sum_ℚ n (λ m. (s (at j) *ℚ a (at j) (at m)) *ℚ s (at m)))
      (λ j lj.
      ap (λ z. s (at j) *ℚ z) (sym (factors_at v u j lj) ∙ sent_back p.columns (gram p) a inv (factors v u) (wanted s) (products s v u h) (at j) (distinct.within j lj) ∙ scored a s (at j))
      ∙ sym (sum_ℚ-scale n (s (at j)) (λ m. a (at j) (at m) *ℚ s (at m)))
      ∙ sum_ℚ-same n (λ m. s (at j) *ℚ (a (at j) (at m) *ℚ s (at m))) (λ m. (s (at j) *ℚ a (at j) (at m)) *ℚ s (at m)) (λ m lm. ring_ℚ (s (at j) ∷ a (at j) (at m) ∷ s (at m) ∷ []) (v0 ⊠ (v1 ⊠ v2)) ((v0 ⊠ v1) ⊠ v2) refl)))

  -- ---- existence

  module _ (a : ℕ → ℕ → ℚ) (s : ℕ → ℚ) (inv : AreInverse p.columns (gram p) a) where
    abbrev found : ℕ → ℚ
    found k = sum_ℚ p.columns (λ l. a k l *ℚ wanted s l)

    abbrev found_other : ℕ → ℚ
    found_other k = neg_ℚ (found k)

    found_is : (k : ℕ) → factors found found_other k ≡ found k
    found_is k = by (is_among at n k)
      where
        by : (t : Bool) → (if t then found k else neg_ℚ (neg_ℚ (found k))) ≡ found k
        by true = refl
        by false = ring_ℚ (found k ∷ []) (negated (negated v0)) v0 refl

    found_products : (k : ℕ) → k < p.columns → sum_ℚ p.rows (λ i. rest p at n found found_other i *ℚ scaled p i k) ≡ wanted s k
    found_products k lk =
        product_is found found_other k
        ∙ sum_ℚ-same p.columns (λ l. gram p k l *ℚ factors found found_other l) (λ l. sum_ℚ p.columns (λ m. wanted s m *ℚ (gram p k l *ℚ a l m)))
        (λ l ll. ap (λ z. gram p k l *ℚ z) (found_is l) ∙ sym (sum_ℚ-scale p.columns (gram p k l) (λ m. a l m *ℚ wanted s m))
        ∙ sum_ℚ-same p.columns (λ m. gram p k l *ℚ (a l m *ℚ wanted s m)) (λ m. wanted s m *ℚ (gram p k l *ℚ a l m)) (λ m lm. ring_ℚ (gram p k l ∷ a l m ∷ wanted s m ∷ []) (v0 ⊠ (v1 ⊠ v2)) (v2 ⊠ (v0 ⊠ v1)) refl))
        ∙ sum_ℚ-swap p.columns p.columns (λ l m. wanted s m *ℚ (gram p k l *ℚ a l m))
        ∙ sum_ℚ-same p.columns (λ m. sum_ℚ p.columns (λ l. wanted s m *ℚ (gram p k l *ℚ a l m))) (λ m. wanted s m *ℚ delta m k)
        (λ m lm. sum_ℚ-scale p.columns (wanted s m) (λ l. gram p k l *ℚ a l m) ∙ ap (λ z. wanted s m *ℚ z) (inv.left k m lk lm ∙ delta-turned k m))
        ∙ sum_ℚ-delta p.columns (wanted s) k lk

    exist : AreNestedFactors p at n s found found_other
    exist =
        record {
          orthogonal = λ k lk e. found_products k lk ∙ ap (λ t. if t then s k else whole (pos 0)) e;
          product = λ j lj. found_products (at j) (distinct.within j lj) ∙ wanted_at s j lj;
        }

  -- ---- the square

  square : (s v u : ℕ → ℚ) → AreNestedFactors p at n s v u → sum_ℚ n (λ j. s (at j) *ℚ v (at j)) ≡ sum_ℚ p.rows (λ i. rest p at n v u i *ℚ rest p at n v u i)
  square s v u h =
      sym (
      sum_ℚ-same p.rows (λ i. rest p at n v u i *ℚ rest p at n v u i) (λ i. weighted p (factors v u) i *ℚ weighted p (factors v u) i) (λ i li. ap₂ (λ x y. x *ℚ y) (rest_is v u i) (rest_is v u i))
      ∙ gram_square p (factors v u)
      ∙ sum_ℚ-same p.columns (λ k. factors v u k *ℚ sum_ℚ p.columns (λ l. gram p k l *ℚ factors v u l)) (among at n (λ k. s k *ℚ v k))
      (λ k lk. ap (λ z. factors v u k *ℚ z) (products s v u h k lk) ∙ by (is_among at n k) k)
      ∙ sum_ℚ-among at n p.columns (λ k. s k *ℚ v k) distinct)
    where
      by : (t : Bool) (k : ℕ) → (if t then v k else neg_ℚ (u k)) *ℚ (if t then s k else whole (pos 0)) ≡ (if t then s k *ℚ v k else whole (pos 0))
      by true k = ring_ℚ (v k ∷ s k ∷ []) (v0 ⊠ v1) (v1 ⊠ v0) refl
      by false k = ring_ℚ (u k ∷ []) (negated v0 ⊠ number (pos 0)) (number (pos 0)) refl

twelve : whole (pos 0) ≤ℚ whole (pos 12)
twelve = (sign_ℚ-not_below (whole (pos 12))).0 (subst (λ s. pos 0 ≤ℤ s) (sym (sign_ℚ-whole (pos 12))) one)
  where
    one : pos 0 ≤ℤ pos 1
    one = omega (arith, ints)

-- 12 times the pairs is the statistic
pub is_statistic : (p : Sample) (at : ℕ → ℕ) (n : ℕ) (a : ℕ → ℕ → ℚ) (s : ℕ → ℚ) (z : ℚ) → AreDistinct at n p.columns → AreInverse p.columns (gram p) a → z ≡ whole (pos 12) *ℚ pairs at n a (λ j. s (at j)) → IsNestedStatistic p at n s z
is_statistic p at n a s z distinct inv is = record {
  v = found p at n distinct a s inv;
  u = found_other p at n distinct a s inv;
  factors = exist p at n distinct a s inv;
  every = λ v u h. is ∙ sym (by_pairs p at n distinct a s v u inv h);
}

pub statistic_is_square : StatisticIsSquare
statistic_is_square p at n s v u distinct h =
    let e : sum_ℚ n (λ j. s (at j) *ℚ v (at j)) ≡ sum_ℚ p.rows (λ i. rest p at n v u i *ℚ rest p at n v u i) = square p at n distinct s v u h in (
      ap (λ z. whole (pos 12) *ℚ z) e,
      product_not_negative (whole (pos 12)) (sum_ℚ n (λ j. s (at j) *ℚ v (at j))) twelve (subst (λ z. whole (pos 0) ≤ℚ z) (sym e) (squares_not_negative p.rows (rest p at n v u))),
    )
