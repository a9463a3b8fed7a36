-- The Gram matrix of weighted columns.
use Rattle.std.specs.Prelude.{◌≡◌, ◌≢◌, ◌⊎◌, ℕ, zero, suc, ◌<◌, Bool, true, false, ◌==◌, if◌then◌else◌, [], ◌∷◌, pos}
use Rattle.std.proofs.Common.{arith, refl, sym, ap, ap₂, subst, ◌∙◌, inl, inr}
use borrow.Author.Tests.{eqb-true, eqb-false}
use Rattle.rational_laws.specs.Solver.{number, negated, ◌⊞◌, ◌⊟◌, ◌⊠◌, v0, v1, v2}
use Rattle.rational_laws.specs.Rational.{ℚ, ◌+ℚ◌, ◌-ℚ◌, ◌*ℚ◌, neg_ℚ, inverse, whole, ◌≤ℚ◌}
use Rattle.rational_laws.proofs.RationalLaws.{*ℚ-inverse, ring_ℚ, ring_by_ℚ, ≤ℚ_antisym}
use Rattle.rational_laws.specs.RationalSums.{sum_ℚ}
use Rattle.rational_laws.proofs.RationalSumLaws.{sum_ℚ-same, sum_ℚ-scale, sum_ℚ-add, sum_ℚ-zero, ≤ℚ_from}
use Rattle.rational_laws.proofs.Inverses.{zero_or_not, zero_from_product, inverse_nonzero, one-zero}
use Rattle.rational_laws.proofs.OrderLaws.{inverse_not_negative}
use Rattle.rational_laws.specs.Terms.{delta}
use Rattle.rational_laws.proofs.TermLaws.{if-same, if-other, sum_ℚ-delta}
use Rattle.rational_laws.specs.Matrices.{AreInverse}
use Rattle.loss_model.specs.Sample.{Sample, fitted}
use Rattle.loss_model.specs.Strict.{◌<ℚ◌}
use Rattle.rank_model.specs.Restricted.{projected, IsProjection, squared_length}
use Rattle.rank_model.specs.Gram.{gram, IsGramOf, projection_of, HasWeights, GramInverseProjects, GramDependence, GramKeepsRank}
use Rattle.rank_model.proofs.Values.{not_negative_is, square_not_negative}
use Rattle.rank_model.proofs.Lengths.{weighted_fit, squares_not_negative}

-- two numbers that are not negative and add up to 0 are 0
both_zero : (x y : ℚ) → whole (pos 0) ≤ℚ x → whole (pos 0) ≤ℚ y → x +ℚ y ≡ whole (pos 0) → (x ≡ whole (pos 0)) × (y ≡ whole (pos 0))
both_zero x y h k e = (at x y h k e, at y x k h (ring_ℚ (x ∷ y ∷ []) (v1 ⊞ v0) (v0 ⊞ v1) refl ∙ e))
  where
    at : (x y : ℚ) → whole (pos 0) ≤ℚ x → whole (pos 0) ≤ℚ y → x +ℚ y ≡ whole (pos 0) → x ≡ whole (pos 0)
    at x y h k e =
        ≤ℚ_antisym x (whole (pos 0))
        (≤ℚ_from x (whole (pos 0)) (not_negative_is y (whole (pos 0) -ℚ x) (ring_by_ℚ (x ∷ y ∷ []) v1 (number (pos 0) ⊟ v0) (number (pos 1)) (v0 ⊞ v1) (number (pos 0)) refl e) k))
        h

square_zero : (x : ℚ) → x *ℚ x ≡ whole (pos 0) → x ≡ whole (pos 0)
square_zero x e = by (zero_or_not x)
  where
    by : (x ≡ whole (pos 0)) ⊎ (x ≢ whole (pos 0)) → x ≡ whole (pos 0)
    by (inl z) = z
    by (inr n) = zero_from_product x x e n

-- where squares add up to 0 each is 0
pub squares_zero : (n : ℕ) (f : ℕ → ℚ) → sum_ℚ n (λ i. f i *ℚ f i) ≡ whole (pos 0) → (i : ℕ) → i < n → f i ≡ whole (pos 0)
squares_zero zero f e i l = absurd (omega arith)
squares_zero (suc n) f e i l = by (i == n) refl (both_zero (sum_ℚ n (λ i. f i *ℚ f i)) (f n *ℚ f n) (squares_not_negative n f) (square_not_negative (f n)) e) (λ none below. squares_zero n f none i below)
  where
    by : (t : Bool) → (i == n) ≡ t → (sum_ℚ n (λ i. f i *ℚ f i) ≡ whole (pos 0)) × (f n *ℚ f n ≡ whole (pos 0)) → (sum_ℚ n (λ i. f i *ℚ f i) ≡ whole (pos 0) → i < n → f i ≡ whole (pos 0)) → f i ≡ whole (pos 0)
    by true s two ih = ap f (eqb-true i n s) ∙ square_zero (f n) two.1
    by false s two ih = let other : i ≢ n = eqb-false i n s in ih two.0 (omega arith)

-- the weighted fit of v
abbrev pub weighted : Sample → (ℕ → ℚ) → ℕ → ℚ
weighted p v i = p.up1 i *ℚ fitted p v i

-- its product with a weighted column is the product of the Gram row with v
pub gram_row : (p : Sample) (v : ℕ → ℚ) (k : ℕ) → sum_ℚ p.rows (λ i. weighted p v i *ℚ (p.up1 i *ℚ p.x i k)) ≡ sum_ℚ p.columns (λ l. gram p k l *ℚ v l)
gram_row p v k =
    sum_ℚ-same p.rows (λ i. weighted p v i *ℚ (p.up1 i *ℚ p.x i k)) (λ i. (p.up1 i *ℚ p.x i k) *ℚ weighted p v i) (λ i l. ring_ℚ (weighted p v i ∷ (p.up1 i *ℚ p.x i k) ∷ []) (v0 ⊠ v1) (v1 ⊠ v0) refl)
    ∙ weighted_fit p (λ i. p.up1 i *ℚ p.x i k) v
    ∙ sum_ℚ-same p.columns (λ l. v l *ℚ gram p k l) (λ l. gram p k l *ℚ v l) (λ l m. ring_ℚ (v l ∷ gram p k l ∷ []) (v0 ⊠ v1) (v1 ⊠ v0) refl)

-- so its square is v times the Gram matrix times v
pub gram_square : (p : Sample) (v : ℕ → ℚ) → sum_ℚ p.rows (λ i. weighted p v i *ℚ weighted p v i) ≡ sum_ℚ p.columns (λ k. v k *ℚ sum_ℚ p.columns (λ l. gram p k l *ℚ v l))
gram_square p v =
    weighted_fit p (weighted p v) v
    ∙ sum_ℚ-same p.columns (λ k. v k *ℚ sum_ℚ p.rows (λ i. weighted p v i *ℚ (p.up1 i *ℚ p.x i k))) (λ k. v k *ℚ sum_ℚ p.columns (λ l. gram p k l *ℚ v l)) (λ k l. ap (λ z. v k *ℚ z) (gram_row p v k))

-- where that is 0, v fits 0 in every row
pub gram_kernel : (p : Sample) → HasWeights p → (v : ℕ → ℚ) → sum_ℚ p.columns (λ k. v k *ℚ sum_ℚ p.columns (λ l. gram p k l *ℚ v l)) ≡ whole (pos 0) → (i : ℕ) → i < p.rows → fitted p v i ≡ whole (pos 0)
gram_kernel p some v e i l = zero_from_product (p.up1 i) (fitted p v i) (squares_zero p.rows (weighted p v) (gram_square p v ∙ e) i l) (some i l)

-- a v that every Gram row sends to 0 is such
gram_zero : (p : Sample) (v : ℕ → ℚ) → ((k : ℕ) → k < p.columns → sum_ℚ p.columns (λ l. gram p k l *ℚ v l) ≡ whole (pos 0)) → sum_ℚ p.columns (λ k. v k *ℚ sum_ℚ p.columns (λ l. gram p k l *ℚ v l)) ≡ whole (pos 0)
gram_zero p v gone =
    sum_ℚ-same p.columns (λ k. v k *ℚ sum_ℚ p.columns (λ l. gram p k l *ℚ v l)) (λ k. whole (pos 0)) (λ k l. ap (λ z. v k *ℚ z) (gone k l) ∙ ring_ℚ (v k ∷ []) (v0 ⊠ number (pos 0)) (number (pos 0)) refl)
    ∙ sum_ℚ-zero p.columns

-- a row of the Gram problem
pub gram_fitted : (p g : Sample) → IsGramOf p g → (b : ℕ → ℚ) (k : ℕ) → k < p.columns → fitted g b k ≡ sum_ℚ p.columns (λ l. gram p k l *ℚ b l)
gram_fitted p g is b k lk =
    ap (λ n. sum_ℚ n (λ l. g.x k l *ℚ b l)) is.columns
    ∙ sum_ℚ-same p.columns (λ l. g.x k l *ℚ b l) (λ l. gram p k l *ℚ b l) (λ l ll. ap (λ z. z *ℚ b l) (is.entries k l lk ll))

fits_nothing : (p g : Sample) (b : ℕ → ℚ) → IsGramOf p g → HasWeights p → ((k : ℕ) → k < g.rows → fitted g b k ≡ whole (pos 0)) → (i : ℕ) → i < p.rows → fitted p b i ≡ whole (pos 0)
fits_nothing p g b is some gone =
    gram_kernel p some b (gram_zero p b (λ k l. sym (gram_fitted p g is b k l) ∙ gone k (subst (λ n. k < n) (sym is.rows) l)))

pub dependence : GramDependence
dependence p g b is some d =
    record {
      column = d.column;
      within = subst (λ n. d.column < n) is.columns d.within;
      some = d.some;
      zero = fits_nothing p g b is some d.zero;
    }

pub keeps_rank : GramKeepsRank
keeps_rank p g is some = (
  λ full b gone k l. full b (fits_nothing p g b is some gone) k (subst (λ n. k < n) is.columns l),
  λ full b gone k l. full b (λ m lm. sent b gone m (subst (λ n. m < n) is.rows lm)) k (subst (λ n. k < n) (sym is.columns) l),
)
  where
    sent : (b : ℕ → ℚ) → ((i : ℕ) → i < p.rows → fitted p b i ≡ whole (pos 0)) → (m : ℕ) → m < p.columns → fitted g b m ≡ whole (pos 0)
    sent b gone m lm =
        gram_fitted p g is b m lm ∙ sym (gram_row p b m)
        ∙ sum_ℚ-same p.rows (λ i. weighted p b i *ℚ (p.up1 i *ℚ p.x i m)) (λ i. whole (pos 0))
        (λ i l. ap (λ z. (p.up1 i *ℚ z) *ℚ (p.up1 i *ℚ p.x i m)) (gone i l) ∙ ring_ℚ (p.up1 i ∷ p.x i m ∷ []) ((v0 ⊠ number (pos 0)) ⊠ (v0 ⊠ v1)) (number (pos 0)) refl)
        ∙ sum_ℚ-zero p.rows

-- ---- the projection

module _ (p : Sample) (j : ℕ) (a : ℕ → ℕ → ℚ) (lj : j < p.columns) (inv : AreInverse p.columns (gram p) a) where
  -- column j of the inverse
  c : ℕ → ℚ
  c k = a k j

  diagonal : sum_ℚ p.rows (λ i. weighted p c i *ℚ weighted p c i) ≡ a j j
  unfolding c
  diagonal =
      gram_square p c
      ∙ sum_ℚ-same p.columns (λ k. c k *ℚ sum_ℚ p.columns (λ l. gram p k l *ℚ c l)) (λ k. c k *ℚ delta k j) (λ k l. ap (λ z. c k *ℚ z) (inv.left k j l lj))
      ∙ sum_ℚ-delta p.columns c j lj

  nonzero : a j j ≢ whole (pos 0)
  unfolding c
  nonzero none =
      let gone : (i : ℕ) → i < p.rows → weighted p c i ≡ whole (pos 0) = squares_zero p.rows (weighted p c) (diagonal ∙ none) in
      one-zero (sym (if-same j j (whole (pos 1)) (whole (pos 0)) refl) ∙ sym (inv.left j j lj lj) ∙ sym (gram_row p c j)
      ∙ sum_ℚ-same p.rows (λ i. weighted p c i *ℚ (p.up1 i *ℚ p.x i j)) (λ i. whole (pos 0)) (λ i l. ap (λ z. z *ℚ (p.up1 i *ℚ p.x i j)) (gone i l) ∙ ring_ℚ ((p.up1 i *ℚ p.x i j) ∷ []) (number (pos 0) ⊠ v0) (number (pos 0)) refl)
      ∙ sum_ℚ-zero p.rows)

  above_zero : (x : ℚ) → whole (pos 0) ≤ℚ x → x ≢ whole (pos 0) → whole (pos 0) <ℚ x
  above_zero x h n k = n (≤ℚ_antisym x (whole (pos 0)) k h)

  q : ℚ
  q = inverse (a j j)

  -- the factors by which the columns give the rest
  v : ℕ → ℚ
  v k = q *ℚ a k j

  own : q *ℚ a j j ≡ whole (pos 1)
  unfolding q
  own = ring_ℚ (inverse (a j j) ∷ a j j ∷ []) (v0 ⊠ v1) (v1 ⊠ v0) refl ∙ *ℚ-inverse (a j j) nonzero

  -- the projection's factors and v add up to the unit vector
  factor_is : (k : ℕ) → projection_of a j k ≡ delta k j -ℚ v k
  unfolding v q
  factor_is k = by (k == j) refl
    where
      by : (t : Bool) → (k == j) ≡ t → (if t then whole (pos 0) else neg_ℚ (a k j) *ℚ inverse (a j j)) ≡ (if t then whole (pos 1) else whole (pos 0)) -ℚ (inverse (a j j) *ℚ a k j)
      by true e =
          ring_by_ℚ ((inverse (a j j) *ℚ a j j) ∷ []) (number (pos 0)) (number (pos 1) ⊟ v0) (number (pos 1)) v0 (number (pos 1)) refl own
          ∙ ap (λ m. whole (pos 1) -ℚ (inverse (a j j) *ℚ a m j)) (sym (eqb-true k j e))
      by false e = ring_ℚ (a k j ∷ inverse (a j j) ∷ []) (negated v0 ⊠ v1) (number (pos 0) ⊟ v1 ⊠ v0) refl

  rest_is : (i : ℕ) → projected p j (projection_of a j) i ≡ weighted p v i
  rest_is i =
      ap (λ z. p.up1 i *ℚ (p.x i j -ℚ z))
      (sum_ℚ-same p.columns (λ k. p.x i k *ℚ projection_of a j k) (λ k. (p.x i k *ℚ delta k j) +ℚ (neg_ℚ (whole (pos 1)) *ℚ (p.x i k *ℚ v k)))
      (λ k l. ap (λ z. p.x i k *ℚ z) (factor_is k) ∙ ring_ℚ (p.x i k ∷ delta k j ∷ v k ∷ []) (v0 ⊠ (v1 ⊟ v2)) (v0 ⊠ v1 ⊞ negated (number (pos 1)) ⊠ (v0 ⊠ v2)) refl)
      ∙ sum_ℚ-add p.columns (λ k. p.x i k *ℚ delta k j) (λ k. neg_ℚ (whole (pos 1)) *ℚ (p.x i k *ℚ v k))
      ∙ ap (λ z. z +ℚ sum_ℚ p.columns (λ k. neg_ℚ (whole (pos 1)) *ℚ (p.x i k *ℚ v k))) (sum_ℚ-delta p.columns (p.x i) j lj)
      ∙ ap (λ z. p.x i j +ℚ z) (sum_ℚ-scale p.columns (neg_ℚ (whole (pos 1))) (λ k. p.x i k *ℚ v k)))
      ∙ ring_ℚ (p.up1 i ∷ p.x i j ∷ fitted p v i ∷ []) (v0 ⊠ (v1 ⊟ (v1 ⊞ negated (number (pos 1)) ⊠ v2))) (v0 ⊠ v2) refl

  gram_v : (k : ℕ) → k < p.columns → sum_ℚ p.columns (λ l. gram p k l *ℚ v l) ≡ q *ℚ delta k j
  unfolding v
  gram_v k l =
      sum_ℚ-same p.columns (λ l. gram p k l *ℚ v l) (λ l. q *ℚ (gram p k l *ℚ a l j)) (λ l m. ring_ℚ (gram p k l ∷ q ∷ a l j ∷ []) (v0 ⊠ (v1 ⊠ v2)) (v1 ⊠ (v0 ⊠ v2)) refl)
      ∙ sum_ℚ-scale p.columns q (λ l. gram p k l *ℚ a l j)
      ∙ ap (λ z. q *ℚ z) (inv.left k j l lj)

  pub is_projection : IsProjection p j (projection_of a j)
  is_projection =
      record {
        own = if-same j j (whole (pos 0)) (neg_ℚ (a j j) *ℚ inverse (a j j)) refl;
        orthogonal = λ k l other.
            sum_ℚ-same p.rows (λ i. projected p j (projection_of a j) i *ℚ (p.up1 i *ℚ p.x i k)) (λ i. weighted p v i *ℚ (p.up1 i *ℚ p.x i k)) (λ i m. ap (λ z. z *ℚ (p.up1 i *ℚ p.x i k)) (rest_is i))
            ∙ gram_row p v k ∙ gram_v k l
            ∙ ap (λ z. q *ℚ z) (if-other k j (whole (pos 1)) (whole (pos 0)) other)
            ∙ ring_ℚ (q ∷ []) (v0 ⊠ number (pos 0)) (number (pos 0)) refl;
      }

  pub length_is : squared_length p j (projection_of a j) ≡ inverse (a j j)
  unfolding v q
  length_is =
      sum_ℚ-same p.rows (λ i. projected p j (projection_of a j) i *ℚ projected p j (projection_of a j) i) (λ i. weighted p v i *ℚ weighted p v i) (λ i m. ap₂ ◌*ℚ◌ (rest_is i) (rest_is i))
      ∙ gram_square p v
      ∙ sum_ℚ-same p.columns (λ k. v k *ℚ sum_ℚ p.columns (λ l. gram p k l *ℚ v l)) (λ k. (v k *ℚ q) *ℚ delta k j) (λ k l. ap (λ z. v k *ℚ z) (gram_v k l) ∙ ring_ℚ (v k ∷ q ∷ delta k j ∷ []) (v0 ⊠ (v1 ⊠ v2)) ((v0 ⊠ v1) ⊠ v2) refl)
      ∙ sum_ℚ-delta p.columns (λ k. v k *ℚ q) j lj
      ∙ ap (λ z. z *ℚ q) own
      ∙ ring_ℚ (q ∷ []) (number (pos 1) ⊠ v0) v0 refl

  diagonal_not_negative : whole (pos 0) ≤ℚ a j j
  diagonal_not_negative = not_negative_is (sum_ℚ p.rows (λ i. weighted p c i *ℚ weighted p c i)) (a j j) diagonal (squares_not_negative p.rows (weighted p c))

  pub diagonal_positive : whole (pos 0) <ℚ a j j
  diagonal_positive = above_zero (a j j) diagonal_not_negative nonzero

  pub length_positive : whole (pos 0) <ℚ squared_length p j (projection_of a j)
  length_positive = subst (λ z. whole (pos 0) <ℚ z) (sym length_is) (above_zero (inverse (a j j)) (inverse_not_negative (a j j) diagonal_not_negative) (inverse_nonzero (a j j) nonzero))

pub projects : GramInverseProjects
projects p j a lj inv = (is_projection p j a lj inv, length_is p j a lj inv, diagonal_positive p j a lj inv, length_positive p j a lj inv)
