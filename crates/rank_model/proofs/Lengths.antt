-- The length that a projection leaves.
use Rattle.std.specs.Prelude.{◌≡◌, ℕ, zero, suc, ◌<◌, [], ◌∷◌, pos}
use Rattle.std.proofs.Common.{refl, sym, ap, ap₂, subst, ◌∙◌}
use Rattle.rational_laws.specs.Solver.{number, negated, ◌⊞◌, ◌⊟◌, ◌⊠◌, v0, v1, v2, v3, v4}
use Rattle.rational_laws.specs.Rational.{ℚ, ◌+ℚ◌, ◌-ℚ◌, ◌*ℚ◌, neg_ℚ, whole, ◌≤ℚ◌}
use Rattle.rational_laws.proofs.RationalLaws.{ring_ℚ, ring_by_ℚ, ≤ℚ_refl}
use Rattle.rational_laws.specs.RationalSums.{sum_ℚ}
use Rattle.rational_laws.proofs.RationalSumLaws.{sum_ℚ-same, sum_ℚ-mix, sum_ℚ-scale, sum_ℚ-swap}
use Rattle.rational_laws.proofs.OrderLaws.{cmp_ℚ-Less}
use Rattle.rational_laws.proofs.Signs.{sum_not_negative}
use Rattle.loss_model.specs.Sample.{Sample, fitted}
use Rattle.rank_model.specs.Restricted.{projected, IsProjection, squared_length}
use Rattle.rank_model.specs.Laws.{ProjectionByEntries, DataRowsHaveWeights}
use Rattle.rank_model.proofs.Values.{square_not_negative}
use Rattle.rank_model.proofs.Optimal.{sum_ℚ-single}

-- the product of u with a weighted fit, by columns
pub weighted_fit : (p : Sample) (u g : ℕ → ℚ) → sum_ℚ p.rows (λ i. u i *ℚ (p.up1 i *ℚ fitted p g i)) ≡ sum_ℚ p.columns (λ k. g k *ℚ sum_ℚ p.rows (λ i. u i *ℚ (p.up1 i *ℚ p.x i k)))
weighted_fit p u g =
    sum_ℚ-same p.rows (λ i. u i *ℚ (p.up1 i *ℚ fitted p g i)) (λ i. sum_ℚ p.columns (λ k. g k *ℚ (u i *ℚ (p.up1 i *ℚ p.x i k))))
    (λ i l. ring_ℚ (u i ∷ p.up1 i ∷ fitted p g i ∷ []) (v0 ⊠ (v1 ⊠ v2)) ((v0 ⊠ v1) ⊠ v2) refl
    ∙ sym (sum_ℚ-scale p.columns (u i *ℚ p.up1 i) (λ k. p.x i k *ℚ g k))
    ∙ sum_ℚ-same p.columns (λ k. (u i *ℚ p.up1 i) *ℚ (p.x i k *ℚ g k)) (λ k. g k *ℚ (u i *ℚ (p.up1 i *ℚ p.x i k))) (λ k m. ring_ℚ (u i ∷ p.up1 i ∷ p.x i k ∷ g k ∷ []) ((v0 ⊠ v1) ⊠ (v2 ⊠ v3)) (v3 ⊠ (v0 ⊠ (v1 ⊠ v2))) refl))
    ∙ sum_ℚ-swap p.rows p.columns (λ i k. g k *ℚ (u i *ℚ (p.up1 i *ℚ p.x i k)))
    ∙ sum_ℚ-same p.columns (λ k. sum_ℚ p.rows (λ i. g k *ℚ (u i *ℚ (p.up1 i *ℚ p.x i k)))) (λ k. g k *ℚ sum_ℚ p.rows (λ i. u i *ℚ (p.up1 i *ℚ p.x i k))) (λ k m. sum_ℚ-scale p.rows (g k) (λ i. u i *ℚ (p.up1 i *ℚ p.x i k)))

-- a sum of differences
pub sum_ℚ-minus : (n : ℕ) (f g : ℕ → ℚ) → sum_ℚ n (λ i. f i -ℚ g i) ≡ sum_ℚ n f -ℚ sum_ℚ n g
sum_ℚ-minus n f g =
    sum_ℚ-same n (λ i. f i -ℚ g i) (λ i. (whole (pos 1) *ℚ f i) +ℚ (neg_ℚ (whole (pos 1)) *ℚ g i)) (λ i l. ring_ℚ (f i ∷ g i ∷ []) (v0 ⊟ v1) (number (pos 1) ⊠ v0 ⊞ negated (number (pos 1)) ⊠ v1) refl)
    ∙ sum_ℚ-mix n (whole (pos 1)) (neg_ℚ (whole (pos 1))) f g
    ∙ ring_ℚ (sum_ℚ n f ∷ sum_ℚ n g ∷ []) (number (pos 1) ⊠ v0 ⊞ negated (number (pos 1)) ⊠ v1) (v0 ⊟ v1) refl

fitted-minus : (p : Sample) (c d : ℕ → ℚ) (i : ℕ) → fitted p (λ k. c k -ℚ d k) i ≡ fitted p c i -ℚ fitted p d i
fitted-minus p c d i =
    sum_ℚ-same p.columns (λ k. p.x i k *ℚ (c k -ℚ d k)) (λ k. (p.x i k *ℚ c k) -ℚ (p.x i k *ℚ d k)) (λ k l. ring_ℚ (p.x i k ∷ c k ∷ d k ∷ []) (v0 ⊠ (v1 ⊟ v2)) (v0 ⊠ v1 ⊟ v0 ⊠ v2) refl)
    ∙ sum_ℚ-minus p.columns (λ k. p.x i k *ℚ c k) (λ k. p.x i k *ℚ d k)

-- a rest is orthogonal to the difference of two rests
crossed : (p : Sample) (j : ℕ) (c d e : ℕ → ℚ) → j < p.columns → IsProjection p j c → d j ≡ whole (pos 0) → e j ≡ whole (pos 0)
    → sum_ℚ p.rows (λ i. projected p j c i *ℚ projected p j d i) ≡ sum_ℚ p.rows (λ i. projected p j c i *ℚ projected p j e i)
crossed p j c d e lj pr hd he =
    same (sum_ℚ p.rows (λ i. projected p j c i *ℚ projected p j d i)) (sum_ℚ p.rows (λ i. projected p j c i *ℚ projected p j e i))
    (sym (sum_ℚ-minus p.rows (λ i. projected p j c i *ℚ projected p j d i) (λ i. projected p j c i *ℚ projected p j e i))
    ∙ sum_ℚ-same p.rows (λ i. (projected p j c i *ℚ projected p j d i) -ℚ (projected p j c i *ℚ projected p j e i)) (λ i. projected p j c i *ℚ (p.up1 i *ℚ fitted p g i))
    (λ i l. ring_ℚ (projected p j c i ∷ p.up1 i ∷ p.x i j ∷ fitted p d i ∷ fitted p e i ∷ []) (v0 ⊠ (v1 ⊠ (v2 ⊟ v3)) ⊟ v0 ⊠ (v1 ⊠ (v2 ⊟ v4))) (v0 ⊠ (v1 ⊠ (v4 ⊟ v3))) refl
    ∙ ap (λ z. projected p j c i *ℚ (p.up1 i *ℚ z)) (sym (fitted-minus p e d i)))
    ∙ weighted_fit p (projected p j c) g
    ∙ sum_ℚ-single p.columns (λ k. g k *ℚ sum_ℚ p.rows (λ i. projected p j c i *ℚ (p.up1 i *ℚ p.x i k))) j lj
    (λ k l other. ap (λ z. g k *ℚ z) (pr.orthogonal k l other) ∙ ring_ℚ (g k ∷ []) (v0 ⊠ number (pos 0)) (number (pos 0)) refl)
    ∙ ap (λ z. (z -ℚ d j) *ℚ sum_ℚ p.rows (λ i. projected p j c i *ℚ (p.up1 i *ℚ p.x i j))) he
    ∙ ap (λ z. (whole (pos 0) -ℚ z) *ℚ sum_ℚ p.rows (λ i. projected p j c i *ℚ (p.up1 i *ℚ p.x i j))) hd
    ∙ ring_ℚ (sum_ℚ p.rows (λ i. projected p j c i *ℚ (p.up1 i *ℚ p.x i j)) ∷ []) ((number (pos 0) ⊟ number (pos 0)) ⊠ v0) (number (pos 0)) refl)
  where
    g : ℕ → ℚ
    g k = e k -ℚ d k

    same : (x y : ℚ) → x -ℚ y ≡ whole (pos 0) → x ≡ y
    same x y h = ring_by_ℚ (x ∷ y ∷ []) v0 v1 (number (pos 1)) (v0 ⊟ v1) (number (pos 0)) refl h

pub one_length : (p : Sample) (j : ℕ) (c d : ℕ → ℚ) → j < p.columns → IsProjection p j c → IsProjection p j d → squared_length p j c ≡ squared_length p j d
one_length p j c d lj pc pd =
    crossed p j c c d lj pc pc.own pd.own
    ∙ sum_ℚ-same p.rows (λ i. projected p j c i *ℚ projected p j d i) (λ i. projected p j d i *ℚ projected p j c i) (λ i l. ring_ℚ (projected p j c i ∷ projected p j d i ∷ []) (v0 ⊠ v1) (v1 ⊠ v0) refl)
    ∙ crossed p j d c d lj pd pc.own pd.own

pub squares_not_negative : (n : ℕ) (f : ℕ → ℚ) → whole (pos 0) ≤ℚ sum_ℚ n (λ i. f i *ℚ f i)
squares_not_negative zero f = ≤ℚ_refl (whole (pos 0))
squares_not_negative (suc n) f = sum_not_negative (sum_ℚ n (λ i. f i *ℚ f i)) (f n *ℚ f n) (squares_not_negative n f) (square_not_negative (f n))

-- factors that are equal below the columns
pub by_entries : ProjectionByEntries
by_entries p j c d lj same pr = (
  record {
    own = same j lj ∙ pr.own;
    orthogonal = λ k l other. sum_ℚ-same p.rows (λ i. projected p j d i *ℚ (p.up1 i *ℚ p.x i k)) (λ i. projected p j c i *ℚ (p.up1 i *ℚ p.x i k)) (λ i m. ap (λ z. z *ℚ (p.up1 i *ℚ p.x i k)) (rest i)) ∙ pr.orthogonal k l other;
  },
  sum_ℚ-same p.rows (λ i. projected p j d i *ℚ projected p j d i) (λ i. projected p j c i *ℚ projected p j c i) (λ i m. ap₂ ◌*ℚ◌ (rest i) (rest i)),
)
  where
    rest : (i : ℕ) → projected p j d i ≡ projected p j c i
    rest i = ap (λ z. p.up1 i *ℚ (p.x i j -ℚ z)) (sum_ℚ-same p.columns (λ k. p.x i k *ℚ d k) (λ k. p.x i k *ℚ c k) (λ k l. ap (λ z. p.x i k *ℚ z) (same k l)))

pub data_rows_have_weights : DataRowsHaveWeights
data_rows_have_weights p rows i l none = (cmp_ℚ-Less (whole (pos 0)) (p.up1 i)).0 (rows i l).weighted (subst (λ z. z ≤ℚ whole (pos 0)) (sym none) (≤ℚ_refl (whole (pos 0))))
