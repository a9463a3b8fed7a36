-- Sums of products by their steps.
--
--     at the start, after a step, at the end   partial_sum-begun, partial_sum-more, partial_sum-whole
--     sums with the same terms                 partial_sum-same, spill-same
use Rattle.std.specs.Prelude.{◌≡◌, ℕ, ◌+◌, ◌<◌, [], ◌∷◌, pos}
use Rattle.std.proofs.Common.{arith, refl, sym, ap, ap₂, ◌∙◌, add-one}
use Rattle.rational_laws.specs.Solver.{number, ◌⊞◌, v0, v1, v2}
use Rattle.rational_laws.specs.Rational.{ℚ, ◌+ℚ◌, ◌*ℚ◌, whole}
use Rattle.rational_laws.proofs.RationalLaws.{ring_ℚ, zero-+ℚ}
use Rattle.rational_laws.specs.RationalSums.{sum_ℚ}
use Rattle.rational_laws.proofs.RationalSumLaws.{sum_ℚ-same}
use Rattle.rational_laws.specs.Fraction.{Fraction}
use Rattle.loss_model.specs.declared.spill.Site.{Site}
use Rattle.loss_model.specs.declared.spill.Spill.{Spill}
use Rattle.loss_model.specs.Spill.{Products, partial_sum, IsSpillOf}
use Rattle.loss_model.proofs.Products.{same_term}

pub partial_sum-begun : (t : Products) (x : ℚ) → x ≡ t.first → x ≡ partial_sum t 0
partial_sum-begun t x e = e ∙ ring_ℚ (t.first ∷ []) v0 (v0 ⊞ number (pos 0)) refl

pub partial_sum-more : (t : Products) (k : ℕ) (sum left right next : ℚ) → sum ≡ partial_sum t k → left ≡ t.left k → right ≡ t.right k → next ≡ sum +ℚ (left *ℚ right) → next ≡ partial_sum t (k + 1)
partial_sum-more t k sum left right next before l r e =
    e ∙ ap₂ (λ z w. z +ℚ w) before (ap₂ (λ z w. z *ℚ w) l r)
    ∙ ring_ℚ (t.first ∷ sum_ℚ k (λ k. t.left k *ℚ t.right k) ∷ (t.left k *ℚ t.right k) ∷ []) ((v0 ⊞ v1) ⊞ v2) (v0 ⊞ (v1 ⊞ v2)) refl
    ∙ ap (λ n. partial_sum t n) (sym (add-one k))

-- all products, after the value 0
pub partial_sum-whole : (t : Products) (n : ℕ) (x : ℚ) → n ≡ t.count → t.first ≡ whole (pos 0) → x ≡ partial_sum t n → x ≡ sum_ℚ t.count (λ k. t.left k *ℚ t.right k)
partial_sum-whole t n x end none h =
    h ∙ ap (partial_sum t) end ∙ ap (λ z. z +ℚ sum_ℚ t.count (λ k. t.left k *ℚ t.right k)) none ∙ zero-+ℚ (sum_ℚ t.count (λ k. t.left k *ℚ t.right k))

module _ (t u : Products) (count : t.count ≡ u.count) (first : t.first ≡ u.first) (left : (k : ℕ) → k < t.count → t.left k ≡ u.left k) (right : (k : ℕ) → k < t.count → t.right k ≡ u.right k) where
  pub partial_sum-same : (n : ℕ) → ((k : ℕ) → k < n → k < t.count) → partial_sum t n ≡ partial_sum u n
  partial_sum-same n within =
      ap₂ (λ z w. z +ℚ w) first
      (sum_ℚ-same n (λ k. t.left k *ℚ t.right k) (λ k. u.left k *ℚ u.right k) (λ k l. ap₂ (λ z w. z *ℚ w) (left k (within k l)) (right k (within k l))))

  pub spill-same : {F : Type 0} (value : F → Fraction) (range : ℕ) (site : Site) (s : Spill F) → IsSpillOf value range site t s → IsSpillOf value range site u s
  spill-same value range site s h =
      let k = h.at_product.0 in
      let l = h.at_product.1 in
      record {
        at_product = (
          k,
          omega (arith, l, count),
          same_term value range (record site { term = site.term + k }) s (partial_sum t k) (partial_sum u k) (t.left k) (u.left k) (t.right k) (u.right k) (partial_sum-same k (λ i m. omega (arith, l, m))) (left k l)
              (right k l) h.at_product.2,
        );
      }
