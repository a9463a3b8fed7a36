-- Losses that are affine in the quantile: concavity, continuity, and the fit at the centroid.
use Rattle.std.specs.Prelude.{◌≡◌, ◌⊎◌, ℕ, zero, suc, ◌+◌, ◌-◌, ◌<◌, [], ◌∷◌, pos}
use Rattle.std.specs.declared.cmp.Ordering.TheVariants.{Less}
use Rattle.std.proofs.Common.{arith, refl, sym, ap, ap₂, subst, ◌∙◌, inl, inr}
use Rattle.rational_laws.specs.Solver.{number, negated, ◌⊞◌, ◌⊟◌, ◌⊠◌, v0, v1, v2, v3, v4, v5, v6, v7}
use Rattle.rational_laws.specs.Rational.{ℚ, ◌+ℚ◌, ◌-ℚ◌, ◌*ℚ◌, neg_ℚ, inverse, whole, ◌≤ℚ◌}
use Rattle.rational_laws.proofs.RationalLaws.{whole-add, ring_ℚ, ring_by_ℚ, ≤ℚ_refl, ≤ℚ_trans, ≤ℚ_antisym, ≤ℚ_mul}
use Rattle.rational_laws.specs.RationalSums.{sum_ℚ, positive_ℚ, negative_ℚ}
use Rattle.rational_laws.proofs.RationalSumLaws.{parts_ℚ, ≤ℚ_add2, sum_ℚ-le, sum_ℚ-same, sum_ℚ-mix, sum_ℚ-scale, sum_ℚ-swap, sum_ℚ-zero}
use Rattle.rational_laws.proofs.OrderLaws.{≤ℚ-minus, ≤ℚ-from_mul, ≤ℚ_cancel, le_from_not, inverse_not_negative, cmp_ℚ-Less}
use Rattle.rational_laws.specs.Order.{cmp_ℚ}
use Rattle.rational_laws.proofs.Signs.{whole_not_negative}
use Rattle.loss_model.specs.Strict.{◌<ℚ◌}
use Rattle.loss_model.specs.Sample.{Sample, fitted, residual, row_loss, loss, Minimises}
use Rattle.loss_model.specs.Dual.{mix}
use Rattle.loss_model.specs.Segment.{Segments, Covers}
use Rattle.loss_model.proofs.Quotients.{inverse_of, positive_gap}
use Rattle.quantile_laws.specs.Monotonicity.{LossIsAffine, LeastLossIsConcave, LeastLossIsOne, MinimiseAlong, LeastLossIsContinuous, loss_slope, LossIsLine}
use Rattle.quantile_laws.specs.Monotonicity.{SlopeFalls, SlopeFallsAlong, AreObservations, centroid, at_centroid, CentroidNeverFalls, CentroidNeverFallsAlong}
use Rattle.quantile_laws.proofs.Counts.{sum_cut}

-- the loss at another quantile
pub line : LossIsLine
line p lo hi c =
    sum_ℚ-same p.rows (row_loss p hi c) (λ i. (whole (pos 1) *ℚ row_loss p lo c i) +ℚ ((hi -ℚ lo) *ℚ ((p.up1 i *ℚ positive_ℚ (residual p c i)) +ℚ (p.down1 i *ℚ negative_ℚ (residual p c i)))))
    (λ i l. ring_ℚ (lo ∷ hi ∷ p.up0 i ∷ p.up1 i ∷ p.down0 i ∷ p.down1 i ∷ positive_ℚ (residual p c i) ∷ negative_ℚ (residual p c i) ∷ [])
    ((v2 ⊞ v3 ⊠ v1) ⊠ v6 ⊞ (v4 ⊞ v5 ⊠ v1) ⊠ v7)
    (number (pos 1) ⊠ ((v2 ⊞ v3 ⊠ v0) ⊠ v6 ⊞ (v4 ⊞ v5 ⊠ v0) ⊠ v7) ⊞ (v1 ⊟ v0) ⊠ (v3 ⊠ v6 ⊞ v5 ⊠ v7)) refl)
    ∙ sum_ℚ-mix p.rows (whole (pos 1)) (hi -ℚ lo) (row_loss p lo c) (λ i. (p.up1 i *ℚ positive_ℚ (residual p c i)) +ℚ (p.down1 i *ℚ negative_ℚ (residual p c i)))
    ∙ ring_ℚ (loss p lo c ∷ (hi -ℚ lo) ∷ loss_slope p c ∷ []) (number (pos 1) ⊠ v0 ⊞ v1 ⊠ v2) (v0 ⊞ v1 ⊠ v2) refl

pub affine : LossIsAffine
affine p lo hi b m n some =
    line p lo (mix m n lo hi) b
    ∙ ring_by_ℚ (lo ∷ hi ∷ loss p lo b ∷ loss_slope p b ∷ whole (pos m) ∷ whole (pos n) ∷ inverse (whole (pos (m + n))) ∷ [])
    (v2 ⊞ ((v4 ⊠ v0 ⊞ v5 ⊠ v1) ⊠ v6 ⊟ v0) ⊠ v3) ((v4 ⊠ v2 ⊞ v5 ⊠ (v2 ⊞ (v1 ⊟ v0) ⊠ v3)) ⊠ v6) (v0 ⊠ v3 ⊟ v2) ((v4 ⊞ v5) ⊠ v6) (number (pos 1)) refl
    (ap (λ z. z *ℚ inverse (whole (pos (m + n)))) (sym (whole-add (pos m) (pos n))) ∙ inverse_of (m + n) (omega (arith, some)))
    ∙ ap (λ z. mix m n (loss p lo b) z) (sym (line p lo hi b))

mix_le : (m n : ℕ) (a b a' b' : ℚ) → a ≤ℚ a' → b ≤ℚ b' → mix m n a b ≤ℚ mix m n a' b'
mix_le m n a b a' b' h k =
    turned ((whole (pos m) *ℚ a) +ℚ (whole (pos n) *ℚ b)) ((whole (pos m) *ℚ a') +ℚ (whole (pos n) *ℚ b')) (inverse (whole (pos (m + n))))
    (≤ℚ_mul ((whole (pos m) *ℚ a) +ℚ (whole (pos n) *ℚ b)) ((whole (pos m) *ℚ a') +ℚ (whole (pos n) *ℚ b')) (inverse (whole (pos (m + n))))
    (inverse_not_negative (whole (pos (m + n))) (whole_not_negative (m + n)))
    (≤ℚ_add2 (whole (pos m) *ℚ a) (whole (pos m) *ℚ a') (whole (pos n) *ℚ b) (whole (pos n) *ℚ b') (≤ℚ_mul a a' (whole (pos m)) (whole_not_negative m) h) (≤ℚ_mul b b' (whole (pos n)) (whole_not_negative n) k)))
  where
    turn : (x i : ℚ) → i *ℚ x ≡ x *ℚ i
    turn x i = ring_ℚ (x ∷ i ∷ []) (v1 ⊠ v0) (v0 ⊠ v1) refl

    turned : (x y i : ℚ) → (i *ℚ x) ≤ℚ (i *ℚ y) → (x *ℚ i) ≤ℚ (y *ℚ i)
    turned x y i h = subst (λ z. z ≤ℚ (y *ℚ i)) (turn x i) (subst (λ z. (i *ℚ x) ≤ℚ z) (turn y i) h)

pub concave : LeastLossIsConcave
concave p lo hi b c m n some at_lo at_hi other =
    subst (λ z. mix m n (loss p lo b) (loss p hi c) ≤ℚ z) (sym (affine p lo hi other m n some))
    (mix_le m n (loss p lo b) (loss p hi c) (loss p lo other) (loss p hi other) (at_lo other) (at_hi other))

pub one : LeastLossIsOne
one p theta b c h k = ≤ℚ_antisym (loss p theta b) (loss p theta c) (h c) (k b)

pub continuous : LeastLossIsContinuous
continuous p rows lo hi s b covers least j l =
    one p (s.hi j) (b j) (b (j + 1)) (least.at_hi j (omega (arith, l))) (subst (λ z. Minimises p z (b (j + 1))) (sym (covers.joined j l)) (least.at_lo (j + 1) l))
    ∙ ap (λ z. loss p z (b (j + 1))) (covers.joined j l)

-- both minimise: the inequalities added
pub slope_falls : SlopeFalls
slope_falls p lo hi b c at_lo at_hi after =
    ≤ℚ-from_mul (loss_slope p c) (loss_slope p b) (hi -ℚ lo) (positive_gap lo hi after)
    (≤ℚ_cancel ((hi -ℚ lo) *ℚ loss_slope p c) ((hi -ℚ lo) *ℚ loss_slope p b) (loss p lo b +ℚ loss p lo c)
    (subst (λ z. z ≤ℚ ((loss p lo b +ℚ loss p lo c) +ℚ ((hi -ℚ lo) *ℚ loss_slope p b)))
    (ap (λ z. loss p lo b +ℚ z) (line p lo hi c) ∙ ring_ℚ (loss p lo b ∷ loss p lo c ∷ ((hi -ℚ lo) *ℚ loss_slope p c) ∷ []) (v0 ⊞ (v1 ⊞ v2)) ((v0 ⊞ v1) ⊞ v2) refl)
    (subst (λ z. (loss p lo b +ℚ loss p hi c) ≤ℚ z)
    (ap (λ z. loss p lo c +ℚ z) (line p lo hi b) ∙ ring_ℚ (loss p lo b ∷ loss p lo c ∷ ((hi -ℚ lo) *ℚ loss_slope p b) ∷ []) (v1 ⊞ (v0 ⊞ v2)) ((v0 ⊞ v1) ⊞ v2) refl)
    (≤ℚ_add2 (loss p lo b) (loss p lo c) (loss p hi c) (loss p hi b) (at_lo c) (at_hi b)))))

-- ---- along segments

module _ (p : Sample) (rows : ℕ) (lo hi : ℚ) (s : Segments) (b : ℕ → ℕ → ℚ) (covers : Covers rows lo hi s) (least : MinimiseAlong p s b) where
  -- where there are two segments, each has ends that differ
  less : (j k : ℕ) → j + 1 < s.count → k < s.count → s.lo k <ℚ s.hi k
  less j k l m = by (covers.proper k m)
    where
      by : (cmp_ℚ (s.lo k) (s.hi k) ≡ Less) ⊎ ((s.count ≡ 1) × (lo ≡ hi)) → s.lo k <ℚ s.hi k
      by (inl h) = (cmp_ℚ-Less (s.lo k) (s.hi k)).0 h
      by (inr h) = absurd (omega (arith, h.0, l))

  next : (j : ℕ) → j + 1 < s.count → loss_slope p (b (j + 1)) ≤ℚ loss_slope p (b j)
  next j l =
      slope_falls p (s.lo j) (s.hi (j + 1)) (b j) (b (j + 1)) (least.at_lo j (omega (arith, l))) (least.at_hi (j + 1) l)
      (λ back. less j j l (omega (arith, l)) (≤ℚ_trans (s.hi j) (s.hi (j + 1)) (s.lo j) (subst (λ z. z ≤ℚ s.hi (j + 1)) (sym (covers.joined j l)) (le_from_not (s.lo (j + 1)) (s.hi (j + 1)) (less j (j + 1) l l))) back))

  after : (j m : ℕ) → j + m < s.count → loss_slope p (b (j + m)) ≤ℚ loss_slope p (b j)
  after j zero l =
      let here : j + zero ≡ j = omega arith in
      subst (λ k. loss_slope p (b k) ≤ℚ loss_slope p (b j)) (sym here) (≤ℚ_refl (loss_slope p (b j)))
  after j (suc m) l =
      let here : j + suc m ≡ (j + m) + 1 = omega arith in
      subst (λ k. loss_slope p (b k) ≤ℚ loss_slope p (b j)) (sym here)
      (≤ℚ_trans (loss_slope p (b ((j + m) + 1))) (loss_slope p (b (j + m))) (loss_slope p (b j)) (next (j + m) (omega (arith, l))) (after j m (omega (arith, l))))

pub slope_along : SlopeFallsAlong
slope_along p rows lo hi s b covers least j k h l =
    let here : j + (k - j) ≡ k = omega (arith, h) in
    subst (λ m. loss_slope p (b m) ≤ℚ loss_slope p (b j)) here (after p rows lo hi s b covers least j (k - j) (omega (arith, h, l)))

-- ---- the fit at the centroid

module _ (p : Sample) (n : ℕ) (o : AreObservations p n) where
  -- a weighted sum of the responses, less that of what is predicted
  slope_is : (b : ℕ → ℚ) → loss_slope p b ≡ sum_ℚ n (λ i. p.up1 i *ℚ p.y i) -ℚ sum_ℚ n (λ i. p.up1 i *ℚ fitted p b i)
  slope_is b =
      sum_cut n p.rows (λ i. (p.up1 i *ℚ positive_ℚ (residual p b i)) +ℚ (p.down1 i *ℚ negative_ℚ (residual p b i))) o.within
      (λ i k l. ap₂ (λ x y. (x *ℚ positive_ℚ (residual p b i)) +ℚ (y *ℚ negative_ℚ (residual p b i))) (o.later i k l).0 (o.later i k l).1
      ∙ ring_ℚ (positive_ℚ (residual p b i) ∷ negative_ℚ (residual p b i) ∷ []) (number (pos 0) ⊠ v0 ⊞ number (pos 0) ⊠ v1) (number (pos 0)) refl)
      ∙ sum_ℚ-same n (λ i. (p.up1 i *ℚ positive_ℚ (residual p b i)) +ℚ (p.down1 i *ℚ negative_ℚ (residual p b i))) (λ i. (whole (pos 1) *ℚ (p.up1 i *ℚ p.y i)) +ℚ (neg_ℚ (whole (pos 1)) *ℚ (p.up1 i *ℚ fitted p b i)))
      (λ i l. ap (λ z. (p.up1 i *ℚ positive_ℚ (residual p b i)) +ℚ (z *ℚ negative_ℚ (residual p b i))) (o.observed i l).down1
      ∙ ring_ℚ (p.up1 i ∷ positive_ℚ (residual p b i) ∷ negative_ℚ (residual p b i) ∷ []) (v0 ⊠ v1 ⊞ negated v0 ⊠ v2) (v0 ⊠ (v1 ⊟ v2)) refl
      ∙ ap (λ z. p.up1 i *ℚ z) (sym (parts_ℚ (residual p b i)).0)
      ∙ ring_ℚ (p.up1 i ∷ p.y i ∷ fitted p b i ∷ []) (v0 ⊠ (v1 ⊟ v2)) (number (pos 1) ⊠ (v0 ⊠ v1) ⊞ negated (number (pos 1)) ⊠ (v0 ⊠ v2)) refl)
      ∙ sum_ℚ-mix n (whole (pos 1)) (neg_ℚ (whole (pos 1))) (λ i. p.up1 i *ℚ p.y i) (λ i. p.up1 i *ℚ fitted p b i)
      ∙ ring_ℚ (sum_ℚ n (λ i. p.up1 i *ℚ p.y i) ∷ sum_ℚ n (λ i. p.up1 i *ℚ fitted p b i) ∷ []) (number (pos 1) ⊠ v0 ⊞ negated (number (pos 1)) ⊠ v1) (v0 ⊟ v1) refl

  -- the fit at the centroid is the weighted mean of the fits
  centroid_is : (b : ℕ → ℚ) → at_centroid p n b ≡ inverse (sum_ℚ n p.up1) *ℚ sum_ℚ n (λ i. p.up1 i *ℚ fitted p b i)
  centroid_is b =
      let i' = inverse (sum_ℚ n p.up1) in
      sum_ℚ-same p.columns (λ k. centroid p n k *ℚ b k) (λ k. i' *ℚ sum_ℚ n (λ i. b k *ℚ (p.up1 i *ℚ p.x i k)))
      (λ k l. ring_ℚ (sum_ℚ n (λ i. p.up1 i *ℚ p.x i k) ∷ i' ∷ b k ∷ []) ((v0 ⊠ v1) ⊠ v2) (v1 ⊠ (v2 ⊠ v0)) refl ∙ ap (λ z. i' *ℚ z) (sym (sum_ℚ-scale n (b k) (λ i. p.up1 i *ℚ p.x i k))))
      ∙ sum_ℚ-scale p.columns i' (λ k. sum_ℚ n (λ i. b k *ℚ (p.up1 i *ℚ p.x i k)))
      ∙ ap (λ z. i' *ℚ z)
      (sum_ℚ-swap p.columns n (λ k i. b k *ℚ (p.up1 i *ℚ p.x i k))
      ∙ sum_ℚ-same n (λ i. sum_ℚ p.columns (λ k. b k *ℚ (p.up1 i *ℚ p.x i k))) (λ i. p.up1 i *ℚ fitted p b i)
      (λ i l. sum_ℚ-same p.columns (λ k. b k *ℚ (p.up1 i *ℚ p.x i k)) (λ k. p.up1 i *ℚ (p.x i k *ℚ b k)) (λ k m. ring_ℚ (b k ∷ p.up1 i ∷ p.x i k ∷ []) (v0 ⊠ (v1 ⊠ v2)) (v1 ⊠ (v2 ⊠ v0)) refl)
      ∙ sum_ℚ-scale p.columns (p.up1 i) (λ k. p.x i k *ℚ b k)))

  weight_not_negative : whole (pos 0) ≤ℚ sum_ℚ n p.up1
  weight_not_negative =
      subst (λ z. z ≤ℚ sum_ℚ n p.up1) (sum_ℚ-zero n)
      (sum_ℚ-le n (λ i. whole (pos 0)) p.up1 (λ i l. le_from_not (whole (pos 0)) (p.up1 i) ((cmp_ℚ-Less (whole (pos 0)) (p.up1 i)).0 (o.observed i l).weighted)))

  -- where the slope falls, the fit at the centroid rises
  by_slope : (b c : ℕ → ℚ) → loss_slope p c ≤ℚ loss_slope p b → at_centroid p n b ≤ℚ at_centroid p n c
  by_slope b c falls =
      subst (λ z. z ≤ℚ at_centroid p n c) (sym (centroid_is b))
      (subst (λ z. (inverse (sum_ℚ n p.up1) *ℚ sum_ℚ n (λ i. p.up1 i *ℚ fitted p b i)) ≤ℚ z) (sym (centroid_is c))
      (≤ℚ_mul (sum_ℚ n (λ i. p.up1 i *ℚ fitted p b i)) (sum_ℚ n (λ i. p.up1 i *ℚ fitted p c i)) (inverse (sum_ℚ n p.up1)) (inverse_not_negative (sum_ℚ n p.up1) weight_not_negative)
      (turned (sum_ℚ n (λ i. p.up1 i *ℚ p.y i)) (sum_ℚ n (λ i. p.up1 i *ℚ fitted p b i)) (sum_ℚ n (λ i. p.up1 i *ℚ fitted p c i))
      (subst (λ z. z ≤ℚ (sum_ℚ n (λ i. p.up1 i *ℚ p.y i) -ℚ sum_ℚ n (λ i. p.up1 i *ℚ fitted p b i))) (slope_is c) (subst (λ z. loss_slope p c ≤ℚ z) (slope_is b) falls)))))
    where
      -- y - c at most y - b
      turned : (y x z : ℚ) → (y -ℚ z) ≤ℚ (y -ℚ x) → x ≤ℚ z
      turned y x z h =
          (≤ℚ-minus x z).1 (subst (λ v. whole (pos 0) ≤ℚ v) (ring_ℚ (x ∷ y ∷ z ∷ []) ((v1 ⊟ v0) ⊟ (v1 ⊟ v2)) (v2 ⊟ v0) refl) ((≤ℚ-minus (y -ℚ z) (y -ℚ x)).0 h))

pub centroid_never_falls : CentroidNeverFalls
centroid_never_falls p n lo hi b c o at_lo at_hi after = by_slope p n o b c (slope_falls p lo hi b c at_lo at_hi after)

pub centroid_along : CentroidNeverFallsAlong
centroid_along p n rows lo hi s b o covers least j k h l = by_slope p n o (b j) (b k) (slope_along p rows lo hi s b covers least j k h l)
