-- Dual values between two quantiles.
use Rattle.std.specs.Prelude.{◌≡◌, ℕ, ◌+◌, ◌<◌, Bool, true, false, [], ◌∷◌, pos}
use Rattle.std.proofs.Common.{arith, refl, sym, ap, subst, ◌∙◌}
use Rattle.rational_laws.specs.Solver.{var, number, negated, ◌⊞◌, ◌⊟◌, ◌⊠◌, v0, v1, v2, v3, v4, v5, v6, v7, v8}
use Rattle.rational_laws.specs.Rational.{ℚ, ◌+ℚ◌, ◌-ℚ◌, ◌*ℚ◌, neg_ℚ, inverse, whole, ◌≤ℚ◌, le_ℚ}
use Rattle.rational_laws.proofs.RationalLaws.{whole-add, ring_ℚ, ring_by_ℚ, *ℚ-inverse, ≤ℚ_mul, ≤ℚ_trans, ≤ℚ_antisym, ≤ℚ_total, ≤ℚ_refl}
use Rattle.rational_laws.specs.RationalSums.{sum_ℚ, positive_ℚ, negative_ℚ}
use Rattle.rational_laws.proofs.RationalSumLaws.{≤ℚ_add2, sum_ℚ-same, sum_ℚ-mix}
use Rattle.rational_laws.proofs.OrderLaws.{≤ℚ-minus, inverse_not_negative}
use Rattle.rational_laws.proofs.Signs.{product_not_negative, whole_not_negative}
use Rattle.loss_model.specs.Sample.{Sample, up_cost, down_cost, residual, row_loss, loss, Minimises}
use Rattle.loss_model.specs.Dual.{IsFeasible, dual_objective, IsDual, mix}
use Rattle.loss_model.specs.Laws.{MixIsDual, MinimisesBetween}
use Rattle.loss_model.proofs.Quotients.{inverse_of}
use Rattle.loss_model.proofs.Duality.{minimum}

-- equal values of all rows are dual alike
pub IsFeasible-same : (p : Sample) (theta : ℚ) (e f : ℕ → ℚ) → ((i : ℕ) → i < p.rows → e i ≡ f i) → IsFeasible p theta e → IsFeasible p theta f
IsFeasible-same p theta e f same d =
    record {
      lower = λ i l. subst (λ z. neg_ℚ (down_cost p theta i) ≤ℚ z) (same i l) (d.lower i l);
      upper = λ i l. subst (λ z. z ≤ℚ up_cost p theta i) (same i l) (d.upper i l);
      balanced = λ k l. sym (sum_ℚ-same p.rows (λ i. e i *ℚ p.x i k) (λ i. f i *ℚ p.x i k) (λ i m. ap (λ z. z *ℚ p.x i k) (same i m))) ∙ d.balanced k l;
    }

pub IsDual-same : (p : Sample) (theta : ℚ) (b e f : ℕ → ℚ) → ((i : ℕ) → i < p.rows → e i ≡ f i) → IsDual p theta b e → IsDual p theta b f
IsDual-same p theta b e f same d =
    record {
      feasible = IsFeasible-same p theta e f same d.feasible;
      equal = d.equal ∙ sum_ℚ-same p.rows (λ i. p.y i *ℚ e i) (λ i. p.y i *ℚ f i) (λ i l. ap (λ z. p.y i *ℚ z) (same i l));
    }

-- two weights that add up to 1
record AreWeights (u v : ℚ) : Type 0 where
  pub left : whole (pos 0) ≤ℚ u
  pub right : whole (pos 0) ≤ℚ v
  pub one : u +ℚ v ≡ whole (pos 1)

abbrev weighted : ℚ → ℚ → ℚ → ℚ → ℚ
weighted u v a b = (u *ℚ a) +ℚ (v *ℚ b)

-- a cost is affine in the parameter
cost_weighted : (u v lo hi a b : ℚ) → u +ℚ v ≡ whole (pos 1) → weighted u v (a +ℚ (b *ℚ lo)) (a +ℚ (b *ℚ hi)) ≡ a +ℚ (b *ℚ weighted u v lo hi)
cost_weighted u v lo hi a b one =
    ring_by_ℚ (u ∷ v ∷ lo ∷ hi ∷ a ∷ b ∷ []) (v0 ⊠ (v4 ⊞ v5 ⊠ v2) ⊞ v1 ⊠ (v4 ⊞ v5 ⊠ v3)) (v4 ⊞ v5 ⊠ (v0 ⊠ v2 ⊞ v1 ⊠ v3)) v4 (v0 ⊞ v1) (number (pos 1)) refl one

-- and so is the loss of a row
loss_weighted : (u v lo hi u0 u1 d0 d1 a b : ℚ) → u +ℚ v ≡ whole (pos 1)
    → ((u0 +ℚ (u1 *ℚ weighted u v lo hi)) *ℚ a) +ℚ ((d0 +ℚ (d1 *ℚ weighted u v lo hi)) *ℚ b)
    ≡ weighted u v (((u0 +ℚ (u1 *ℚ lo)) *ℚ a) +ℚ ((d0 +ℚ (d1 *ℚ lo)) *ℚ b)) (((u0 +ℚ (u1 *ℚ hi)) *ℚ a) +ℚ ((d0 +ℚ (d1 *ℚ hi)) *ℚ b))
loss_weighted u v lo hi u0 u1 d0 d1 a b one =
    let t = v0 ⊠ v2 ⊞ v1 ⊠ v3 in
    ring_by_ℚ (u ∷ v ∷ lo ∷ hi ∷ u0 ∷ u1 ∷ d0 ∷ d1 ∷ a ∷ b ∷ [])
    ((v4 ⊞ v5 ⊠ t) ⊠ v8 ⊞ (v6 ⊞ v7 ⊠ t) ⊠ var 9)
    (v0 ⊠ ((v4 ⊞ v5 ⊠ v2) ⊠ v8 ⊞ (v6 ⊞ v7 ⊠ v2) ⊠ var 9) ⊞ v1 ⊠ ((v4 ⊞ v5 ⊠ v3) ⊠ v8 ⊞ (v6 ⊞ v7 ⊠ v3) ⊠ var 9))
    (v4 ⊠ v8 ⊞ v6 ⊠ var 9) (number (pos 1)) (v0 ⊞ v1) refl (sym one)

weighted_le : (u v a b a' b' : ℚ) → AreWeights u v → a ≤ℚ a' → b ≤ℚ b' → weighted u v a b ≤ℚ weighted u v a' b'
weighted_le u v a b a' b' w h k = ≤ℚ_add2 (u *ℚ a) (u *ℚ a') (v *ℚ b) (v *ℚ b') (≤ℚ_mul a a' u w.left h) (≤ℚ_mul b b' v w.right k)

module _ (p : Sample) (lo hi : ℚ) (b e f : ℕ → ℚ) (u v : ℚ) (w : AreWeights u v) (d : IsDual p lo b e) (g : IsDual p hi b f) where
  abbrev blend : ℕ → ℚ
  blend i = weighted u v (e i) (f i)

  feasible_weighted : IsFeasible p (weighted u v lo hi) blend
  feasible_weighted =
      record {
        lower = λ i l.
            subst (λ z. z ≤ℚ blend i)
            (ring_ℚ (u ∷ v ∷ down_cost p lo i ∷ down_cost p hi i ∷ []) (v0 ⊠ negated v2 ⊞ v1 ⊠ negated v3) (negated (v0 ⊠ v2 ⊞ v1 ⊠ v3)) refl ∙ ap neg_ℚ (cost_weighted u v lo hi (p.down0 i) (p.down1 i) w.one))
            (weighted_le u v (neg_ℚ (down_cost p lo i)) (neg_ℚ (down_cost p hi i)) (e i) (f i) w (d.feasible.lower i l) (g.feasible.lower i l));
        upper = λ i l.
            subst (λ z. blend i ≤ℚ z) (cost_weighted u v lo hi (p.up0 i) (p.up1 i) w.one)
            (weighted_le u v (e i) (f i) (up_cost p lo i) (up_cost p hi i) w (d.feasible.upper i l) (g.feasible.upper i l));
        balanced = λ k l.
            sum_ℚ-same p.rows (λ i. blend i *ℚ p.x i k) (λ i. weighted u v (e i *ℚ p.x i k) (f i *ℚ p.x i k))
            (λ i m. ring_ℚ (u ∷ v ∷ e i ∷ f i ∷ p.x i k ∷ []) ((v0 ⊠ v2 ⊞ v1 ⊠ v3) ⊠ v4) (v0 ⊠ (v2 ⊠ v4) ⊞ v1 ⊠ (v3 ⊠ v4)) refl)
            ∙ sum_ℚ-mix p.rows u v (λ i. e i *ℚ p.x i k) (λ i. f i *ℚ p.x i k)
            ∙ ap (λ z. weighted u v z (sum_ℚ p.rows (λ i. f i *ℚ p.x i k))) (d.feasible.balanced k l)
            ∙ ap (λ z. weighted u v (whole (pos 0)) z) (g.feasible.balanced k l)
            ∙ ring_ℚ (u ∷ v ∷ []) (v0 ⊠ number (pos 0) ⊞ v1 ⊠ number (pos 0)) (number (pos 0)) refl;
      }

  dual_weighted : IsDual p (weighted u v lo hi) b blend
  dual_weighted =
      record {
        feasible = feasible_weighted;
        equal =
            sum_ℚ-same p.rows (row_loss p (weighted u v lo hi) b) (λ i. weighted u v (row_loss p lo b i) (row_loss p hi b i))
            (λ i m. loss_weighted u v lo hi (p.up0 i) (p.up1 i) (p.down0 i) (p.down1 i) (positive_ℚ (residual p b i)) (negative_ℚ (residual p b i)) w.one)
            ∙ sum_ℚ-mix p.rows u v (row_loss p lo b) (row_loss p hi b)
            ∙ ap (λ z. weighted u v z (loss p hi b)) d.equal
            ∙ ap (λ z. weighted u v (dual_objective p e) z) g.equal
            ∙ sym (sum_ℚ-mix p.rows u v (λ i. p.y i *ℚ e i) (λ i. p.y i *ℚ f i))
            ∙ sum_ℚ-same p.rows (λ i. weighted u v (p.y i *ℚ e i) (p.y i *ℚ f i)) (λ i. p.y i *ℚ blend i)
            (λ i m. ring_ℚ (u ∷ v ∷ e i ∷ f i ∷ p.y i ∷ []) (v0 ⊠ (v4 ⊠ v2) ⊞ v1 ⊠ (v4 ⊠ v3)) (v4 ⊠ (v0 ⊠ v2 ⊞ v1 ⊠ v3)) refl);
      }

-- the weights m/(m + n) and n/(m + n)
abbrev share : ℕ → ℕ → ℚ
share k n = whole (pos k) *ℚ inverse (whole (pos n))

shares : (m n : ℕ) → 0 < m + n → AreWeights (share m (m + n)) (share n (m + n))
shares m n h =
    let i = inverse (whole (pos (m + n))) in
    let known : whole (pos 0) ≤ℚ i = inverse_not_negative (whole (pos (m + n))) (whole_not_negative (m + n)) in
    record {
      left = product_not_negative (whole (pos m)) i (whole_not_negative m) known;
      right = product_not_negative (whole (pos n)) i (whole_not_negative n) known;
      one =
          ring_ℚ (whole (pos m) ∷ whole (pos n) ∷ i ∷ []) (v0 ⊠ v2 ⊞ v1 ⊠ v2) ((v0 ⊞ v1) ⊠ v2) refl
          ∙ ap (λ z. z *ℚ i) (sym (whole-add (pos m) (pos n))) ∙ inverse_of (m + n) (omega arith);
    }

mix-weighted : (m n : ℕ) (a b : ℚ) → weighted (share m (m + n)) (share n (m + n)) a b ≡ mix m n a b
mix-weighted m n a b =
    ring_ℚ (whole (pos m) ∷ whole (pos n) ∷ inverse (whole (pos (m + n))) ∷ a ∷ b ∷ []) ((v0 ⊠ v2) ⊠ v3 ⊞ (v1 ⊠ v2) ⊠ v4) ((v0 ⊠ v3 ⊞ v1 ⊠ v4) ⊠ v2) refl

pub mixed : MixIsDual
mixed p lo hi b e f m n h d g =
    IsDual-same p (mix m n lo hi) b (λ i. weighted (share m (m + n)) (share n (m + n)) (e i) (f i)) (λ i. mix m n (e i) (f i)) (λ i l. mix-weighted m n (e i) (f i))
    (subst (λ t. IsDual p t b (λ i. weighted (share m (m + n)) (share n (m + n)) (e i) (f i))) (mix-weighted m n lo hi)
    (dual_weighted p lo hi b e f (share m (m + n)) (share n (m + n)) (shares m n h) d g))

-- a value of a closed interval of two points by its weights
between : (lo hi theta i : ℚ) → (hi -ℚ lo) *ℚ i ≡ whole (pos 1) → weighted ((hi -ℚ theta) *ℚ i) ((theta -ℚ lo) *ℚ i) lo hi ≡ theta
between lo hi theta i one =
    ring_by_ℚ (lo ∷ hi ∷ theta ∷ i ∷ []) (((v1 ⊟ v2) ⊠ v3) ⊠ v0 ⊞ ((v2 ⊟ v0) ⊠ v3) ⊠ v1) v2 v2 ((v1 ⊟ v0) ⊠ v3) (number (pos 1)) refl one

between_weights : (lo hi theta i : ℚ) → (hi -ℚ lo) *ℚ i ≡ whole (pos 1) → whole (pos 0) ≤ℚ i → lo ≤ℚ theta → theta ≤ℚ hi → AreWeights ((hi -ℚ theta) *ℚ i) ((theta -ℚ lo) *ℚ i)
between_weights lo hi theta i one known h k =
    record {
      left = product_not_negative (hi -ℚ theta) i ((≤ℚ-minus theta hi).0 k) known;
      right = product_not_negative (theta -ℚ lo) i ((≤ℚ-minus lo theta).0 h) known;
      one = ring_ℚ (lo ∷ hi ∷ theta ∷ i ∷ []) ((v1 ⊟ v2) ⊠ v3 ⊞ (v2 ⊟ v0) ⊠ v3) ((v1 ⊟ v0) ⊠ v3) refl ∙ one;
    }

pub minimum_between : MinimisesBetween
minimum_between p lo hi theta b e f d g h k = by (le_ℚ hi lo) refl
  where
    apart : le_ℚ hi lo ≡ false → hi -ℚ lo ≡ whole (pos 0) → ⊥
    apart s e =
        let same : hi ≡ lo = ring_by_ℚ (hi ∷ lo ∷ []) v0 v1 (number (pos 1)) (v0 ⊟ v1) (number (pos 0)) refl e in
        let there : le_ℚ hi lo ≡ true = subst (λ z. le_ℚ z lo ≡ true) (sym same) (≤ℚ_refl lo).le in
        cc

    by : (t : Bool) → le_ℚ hi lo ≡ t → Minimises p theta b
    by true s =
        subst (λ z. Minimises p z b) (≤ℚ_antisym lo theta h (≤ℚ_trans theta hi lo k (record { le = s }))) (minimum p lo b e d)
    by false s =
        let i = inverse (hi -ℚ lo) in
        let one = *ℚ-inverse (hi -ℚ lo) (apart s) in
        let known = inverse_not_negative (hi -ℚ lo) ((≤ℚ-minus lo hi).0 (≤ℚ_total hi lo s)) in
        let w = between_weights lo hi theta i one known h k in
        subst (λ z. Minimises p z b) (between lo hi theta i one)
        (minimum p _ b _ (dual_weighted p lo hi b e f ((hi -ℚ theta) *ℚ i) ((theta -ℚ lo) *ℚ i) w d g))
