-- The path problem's loss, its rank and its costs; and why the absolute sum never rises.
use Rattle.std.specs.Prelude.{◌≡◌, ◌≢◌, ◌⊎◌, ℕ, zero, suc, ◌+◌, ◌-◌, ◌<◌, ◌≤◌, Bool, true, false, ◌==◌, cond, [], ◌∷◌, pos}
use Rattle.std.specs.declared.cmp.Ordering.TheVariants.{Less}
use Rattle.std.proofs.Common.{arith, refl, sym, ap, ap₂, subst, ◌∙◌, inl, inr}
use Rattle.std.proofs.lemmas.Bool.{cases_lt}
use borrow.Author.Tests.{eqb-true, eqb-false}
use Rattle.rational_laws.specs.Solver.{number, negated, ◌⊞◌, ◌⊟◌, ◌⊠◌, v0, v1, v2, v3, v4, v5}
use Rattle.rational_laws.specs.Rational.{ℚ, ◌+ℚ◌, ◌-ℚ◌, ◌*ℚ◌, neg_ℚ, whole, le_ℚ, ◌≤ℚ◌}
use Rattle.rational_laws.proofs.RationalLaws.{ring_ℚ, ≤ℚ_total, ≤ℚ_trans}
use Rattle.rational_laws.specs.RationalSums.{sum_ℚ, positive_ℚ, negative_ℚ}
use Rattle.rational_laws.proofs.RationalSumLaws.{sum_ℚ-same, sum_ℚ-scale, ≤ℚ_add2}
use Rattle.rational_laws.proofs.Inverses.{zero_from_product}
use Rattle.rational_laws.specs.Order.{cmp_ℚ}
use Rattle.rational_laws.proofs.OrderLaws.{cmp_ℚ-Less, ≤ℚ-minus, ≤ℚ-from_mul, le_from_not}
use Rattle.rational_laws.proofs.Signs.{product_not_negative}
use Rattle.rational_laws.specs.Terms.{delta}
use Rattle.rational_laws.proofs.TermLaws.{if-same, if-other, delta-turned, sum_ℚ-delta}
use Rattle.loss_model.specs.Sample.{Sample, up_cost, down_cost, fitted, residual, row_loss, loss, Minimises}
use Rattle.loss_model.specs.Spill.{abs_ℚ}
use Rattle.loss_model.specs.FullRank.{HasFullRank}
use Rattle.loss_model.specs.Segment.{Segments, Covers}
use Rattle.pivot_model.specs.Duals.{HasCosts}
use Rattle.pivot_model.proofs.Entering.{abs_above, abs_below}
use Rattle.lambda_path.specs.Paths.{check_loss, data_loss, absolute_sum, path_loss, IsPathOf}
use Rattle.lambda_path.specs.Laws.{PathLoss, SumFalls, SumNeverRises, PathHasFullRank, PathHasCosts}

-- a sum in two parts
sum_joined : (n m : ℕ) (f : ℕ → ℚ) → sum_ℚ (n + m) f ≡ sum_ℚ n f +ℚ sum_ℚ m (λ k. f (n + k))
sum_joined n zero f = ap (λ l. sum_ℚ l f) none ∙ ring_ℚ (sum_ℚ n f ∷ []) v0 (v0 ⊞ number (pos 0)) refl
  where
    none : n + zero ≡ n
    none = omega arith
sum_joined n (suc m) f =
    ap (λ l. sum_ℚ l f) next ∙ ap (λ z. z +ℚ f (n + m)) (sum_joined n m f)
    ∙ ring_ℚ (sum_ℚ n f ∷ sum_ℚ m (λ k. f (n + k)) ∷ f (n + m) ∷ []) ((v0 ⊞ v1) ⊞ v2) (v0 ⊞ (v1 ⊞ v2)) refl
  where
    next : n + suc m ≡ suc (n + m)
    next = omega arith

-- the parts of -x add up to its absolute value
parts_of_neg : (x : ℚ) → positive_ℚ (whole (pos 0) -ℚ x) +ℚ negative_ℚ (whole (pos 0) -ℚ x) ≡ abs_ℚ x
parts_of_neg x = by (le_ℚ (whole (pos 0)) (whole (pos 0) -ℚ x)) refl
  where
    by : (t : Bool) → le_ℚ (whole (pos 0)) (whole (pos 0) -ℚ x) ≡ t
        → cond t (whole (pos 0) -ℚ x) (whole (pos 0)) +ℚ cond t (whole (pos 0)) (neg_ℚ (whole (pos 0) -ℚ x)) ≡ abs_ℚ x
    by true h = ring_ℚ (x ∷ []) ((number (pos 0) ⊟ v0) ⊞ number (pos 0)) (negated v0) refl ∙ sym (abs_below x ((≤ℚ-minus x (whole (pos 0))).1 (record { le = h })))
    by false h =
        ring_ℚ (x ∷ []) (number (pos 0) ⊞ negated (number (pos 0) ⊟ v0)) v0 refl
        ∙ sym (abs_above x (subst (λ z. whole (pos 0) ≤ℚ z) (ring_ℚ (x ∷ []) (number (pos 0) ⊟ (number (pos 0) ⊟ v0)) v0 refl) ((≤ℚ-minus (whole (pos 0) -ℚ x) (whole (pos 0))).0 (≤ℚ_total (whole (pos 0)) (whole (pos 0) -ℚ x) h))))

module _ (p : Sample) (first : ℕ) (tau : ℚ) (q : Sample) (is : IsPathOf p first tau q) where
  data_residual : (b : ℕ → ℚ) (i : ℕ) → i < p.rows → residual q b i ≡ residual p b i
  data_residual b i li =
      ap₂ (λ y f. y -ℚ f) (is.data_y i li)
      (ap (λ n. sum_ℚ n (λ k. q.x i k *ℚ b k)) is.columns ∙ sum_ℚ-same p.columns (λ k. q.x i k *ℚ b k) (λ k. p.x i k *ℚ b k) (λ k lk. ap (λ z. z *ℚ b k) (is.data_x i k li lk)))

  penalised : (m : ℕ) → m < p.columns - first → first + m < p.columns
  penalised m lm = omega (arith, lm)

  penalty_fitted : (b : ℕ → ℚ) (m : ℕ) → m < p.columns - first → fitted q b (p.rows + m) ≡ b (first + m)
  penalty_fitted b m lm =
      ap (λ n. sum_ℚ n (λ k. q.x (p.rows + m) k *ℚ b k)) is.columns
      ∙ sum_ℚ-same p.columns (λ k. q.x (p.rows + m) k *ℚ b k) (λ k. b k *ℚ delta k (first + m))
      (λ k lk. ap (λ z. z *ℚ b k) (is.penalty_x m k lm lk ∙ delta-turned (first + m) k) ∙ ring_ℚ (delta k (first + m) ∷ b k ∷ []) (v0 ⊠ v1) (v1 ⊠ v0) refl)
      ∙ sum_ℚ-delta p.columns b (first + m) (penalised m lm)

  data_row : (lambda : ℚ) (b : ℕ → ℚ) (i : ℕ) → i < p.rows → row_loss q lambda b i ≡ p.up1 i *ℚ check_loss tau (residual p b i)
  data_row lambda b i li =
      ap₂ (λ u d. ((u +ℚ (q.up1 i *ℚ lambda)) *ℚ positive_ℚ (residual q b i)) +ℚ ((d +ℚ (q.down1 i *ℚ lambda)) *ℚ negative_ℚ (residual q b i))) (is.data_up0 i li) (is.data_down0 i li)
      ∙ ap₂ (λ u d. (((p.up1 i *ℚ tau) +ℚ (u *ℚ lambda)) *ℚ positive_ℚ (residual q b i)) +ℚ (((p.up1 i *ℚ (whole (pos 1) -ℚ tau)) +ℚ (d *ℚ lambda)) *ℚ negative_ℚ (residual q b i))) (is.data_up1 i li) (is.data_down1 i li)
      ∙ ap (λ r. (((p.up1 i *ℚ tau) +ℚ (whole (pos 0) *ℚ lambda)) *ℚ positive_ℚ r) +ℚ (((p.up1 i *ℚ (whole (pos 1) -ℚ tau)) +ℚ (whole (pos 0) *ℚ lambda)) *ℚ negative_ℚ r)) (data_residual b i li)
      ∙ ring_ℚ (p.up1 i ∷ tau ∷ lambda ∷ positive_ℚ (residual p b i) ∷ negative_ℚ (residual p b i) ∷ [])
      ((v0 ⊠ v1 ⊞ number (pos 0) ⊠ v2) ⊠ v3 ⊞ (v0 ⊠ (number (pos 1) ⊟ v1) ⊞ number (pos 0) ⊠ v2) ⊠ v4)
      (v0 ⊠ (v1 ⊠ v3 ⊞ (number (pos 1) ⊟ v1) ⊠ v4)) refl

  penalty_row : (lambda : ℚ) (b : ℕ → ℚ) (m : ℕ) → m < p.columns - first → row_loss q lambda b (p.rows + m) ≡ lambda *ℚ abs_ℚ (b (first + m))
  penalty_row lambda b m lm =
      ap₂ (λ u d. ((u +ℚ (q.up1 (p.rows + m) *ℚ lambda)) *ℚ positive_ℚ (residual q b (p.rows + m))) +ℚ ((d +ℚ (q.down1 (p.rows + m) *ℚ lambda)) *ℚ negative_ℚ (residual q b (p.rows + m)))) (is.penalty_up0 m lm) (is.penalty_down0 m lm)
      ∙ ap₂ (λ u d. ((whole (pos 0) +ℚ (u *ℚ lambda)) *ℚ positive_ℚ (residual q b (p.rows + m))) +ℚ ((whole (pos 0) +ℚ (d *ℚ lambda)) *ℚ negative_ℚ (residual q b (p.rows + m)))) (is.penalty_up1 m lm) (is.penalty_down1 m lm)
      ∙ ap₂ (λ y f. ((whole (pos 0) +ℚ (whole (pos 1) *ℚ lambda)) *ℚ positive_ℚ (y -ℚ f)) +ℚ ((whole (pos 0) +ℚ (whole (pos 1) *ℚ lambda)) *ℚ negative_ℚ (y -ℚ f))) (is.penalty_y m lm) (penalty_fitted b m lm)
      ∙ ring_ℚ (lambda ∷ positive_ℚ (whole (pos 0) -ℚ b (first + m)) ∷ negative_ℚ (whole (pos 0) -ℚ b (first + m)) ∷ [])
      ((number (pos 0) ⊞ number (pos 1) ⊠ v0) ⊠ v1 ⊞ (number (pos 0) ⊞ number (pos 1) ⊠ v0) ⊠ v2) (v0 ⊠ (v1 ⊞ v2)) refl
      ∙ ap (λ z. lambda *ℚ z) (parts_of_neg (b (first + m)))

  path_is : (lambda : ℚ) (b : ℕ → ℚ) → loss q lambda b ≡ path_loss p first tau lambda b
  path_is lambda b =
      ap (λ n. sum_ℚ n (row_loss q lambda b)) is.rows
      ∙ sum_joined p.rows (p.columns - first) (row_loss q lambda b)
      ∙ ap₂ (λ x y. x +ℚ y)
      (sum_ℚ-same p.rows (row_loss q lambda b) (λ i. p.up1 i *ℚ check_loss tau (residual p b i)) (data_row lambda b))
      (sum_ℚ-same (p.columns - first) (λ m. row_loss q lambda b (p.rows + m)) (λ m. lambda *ℚ abs_ℚ (b (first + m))) (penalty_row lambda b)
      ∙ sum_ℚ-scale (p.columns - first) lambda (λ m. abs_ℚ (b (first + m))))

  -- both minimise: the inequalities added
  falls : (lambda mu : ℚ) (b c : ℕ → ℚ) → Minimises q lambda b → Minimises q mu c → ¬ (mu ≤ℚ lambda) → absolute_sum p first c ≤ℚ absolute_sum p first b
  falls lambda mu b c hb hc later =
      ≤ℚ-from_mul (absolute_sum p first c) (absolute_sum p first b) (mu -ℚ lambda) (λ h. later (by_difference h))
      ((≤ℚ-minus ((mu -ℚ lambda) *ℚ absolute_sum p first c) ((mu -ℚ lambda) *ℚ absolute_sum p first b)).1
      (subst (λ z. whole (pos 0) ≤ℚ z)
      (ring_ℚ (data_loss p tau b ∷ data_loss p tau c ∷ absolute_sum p first b ∷ absolute_sum p first c ∷ lambda ∷ mu ∷ [])
      (((v1 ⊞ v4 ⊠ v3) ⊞ (v0 ⊞ v5 ⊠ v2)) ⊟ ((v0 ⊞ v4 ⊠ v2) ⊞ (v1 ⊞ v5 ⊠ v3))) ((v5 ⊟ v4) ⊠ v2 ⊟ (v5 ⊟ v4) ⊠ v3) refl)
      ((≤ℚ-minus (path_loss p first tau lambda b +ℚ path_loss p first tau mu c) (path_loss p first tau lambda c +ℚ path_loss p first tau mu b)).0
      (≤ℚ_add2 (path_loss p first tau lambda b) (path_loss p first tau lambda c) (path_loss p first tau mu c) (path_loss p first tau mu b) (at lambda b c hb) (at mu c b hc)))))
    where
      at : (t : ℚ) (b c : ℕ → ℚ) → Minimises q t b → path_loss p first tau t b ≤ℚ path_loss p first tau t c
      at t b c h = subst (λ z. z ≤ℚ path_loss p first tau t c) (path_is t b) (subst (λ z. loss q t b ≤ℚ z) (path_is t c) (h c))

      by_difference : (mu -ℚ lambda) ≤ℚ whole (pos 0) → mu ≤ℚ lambda
      by_difference h =
          (≤ℚ-minus mu lambda).1 (subst (λ z. whole (pos 0) ≤ℚ z) (ring_ℚ (mu ∷ lambda ∷ []) (number (pos 0) ⊟ (v0 ⊟ v1)) (v1 ⊟ v0) refl) ((≤ℚ-minus (mu -ℚ lambda) (whole (pos 0))).0 h))

  never_rises : (rows : ℕ) (lo hi : ℚ) (s : Segments) (b : ℕ → ℕ → ℚ) → Covers rows lo hi s
      → ((j : ℕ) → j < s.count → Minimises q (s.lo j) (b j)) → ((j : ℕ) → j < s.count → Minimises q (s.hi j) (b j))
      → (j : ℕ) → j + 1 < s.count → absolute_sum p first (b (j + 1)) ≤ℚ absolute_sum p first (b j)
  never_rises rows lo hi s b covers at_lo at_hi j lj =
      falls (s.lo j) (s.hi (j + 1)) (b j) (b (j + 1)) (at_lo j (omega (arith, lj))) (at_hi (j + 1) lj)
      (λ back. less j (omega (arith, lj)) (subst (λ z. z ≤ℚ s.lo j) (sym (covers.joined j lj)) (below back)))
    where
      less : (k : ℕ) → k < s.count → ¬ (s.hi k ≤ℚ s.lo k)
      less k lk = by (covers.proper k lk)
        where
          by : (cmp_ℚ (s.lo k) (s.hi k) ≡ Less) ⊎ ((s.count ≡ 1) × (lo ≡ hi)) → ¬ (s.hi k ≤ℚ s.lo k)
          by (inl h) back = (cmp_ℚ-Less (s.lo k) (s.hi k)).0 h back
          by (inr h) back = omega (arith, h.0, lj)

      below : s.hi (j + 1) ≤ℚ s.lo j → s.lo (j + 1) ≤ℚ s.lo j
      below back = trans (le_from_not (s.lo (j + 1)) (s.hi (j + 1)) (less (j + 1) lj)) back
        where
          trans : s.lo (j + 1) ≤ℚ s.hi (j + 1) → s.hi (j + 1) ≤ℚ s.lo j → s.lo (j + 1) ≤ℚ s.lo j
          trans h k = ≤ℚ_trans (s.lo (j + 1)) (s.hi (j + 1)) (s.lo j) h k

  -- ---- full rank

  gone : (b : ℕ → ℚ) → ((i : ℕ) → i < q.rows → fitted q b i ≡ whole (pos 0)) → (m : ℕ) → m < p.columns - first → b (first + m) ≡ whole (pos 0)
  gone b none m lm = sym (penalty_fitted b m lm) ∙ none (p.rows + m) (subst (λ n. p.rows + m < n) (sym is.rows) (omega (arith, lm)))

  full_rank : ((first ≡ 0) ⊎ ((first ≡ 1) × (0 < p.rows) × (p.x 0 0 ≢ whole (pos 0)))) → HasFullRank q
  full_rank (inl e) b none k lk =
      let inside : k < p.columns = subst (λ n. k < n) is.columns lk in
      let same : first + k ≡ k = omega (arith, e) in
      ap b (sym same) ∙ gone b none k (omega (arith, e, inside))
  full_rank (inr h) b none zero lk =
      let inside : 0 < p.columns = subst (λ n. 0 < n) is.columns lk in
      zero_from_product (p.x 0 0) (b 0) (sym (alone inside) ∙ none 0 (subst (λ n. 0 < n) (sym is.rows) (omega (arith, h.1)))) h.2
    where
      others : (k : ℕ) → k < p.columns → (t : Bool) → (k == 0) ≡ t → p.x 0 k *ℚ b k ≡ (p.x 0 0 *ℚ b 0) *ℚ delta k 0
      others k l true e =
          let here : k ≡ 0 = eqb-true k 0 e in
          ap (λ k. p.x 0 k *ℚ b k) here ∙ ring_ℚ (p.x 0 0 ∷ b 0 ∷ []) (v0 ⊠ v1) ((v0 ⊠ v1) ⊠ number (pos 1)) refl
          ∙ ap (λ z. (p.x 0 0 *ℚ b 0) *ℚ z) (sym (if-same k 0 (whole (pos 1)) (whole (pos 0)) here))
      others k l false e =
          let other : k ≢ 0 = eqb-false k 0 e in
          let place : first + (k - 1) ≡ k = omega (arith, h.0, other) in
          ap (λ z. p.x 0 k *ℚ z) (ap b (sym place) ∙ gone b none (k - 1) (omega (arith, h.0, other, l)))
          ∙ ring_ℚ (p.x 0 k ∷ p.x 0 0 ∷ b 0 ∷ []) (v0 ⊠ number (pos 0)) ((v1 ⊠ v2) ⊠ number (pos 0)) refl
          ∙ ap (λ z. (p.x 0 0 *ℚ b 0) *ℚ z) (sym (if-other k 0 (whole (pos 1)) (whole (pos 0)) other))

      alone : 0 < p.columns → fitted q b 0 ≡ p.x 0 0 *ℚ b 0
      alone inside =
          ap (λ n. sum_ℚ n (λ k. q.x 0 k *ℚ b k)) is.columns
          ∙ sum_ℚ-same p.columns (λ k. q.x 0 k *ℚ b k) (λ k. (p.x 0 0 *ℚ b 0) *ℚ delta k 0) (λ k l. ap (λ z. z *ℚ b k) (is.data_x 0 k h.1 l) ∙ others k l (k == 0) refl)
          ∙ sum_ℚ-delta p.columns (λ k. p.x 0 0 *ℚ b 0) 0 inside
  full_rank (inr h) b none (suc k) lk =
      let inside : suc k < p.columns = subst (λ n. suc k < n) is.columns lk in
      let same : first + k ≡ suc k = omega (arith, h.0) in
      ap b (sym same) ∙ gone b none k (omega (arith, h.0, inside))

  -- ---- costs

  module _ (lambda : ℚ) (weighted : (i : ℕ) → i < p.rows → ¬ (p.up1 i ≤ℚ whole (pos 0))) (above : whole (pos 0) ≤ℚ tau) (below : tau ≤ℚ whole (pos 1)) (some : ¬ (lambda ≤ℚ whole (pos 0))) where
    data_up : (i : ℕ) → i < p.rows → up_cost q lambda i ≡ p.up1 i *ℚ tau
    data_up i li = ap₂ (λ x y. x +ℚ (y *ℚ lambda)) (is.data_up0 i li) (is.data_up1 i li) ∙ ring_ℚ ((p.up1 i *ℚ tau) ∷ lambda ∷ []) (v0 ⊞ number (pos 0) ⊠ v1) v0 refl

    data_down : (i : ℕ) → i < p.rows → down_cost q lambda i ≡ p.up1 i *ℚ (whole (pos 1) -ℚ tau)
    data_down i li = ap₂ (λ x y. x +ℚ (y *ℚ lambda)) (is.data_down0 i li) (is.data_down1 i li) ∙ ring_ℚ ((p.up1 i *ℚ (whole (pos 1) -ℚ tau)) ∷ lambda ∷ []) (v0 ⊞ number (pos 0) ⊠ v1) v0 refl

    penalty_up : (m : ℕ) → m < p.columns - first → up_cost q lambda (p.rows + m) ≡ lambda
    penalty_up m lm = ap₂ (λ x y. x +ℚ (y *ℚ lambda)) (is.penalty_up0 m lm) (is.penalty_up1 m lm) ∙ ring_ℚ (lambda ∷ []) (number (pos 0) ⊞ number (pos 1) ⊠ v0) v0 refl

    penalty_down : (m : ℕ) → m < p.columns - first → down_cost q lambda (p.rows + m) ≡ lambda
    penalty_down m lm = ap₂ (λ x y. x +ℚ (y *ℚ lambda)) (is.penalty_down0 m lm) (is.penalty_down1 m lm) ∙ ring_ℚ (lambda ∷ []) (number (pos 0) ⊞ number (pos 1) ⊠ v0) v0 refl

    -- what holds of both kinds of rows
    each : (P : ℕ → Type 0) → ((i : ℕ) → i < p.rows → P i) → ((m : ℕ) → m < p.columns - first → P (p.rows + m)) → (i : ℕ) → i < q.rows → P i
    each P of_data of_penalty i li = by (cases_lt i p.rows)
      where
        inside : i < p.rows + (p.columns - first)
        inside = subst (λ n. i < n) is.rows li

        by : (i < p.rows) ⊎ (p.rows ≤ i) → P i
        by (inl l) = of_data i l
        by (inr past) =
            let place : p.rows + (i - p.rows) ≡ i = omega (arith, past) in
            subst P place (of_penalty (i - p.rows) (omega (arith, past, inside)))

    weight : (i : ℕ) → i < p.rows → whole (pos 0) ≤ℚ p.up1 i
    weight i li = le_from_not (whole (pos 0)) (p.up1 i) (weighted i li)

    positive : whole (pos 0) ≤ℚ lambda
    positive = le_from_not (whole (pos 0)) lambda some

    costs : HasCosts q lambda
    costs =
        record {
          up = each (λ i. whole (pos 0) ≤ℚ up_cost q lambda i)
              (λ i li. subst (λ z. whole (pos 0) ≤ℚ z) (sym (data_up i li)) (product_not_negative (p.up1 i) tau (weight i li) above))
              (λ m lm. subst (λ z. whole (pos 0) ≤ℚ z) (sym (penalty_up m lm)) positive);
          down = each (λ i. whole (pos 0) ≤ℚ down_cost q lambda i)
              (λ i li. subst (λ z. whole (pos 0) ≤ℚ z) (sym (data_down i li)) (product_not_negative (p.up1 i) (whole (pos 1) -ℚ tau) (weight i li) ((≤ℚ-minus tau (whole (pos 1))).0 below)))
              (λ m lm. subst (λ z. whole (pos 0) ≤ℚ z) (sym (penalty_down m lm)) positive);
          some = each (λ i. ¬ ((up_cost q lambda i +ℚ down_cost q lambda i) ≤ℚ whole (pos 0)))
              (λ i li h. weighted i li (subst (λ z. z ≤ℚ whole (pos 0)) (ap₂ (λ x y. x +ℚ y) (data_up i li) (data_down i li) ∙ ring_ℚ (p.up1 i ∷ tau ∷ []) (v0 ⊠ v1 ⊞ v0 ⊠ (number (pos 1) ⊟ v1)) v0 refl) h))
              (λ m lm h. some (≤ℚ_trans lambda (lambda +ℚ lambda) (whole (pos 0)) double (subst (λ z. z ≤ℚ whole (pos 0)) (ap₂ (λ x y. x +ℚ y) (penalty_up m lm) (penalty_down m lm)) h)));
        }
      where
        double : lambda ≤ℚ (lambda +ℚ lambda)
        double = (≤ℚ-minus lambda (lambda +ℚ lambda)).1 (subst (λ z. whole (pos 0) ≤ℚ z) (ring_ℚ (lambda ∷ []) v0 ((v0 ⊞ v0) ⊟ v0) refl) positive)

pub path_loss_is : PathLoss
path_loss_is p first tau q is lambda b = path_is p first tau q is lambda b

pub sum_falls : SumFalls
sum_falls p first tau q is lambda mu b c hb hc later = falls p first tau q is lambda mu b c hb hc later

pub sum_never_rises : SumNeverRises
sum_never_rises p first tau q is rows lo hi s b covers at_lo at_hi j lj = never_rises p first tau q is rows lo hi s b covers at_lo at_hi j lj

pub path_has_full_rank : PathHasFullRank
path_has_full_rank p first tau q is kind = full_rank p first tau q is kind

pub path_has_costs : PathHasCosts
path_has_costs p first tau q is lambda weighted above below some = costs p first tau q is lambda weighted above below some
