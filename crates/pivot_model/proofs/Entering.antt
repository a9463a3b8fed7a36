-- Some row always enters: after all rows that move towards 0 are passed, the slope is a sum of costs.
use Rattle.std.specs.Prelude.{◌≡◌, ℕ, ◌<◌, Bool, true, false, cond, if◌then◌else◌, [], ◌∷◌, pos, negsuc}
use Rattle.std.specs.Ordering.{is_lt, is_gt}
use Rattle.std.specs.declared.cmp.Ordering.{Ordering}
use Rattle.std.specs.declared.cmp.Ordering.TheVariants.{Less, Equal, Greater}
use Rattle.std.proofs.Common.{refl, sym, ap, subst, ◌∙◌}
use Rattle.rational_laws.specs.Solver.{number, negated, ◌⊞◌, ◌⊟◌, ◌⊠◌, v0, v1, v2}
use Rattle.rational_laws.specs.Rational.{ℚ, ◌+ℚ◌, ◌-ℚ◌, ◌*ℚ◌, neg_ℚ, whole, le_ℚ, ◌≤ℚ◌}
use Rattle.rational_laws.proofs.RationalLaws.{ring_ℚ, ≤ℚ_refl, ≤ℚ_antisym}
use Rattle.rational_laws.specs.RationalSums.{sum_ℚ}
use Rattle.rational_laws.proofs.RationalSumLaws.{sum_ℚ-same, sum_ℚ-zero, sum_ℚ-add, sum_ℚ-scale, sum_ℚ-le}
use Rattle.rational_laws.proofs.OrderLaws.{by_cmp, le_from_not, ≤ℚ_neg}
use Rattle.rational_laws.proofs.Signs.{sum_not_negative, product_not_negative, neg-neg}
use Rattle.loss_model.specs.declared.vertex.Side.{Side}
use Rattle.loss_model.specs.declared.vertex.Side.TheVariants.{Up, Down, Basic}
use Rattle.loss_model.specs.Sample.{Sample, up_cost, down_cost}
use Rattle.loss_model.specs.Spill.{abs_ℚ}
use Rattle.loss_model.specs.Vertex.{value_of_side}
use Rattle.basis_model.specs.Perturbed.{side_of}
use Rattle.pivot_model.specs.declared.direction.Direction.{Direction}
use Rattle.pivot_model.specs.declared.direction.Direction.TheVariants.{Upward, Downward}
use Rattle.basis_model.specs.Basis.{coord}
use Rattle.pivot_model.specs.Duals.{HasCosts}
use Rattle.pivot_model.proofs.Bounds.{dual_is, is_basic, bound}
use Rattle.pivot_model.specs.Steps.{is_towards, slope, change, moves, passing}
use Rattle.pivot_model.proofs.Sides.{sign}

-- ---- absolute values

pub abs_above : (x : ℚ) → whole (pos 0) ≤ℚ x → abs_ℚ x ≡ x
abs_above x h = ap (λ t. cond t x (neg_ℚ x)) h.le

pub abs_below : (x : ℚ) → x ≤ℚ whole (pos 0) → abs_ℚ x ≡ neg_ℚ x
abs_below x h = by (le_ℚ (whole (pos 0)) x) refl
  where
    by : (t : Bool) → le_ℚ (whole (pos 0)) x ≡ t → cond t x (neg_ℚ x) ≡ neg_ℚ x
    by true e =
        let none : x ≡ whole (pos 0) = ≤ℚ_antisym x (whole (pos 0)) h (record { le = e }) in
        none ∙ ring_ℚ [] (number (pos 0)) (negated (number (pos 0))) refl ∙ ap neg_ℚ (sym none)
    by false e = refl

pub negated_not_negative : (x : ℚ) → x ≤ℚ whole (pos 0) → whole (pos 0) ≤ℚ neg_ℚ x
negated_not_negative x h =
    subst (λ z. z ≤ℚ neg_ℚ x) (ring_ℚ [] (negated (number (pos 0))) (number (pos 0)) refl) (≤ℚ_neg x (whole (pos 0)) h)

negated_not_positive : (x : ℚ) → whole (pos 0) ≤ℚ x → neg_ℚ x ≤ℚ whole (pos 0)
negated_not_positive x h =
    subst (λ z. neg_ℚ x ≤ℚ z) (ring_ℚ [] (negated (number (pos 0))) (number (pos 0)) refl) (≤ℚ_neg (whole (pos 0)) x h)

abs_neg : (x : ℚ) → abs_ℚ (neg_ℚ x) ≡ abs_ℚ x
abs_neg x =
    by_cmp x (whole (pos 0)) (λ o. abs_ℚ (neg_ℚ x) ≡ abs_ℚ x)
    (λ h. below (le_from_not x (whole (pos 0)) h))
    (λ e. below (subst (λ z. z ≤ℚ whole (pos 0)) (sym e) (≤ℚ_refl (whole (pos 0)))))
    (λ h. let above : whole (pos 0) ≤ℚ x = le_from_not (whole (pos 0)) x h in
    abs_below (neg_ℚ x) (negated_not_positive x above) ∙ neg-neg x ∙ sym (abs_above x above))
  where
    below : x ≤ℚ whole (pos 0) → abs_ℚ (neg_ℚ x) ≡ abs_ℚ x
    below h = abs_above (neg_ℚ x) (negated_not_negative x h) ∙ sym (abs_below x h)

-- ---- one row

-- what a row gives to the slope by its bound, and what it adds where it moves towards 0
abbrev both : Side → ℚ → ℚ → ℚ → ℚ → ℚ
both s e c u d = (e *ℚ c) +ℚ (if is_towards s c then abs_ℚ c *ℚ (u +ℚ d) else whole (pos 0))

module _ (c u d : ℚ) (hu : whole (pos 0) ≤ℚ u) (hd : whole (pos 0) ≤ℚ d) where
  both_up : whole (pos 0) ≤ℚ both Up u c u d
  both_up =
      by_cmp c (whole (pos 0)) (λ o. whole (pos 0) ≤ℚ ((u *ℚ c) +ℚ (if is_lt o then abs_ℚ c *ℚ (u +ℚ d) else whole (pos 0))))
      (λ h. let below : c ≤ℚ whole (pos 0) = le_from_not c (whole (pos 0)) h in
      subst (λ z. whole (pos 0) ≤ℚ z) (ring_ℚ (u ∷ d ∷ c ∷ []) (v1 ⊠ negated v2) (v0 ⊠ v2 ⊞ negated v2 ⊠ (v0 ⊞ v1)) refl ∙ ap (λ z. (u *ℚ c) +ℚ (z *ℚ (u +ℚ d))) (sym (abs_below c below)))
      (product_not_negative d (neg_ℚ c) hd (negated_not_negative c below)))
      (λ e. still (subst (λ z. whole (pos 0) ≤ℚ z) (sym e) (≤ℚ_refl (whole (pos 0)))))
      (λ h. still (le_from_not (whole (pos 0)) c h))
    where
      still : whole (pos 0) ≤ℚ c → whole (pos 0) ≤ℚ ((u *ℚ c) +ℚ whole (pos 0))
      still h = sum_not_negative (u *ℚ c) (whole (pos 0)) (product_not_negative u c hu h) (≤ℚ_refl (whole (pos 0)))

  both_down : whole (pos 0) ≤ℚ both Down (neg_ℚ d) c u d
  both_down =
      by_cmp c (whole (pos 0)) (λ o. whole (pos 0) ≤ℚ ((neg_ℚ d *ℚ c) +ℚ (if is_gt o then abs_ℚ c *ℚ (u +ℚ d) else whole (pos 0))))
      (λ h. still (le_from_not c (whole (pos 0)) h))
      (λ e. still (subst (λ z. z ≤ℚ whole (pos 0)) (sym e) (≤ℚ_refl (whole (pos 0)))))
      (λ h. let above : whole (pos 0) ≤ℚ c = le_from_not (whole (pos 0)) c h in
      subst (λ z. whole (pos 0) ≤ℚ z) (ring_ℚ (u ∷ d ∷ c ∷ []) (v0 ⊠ v2) (negated v1 ⊠ v2 ⊞ v2 ⊠ (v0 ⊞ v1)) refl ∙ ap (λ z. (neg_ℚ d *ℚ c) +ℚ (z *ℚ (u +ℚ d))) (sym (abs_above c above)))
      (product_not_negative u c hu above))
    where
      still : c ≤ℚ whole (pos 0) → whole (pos 0) ≤ℚ ((neg_ℚ d *ℚ c) +ℚ whole (pos 0))
      still h =
          subst (λ z. whole (pos 0) ≤ℚ z) (ring_ℚ (d ∷ c ∷ []) (v0 ⊠ negated v1) (negated v0 ⊠ v1 ⊞ number (pos 0)) refl)
          (product_not_negative d (neg_ℚ c) hd (negated_not_negative c h))

-- ---- all rows

module _ (p : Sample) (at : ℕ → ℕ) (a : ℕ → ℕ → ℚ) (theta : ℚ) (costs : HasCosts p theta) (j : ℕ) (d : Direction) where
  abs_change : (d : Direction) (i : ℕ) → abs_ℚ (change p at a j d i) ≡ abs_ℚ (coord p a i j)
  abs_change Upward i = refl
  abs_change Downward i = abs_neg (coord p a i j)

  given : ℕ → ℚ
  given i = bound p at a theta i *ℚ change p at a j d i

  added : ℕ → ℚ
  added i = if moves p at a j d i then passing p at a theta j i else whole (pos 0)

  term : (i : ℕ) → i < p.rows → whole (pos 0) ≤ℚ (given i +ℚ added i)
  unfolding given added
  term i li =
      subst (λ z. whole (pos 0) ≤ℚ ((bound p at a theta i *ℚ c) +ℚ (if moves p at a j d i then z *ℚ (u +ℚ v) else whole (pos 0)))) (abs_change d i) (by (is_basic p at a i))
    where
      c : ℚ
      c = change p at a j d i

      u : ℚ
      u = up_cost p theta i

      v : ℚ
      v = down_cost p theta i

      outside : (o : Ordering) → whole (pos 0) ≤ℚ both (side_of o) (value_of_side p theta (λ i. whole (pos 0)) i (side_of o)) (change p at a j d i) (up_cost p theta i) (down_cost p theta i)
      outside Greater = both_up (change p at a j d i) (up_cost p theta i) (down_cost p theta i) (costs.up i li) (costs.down i li)
      outside Less = both_down (change p at a j d i) (up_cost p theta i) (down_cost p theta i) (costs.up i li) (costs.down i li)
      outside Equal = both_down (change p at a j d i) (up_cost p theta i) (down_cost p theta i) (costs.up i li) (costs.down i li)

      by : (t : Bool) → whole (pos 0) ≤ℚ both (if t then Basic else side_of (sign p at a i)) (value_of_side p theta (λ i. whole (pos 0)) i (if t then Basic else side_of (sign p at a i))) (change p at a j d i) (up_cost p theta i)
          (down_cost p theta i)
      by true = subst (λ z. whole (pos 0) ≤ℚ z) (ring_ℚ (change p at a j d i ∷ []) (number (pos 0)) (number (pos 0) ⊠ v0 ⊞ number (pos 0)) refl) (≤ℚ_refl (whole (pos 0)))
      by false = outside (sign p at a i)

  cost : Direction → ℚ
  cost Upward = up_cost p theta (at j)
  cost Downward = down_cost p theta (at j)

  -- the slope by what the rows give
  slope_is : (d : Direction) → slope p at a theta j d ≡ cost d +ℚ sum_ℚ p.rows (λ i. bound p at a theta i *ℚ change p at a j d i)
  unfolding cost
  slope_is Upward = ap (λ z. up_cost p theta (at j) -ℚ z) (dual_is p at a theta j) ∙ ring_ℚ (up_cost p theta (at j) ∷ sum_ℚ p.rows (λ i. bound p at a theta i *ℚ coord p a i j) ∷ []) (v0 ⊟ negated v1) (v0 ⊞ v1) refl
  slope_is Downward =
      ap (λ z. down_cost p theta (at j) +ℚ z) (dual_is p at a theta j
      ∙ ring_ℚ (sum_ℚ p.rows (λ i. bound p at a theta i *ℚ coord p a i j) ∷ []) (negated v0) (number (negsuc 0) ⊠ v0) refl
      ∙ sym (sum_ℚ-scale p.rows (whole (negsuc 0)) (λ i. bound p at a theta i *ℚ coord p a i j))
      ∙ sum_ℚ-same p.rows (λ i. whole (negsuc 0) *ℚ (bound p at a theta i *ℚ coord p a i j)) (λ i. bound p at a theta i *ℚ neg_ℚ (coord p a i j))
      (λ i li. ring_ℚ (bound p at a theta i ∷ coord p a i j ∷ []) (number (negsuc 0) ⊠ (v0 ⊠ v1)) (v0 ⊠ negated v1) refl))

  cost_not_negative : (d : Direction) → at j < p.rows → whole (pos 0) ≤ℚ cost d
  unfolding cost
  cost_not_negative Upward l = costs.up (at j) l
  cost_not_negative Downward l = costs.down (at j) l

  pub enough : at j < p.rows → whole (pos 0) ≤ℚ (slope p at a theta j d +ℚ sum_ℚ p.rows (λ i. if moves p at a j d i then passing p at a theta j i else whole (pos 0)))
  unfolding given added
  enough l =
      subst (λ z. whole (pos 0) ≤ℚ z) (sym (
      ap (λ z. z +ℚ sum_ℚ p.rows added) (slope_is d)
      ∙ ring_ℚ (cost d ∷ sum_ℚ p.rows given ∷ sum_ℚ p.rows added ∷ []) ((v0 ⊞ v1) ⊞ v2) (v0 ⊞ (v1 ⊞ v2)) refl
      ∙ ap (λ z. cost d +ℚ z) (sym (sum_ℚ-add p.rows given added))))
      (sum_not_negative (cost d) (sum_ℚ p.rows (λ i. given i +ℚ added i)) (cost_not_negative d l)
      (subst (λ z. z ≤ℚ sum_ℚ p.rows (λ i. given i +ℚ added i)) (sum_ℚ-zero p.rows) (sum_ℚ-le p.rows (λ k. whole (pos 0)) (λ i. given i +ℚ added i) term)))
