-- Optimal values of the restricted problem.
use Rattle.std.specs.Prelude.{◌≡◌, ◌≢◌, ◌⊎◌, ℕ, ◌<◌, Bool, true, false, ◌==◌, if◌then◌else◌, [], ◌∷◌, pos, negsuc}
use Rattle.std.proofs.Common.{refl, sym, ap, subst, ◌∙◌, inl, inr}
use borrow.Author.Tests.{eqb-false}
use Rattle.rational_laws.specs.Solver.{number, negated, ◌⊞◌, ◌⊟◌, ◌⊠◌, v0, v1, v2, v3}
use Rattle.rational_laws.specs.Rational.{ℚ, ◌+ℚ◌, ◌-ℚ◌, ◌*ℚ◌, neg_ℚ, whole, ◌≤ℚ◌}
use Rattle.rational_laws.proofs.RationalLaws.{ring_ℚ, ≤ℚ_antisym}
use Rattle.rational_laws.specs.RationalSums.{sum_ℚ}
use Rattle.rational_laws.proofs.RationalSumLaws.{sum_ℚ-same, sum_ℚ-le, sum_ℚ-mix, sum_ℚ-scale, sum_ℚ-swap, ≤ℚ_from}
use Rattle.rational_laws.proofs.OrderLaws.{≤ℚ-minus, le_from_not, same_le}
use Rattle.rational_laws.proofs.Signs.{product_not_negative}
use Rattle.rational_laws.specs.Terms.{delta}
use Rattle.rational_laws.proofs.TermLaws.{sum_ℚ-delta}
use Rattle.loss_model.specs.Sample.{Sample, fitted, residual}
use Rattle.loss_model.specs.Dual.{dual_objective}
use Rattle.loss_model.specs.Strict.{◌<ℚ◌}
use Rattle.loss_model.specs.Complements.{IsComplementary, residual_change}
use Rattle.rank_model.specs.Restricted.{column_sum, IsFeasibleWithout, restricted_objective, IsOptimalAt, rank_statistic}
use Rattle.rank_model.specs.Laws.{ComplementaryIsOptimal, StatisticFalls, OptimalBetween, RisingRay, FallingRay}
use Rattle.rank_model.proofs.Values.{le_or_less, not_negative_is, lead_between, lead_above, lead_below, statistics_fall}

-- a sum of one term that may differ from 0
pub sum_ℚ-single : (n : ℕ) (f : ℕ → ℚ) (j : ℕ) → j < n → ((k : ℕ) → k < n → k ≢ j → f k ≡ whole (pos 0)) → sum_ℚ n f ≡ f j
sum_ℚ-single n f j l none =
    sum_ℚ-same n f (λ k. f k *ℚ delta k j) (λ k m. by k m (k == j) refl) ∙ sum_ℚ-delta n f j l
  where
    by : (k : ℕ) → k < n → (t : Bool) → (k == j) ≡ t → f k ≡ f k *ℚ (if t then whole (pos 1) else whole (pos 0))
    by k m true e = ring_ℚ (f k ∷ []) v0 (v0 ⊠ number (pos 1)) refl
    by k m false e = none k m (eqb-false k j e) ∙ ring_ℚ (f k ∷ []) (number (pos 0)) (v0 ⊠ number (pos 0)) refl

-- the sum of values times fits, by columns
pub sum_ℚ-fitted : (p : Sample) (b e : ℕ → ℚ) → sum_ℚ p.rows (λ i. e i *ℚ fitted p b i) ≡ sum_ℚ p.columns (λ k. b k *ℚ column_sum p e k)
sum_ℚ-fitted p b e =
    sum_ℚ-same p.rows (λ i. e i *ℚ fitted p b i) (λ i. sum_ℚ p.columns (λ k. b k *ℚ (e i *ℚ p.x i k)))
    (λ i l. sym (sum_ℚ-scale p.columns (e i) (λ k. p.x i k *ℚ b k)) ∙ sum_ℚ-same p.columns (λ k. e i *ℚ (p.x i k *ℚ b k)) (λ k. b k *ℚ (e i *ℚ p.x i k)) (λ k m. ring_ℚ (e i ∷ p.x i k ∷ b k ∷ []) (v0 ⊠ (v1 ⊠ v2)) (v2 ⊠ (v0 ⊠ v1)) refl))
    ∙ sum_ℚ-swap p.rows p.columns (λ i k. b k *ℚ (e i *ℚ p.x i k))
    ∙ sum_ℚ-same p.columns (λ k. sum_ℚ p.rows (λ i. b k *ℚ (e i *ℚ p.x i k))) (λ k. b k *ℚ column_sum p e k) (λ k m. sum_ℚ-scale p.rows (b k) (λ i. e i *ℚ p.x i k))

module _ (p : Sample) (j : ℕ) where
  -- the objective is affine in the tested value, and the statistic is its slope
  pub objective_is : (xi : ℚ) (e : ℕ → ℚ) → restricted_objective p j xi e ≡ dual_objective p e -ℚ (xi *ℚ rank_statistic p j e)
  objective_is xi e =
      sum_ℚ-same p.rows (λ i. (p.y i -ℚ (p.x i j *ℚ xi)) *ℚ e i) (λ i. (whole (pos 1) *ℚ (p.y i *ℚ e i)) +ℚ (neg_ℚ xi *ℚ (e i *ℚ p.x i j)))
      (λ i l. ring_ℚ (p.y i ∷ p.x i j ∷ xi ∷ e i ∷ []) ((v0 ⊟ v1 ⊠ v2) ⊠ v3) (number (pos 1) ⊠ (v0 ⊠ v3) ⊞ negated v2 ⊠ (v3 ⊠ v1)) refl)
      ∙ sum_ℚ-mix p.rows (whole (pos 1)) (neg_ℚ xi) (λ i. p.y i *ℚ e i) (λ i. e i *ℚ p.x i j)
      ∙ ring_ℚ (dual_objective p e ∷ xi ∷ rank_statistic p j e ∷ []) (number (pos 1) ⊠ v0 ⊞ negated v1 ⊠ v2) (v0 ⊟ v1 ⊠ v2) refl

  module _ (lj : j < p.columns) (theta : ℚ) where
    -- feasible values send every fit to its part of column j
    pub fit_is : (b e : ℕ → ℚ) → IsFeasibleWithout p j theta e → sum_ℚ p.rows (λ i. e i *ℚ fitted p b i) ≡ b j *ℚ rank_statistic p j e
    fit_is b e f =
        sum_ℚ-fitted p b e
        ∙ sum_ℚ-single p.columns (λ k. b k *ℚ column_sum p e k) j lj (λ k m other. ap (λ z. b k *ℚ z) (f.balanced k m other) ∙ ring_ℚ (b k ∷ []) (v0 ⊠ number (pos 0)) (number (pos 0)) refl)

    -- so the objective at coefficient j is the sum over the residuals
    pub objective_by_residuals : (b e : ℕ → ℚ) → IsFeasibleWithout p j theta e → sum_ℚ p.rows (λ i. e i *ℚ residual p b i) ≡ restricted_objective p j (b j) e
    objective_by_residuals b e f =
        sum_ℚ-same p.rows (λ i. e i *ℚ residual p b i) (λ i. (whole (pos 1) *ℚ (p.y i *ℚ e i)) +ℚ (neg_ℚ (whole (pos 1)) *ℚ (e i *ℚ fitted p b i)))
        (λ i l. ring_ℚ (e i ∷ p.y i ∷ fitted p b i ∷ []) (v0 ⊠ (v1 ⊟ v2)) (number (pos 1) ⊠ (v1 ⊠ v0) ⊞ negated (number (pos 1)) ⊠ (v0 ⊠ v2)) refl)
        ∙ sum_ℚ-mix p.rows (whole (pos 1)) (neg_ℚ (whole (pos 1))) (λ i. p.y i *ℚ e i) (λ i. e i *ℚ fitted p b i)
        ∙ ap (λ z. (whole (pos 1) *ℚ dual_objective p e) +ℚ (neg_ℚ (whole (pos 1)) *ℚ z)) (fit_is b e f)
        ∙ ring_ℚ (dual_objective p e ∷ b j ∷ rank_statistic p j e ∷ []) (number (pos 1) ⊠ v0 ⊞ negated (number (pos 1)) ⊠ (v1 ⊠ v2)) (v0 ⊟ v1 ⊠ v2) refl
        ∙ sym (objective_is (b j) e)

  module _ (theta : ℚ) where
    -- of all values within the costs those that agree with the residuals have the greatest sum over them
    agreeing : (r e f : ℕ → ℚ) → IsComplementary p theta r e → IsFeasibleWithout p j theta f → sum_ℚ p.rows (λ i. f i *ℚ r i) ≤ℚ sum_ℚ p.rows (λ i. e i *ℚ r i)
    agreeing r e f c g = sum_ℚ-le p.rows (λ i. f i *ℚ r i) (λ i. e i *ℚ r i) each
      where
        from : (x y z : ℚ) → whole (pos 0) ≤ℚ ((y -ℚ x) *ℚ z) → (x *ℚ z) ≤ℚ (y *ℚ z)
        from x y z h = ≤ℚ_from (x *ℚ z) (y *ℚ z) (not_negative_is ((y -ℚ x) *ℚ z) _ (ring_ℚ (x ∷ y ∷ z ∷ []) ((v1 ⊟ v0) ⊠ v2) (v1 ⊠ v2 ⊟ v0 ⊠ v2) refl) h)

        back : (x y z : ℚ) → whole (pos 0) ≤ℚ ((x -ℚ y) *ℚ (whole (pos 0) -ℚ z)) → (x *ℚ z) ≤ℚ (y *ℚ z)
        back x y z h = from x y z (not_negative_is ((x -ℚ y) *ℚ (whole (pos 0) -ℚ z)) _ (ring_ℚ (x ∷ y ∷ z ∷ []) ((v0 ⊟ v1) ⊠ (number (pos 0) ⊟ v2)) ((v1 ⊟ v0) ⊠ v2) refl) h)

        each : (i : ℕ) → i < p.rows → (f i *ℚ r i) ≤ℚ (e i *ℚ r i)
        each i l = at (le_or_less (r i) (whole (pos 0))) (le_or_less (whole (pos 0)) (r i))
          where
            at : (r i ≤ℚ whole (pos 0)) ⊎ (whole (pos 0) <ℚ r i) → (whole (pos 0) ≤ℚ r i) ⊎ (r i <ℚ whole (pos 0)) → (f i *ℚ r i) ≤ℚ (e i *ℚ r i)
            at (inr up) (inl h) =
                from (f i) (e i) (r i) (product_not_negative (e i -ℚ f i) (r i) ((≤ℚ-minus (f i) (e i)).0 (subst (λ z. f i ≤ℚ z) (sym (c.above i l up)) (g.upper i l))) h)
            at (inl h) (inr down) =
                back (f i) (e i) (r i) (product_not_negative (f i -ℚ e i) (whole (pos 0) -ℚ r i) ((≤ℚ-minus (e i) (f i)).0 (subst (λ z. z ≤ℚ f i) (sym (c.below i l down)) (g.lower i l))) ((≤ℚ-minus (r i) (whole (pos 0))).0 h))
            at (inl h) (inl k) = same_le (f i *ℚ r i) (e i *ℚ r i) (at_zero (≤ℚ_antisym (r i) (whole (pos 0)) h k))
              where
                at_zero : r i ≡ whole (pos 0) → f i *ℚ r i ≡ e i *ℚ r i
                at_zero z = ap (λ x. f i *ℚ x) z ∙ ring_ℚ (f i ∷ e i ∷ []) (v0 ⊠ number (pos 0)) (v1 ⊠ number (pos 0)) refl ∙ ap (λ x. e i *ℚ x) (sym z)
            at (inr up) (inr down) = absurd (up (le_from_not (r i) (whole (pos 0)) down))

-- ---- the laws

module _ (p : Sample) (j : ℕ) (theta : ℚ) where
  -- what an optimal list says of another one, on numbers
  leads : (xi : ℚ) (e f : ℕ → ℚ) → IsOptimalAt p j theta xi e → IsFeasibleWithout p j theta f
      → (dual_objective p f -ℚ (xi *ℚ rank_statistic p j f)) ≤ℚ (dual_objective p e -ℚ (xi *ℚ rank_statistic p j e))
  leads xi e f o g =
      subst (λ z. z ≤ℚ (dual_objective p e -ℚ (xi *ℚ rank_statistic p j e))) (objective_is p j xi f)
      (subst (λ z. restricted_objective p j xi f ≤ℚ z) (objective_is p j xi e) (o.greatest f g))

  -- and back
  optimal_from : (xi : ℚ) (e : ℕ → ℚ) → IsFeasibleWithout p j theta e
      → ((f : ℕ → ℚ) → IsFeasibleWithout p j theta f → (dual_objective p f -ℚ (xi *ℚ rank_statistic p j f)) ≤ℚ (dual_objective p e -ℚ (xi *ℚ rank_statistic p j e)))
      → IsOptimalAt p j theta xi e
  optimal_from xi e f h =
      record {
        feasible = f;
        greatest = λ g k.
            subst (λ z. z ≤ℚ restricted_objective p j xi e) (sym (objective_is p j xi g))
            (subst (λ z. (dual_objective p g -ℚ (xi *ℚ rank_statistic p j g)) ≤ℚ z) (sym (objective_is p j xi e)) (h g k));
      }

pub complementary : ComplementaryIsOptimal
complementary p j theta b e lj f c =
    record {
      feasible = f;
      greatest = λ g k.
          subst (λ z. z ≤ℚ restricted_objective p j (b j) e) (objective_by_residuals p j lj theta b g k)
          (subst (λ z. sum_ℚ p.rows (λ i. g i *ℚ residual p b i) ≤ℚ z) (objective_by_residuals p j lj theta b e f) (agreeing p j theta (residual p b) e g c k));
    }

pub falls : StatisticFalls
falls p j theta lo hi e f o u apart =
    statistics_fall (dual_objective p e) (rank_statistic p j e) (dual_objective p f) (rank_statistic p j f) lo hi
    (leads p j theta lo e f o u.feasible) (leads p j theta hi f e u o.feasible) apart

pub optimal_between : OptimalBetween
optimal_between p j theta lo hi xi e o u l k =
    optimal_from p j theta xi e o.feasible (λ f g.
    lead_between (dual_objective p e) (rank_statistic p j e) (dual_objective p f) (rank_statistic p j f) lo hi xi
    (leads p j theta lo e f o g) (leads p j theta hi e f u g) l k)

-- the sum of values times changes of residuals is the negated change of coefficient j times their statistic
changes_are : (p : Sample) (j : ℕ) → j < p.columns → (theta : ℚ) (d e : ℕ → ℚ) → IsFeasibleWithout p j theta e → sum_ℚ p.rows (λ i. e i *ℚ residual_change p d i) ≡ neg_ℚ (d j) *ℚ rank_statistic p j e
changes_are p j lj theta d e f =
    sum_ℚ-same p.rows (λ i. e i *ℚ residual_change p d i) (λ i. neg_ℚ (whole (pos 1)) *ℚ (e i *ℚ fitted p d i)) (λ i l. ring_ℚ (e i ∷ fitted p d i ∷ []) (v0 ⊠ negated v1) (negated (number (pos 1)) ⊠ (v0 ⊠ v1)) refl)
    ∙ sum_ℚ-scale p.rows (neg_ℚ (whole (pos 1))) (λ i. e i *ℚ fitted p d i)
    ∙ ap (λ z. neg_ℚ (whole (pos 1)) *ℚ z) (fit_is p j lj theta d e f)
    ∙ ring_ℚ (d j ∷ rank_statistic p j e ∷ []) (negated (number (pos 1)) ⊠ (v0 ⊠ v1)) (negated v0 ⊠ v1) refl

along : (p : Sample) (j : ℕ) → j < p.columns → (theta : ℚ) (d e f : ℕ → ℚ) → IsFeasibleWithout p j theta e → IsFeasibleWithout p j theta f → IsComplementary p theta (residual_change p d) e
    → (neg_ℚ (d j) *ℚ rank_statistic p j f) ≤ℚ (neg_ℚ (d j) *ℚ rank_statistic p j e)
along p j lj theta d e f g h c =
    subst (λ z. z ≤ℚ (neg_ℚ (d j) *ℚ rank_statistic p j e)) (changes_are p j lj theta d f h)
    (subst (λ z. sum_ℚ p.rows (λ i. f i *ℚ residual_change p d i) ≤ℚ z) (changes_are p j lj theta d e g) (agreeing p j theta (residual_change p d) e f c h))

pub rising_ray : RisingRay
rising_ray p j theta lo d e lj o c one = (
  least,
  λ xi l. optimal_from p j theta xi e o.feasible (λ f g.
      lead_above (dual_objective p e) (rank_statistic p j e) (dual_objective p f) (rank_statistic p j f) lo xi (leads p j theta lo e f o g) l (least f g)),
)
  where
    turned : (x y : ℚ) → (neg_ℚ (whole (pos 1)) *ℚ y) ≤ℚ (neg_ℚ (whole (pos 1)) *ℚ x) → x ≤ℚ y
    turned x y h = ≤ℚ_from x y (not_negative_is _ _ (ring_ℚ (x ∷ y ∷ []) (negated (number (pos 1)) ⊠ v0 ⊟ negated (number (pos 1)) ⊠ v1) (v1 ⊟ v0) refl) ((≤ℚ-minus (neg_ℚ (whole (pos 1)) *ℚ y) (neg_ℚ (whole (pos 1)) *ℚ x)).0 h))

    least : (f : ℕ → ℚ) → IsFeasibleWithout p j theta f → rank_statistic p j e ≤ℚ rank_statistic p j f
    least f g = turned (rank_statistic p j e) (rank_statistic p j f) (subst (λ z. (neg_ℚ z *ℚ rank_statistic p j f) ≤ℚ (neg_ℚ z *ℚ rank_statistic p j e)) one (along p j lj theta d e f o.feasible g c))

pub falling_ray : FallingRay
falling_ray p j theta hi d e lj o c one = (
  greatest,
  λ xi l. optimal_from p j theta xi e o.feasible (λ f g.
      lead_below (dual_objective p e) (rank_statistic p j e) (dual_objective p f) (rank_statistic p j f) hi xi (leads p j theta hi e f o g) l (greatest f g)),
)
  where
    kept : (x y : ℚ) → (neg_ℚ (whole (negsuc 0)) *ℚ y) ≤ℚ (neg_ℚ (whole (negsuc 0)) *ℚ x) → y ≤ℚ x
    kept x y h = ≤ℚ_from y x (not_negative_is _ _ (ring_ℚ (x ∷ y ∷ []) (negated (number (negsuc 0)) ⊠ v0 ⊟ negated (number (negsuc 0)) ⊠ v1) (v0 ⊟ v1) refl) ((≤ℚ-minus (neg_ℚ (whole (negsuc 0)) *ℚ y) (neg_ℚ (whole (negsuc 0)) *ℚ x)).0 h))

    greatest : (f : ℕ → ℚ) → IsFeasibleWithout p j theta f → rank_statistic p j f ≤ℚ rank_statistic p j e
    greatest f g = kept (rank_statistic p j e) (rank_statistic p j f) (subst (λ z. (neg_ℚ z *ℚ rank_statistic p j f) ≤ℚ (neg_ℚ z *ℚ rank_statistic p j e)) one (along p j lj theta d e f o.feasible g c))
