-- Dual values by the sides of a basis, over any values of its positions: what they weigh, and that they are
-- within the costs.
use Rattle.std.specs.Prelude.{◌≡◌, ℕ, ◌<◌, Bool, true, false, if◌then◌else◌, [], ◌∷◌, pos}
use Rattle.std.specs.declared.cmp.Ordering.{Ordering}
use Rattle.std.specs.declared.cmp.Ordering.TheVariants.{Less, Equal, Greater}
use Rattle.std.proofs.Common.{refl, sym, ap, subst, ◌∙◌}
use Rattle.rational_laws.specs.Solver.{number, negated, ◌⊞◌, ◌⊟◌, ◌⊠◌, v0, v1, v2}
use Rattle.rational_laws.specs.Rational.{ℚ, ◌+ℚ◌, ◌-ℚ◌, ◌*ℚ◌, neg_ℚ, whole, ◌≤ℚ◌}
use Rattle.rational_laws.proofs.RationalLaws.{ring_ℚ, ≤ℚ_refl}
use Rattle.rational_laws.specs.RationalSums.{sum_ℚ}
use Rattle.rational_laws.proofs.RationalSumLaws.{sum_ℚ-same, sum_ℚ-zero, sum_ℚ-add, sum_ℚ-scale, sum_ℚ-swap, ≤ℚ_from}
use Rattle.rational_laws.proofs.Signs.{negative_below}
use Rattle.rational_laws.proofs.MatrixLaws.{sum_ℚ-coordinate}
use Rattle.rational_laws.specs.Selections.{among}
use Rattle.rational_laws.proofs.SelectionLaws.{sum_ℚ-among}
use Rattle.loss_model.specs.declared.vertex.Side.TheVariants.{Basic}
use Rattle.loss_model.specs.Sample.{Sample, up_cost, down_cost}
use Rattle.loss_model.specs.Vertex.{value_of_side}
use Rattle.basis_model.specs.Perturbed.{side_of, held_coordinate}
use Rattle.basis_model.specs.Basis.{IsBasis, coord, side_at, dual_value}
use Rattle.pivot_model.specs.Duals.{HasCosts}
use Rattle.pivot_model.proofs.Among.{among_at, among_place}
use Rattle.pivot_model.proofs.Bounds.{dual_is, is_basic, bound}
use Rattle.pivot_model.proofs.Sides.{sign, side_outside, held_at, value_inside}

module _ (p : Sample) (at : ℕ → ℕ) (a : ℕ → ℕ → ℚ) (basis : IsBasis p at a) (theta : ℚ) where
  abbrev pub IsWithin : ℕ → ℚ → Type 0
  IsWithin i e = (neg_ℚ (down_cost p theta i) ≤ℚ e) × (e ≤ℚ up_cost p theta i)

  -- a value with no negative slope is within the costs of its row
  pub between : (i : ℕ) (e : ℚ) → whole (pos 0) ≤ℚ (up_cost p theta i -ℚ e) → whole (pos 0) ≤ℚ (down_cost p theta i +ℚ e) → IsWithin i e
  between i e up down = (
    ≤ℚ_from (neg_ℚ (down_cost p theta i)) e (subst (λ z. whole (pos 0) ≤ℚ z) (ring_ℚ (down_cost p theta i ∷ e ∷ []) (v0 ⊞ v1) (v1 ⊟ negated v0) refl) down),
    ≤ℚ_from e (up_cost p theta i) up,
  )

  -- the solved values of the positions balance the bounds of the rows outside; each product of three
  -- factors may be summed over the positions first
  pub solved : (l : ℕ) → l < p.columns → sum_ℚ p.columns (λ j. dual_value p at a theta j *ℚ p.x (at j) l) ≡ sum_ℚ p.rows (λ i. neg_ℚ (bound p at a theta i) *ℚ p.x i l)
  solved l ll =
      sum_ℚ-same p.columns (λ j. dual_value p at a theta j *ℚ p.x (at j) l) (λ j. sum_ℚ p.rows (λ i. neg_ℚ (p.x (at j) l) *ℚ (bound p at a theta i *ℚ coord p a i j)))
      (λ j lj. ap (λ z. z *ℚ p.x (at j) l) (dual_is p at a theta j)
      ∙ ring_ℚ (sum_ℚ p.rows (λ i. bound p at a theta i *ℚ coord p a i j) ∷ p.x (at j) l ∷ []) (negated v0 ⊠ v1) (negated v1 ⊠ v0) refl
      ∙ sym (sum_ℚ-scale p.rows (neg_ℚ (p.x (at j) l)) (λ i. bound p at a theta i *ℚ coord p a i j)))
      ∙ sum_ℚ-swap p.columns p.rows (λ j i. neg_ℚ (p.x (at j) l) *ℚ (bound p at a theta i *ℚ coord p a i j))
      ∙ sum_ℚ-same p.rows (λ i. sum_ℚ p.columns (λ j. neg_ℚ (p.x (at j) l) *ℚ (bound p at a theta i *ℚ coord p a i j))) (λ i. neg_ℚ (bound p at a theta i) *ℚ p.x i l)
      (λ i li. sum_ℚ-same p.columns (λ j. neg_ℚ (p.x (at j) l) *ℚ (bound p at a theta i *ℚ coord p a i j)) (λ j. neg_ℚ (bound p at a theta i) *ℚ (coord p a i j *ℚ p.x (at j) l))
      (λ j lj. ring_ℚ (p.x (at j) l ∷ bound p at a theta i ∷ coord p a i j ∷ []) (negated v0 ⊠ (v1 ⊠ v2)) (negated v1 ⊠ (v2 ⊠ v0)) refl)
      ∙ sum_ℚ-scale p.columns (neg_ℚ (bound p at a theta i)) (λ j. coord p a i j *ℚ p.x (at j) l)
      ∙ ap (λ z. neg_ℚ (bound p at a theta i) *ℚ z) (sum_ℚ-coordinate p.columns (λ j k. p.x (at j) k) a basis.inverse (p.x i) l ll))

  module _ (value : ℕ → ℚ) where
    -- the values of the positions by row
    abbrev pub held : ℕ → ℚ
    held = held_coordinate p.columns at value

    -- that of a row of the basis, or the bound of its side
    abbrev pub weighed : ℕ → ℚ
    weighed i = value_of_side p theta held i (side_at p at a i)

    pub of_position : (j : ℕ) → j < p.columns → weighed (at j) ≡ value j
    of_position j lj = value_inside p at a basis theta value (at j) (among_at at p.columns j lj) ∙ held_at p at a basis value j lj

    pub outside : (i : ℕ) → is_basic p at a i ≡ false → weighed i ≡ bound p at a theta i
    outside i e = ap (value_of_side p theta held i) (side_outside p at a i e) ∙ by (sign p at a i) ∙ sym (ap (value_of_side p theta (λ i. whole (pos 0)) i) (side_outside p at a i e))
      where
        by : (o : Ordering) → value_of_side p theta held i (side_of o) ≡ value_of_side p theta (λ i. whole (pos 0)) i (side_of o)
        by Greater = refl
        by Less = refl
        by Equal = refl

    -- a product with such a value, as one of a row of the basis and one with a bound
    parts : (i : ℕ) (x : ℚ) → weighed i *ℚ x ≡ (if is_basic p at a i then held i *ℚ x else whole (pos 0)) +ℚ (bound p at a theta i *ℚ x)
    parts i x = by (is_basic p at a i)
      where
        without : (o : Ordering) → value_of_side p theta held i (side_of o) *ℚ x ≡ whole (pos 0) +ℚ (value_of_side p theta (λ i. whole (pos 0)) i (side_of o) *ℚ x)
        without Greater = ring_ℚ (up_cost p theta i ∷ x ∷ []) (v0 ⊠ v1) (number (pos 0) ⊞ v0 ⊠ v1) refl
        without Less = ring_ℚ (down_cost p theta i ∷ x ∷ []) (negated v0 ⊠ v1) (number (pos 0) ⊞ negated v0 ⊠ v1) refl
        without Equal = ring_ℚ (down_cost p theta i ∷ x ∷ []) (negated v0 ⊠ v1) (number (pos 0) ⊞ negated v0 ⊠ v1) refl

        by : (s : Bool) → value_of_side p theta held i (if s then Basic else side_of (sign p at a i)) *ℚ x ≡ (if s then held i *ℚ x else whole (pos 0))
            +ℚ (value_of_side p theta (λ i. whole (pos 0)) i (if s then Basic else side_of (sign p at a i)) *ℚ x)
        by true = ring_ℚ (held i ∷ x ∷ []) (v0 ⊠ v1) (v0 ⊠ v1 ⊞ number (pos 0) ⊠ v1) refl
        by false = without (sign p at a i)

    -- they weigh what the values of the positions weigh more than they balance
    pub weigh : (l : ℕ) (r : ℚ) → sum_ℚ p.columns (λ j. value j *ℚ p.x (at j) l) ≡ sum_ℚ p.rows (λ i. neg_ℚ (bound p at a theta i) *ℚ p.x i l) +ℚ r
        → sum_ℚ p.rows (λ i. weighed i *ℚ p.x i l) ≡ r
    weigh l r more =
        sum_ℚ-same p.rows (λ i. weighed i *ℚ p.x i l) (λ i. among at p.columns h i +ℚ g i) (λ i li. parts i (p.x i l))
        ∙ sum_ℚ-add p.rows (among at p.columns h) g
        ∙ ap (λ z. z +ℚ sum_ℚ p.rows g)
        (sum_ℚ-among at p.columns p.rows h basis.distinct
        ∙ sum_ℚ-same p.columns (λ j. h (at j)) (λ j. value j *ℚ p.x (at j) l) (λ j lj. ap (λ z. z *ℚ p.x (at j) l) (held_at p at a basis value j lj))
        ∙ more)
        ∙ ring_ℚ (sum_ℚ p.rows (λ i. neg_ℚ (bound p at a theta i) *ℚ p.x i l) ∷ r ∷ sum_ℚ p.rows g ∷ []) ((v0 ⊞ v1) ⊞ v2) (v1 ⊞ (v0 ⊞ v2)) refl
        ∙ ap (λ z. r +ℚ z) (sym (sum_ℚ-add p.rows (λ i. neg_ℚ (bound p at a theta i) *ℚ p.x i l) g)
        ∙ sum_ℚ-same p.rows (λ i. (neg_ℚ (bound p at a theta i) *ℚ p.x i l) +ℚ g i) (λ i. whole (pos 0)) (λ i li. ring_ℚ (bound p at a theta i ∷ p.x i l ∷ []) (negated v0 ⊠ v1 ⊞ v0 ⊠ v1) (number (pos 0)) refl)
        ∙ sum_ℚ-zero p.rows)
        ∙ ring_ℚ (r ∷ []) (v0 ⊞ number (pos 0)) v0 refl
      where
        h : ℕ → ℚ
        h i = held i *ℚ p.x i l

        g : ℕ → ℚ
        g i = bound p at a theta i *ℚ p.x i l

    -- where the values of the positions are within the costs, all are
    pub within : HasCosts p theta → ((j : ℕ) → j < p.columns → IsWithin (at j) (value j)) → (i : ℕ) → i < p.rows → IsWithin i (weighed i)
    within costs here i li = by (is_basic p at a i) refl
      where
        all : neg_ℚ (down_cost p theta i) ≤ℚ up_cost p theta i
        all = negative_below (up_cost p theta i) (down_cost p theta i) (costs.up i li) (costs.down i li)

        on : (o : Ordering) → IsWithin i (value_of_side p theta held i (side_of o))
        on Greater = (all, ≤ℚ_refl (up_cost p theta i))
        on Less = (≤ℚ_refl (neg_ℚ (down_cost p theta i)), all)
        on Equal = (≤ℚ_refl (neg_ℚ (down_cost p theta i)), all)

        by : (s : Bool) → is_basic p at a i ≡ s → IsWithin i (weighed i)
        by true e =
            let place : (j : ℕ) × (j < p.columns) × (at j ≡ i) = among_place at p.columns i e in
            subst (λ i. IsWithin i (weighed i)) place.2
            (subst (IsWithin (at place.0)) (sym (of_position place.0 place.1)) (here place.0 place.1))
        by false e = subst (λ s. IsWithin i (value_of_side p theta held i s)) (sym (side_outside p at a i e)) (on (sign p at a i))
