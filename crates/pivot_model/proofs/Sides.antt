-- Sides, and where the residuals of a basis lie.
use Rattle.std.specs.Prelude.{◌≡◌, ◌≢◌, ◌⊎◌, ℕ, suc, ◌<◌, Bool, true, false, if◌then◌else◌, [], ◌∷◌, pos}
use Rattle.std.specs.declared.cmp.Ordering.{Ordering}
use Rattle.std.specs.declared.cmp.Ordering.TheVariants.{Less, Equal, Greater}
use Rattle.std.proofs.Common.{arith, refl, sym, ap, subst, ◌∙◌, inl, inr}
use Rattle.rational_laws.specs.Solver.{number, ◌⊟◌, ◌⊠◌, v0, v1, v2}
use Rattle.rational_laws.specs.Rational.{ℚ, ◌-ℚ◌, ◌*ℚ◌, whole, ◌≤ℚ◌}
use Rattle.rational_laws.proofs.RationalLaws.{ring_ℚ, ≤ℚ_refl}
use Rattle.rational_laws.specs.RationalSums.{sum_ℚ}
use Rattle.rational_laws.proofs.RationalSumLaws.{sum_ℚ-same, sum_ℚ-scale, sum_ℚ-swap}
use Rattle.rational_laws.proofs.Inverses.{zero_or_not}
use Rattle.rational_laws.proofs.OrderLaws.{cmp_ℚ-Greater, cmp_ℚ-not_Greater, le_from_not}
use Rattle.rational_laws.specs.Terms.{delta}
use Rattle.rational_laws.proofs.TermLaws.{sum_ℚ-delta, delta-turned}
use Rattle.loss_model.specs.declared.vertex.Side.TheVariants.{Basic}
use Rattle.loss_model.specs.Sample.{Sample, residual}
use Rattle.loss_model.specs.Vertex.{value_of_side, IsOn}
use Rattle.basis_model.specs.Lexicographic.{lex_cmp}
use Rattle.basis_model.proofs.LexicographicLaws.{lex_cmp-first}
use Rattle.basis_model.specs.Perturbed.{perturbed, zeros, side_of, held_coordinate}
use Rattle.basis_model.proofs.PerturbedLaws.{held_coordinate-at}
use Rattle.basis_model.specs.Basis.{IsBasis, coefficient, outside_row, side_at, dual_value}
use Rattle.pivot_model.specs.Duals.{dual}
use Rattle.pivot_model.proofs.Bounds.{is_basic}
use Rattle.pivot_model.proofs.Among.{among_at, among_place}

-- the first entry of a list greater than zeros is not negative
first_above : (n : ℕ) (u : ℕ → ℚ) → lex_cmp (suc n) u zeros ≡ Greater → whole (pos 0) ≤ℚ u 0
first_above n u h = by (zero_or_not (u 0))
  where
    by : (u 0 ≡ whole (pos 0)) ⊎ (u 0 ≢ whole (pos 0)) → whole (pos 0) ≤ℚ u 0
    by (inl e) = subst (λ z. whole (pos 0) ≤ℚ z) (sym e) (≤ℚ_refl (whole (pos 0)))
    by (inr differ) =
        le_from_not (whole (pos 0)) (u 0)
        ((cmp_ℚ-Greater (u 0) (whole (pos 0))).0
        (sym (lex_cmp-first (suc n) 0 u zeros (omega arith) (λ i l. absurd (omega (arith, l))) differ) ∙ h))

-- and that of another list is not positive
first_below : (n : ℕ) (u : ℕ → ℚ) → lex_cmp (suc n) u zeros ≢ Greater → u 0 ≤ℚ whole (pos 0)
first_below n u h = by (zero_or_not (u 0))
  where
    by : (u 0 ≡ whole (pos 0)) ⊎ (u 0 ≢ whole (pos 0)) → u 0 ≤ℚ whole (pos 0)
    by (inl e) = subst (λ z. z ≤ℚ whole (pos 0)) (sym e) (≤ℚ_refl (whole (pos 0)))
    by (inr differ) =
        (cmp_ℚ-not_Greater (u 0) (whole (pos 0))).0
        (λ g. h (lex_cmp-first (suc n) 0 u zeros (omega arith) (λ i l. absurd (omega (arith, l))) differ ∙ g))

module _ (p : Sample) (at : ℕ → ℕ) (a : ℕ → ℕ → ℚ) where
  -- how the perturbed residual of row i compares with zeros
  abbrev pub sign : ℕ → Ordering
  sign i = lex_cmp (suc p.rows) (perturbed p.columns at (outside_row p at a i)) zeros

  pub side_basic : (i : ℕ) → is_basic p at a i ≡ true → side_at p at a i ≡ Basic
  side_basic i e = ap (λ t. if t then Basic else side_of (sign i)) e

  pub side_outside : (i : ℕ) → is_basic p at a i ≡ false → side_at p at a i ≡ side_of (sign i)
  side_outside i e = ap (λ t. if t then Basic else side_of (sign i)) e

  -- a row outside the basis has its residual on its side
  on_outside : (i : ℕ) → IsOn (side_of (sign i)) (residual p (coefficient p at a) i)
  on_outside i = by (sign i) refl
    where
      by : (o : Ordering) → sign i ≡ o → IsOn (side_of o) (residual p (coefficient p at a) i)
      by Greater e = first_above p.rows (perturbed p.columns at (outside_row p at a i)) e
      by Less e = first_below p.rows (perturbed p.columns at (outside_row p at a i)) (λ g. absurd (cc (sym g ∙ e)))
      by Equal e = first_below p.rows (perturbed p.columns at (outside_row p at a i)) (λ g. absurd (cc (sym g ∙ e)))

  module _ (basis : IsBasis p at a) where
    -- responses at the rows of the basis are fitted exactly
    pub fitted_for : (v : ℕ → ℚ) (j : ℕ) → j < p.columns → sum_ℚ p.columns (λ k. p.x (at j) k *ℚ sum_ℚ p.columns (λ i. a k i *ℚ v (at i))) ≡ v (at j)
    fitted_for v j lj =
        sum_ℚ-same p.columns (λ k. p.x (at j) k *ℚ sum_ℚ p.columns (λ i. a k i *ℚ v (at i))) (λ k. sum_ℚ p.columns (λ i. v (at i) *ℚ (p.x (at j) k *ℚ a k i)))
        (λ k lk. sym (sum_ℚ-scale p.columns (p.x (at j) k) (λ i. a k i *ℚ v (at i))) ∙ sum_ℚ-same p.columns (λ i. p.x (at j) k *ℚ (a k i *ℚ v (at i))) (λ i. v (at i) *ℚ (p.x (at j) k *ℚ a k i))
        (λ i li. ring_ℚ (p.x (at j) k ∷ a k i ∷ v (at i) ∷ []) (v0 ⊠ (v1 ⊠ v2)) (v2 ⊠ (v0 ⊠ v1)) refl))
        ∙ sum_ℚ-swap p.columns p.columns (λ k i. v (at i) *ℚ (p.x (at j) k *ℚ a k i))
        ∙ sum_ℚ-same p.columns (λ i. sum_ℚ p.columns (λ k. v (at i) *ℚ (p.x (at j) k *ℚ a k i))) (λ i. v (at i) *ℚ delta i j)
        (λ i li. sum_ℚ-scale p.columns (v (at i)) (λ k. p.x (at j) k *ℚ a k i) ∙ ap (λ z. v (at i) *ℚ z) (basis.inverse.left j i lj li ∙ delta-turned j i))
        ∙ sum_ℚ-delta p.columns (λ i. v (at i)) j lj

    -- and so those of the problem
    pub fits : (j : ℕ) → j < p.columns → residual p (coefficient p at a) (at j) ≡ whole (pos 0)
    fits j lj = ap (λ z. p.y (at j) -ℚ z) (fitted_for p.y j lj) ∙ ring_ℚ (p.y (at j) ∷ []) (v0 ⊟ v0) (number (pos 0)) refl

    -- every residual lies on the side of its row
    pub on_side : (i : ℕ) → IsOn (side_at p at a i) (residual p (coefficient p at a) i)
    on_side i = by (is_basic p at a i) refl
      where
        by : (t : Bool) → is_basic p at a i ≡ t → IsOn (side_at p at a i) (residual p (coefficient p at a) i)
        by true e =
            let place : (j : ℕ) × (j < p.columns) × (at j ≡ i) = among_place at p.columns i e in
            subst (λ s. IsOn s (residual p (coefficient p at a) i)) (sym (side_basic i e))
            (ap (residual p (coefficient p at a)) (sym place.2) ∙ fits place.0 place.1)
        by false e = subst (λ s. IsOn s (residual p (coefficient p at a) i)) (sym (side_outside i e)) (on_outside i)

    -- of any values of the positions, that of a row of the basis is that of its position
    pub held_at : (value : ℕ → ℚ) (j : ℕ) → j < p.columns → held_coordinate p.columns at value (at j) ≡ value j
    held_at value j lj = held_coordinate-at p.columns at value j basis.distinct.apart lj

    pub value_inside : (theta : ℚ) (value : ℕ → ℚ) (i : ℕ) → is_basic p at a i ≡ true → value_of_side p theta (held_coordinate p.columns at value) i (side_at p at a i) ≡ held_coordinate p.columns at value i
    value_inside theta value i e = ap (value_of_side p theta (held_coordinate p.columns at value) i) (side_basic i e)

    -- so it is of the dual values
    pub dual_basic : (theta : ℚ) (i : ℕ) → is_basic p at a i ≡ true → dual p at a theta i ≡ held_coordinate p.columns at (dual_value p at a theta) i
    dual_basic theta = value_inside theta (dual_value p at a theta)

    pub dual_at : (theta : ℚ) (j : ℕ) → j < p.columns → dual p at a theta (at j) ≡ dual_value p at a theta j
    dual_at theta j lj = dual_basic theta (at j) (among_at at p.columns j lj) ∙ held_at (dual_value p at a theta) j lj
