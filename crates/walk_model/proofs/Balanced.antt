-- The dual values of a basis weigh what the family asks for, and they are the only ones with the
-- bounds of its sides.
use Rattle.std.specs.Prelude.{◌≡◌, ℕ, ◌<◌, Bool, true, false, if◌then◌else◌, [], ◌∷◌, pos}
use Rattle.std.proofs.Common.{refl, sym, ap, ap₂, ◌∙◌}
use Rattle.rational_laws.specs.Solver.{number, negated, ◌⊞◌, ◌⊠◌, v0, v1, v2, v3}
use Rattle.rational_laws.specs.Rational.{ℚ, ◌+ℚ◌, ◌*ℚ◌, neg_ℚ, whole}
use Rattle.rational_laws.proofs.RationalLaws.{ring_ℚ, ring_by_ℚ}
use Rattle.rational_laws.specs.RationalSums.{sum_ℚ}
use Rattle.rational_laws.proofs.RationalSumLaws.{sum_ℚ-same, sum_ℚ-scale, sum_ℚ-swap, sum_ℚ-mix}
use Rattle.rational_laws.specs.Terms.{delta}
use Rattle.rational_laws.proofs.TermLaws.{sum_ℚ-delta}
use Rattle.rational_laws.specs.Matrices.{coordinate}
use Rattle.rational_laws.proofs.MatrixLaws.{sum_ℚ-coordinate}
use Rattle.rational_laws.specs.Selections.{is_among}
use Rattle.rational_laws.proofs.SelectionLaws.{sum_ℚ-among, sum_ℚ-split}
use Rattle.loss_model.specs.Sample.{Sample}
use Rattle.loss_model.specs.Vertex.{value_of_side}
use Rattle.pivot_model.specs.Perturbed.{held_coordinate}
use Rattle.pivot_model.specs.Basis.{IsBasis, coord, dual_value}
use Rattle.pivot_model.proofs.Among.{among_place}
use Rattle.pivot_model.proofs.Bounds.{dual_is, is_basic, bound}
use Rattle.pivot_model.proofs.Sides.{side_basic, value_inside}
use Rattle.pivot_model.proofs.Weighed.{solved, of_position, outside, weigh}
use Rattle.walk_model.specs.Families.{Family, theta_of, basic_at, dual_in}

module _ (f : Family) (at : ℕ → ℕ) (a : ℕ → ℕ → ℚ) (basis : IsBasis f.sample at a) (t : ℚ) where
  abbrev p : Sample
  p = f.sample

  abbrev th : ℚ
  th = theta_of f t

  -- the dual values of the basis by row
  abbrev pub held : ℕ → ℚ
  held = held_coordinate p.columns at (basic_at f at a t)

  -- of a row of the basis it is that of its position
  pub dual_basic : (i : ℕ) → is_basic p at a i ≡ true → dual_in f at a t i ≡ held i
  dual_basic = value_inside p at a basis th (basic_at f at a t)

  pub dual_at : (j : ℕ) → j < p.columns → dual_in f at a t (at j) ≡ basic_at f at a t j
  dual_at = of_position p at a basis th (basic_at f at a t)

  -- a dual value outside is the bound of its side
  pub dual_outside : (i : ℕ) → is_basic p at a i ≡ false → dual_in f at a t i ≡ bound p at a th i
  dual_outside = outside p at a basis th (basic_at f at a t)

  -- the rows of the basis balance the others up to the right side
  pub balanced : (l : ℕ) → l < p.columns → sum_ℚ p.rows (λ i. dual_in f at a t i *ℚ p.x i l) ≡ f.right l *ℚ t
  balanced l ll = weigh p at a basis th (basic_at f at a t) l (f.right l *ℚ t) more
    where
      u : ℕ → ℚ
      u j = dual_value p at a th j *ℚ p.x (at j) l

      w : ℕ → ℚ
      w j = coordinate p.columns a f.right j *ℚ p.x (at j) l

      more : sum_ℚ p.columns (λ j. basic_at f at a t j *ℚ p.x (at j) l) ≡ sum_ℚ p.rows (λ i. neg_ℚ (bound p at a th i) *ℚ p.x i l) +ℚ (f.right l *ℚ t)
      more =
          sum_ℚ-same p.columns (λ j. basic_at f at a t j *ℚ p.x (at j) l) (λ j. (whole (pos 1) *ℚ u j) +ℚ (t *ℚ w j))
          (λ j lj. ring_ℚ (dual_value p at a th j ∷ coordinate p.columns a f.right j ∷ t ∷ p.x (at j) l ∷ []) ((v0 ⊞ v1 ⊠ v2) ⊠ v3) (number (pos 1) ⊠ (v0 ⊠ v3) ⊞ v2 ⊠ (v1 ⊠ v3)) refl)
          ∙ sum_ℚ-mix p.columns (whole (pos 1)) t u w
          ∙ ap₂ (λ y z. (whole (pos 1) *ℚ y) +ℚ (t *ℚ z)) (solved p at a basis th l ll) (sum_ℚ-coordinate p.columns (λ j k. p.x (at j) k) a basis.inverse f.right l ll)
          ∙ ring_ℚ (sum_ℚ p.rows (λ i. neg_ℚ (bound p at a th i) *ℚ p.x i l) ∷ t ∷ f.right l ∷ []) (number (pos 1) ⊠ v0 ⊞ v1 ⊠ v2) (v0 ⊞ v2 ⊠ v1) refl

  -- values that weigh the same, and have the bounds of the sides outside the basis, are its dual values
  module _ (e : ℕ → ℚ) (weighs : (l : ℕ) → l < p.columns → sum_ℚ p.rows (λ i. e i *ℚ p.x i l) ≡ f.right l *ℚ t)
      (sides : (i : ℕ) → i < p.rows → is_basic p at a i ≡ false → e i ≡ bound p at a th i) where
    -- the sum of the values times the coordinates at a position
    weighed : (j : ℕ) → sum_ℚ p.rows (λ i. e i *ℚ coord p a i j) ≡ coordinate p.columns a f.right j *ℚ t
    weighed j =
        sum_ℚ-same p.rows (λ i. e i *ℚ coord p a i j) (λ i. sum_ℚ p.columns (λ l. a l j *ℚ (e i *ℚ p.x i l)))
        (λ i li. sym (sum_ℚ-scale p.columns (e i) (λ l. p.x i l *ℚ a l j)) ∙ sum_ℚ-same p.columns (λ l. e i *ℚ (p.x i l *ℚ a l j)) (λ l. a l j *ℚ (e i *ℚ p.x i l))
        (λ l ll. ring_ℚ (e i ∷ p.x i l ∷ a l j ∷ []) (v0 ⊠ (v1 ⊠ v2)) (v2 ⊠ (v0 ⊠ v1)) refl))
        ∙ sum_ℚ-swap p.rows p.columns (λ i l. a l j *ℚ (e i *ℚ p.x i l))
        ∙ sum_ℚ-same p.columns (λ l. sum_ℚ p.rows (λ i. a l j *ℚ (e i *ℚ p.x i l))) (λ l. t *ℚ (f.right l *ℚ a l j))
        (λ l ll. sum_ℚ-scale p.rows (a l j) (λ i. e i *ℚ p.x i l) ∙ ap (λ z. a l j *ℚ z) (weighs l ll) ∙ ring_ℚ (a l j ∷ f.right l ∷ t ∷ []) (v0 ⊠ (v1 ⊠ v2)) (v2 ⊠ (v1 ⊠ v0)) refl)
        ∙ sum_ℚ-scale p.columns t (λ l. f.right l *ℚ a l j)
        ∙ ring_ℚ (t ∷ coordinate p.columns a f.right j ∷ []) (v0 ⊠ v1) (v1 ⊠ v0) refl

    -- and as the value of the position, with the bounds
    split : (j : ℕ) → j < p.columns → sum_ℚ p.rows (λ i. e i *ℚ coord p a i j) ≡ e (at j) +ℚ sum_ℚ p.rows (λ i. bound p at a th i *ℚ coord p a i j)
    split j lj =
        sum_ℚ-split (is_among at p.columns) p.rows (λ i. e i *ℚ coord p a i j)
        ∙ ap₂ (λ y z. y +ℚ z)
        (sum_ℚ-among at p.columns p.rows (λ i. e i *ℚ coord p a i j) basis.distinct
        ∙ sum_ℚ-same p.columns (λ k. e (at k) *ℚ coord p a (at k) j) (λ k. e (at k) *ℚ delta k j) (λ k lk. ap (λ z. e (at k) *ℚ z) (basis.inverse.left k j lk lj))
        ∙ sum_ℚ-delta p.columns (λ k. e (at k)) j lj)
        (sum_ℚ-same p.rows (λ i. if is_among at p.columns i then whole (pos 0) else e i *ℚ coord p a i j) (λ i. bound p at a th i *ℚ coord p a i j) (λ i li. by i li (is_basic p at a i) refl))
      where
        by : (i : ℕ) → i < p.rows → (s : Bool) → is_basic p at a i ≡ s → (if s then whole (pos 0) else e i *ℚ coord p a i j) ≡ bound p at a th i *ℚ coord p a i j
        by i li true h =
            ring_ℚ (coord p a i j ∷ []) (number (pos 0)) (number (pos 0) ⊠ v0) refl
            ∙ ap (λ s. value_of_side p th (λ i. whole (pos 0)) i s *ℚ coord p a i j) (sym (side_basic p at a i h))
        by i li false h = ap (λ z. z *ℚ coord p a i j) (sides i li h)

    at_position : (j : ℕ) → j < p.columns → e (at j) ≡ basic_at f at a t j
    at_position j lj =
        ring_by_ℚ (e (at j) ∷ sum_ℚ p.rows (λ i. bound p at a th i *ℚ coord p a i j) ∷ (coordinate p.columns a f.right j *ℚ t) ∷ []) v0 (negated v1 ⊞ v2) (number (pos 1)) (v0 ⊞ v1) v2 refl (sym (split j lj) ∙ weighed j)
        ∙ ap (λ z. z +ℚ (coordinate p.columns a f.right j *ℚ t)) (sym (dual_is p at a th j))

    pub only : (i : ℕ) → i < p.rows → dual_in f at a t i ≡ e i
    only i li = by (is_basic p at a i) refl
      where
        by : (s : Bool) → is_basic p at a i ≡ s → dual_in f at a t i ≡ e i
        by true h =
            let place : (j : ℕ) × (j < p.columns) × (at j ≡ i) = among_place at p.columns i h in
            ap (dual_in f at a t) (sym place.2) ∙ dual_at place.0 place.1 ∙ sym (at_position place.0 place.1) ∙ ap e place.2
        by false h = dual_outside i h ∙ sym (sides i li h)
