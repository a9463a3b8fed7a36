-- Where a walk of a tested value ends.
use Rattle.std.specs.Prelude.{◌≡◌, ◌≢◌, ◌⊎◌, ℕ, zero, suc, ◌<◌, Bool, true, false, ◌==◌, [], ◌∷◌, pos}
use Rattle.std.specs.declared.cmp.Ordering.{Ordering}
use Rattle.std.specs.declared.cmp.Ordering.TheVariants.{Less, Equal, Greater}
use Rattle.std.proofs.Common.{arith, refl, sym, ap, subst, ◌∙◌, inl, inr}
use borrow.Author.Tests.{eqb-true, eqb-false}
use Rattle.rational_laws.specs.Solver.{number, negated, ◌⊞◌, ◌⊟◌, ◌⊠◌, v0}
use Rattle.rational_laws.specs.Rational.{ℚ, ◌+ℚ◌, ◌*ℚ◌, neg_ℚ, whole, ◌≤ℚ◌}
use Rattle.rational_laws.proofs.RationalLaws.{ring_ℚ}
use Rattle.rational_laws.proofs.RationalSumLaws.{sum_ℚ-same, sum_ℚ-zero}
use Rattle.rational_laws.proofs.Inverses.{zero_or_not, one-zero}
use Rattle.rational_laws.specs.Order.{cmp_ℚ}
use Rattle.rational_laws.proofs.OrderLaws.{cmp_ℚ-Less, cmp_ℚ-Equal, cmp_ℚ-Greater}
use Rattle.rational_laws.specs.Terms.{delta}
use Rattle.rational_laws.proofs.TermLaws.{if-same}
use Rattle.rational_laws.specs.Matrices.{coordinate}
use Rattle.rational_laws.proofs.MatrixLaws.{sum_ℚ-coordinate}
use Rattle.loss_model.specs.Sample.{Sample}
use Rattle.pivot_model.specs.declared.direction.Direction.{Direction}
use Rattle.pivot_model.specs.declared.direction.Direction.TheVariants.{Upward, Downward}
use Rattle.pivot_model.specs.Part.TheVariants.{Constant, Linear}
use Rattle.pivot_model.specs.Basis.{IsBasis}
use Rattle.pivot_model.specs.Duals.{◌<ℚ◌}
use Rattle.pivot_model.specs.Steps.{moves}
use Rattle.walk_model.specs.Families.{by_weight, Family, slope_part, IsOptimalIn}
use Rattle.walk_model.specs.Walks.{IsFirstMover, Crosses, IsNextBreak, IsWalkingStep}
use Rattle.walk_model.proofs.Lines.{le_by, root, not_later, at_root}
use Rattle.walk_model.proofs.Slopes.{affine, crosses_at}
use Rattle.walk_model.proofs.Breaks.{next_break}
use Rattle.walk_model.proofs.Movers.{first_mover}

some_or_all : (n : ℕ) (g : ℕ → ℚ) → ((j : ℕ) × (j < n) × (g j ≢ whole (pos 0))) ⊎ ((j : ℕ) → j < n → g j ≡ whole (pos 0))
some_or_all zero g = inr (λ j lj. absurd (omega (arith, lj)))
some_or_all (suc n) g = by (some_or_all n g) (zero_or_not (g n))
  where
    by : ((j : ℕ) × (j < n) × (g j ≢ whole (pos 0))) ⊎ ((j : ℕ) → j < n → g j ≡ whole (pos 0)) → (g n ≡ whole (pos 0)) ⊎ (g n ≢ whole (pos 0)) → ((j : ℕ) × (j < suc n) × (g j ≢ whole (pos 0))) ⊎ ((j : ℕ) → j < suc n → g j ≡ whole (pos 0))
    by (inl found) o = inl (found.0, (let l : found.0 < n = found.1 in omega (arith, l)), found.2)
    by (inr none) (inr h) = inl (n, omega arith, h)
    by (inr none) (inl h) = inr all
      where
        all : (j : ℕ) → j < suc n → g j ≡ whole (pos 0)
        all j lj = at (j == n) refl
          where
            at : (t : Bool) → (j == n) ≡ t → g j ≡ whole (pos 0)
            at true e = ap g (eqb-true j n e) ∙ h
            at false e = let other : j ≢ n = eqb-false j n e in none j (omega (arith, lj, other))

module _ (p : Sample) (tau : ℚ) (right : ℕ → ℚ) (at : ℕ → ℕ) (a : ℕ → ℕ → ℚ) (basis : IsBasis p at a) where
  abbrev f : Family
  f = record { sample = p; parameter = by_weight tau; right = right }

  abbrev weight : ℕ → ℚ
  weight j = coordinate p.columns a right j

  -- the slopes of a position that the right side moves fall on one side
  part_up : (j : ℕ) → slope_part f at a Linear j Upward ≡ neg_ℚ (weight j)
  part_up j = ring_ℚ (weight j ∷ []) (number (pos 0) ⊟ (number (pos 0) ⊞ v0)) (negated v0) refl

  part_down : (j : ℕ) → slope_part f at a Linear j Downward ≡ weight j
  part_down j = ring_ℚ (weight j ∷ []) (number (pos 0) ⊞ (number (pos 0) ⊞ v0)) v0 refl

  falls_somewhere : (j : ℕ) → weight j ≢ whole (pos 0) → (d : Direction) × (slope_part f at a Linear j d <ℚ whole (pos 0))
  falls_somewhere j some = by (cmp_ℚ (weight j) (whole (pos 0))) refl
    where
      by : (o : Ordering) → cmp_ℚ (weight j) (whole (pos 0)) ≡ o → (d : Direction) × (slope_part f at a Linear j d <ℚ whole (pos 0))
      by Less e = (Downward, λ h. (cmp_ℚ-Less (weight j) (whole (pos 0))).0 e (subst (λ z. whole (pos 0) ≤ℚ z) (part_down j) h))
      by Equal e = absurd (some ((cmp_ℚ-Equal (weight j) (whole (pos 0))).0 e))
      by Greater e = (
        Upward,
        λ h. (cmp_ℚ-Greater (weight j) (whole (pos 0))).0 e
            (le_by (whole (pos 0)) (neg_ℚ (weight j)) (weight j) (whole (pos 0)) (subst (λ z. whole (pos 0) ≤ℚ z) (part_up j) h)
            (ring_ℚ (weight j ∷ []) (negated v0 ⊟ number (pos 0)) (number (pos 0) ⊟ v0) refl)),
      )

  -- a right side that is not 0 moves some position
  some_weight : (c : ℕ) → c < p.columns → right c ≢ whole (pos 0) → (j : ℕ) × (j < p.columns) × (weight j ≢ whole (pos 0))
  some_weight c lc some = by (some_or_all p.columns weight)
    where
      by : ((j : ℕ) × (j < p.columns) × (weight j ≢ whole (pos 0))) ⊎ ((j : ℕ) → j < p.columns → weight j ≡ whole (pos 0)) → (j : ℕ) × (j < p.columns) × (weight j ≢ whole (pos 0))
      by (inl found) = found
      by (inr none) =
          absurd (some (sym (sum_ℚ-coordinate p.columns (λ j k. p.x (at j) k) a basis.inverse right c lc)
          ∙ sum_ℚ-same p.columns (λ j. weight j *ℚ p.x (at j) c) (λ j. whole (pos 0)) (λ j lj. ap (λ z. z *ℚ p.x (at j) c) (none j lj) ∙ ring_ℚ (p.x (at j) c ∷ []) (number (pos 0) ⊠ v0) (number (pos 0)) refl)
          ∙ sum_ℚ-zero p.columns))

  pub break_is_there : (from : ℚ) (c : ℕ) → c < p.columns → right c ≢ whole (pos 0) → IsOptimalIn f at a from → (t : ℚ) × (j : ℕ) × (d : Direction) × IsNextBreak f at a from t j d
  break_is_there from c lc some stop = by (next_break f at a from)
    where
      found : (j : ℕ) × (j < p.columns) × (weight j ≢ whole (pos 0))
      found = some_weight c lc some

      side : (d : Direction) × (slope_part f at a Linear found.0 d <ℚ whole (pos 0))
      side = falls_somewhere found.0 found.2

      c0 : ℚ
      c0 = slope_part f at a Constant found.0 side.0

      l0 : ℚ
      l0 = slope_part f at a Linear found.0 side.0

      later : from ≤ℚ root c0 l0
      later = not_later c0 l0 side.1 (root c0 l0) from (subst (λ z. z ≤ℚ (c0 +ℚ (l0 *ℚ from))) (sym (at_root c0 l0 side.1)) (subst (λ z. whole (pos 0) ≤ℚ z) (affine f at a from found.0 side.0) (stop found.0 side.0 found.1)))

      by : ((t : ℚ) × (j : ℕ) × (d : Direction) × IsNextBreak f at a from t j d) ⊎ ((t : ℚ) (j : ℕ) (d : Direction) → j < p.columns → from ≤ℚ t → ¬ Crosses f at a t j d) → (t : ℚ) × (j : ℕ) × (d : Direction) × IsNextBreak f at a from t j d
      by (inl next) = next
      by (inr none) = absurd (none (root c0 l0) found.0 side.0 found.1 later (crosses_at f at a found.0 side.0 (root c0 l0) (at_root c0 l0 side.1) side.1))

  -- so a walk without a step is at a breakpoint that is out of reach, or where no row moves
  pub tested_end : (reach : ℚ → Bool) (from : ℚ) (c : ℕ) → c < p.columns → right c ≢ whole (pos 0) → IsOptimalIn f at a from
      → ((t : ℚ) (j r : ℕ) → ¬ IsWalkingStep f at a reach from t j r)
      → (t : ℚ) × (j : ℕ) × (d : Direction) × IsNextBreak f at a from t j d × ((reach t ≡ false) ⊎ ((i : ℕ) → i < p.rows → moves p at a j d i ≡ false))
  tested_end reach from c lc some stop none =
      let next : (t : ℚ) × (j : ℕ) × (d : Direction) × IsNextBreak f at a from t j d = break_is_there from c lc some stop in
      (next.0, next.1, next.2, next.3, by next.0 next.1 next.2 next.3 (reach next.0) refl (first_mover p at a basis next.1 next.2))
    where
      by : (t : ℚ) (j : ℕ) (d : Direction) → IsNextBreak f at a from t j d → (s : Bool) → reach t ≡ s → ((r : ℕ) × IsFirstMover p at a j d r) ⊎ ((i : ℕ) → i < p.rows → moves p at a j d i ≡ false)
          → (reach t ≡ false) ⊎ ((i : ℕ) → i < p.rows → moves p at a j d i ≡ false)
      by t j d next false e o = inl e
      by t j d next true e (inr stuck) = inr stuck
      by t j d next true e (inl found) = absurd (none t j found.0 (record { direction = d; break = next; within = e; entering = found.1 }))

pub rising_right : (c : ℕ) → neg_ℚ (delta c c) ≢ whole (pos 0)
rising_right c e =
    one-zero (ring_ℚ [] (number (pos 1)) (negated (negated (number (pos 1)))) refl ∙ ap (λ z. neg_ℚ (neg_ℚ z)) (sym (if-same c c (whole (pos 1)) (whole (pos 0)) refl)) ∙ ap neg_ℚ e
    ∙ ring_ℚ [] (negated (number (pos 0))) (number (pos 0)) refl)

pub falling_right : (c : ℕ) → delta c c ≢ whole (pos 0)
falling_right c e = one-zero (sym (if-same c c (whole (pos 1)) (whole (pos 0)) refl) ∙ e)
