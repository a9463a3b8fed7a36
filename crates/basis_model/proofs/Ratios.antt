-- Entries of perturbed ratios.
--
--     at row m, which is neither the row itself nor one of the basis with a coordinate    ratio-none
--     at the row itself                                                                   ratio-own: not 0;
--                                                                                         own-up, own-down: its sign
use Rattle.std.specs.Prelude.{◌≡◌, ◌≢◌, ℕ, suc, ◌<◌, Bool, true, false, cond, [], ◌∷◌, pos}
use Rattle.std.specs.declared.cmp.Ordering.TheVariants.{Less, Greater}
use Rattle.std.proofs.Common.{refl, sym, ap, subst, ◌∙◌}
use Rattle.rational_laws.specs.Solver.{number, negated, ◌⊠◌, v0}
use Rattle.rational_laws.specs.Rational.{ℚ, ◌*ℚ◌, neg_ℚ, inverse, whole, le_ℚ, ◌≤ℚ◌}
use Rattle.rational_laws.proofs.RationalLaws.{ring_ℚ, one-*ℚ, ≤ℚ_antisym, ≤ℚ_total}
use Rattle.rational_laws.proofs.Inverses.{inverse_nonzero}
use Rattle.rational_laws.specs.Order.{cmp_ℚ}
use Rattle.rational_laws.proofs.OrderLaws.{cmp_ℚ-Less, cmp_ℚ-Greater, inverse_not_negative, ≤ℚ_neg}
use Rattle.loss_model.specs.declared.vertex.Side.{Side}
use Rattle.loss_model.specs.declared.vertex.Side.TheVariants.{Up, Down, Basic}
use Rattle.loss_model.specs.Spill.{abs_ℚ}
use Rattle.basis_model.specs.Perturbed.{Nonbasic, turned, ratio_on}
use Rattle.basis_model.proofs.PerturbedLaws.{held_coordinate-none, perturbed-own, perturbed-other}

zero_neg : neg_ℚ (whole (pos 0)) ≡ whole (pos 0)
zero_neg = ring_ℚ [] (negated (number (pos 0))) (number (pos 0)) refl

neg_twice : (x : ℚ) → x ≡ neg_ℚ (neg_ℚ x)
neg_twice x = ring_ℚ (x ∷ []) v0 (negated (negated v0)) refl

pub turned-zero : (s : Side) → turned s (whole (pos 0)) ≡ whole (pos 0)
turned-zero Up = refl
turned-zero Down = zero_neg
turned-zero Basic = refl

pub turned-nonzero : (s : Side) (x : ℚ) → x ≢ whole (pos 0) → turned s x ≢ whole (pos 0)
turned-nonzero Up x h e = h e
turned-nonzero Down x h e = h (neg_twice x ∙ ap neg_ℚ e ∙ zero_neg)
turned-nonzero Basic x h e = h e

pub abs_nonzero : (x : ℚ) → x ≢ whole (pos 0) → abs_ℚ x ≢ whole (pos 0)
abs_nonzero x h = by (le_ℚ (whole (pos 0)) x)
  where
    by : (t : Bool) → cond t x (neg_ℚ x) ≢ whole (pos 0)
    by true e = h e
    by false e = h (neg_twice x ∙ ap neg_ℚ e ∙ zero_neg)

pub abs_not_negative : (x : ℚ) → whole (pos 0) ≤ℚ abs_ℚ x
abs_not_negative x = by (le_ℚ (whole (pos 0)) x) refl
  where
    by : (t : Bool) → le_ℚ (whole (pos 0)) x ≡ t → whole (pos 0) ≤ℚ cond t x (neg_ℚ x)
    by true e = record { le = e }
    by false e = subst (λ z. z ≤ℚ neg_ℚ x) zero_neg (≤ℚ_neg x (whole (pos 0)) (≤ℚ_total (whole (pos 0)) x e))

-- the reciprocal of an absolute value that is not 0 is above 0, and negated below it
inverse_above : (x : ℚ) → x ≢ whole (pos 0) → cmp_ℚ (inverse (abs_ℚ x)) (whole (pos 0)) ≡ Greater
inverse_above x h =
    (cmp_ℚ-Greater (inverse (abs_ℚ x)) (whole (pos 0))).1
    (λ le. inverse_nonzero (abs_ℚ x) (abs_nonzero x h) (≤ℚ_antisym (inverse (abs_ℚ x)) (whole (pos 0)) le (inverse_not_negative (abs_ℚ x) (abs_not_negative x))))

inverse_below : (x : ℚ) → x ≢ whole (pos 0) → cmp_ℚ (neg_ℚ (inverse (abs_ℚ x))) (whole (pos 0)) ≡ Less
inverse_below x h =
    (cmp_ℚ-Less (neg_ℚ (inverse (abs_ℚ x))) (whole (pos 0))).1
    (λ le. (cmp_ℚ-Greater (inverse (abs_ℚ x)) (whole (pos 0))).0 (inverse_above x h)
    (subst (λ z. z ≤ℚ whole (pos 0)) (sym (neg_twice (inverse (abs_ℚ x)))) (subst (λ z. neg_ℚ (neg_ℚ (inverse (abs_ℚ x))) ≤ℚ z) zero_neg (≤ℚ_neg (whole (pos 0)) (neg_ℚ (inverse (abs_ℚ x))) le))))

module _ (s : Side) (n : ℕ) (at : ℕ → ℕ) (j : ℕ) (u : Nonbasic) where
  pub ratio-none : (m : ℕ) → m ≢ u.row → ((k : ℕ) → k < n → at k ≡ m → u.coord k ≡ whole (pos 0)) → ratio_on s n at j u (suc m) ≡ whole (pos 0)
  ratio-none m other none =
      ap (λ z. turned s (z *ℚ inverse (abs_ℚ (u.coord j)))) (perturbed-other n at u m other ∙ ap neg_ℚ (held_coordinate-none n at u.coord m none) ∙ zero_neg)
      ∙ ap (turned s) (ring_ℚ (inverse (abs_ℚ (u.coord j)) ∷ []) (number (pos 0) ⊠ v0) (number (pos 0)) refl)
      ∙ turned-zero s

  own_is : ratio_on s n at j u (suc u.row) ≡ turned s (inverse (abs_ℚ (u.coord j)))
  own_is =
      ap (λ z. turned s (z *ℚ inverse (abs_ℚ (u.coord j)))) (perturbed-own n at u u.row refl)
      ∙ ap (turned s) (one-*ℚ (inverse (abs_ℚ (u.coord j))))

  module _ (some : u.coord j ≢ whole (pos 0)) where
    pub ratio-own : ratio_on s n at j u (suc u.row) ≢ whole (pos 0)
    ratio-own e = turned-nonzero s (inverse (abs_ℚ (u.coord j))) (inverse_nonzero (abs_ℚ (u.coord j)) (abs_nonzero (u.coord j) some)) (sym own_is ∙ e)

    pub own-up : s ≡ Up → cmp_ℚ (ratio_on s n at j u (suc u.row)) (whole (pos 0)) ≡ Greater
    own-up e = ap (λ z. cmp_ℚ z (whole (pos 0))) (own_is ∙ ap (λ s. turned s (inverse (abs_ℚ (u.coord j)))) e) ∙ inverse_above (u.coord j) some

    pub own-down : s ≡ Down → cmp_ℚ (ratio_on s n at j u (suc u.row)) (whole (pos 0)) ≡ Less
    own-down e = ap (λ z. cmp_ℚ z (whole (pos 0))) (own_is ∙ ap (λ s. turned s (inverse (abs_ℚ (u.coord j)))) e) ∙ inverse_below (u.coord j) some
