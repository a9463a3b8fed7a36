-- The rows that move towards 0 and come before the row that enters: each changes its side.
use Rattle.std.specs.Prelude.{◌≡◌, ◌≢◌, ◌⊎◌, ℕ, suc, ◌<◌, true, false, [], ◌∷◌, pos}
use Rattle.std.specs.Ordering.{ordering_reverse}
use Rattle.std.specs.declared.cmp.Ordering.{Ordering}
use Rattle.std.specs.declared.cmp.Ordering.TheVariants.{Less, Equal, Greater}
use Rattle.std.proofs.Common.{refl, sym, ap, ap₂, subst, ◌∙◌, inl, inr}
use Rattle.rational_laws.specs.Solver.{number, negated, ◌⊞◌, ◌⊟◌, ◌⊠◌, v0, v1, v2, v3}
use Rattle.rational_laws.specs.Rational.{ℚ, ◌+ℚ◌, ◌-ℚ◌, ◌*ℚ◌, neg_ℚ, inverse, whole, ◌≤ℚ◌}
use Rattle.rational_laws.proofs.RationalLaws.{ring_ℚ, ring_by_ℚ, ≤ℚ_refl, *ℚ-inverse}
use Rattle.rational_laws.proofs.Inverses.{inverse-neg}
use Rattle.rational_laws.specs.Order.{cmp_ℚ}
use Rattle.rational_laws.proofs.OrderLaws.{cmp_ℚ-Less, cmp_ℚ-Greater, le_from_not}
use Rattle.rational_laws.proofs.Comparisons.{is_less, is_greater}
use Rattle.rational_laws.proofs.Signs.{neg-neg}
use Rattle.loss_model.specs.declared.vertex.Side.TheVariants.{Up, Down}
use Rattle.loss_model.specs.Sample.{Sample}
use Rattle.loss_model.specs.Spill.{abs_ℚ}
use Rattle.basis_model.specs.Lexicographic.{lex_cmp}
use Rattle.basis_model.proofs.LexicographicLaws.{lex_cmp_swap}
use Rattle.basis_model.specs.Perturbed.{IsOutside, perturbed, zeros, side_of}
use Rattle.basis_model.proofs.Signs.{lex_cmp-same}
use Rattle.basis_model.proofs.Ordered.{not_zero}
use Rattle.basis_model.specs.Basis.{IsBasis, coord, outside_row, side_at}
use Rattle.pivot_model.specs.declared.direction.Direction.{Direction}
use Rattle.pivot_model.specs.declared.direction.Direction.TheVariants.{Upward, Downward}
use Rattle.pivot_model.specs.Duals.{◌<ℚ◌}
use Rattle.pivot_model.specs.Steps.{is_towards, change, moves, is_before}
use Rattle.pivot_model.specs.Responses.{response}
use Rattle.pivot_model.proofs.Bounds.{is_basic}
use Rattle.pivot_model.proofs.Entering.{abs_above, abs_below}
use Rattle.pivot_model.proofs.Exchanged.{perturbed_is}
use Rattle.pivot_model.proofs.Passing.{mover_outside}
use Rattle.pivot_model.proofs.Sides.{sign, side_outside}
use Rattle.walk_model.specs.Walks.{AreExchanged}
use Rattle.walk_model.proofs.Lines.{positive_neg, negative_neg, le_by}
use Rattle.walk_model.proofs.Lists.{cmp_by, lex_cmp-by, sign_scaled, sign_negated}
use Rattle.walk_model.proofs.Exchanges.{residual_next, outside_from, outside_test}
use Rattle.walk_model.proofs.Moved.{ratios, entries, some, ratio_is, stays_out}

module _ (p : Sample) (at : ℕ → ℕ) (a : ℕ → ℕ → ℚ) (j i : ℕ) where
  -- the size of a coordinate, where what it changes falls or rises
  abs_falling : (d : Direction) → change p at a j d i <ℚ whole (pos 0) → abs_ℚ (coord p a i j) ≡ neg_ℚ (change p at a j d i)
  abs_falling Upward h = abs_below (coord p a i j) (le_from_not (coord p a i j) (whole (pos 0)) h)
  abs_falling Downward h =
      abs_above (coord p a i j) (le_from_not (whole (pos 0)) (coord p a i j) (negative_neg (coord p a i j) h)) ∙ sym (neg-neg (coord p a i j))

  abs_rising : (d : Direction) → whole (pos 0) <ℚ change p at a j d i → abs_ℚ (coord p a i j) ≡ change p at a j d i
  abs_rising Upward h = abs_above (coord p a i j) (le_from_not (whole (pos 0)) (coord p a i j) h)
  abs_rising Downward h =
      abs_below (coord p a i j) (le_from_not (coord p a i j) (whole (pos 0))
      (λ k. h (le_by (whole (pos 0)) (coord p a i j) (neg_ℚ (coord p a i j)) (whole (pos 0)) k (ring_ℚ (coord p a i j ∷ []) (v0 ⊟ number (pos 0)) (number (pos 0) ⊟ negated v0) refl))))

-- a row that moves
module _ (p : Sample) (at : ℕ → ℕ) (a : ℕ → ℕ → ℚ) (basis : IsBasis p at a) (j : ℕ) (d : Direction) (i : ℕ) (li : i < p.rows) (mover : moves p at a j d i ≡ true) where
  abbrev ch : ℚ
  ch = change p at a j d i

  out : is_basic p at a i ≡ false
  out = mover_outside p at a j d i mover

  -- how it lies to the fit, and which way it moves
  abbrev pub IsKnown : Type 0
  IsKnown =
      ((sign p at a i ≡ Greater) × (ch <ℚ whole (pos 0)) × (abs_ℚ (coord p a i j) ≡ neg_ℚ ch))
      ⊎ ((sign p at a i ≡ Less) × (whole (pos 0) <ℚ ch) × (abs_ℚ (coord p a i j) ≡ ch))

  -- it is above the fit and falls, or below it and rises
  pub known : IsKnown
  known = by (sign p at a i) refl
    where
      side : (o : Ordering) → sign p at a i ≡ o → side_at p at a i ≡ side_of o
      side o e = side_outside p at a i out ∙ ap side_of e

      by : (o : Ordering) → sign p at a i ≡ o → IsKnown
      by Greater e =
          let falls : ch <ℚ whole (pos 0) = (cmp_ℚ-Less ch (whole (pos 0))).0 (is_less (cmp_ℚ ch (whole (pos 0))) (sym (ap (λ s. is_towards s ch) (side Greater e)) ∙ mover)) in
          inl (e, falls, abs_falling p at a j i d falls)
      by Less e =
          let rises : whole (pos 0) <ℚ ch = (cmp_ℚ-Greater ch (whole (pos 0))).0 (is_greater (cmp_ℚ ch (whole (pos 0))) (sym (ap (λ s. is_towards s ch) (side Less e)) ∙ mover)) in
          inr (e, rises, abs_rising p at a j i d rises)
      by Equal e = absurd (not_zero p.rows p.columns at (outside_row p at a i) li e)

  change_some : ch ≢ whole (pos 0)
  change_some none = by known
    where
      by : IsKnown → ⊥
      by (inl h) = h.1 (subst (λ z. whole (pos 0) ≤ℚ z) (sym none) (≤ℚ_refl (whole (pos 0))))
      by (inr h) = h.1 (subst (λ z. z ≤ℚ whole (pos 0)) (sym none) (≤ℚ_refl (whole (pos 0))))

  -- its perturbed residual by its ratio
  entries_by : (m : ℕ) → entries p at a basis j d i m ≡ neg_ℚ (ch *ℚ ratios p at a basis j d i m)
  entries_by m =
      ring_by_ℚ (entries p at a basis j d i m ∷ ch ∷ inverse ch ∷ []) v0 (negated (v1 ⊠ negated (v0 ⊠ v2))) (negated v0) (v1 ⊠ v2) (number (pos 1)) refl (*ℚ-inverse ch change_some)
      ∙ ap (λ z. neg_ℚ (ch *ℚ z)) (sym (ratio_is p at a basis j d i li mover m))

  module _ (r : ℕ) (lr : r < p.rows) (entering : moves p at a j d r ≡ true) (next : ℕ → ℕ) (b : ℕ → ℕ → ℚ) (after : IsBasis p next b) (ex : AreExchanged p.columns at next j r) (lj : j < p.columns)
      (other : i ≢ r) where
    abbrev ρ : ℕ → ℕ → ℚ
    ρ = ratios p at a basis j d

    abbrev cr : ℚ
    cr = coord p a r j

    outside : IsOutside p.columns at i
    outside = outside_from p at a basis i out

    outside_after : IsOutside p.columns next i
    outside_after = stays_out p at a basis j d r lr entering next b after ex lj i outside other

    -- a coordinate over that of the row that enters is a change over its change
    changes : (e : Direction) → coord p a i j *ℚ inverse cr ≡ change p at a j e i *ℚ inverse (change p at a j e r)
    changes Upward = refl
    changes Downward =
        ring_ℚ (coord p a i j ∷ inverse cr ∷ []) (v0 ⊠ v1) (negated v0 ⊠ negated v1) refl
        ∙ ap (λ z. neg_ℚ (coord p a i j) *ℚ z) (sym (inverse-neg cr))

    -- what it has after the exchange
    pub entries_after : (m : ℕ) → perturbed p.columns next (outside_row p next b i) m ≡ ch *ℚ (ρ r m -ℚ ρ i m)
    entries_after m =
        perturbed_is p next b i outside_after m
        ∙ residual_next p at next a b j r basis after ex lj (some p at a basis j d r lr entering) (response p m) i
        ∙ ap₂ (λ x y. x -ℚ ((coord p a i j *ℚ inverse cr) *ℚ y)) (sym (perturbed_is p at a i outside m)) (sym (perturbed_is p at a r (outside_from p at a basis r (mover_outside p at a j d r entering)) m))
        ∙ ap (λ z. entries p at a basis j d i m -ℚ (z *ℚ entries p at a basis j d r m)) (changes d)
        ∙ ring_ℚ (entries p at a basis j d i m ∷ ch ∷ inverse (change p at a j d r) ∷ entries p at a basis j d r m ∷ []) (v0 ⊟ (v1 ⊠ v2) ⊠ v3) (v0 ⊞ v1 ⊠ negated (v3 ⊠ v2)) refl
        ∙ ap₂ (λ y z. y +ℚ (ch *ℚ z)) (entries_by m) (sym (ratio_is p at a basis j d r lr entering m))
        ∙ ring_ℚ (ch ∷ ρ i m ∷ ρ r m ∷ []) (negated (v0 ⊠ v1) ⊞ v0 ⊠ v2) (v0 ⊠ (v2 ⊟ v1)) refl

    module _ (earlier : is_before p at a j i r ≡ true) where
      ahead : lex_cmp (suc p.rows) (λ m. ρ r m -ℚ ρ i m) zeros ≡ Greater
      ahead =
          lex_cmp-by (suc p.rows) (λ m. ρ r m -ℚ ρ i m) zeros (ρ r) (ρ i) (λ m. cmp_by (ρ r m -ℚ ρ i m) (whole (pos 0)) (ρ r m) (ρ i m) (ring_ℚ (ρ r m ∷ ρ i m ∷ []) (number (pos 0) ⊟ (v0 ⊟ v1)) (v1 ⊟ v0) refl))
          ∙ lex_cmp_swap (suc p.rows) (ρ i) (ρ r)
          ∙ ap ordering_reverse (is_less (lex_cmp (suc p.rows) (ρ i) (ρ r)) earlier)

      signed_after : side_at p next b i ≡ side_of (lex_cmp (suc p.rows) (perturbed p.columns next (outside_row p next b i)) zeros)
      signed_after = side_outside p next b i (outside_test p next b after i outside_after)

      -- it comes to the other side
      pub side_down : ch <ℚ whole (pos 0) → side_at p next b i ≡ Down
      side_down falls =
          signed_after
          ∙ ap side_of (lex_cmp-same (suc p.rows) (perturbed p.columns next (outside_row p next b i)) (λ m. neg_ℚ (neg_ℚ ch *ℚ (ρ r m -ℚ ρ i m))) zeros
          (λ m. entries_after m ∙ ring_ℚ (ch ∷ (ρ r m -ℚ ρ i m) ∷ []) (v0 ⊠ v1) (negated (negated v0 ⊠ v1)) refl)
          ∙ sign_negated (suc p.rows) (λ m. neg_ℚ ch *ℚ (ρ r m -ℚ ρ i m))
          ∙ ap ordering_reverse (sign_scaled (suc p.rows) (neg_ℚ ch) (λ m. ρ r m -ℚ ρ i m) (positive_neg ch falls) ∙ ahead))

      pub side_up : whole (pos 0) <ℚ ch → side_at p next b i ≡ Up
      side_up rises =
          signed_after
          ∙ ap side_of (lex_cmp-same (suc p.rows) (perturbed p.columns next (outside_row p next b i)) (λ m. ch *ℚ (ρ r m -ℚ ρ i m)) zeros entries_after
          ∙ sign_scaled (suc p.rows) ch (λ m. ρ r m -ℚ ρ i m) rises ∙ ahead)
