-- Breakpoints by the wanted sum of the column.
use Rattle.std.specs.Prelude.{◌≡◌, ◌↔◌, ℕ, ◌<◌, [], ◌∷◌, pos}
use Rattle.std.proofs.Common.{refl, sym, ap, subst, ◌∙◌}
use Rattle.rational_laws.specs.Solver.{number, negated, ◌⊞◌, ◌⊟◌, ◌⊠◌, v0, v1, v2}
use Rattle.rational_laws.specs.Rational.{ℚ, ◌+ℚ◌, ◌-ℚ◌, ◌*ℚ◌, neg_ℚ, inverse, whole, ◌≤ℚ◌}
use Rattle.rational_laws.proofs.RationalLaws.{ring_ℚ}
use Rattle.rational_laws.proofs.RationalSumLaws.{sum_ℚ-same, sum_ℚ-scale}
use Rattle.rational_laws.proofs.Inverses.{inverse-neg}
use Rattle.rational_laws.proofs.Signs.{neg-neg}
use Rattle.rational_laws.specs.Terms.{delta}
use Rattle.rational_laws.specs.Matrices.{coordinate}
use Rattle.rational_laws.proofs.MatrixLaws.{coordinate-delta}
use Rattle.loss_model.specs.Sample.{Sample, up_cost, down_cost}
use Rattle.pivot_model.specs.declared.direction.Direction.TheVariants.{Upward, Downward}
use Rattle.basis_model.specs.declared.part.Part.TheVariants.{Linear}
use Rattle.basis_model.specs.Basis.{dual_value}
use Rattle.walk_model.specs.Families.{rising_value, falling_value, slope_part}
use Rattle.walk_model.specs.Walks.{Crosses}
use Rattle.walk_model.proofs.Lines.{le_by, negative_neg}
use Rattle.walk_model.proofs.Slopes.{crossing}
use Rattle.loss_model.specs.Strict.{◌<ℚ◌}
use Rattle.rank_walk_model.specs.RankWalks.{rise, fall}
use Rattle.rank_walk_model.specs.Crossings.{CrossingByEntry}

-- a number above 0 has its negation below
negated_below : (x : ℚ) → whole (pos 0) <ℚ x → neg_ℚ x <ℚ whole (pos 0)
negated_below x h k = h (le_by (whole (pos 0)) (neg_ℚ x) x (whole (pos 0)) k (ring_ℚ (x ∷ []) (negated v0 ⊟ number (pos 0)) (number (pos 0) ⊟ v0) refl))

-- a negated equation
turned : (x y : ℚ) → neg_ℚ x ≡ y → x ≡ neg_ℚ y
turned x y e = ring_ℚ (x ∷ []) v0 (negated (negated v0)) refl ∙ ap neg_ℚ e

module _ (p : Sample) (j : ℕ) (tau : ℚ) (at : ℕ → ℕ) (a : ℕ → ℕ → ℚ) (k : ℕ) (lj : j < p.columns) where
  g : ℚ
  g = a j k

  dual : ℚ
  dual = dual_value p at a tau k

  -- the moving parts
  falls_by : coordinate p.columns a (delta j) k ≡ g
  unfolding g
  falls_by = coordinate-delta p.columns a j k lj

  rises_by : coordinate p.columns a (λ m. neg_ℚ (delta j m)) k ≡ neg_ℚ g
  unfolding g
  rises_by =
      sum_ℚ-same p.columns (λ m. neg_ℚ (delta j m) *ℚ a m k) (λ m. neg_ℚ (whole (pos 1)) *ℚ (delta j m *ℚ a m k)) (λ m l. ring_ℚ (delta j m ∷ a m k ∷ []) (negated v0 ⊠ v1) (negated (number (pos 1)) ⊠ (v0 ⊠ v1)) refl)
      ∙ sum_ℚ-scale p.columns (neg_ℚ (whole (pos 1))) (λ m. delta j m *ℚ a m k)
      ∙ ap (λ z. neg_ℚ (whole (pos 1)) *ℚ z) (coordinate-delta p.columns a j k lj)
      ∙ ring_ℚ (a j k ∷ []) (negated (number (pos 1)) ⊠ v0) (negated v0) refl

  up_line : (chi : ℚ) → whole (pos 0) -ℚ (whole (pos 0) +ℚ chi) ≡ neg_ℚ chi
  up_line chi = ring_ℚ (chi ∷ []) (number (pos 0) ⊟ (number (pos 0) ⊞ v0)) (negated v0) refl

  down_line : (chi : ℚ) → whole (pos 0) +ℚ (whole (pos 0) +ℚ chi) ≡ chi
  down_line chi = ring_ℚ (chi ∷ []) (number (pos 0) ⊞ (number (pos 0) ⊞ v0)) v0 refl

  -- the roots: of C and L where L is the entry, and where it is the negated entry
  root_same : (c l x : ℚ) → l ≡ g → c *ℚ inverse (neg_ℚ l) ≡ neg_ℚ (c *ℚ inverse g)
  root_same c l x e = ap (λ z. c *ℚ inverse (neg_ℚ z)) e ∙ ap (λ z. c *ℚ z) (inverse-neg g) ∙ ring_ℚ (c ∷ inverse g ∷ []) (v0 ⊠ negated v1) (negated (v0 ⊠ v1)) refl

  root_turned : (c l x : ℚ) → l ≡ neg_ℚ g → c *ℚ inverse (neg_ℚ l) ≡ c *ℚ inverse g
  root_turned c l x e = ap (λ z. c *ℚ inverse (neg_ℚ z)) e ∙ ap (λ z. c *ℚ inverse z) (neg-neg g)

  below : (l : ℚ) → l ≡ g → (l <ℚ whole (pos 0)) ↔ (g <ℚ whole (pos 0))
  below l e = (λ h k. h (subst (λ z. whole (pos 0) ≤ℚ z) (sym e) k), λ h k. h (subst (λ z. whole (pos 0) ≤ℚ z) e k))

  above : (l : ℚ) → l ≡ neg_ℚ g → (l <ℚ whole (pos 0)) ↔ (whole (pos 0) <ℚ g)
  above l e = (
    λ h. negative_neg g (λ k. h (subst (λ z. whole (pos 0) ≤ℚ z) (sym e) k)),
    λ h k. negated_below g h (subst (λ z. whole (pos 0) ≤ℚ z) e k),
  )

  -- the downward difference
  down_c : (x : ℚ) → (neg_ℚ x -ℚ dual) *ℚ inverse g ≡ neg_ℚ ((x +ℚ dual) *ℚ inverse g)
  down_c x = ring_ℚ (x ∷ dual ∷ inverse g ∷ []) ((negated v0 ⊟ v1) ⊠ v2) (negated ((v0 ⊞ v1) ⊠ v2)) refl

  rise_up : (s : ℚ) → Crosses (rising_value p tau j) at a (neg_ℚ s) k Upward ↔ ((g <ℚ whole (pos 0)) × (s ≡ (up_cost p tau (at k) -ℚ dual) *ℚ inverse g))
  unfolding g dual
  rise_up s =
      let c = crossing (rising_value p tau j) at a k Upward (neg_ℚ s) in
      let l = slope_part (rising_value p tau j) at a Linear k Upward in
      let line : l ≡ g = up_line (coordinate p.columns a (λ m. neg_ℚ (delta j m)) k) ∙ ap neg_ℚ rises_by ∙ neg-neg g in (
        λ h. ((below l line).0 (c.0 h).0, turned s _ ((c.0 h).1 ∙ root_same (up_cost p tau (at k) -ℚ dual) l s line) ∙ neg-neg _),
        λ h. c.1 ((below l line).1 h.0, ap neg_ℚ h.1 ∙ sym (root_same (up_cost p tau (at k) -ℚ dual) l s line)),
      )

  rise_down : (s : ℚ) → Crosses (rising_value p tau j) at a (neg_ℚ s) k Downward ↔ ((whole (pos 0) <ℚ g) × (s ≡ (neg_ℚ (down_cost p tau (at k)) -ℚ dual) *ℚ inverse g))
  unfolding g dual
  rise_down s =
      let c = crossing (rising_value p tau j) at a k Downward (neg_ℚ s) in
      let l = slope_part (rising_value p tau j) at a Linear k Downward in
      let line : l ≡ neg_ℚ g = down_line (coordinate p.columns a (λ m. neg_ℚ (delta j m)) k) ∙ rises_by in (
        λ h. ((above l line).0 (c.0 h).0, turned s _ ((c.0 h).1 ∙ root_turned (down_cost p tau (at k) +ℚ dual) l s line) ∙ sym (down_c (down_cost p tau (at k)))),
        λ h. c.1 ((above l line).1 h.0, ap neg_ℚ (h.1 ∙ down_c (down_cost p tau (at k))) ∙ neg-neg _ ∙ sym (root_turned (down_cost p tau (at k) +ℚ dual) l s line)),
      )

  fall_up : (s : ℚ) → Crosses (falling_value p tau j) at a s k Upward ↔ ((whole (pos 0) <ℚ g) × (s ≡ (up_cost p tau (at k) -ℚ dual) *ℚ inverse g))
  unfolding g dual
  fall_up s =
      let c = crossing (falling_value p tau j) at a k Upward s in
      let l = slope_part (falling_value p tau j) at a Linear k Upward in
      let line : l ≡ neg_ℚ g = up_line (coordinate p.columns a (delta j) k) ∙ ap neg_ℚ falls_by in (
        λ h. ((above l line).0 (c.0 h).0, (c.0 h).1 ∙ root_turned (up_cost p tau (at k) -ℚ dual) l s line),
        λ h. c.1 ((above l line).1 h.0, h.1 ∙ sym (root_turned (up_cost p tau (at k) -ℚ dual) l s line)),
      )

  fall_down : (s : ℚ) → Crosses (falling_value p tau j) at a s k Downward ↔ ((g <ℚ whole (pos 0)) × (s ≡ (neg_ℚ (down_cost p tau (at k)) -ℚ dual) *ℚ inverse g))
  unfolding g dual
  fall_down s =
      let c = crossing (falling_value p tau j) at a k Downward s in
      let l = slope_part (falling_value p tau j) at a Linear k Downward in
      let line : l ≡ g = down_line (coordinate p.columns a (delta j) k) ∙ falls_by in (
        λ h. ((below l line).0 (c.0 h).0, (c.0 h).1 ∙ root_same (down_cost p tau (at k) +ℚ dual) l s line ∙ sym (down_c (down_cost p tau (at k)))),
        λ h. c.1 ((below l line).1 h.0, h.1 ∙ down_c (down_cost p tau (at k)) ∙ sym (root_same (down_cost p tau (at k) +ℚ dual) l s line)),
      )

pub by_entry : CrossingByEntry
unfolding g dual
by_entry rise p j tau at a s k Upward lj = rise_up p j tau at a k lj s
by_entry rise p j tau at a s k Downward lj = rise_down p j tau at a k lj s
by_entry fall p j tau at a s k Upward lj = fall_up p j tau at a k lj s
by_entry fall p j tau at a s k Downward lj = fall_down p j tau at a k lj s
