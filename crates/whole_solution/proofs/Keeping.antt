-- Residuals that are far from 0, and how far the coefficients can take them.
use Rattle.std.specs.Prelude.{◌≡◌, ℕ, ℤ, ◌*◌, ◌^◌, ◌≤◌, ◌≤ℤ◌, neg_ℤ, unsigned_abs, [], ◌∷◌, Bool, true, false, IsTrue, pos, ◌&&◌}
use Rattle.std.proofs.Common.{arith, refl, sym, ap, subst, ◌∙◌}
use mathlib.Core.Bool.{◌||◌}
use Rattle.std.proofs.lemmas.Int.{ints}
use Rattle.std.proofs.lemmas.Nat.{mul-le, pow_pos}
use Rattle.rational_laws.specs.Solver.{number, negated, ◌⊞◌, ◌⊟◌, ◌⊠◌, v0, v1, v2}
use Rattle.rational_laws.specs.Rational.{ℚ, ◌+ℚ◌, ◌-ℚ◌, ◌*ℚ◌, neg_ℚ, whole, inverse, ◌≤ℚ◌}
use Rattle.rational_laws.proofs.RationalLaws.{ring_ℚ, ≤ℚ_trans, ≤ℚ_mul, whole-mul}
use Rattle.rational_laws.proofs.OrderLaws.{inverse_not_negative}
use Rattle.rational_laws.proofs.WholeNumbers.{whole-le}
use Rattle.rational_laws.specs.RationalSums.{sum_ℚ}
use Rattle.rational_laws.proofs.RationalSumLaws.{sum_ℚ-same, sum_ℚ-mix}
use Rattle.loss_model.specs.declared.vertex.Side.{Side}
use Rattle.loss_model.specs.declared.vertex.Side.TheVariants.{Up, Down, Basic}
use Rattle.loss_model.specs.Sample.{Sample, residual, fitted}
use Rattle.walk_model.proofs.Lines.{le_by}
use Rattle.whole_inverse.specs.Shares.{share}
use Rattle.whole_solution.specs.declared.ranges.Ranges.{Ranges}
use Rattle.whole_solution.specs.Far.{room, IsFarOn}
use Rattle.whole_solution.specs.Ranges.{power, AreInRanges}
use Rattle.whole_solution.proofs.Within.{products_stay_in_range}
use Rattle.whole_solution.proofs.Sizes.{negated_size, own_size}
use Rattle.whole_solution.proofs.Numbers.{share-neg}

-- ---- a row

-- a power of 2
pub power_some : (class : ℕ) → whole (pos 1) ≤ℚ power class
power_some class = let some = pow_pos class in whole-le (pos 1) (pos (2 ^ class)) (omega (arith, ints, some))

pub power_not_negative : (class : ℕ) → whole (pos 0) ≤ℚ power class
power_not_negative class = whole-le (pos 0) (pos (2 ^ class)) (omega (arith, ints))

module _ (p : Sample) (ranges : Ranges) (class : ℕ) (from to : ℕ → ℚ) (i : ℕ) (within : AreInRanges p.columns ranges (power class) (p.x i)) where
  abbrev most : ℚ
  most = power class *ℚ room p.columns ranges from to

  abbrev moved : ℚ
  moved = sum_ℚ p.columns (λ k. p.x i k *ℚ (to k -ℚ from k))

  moved_is : moved ≡ fitted p to i -ℚ fitted p from i
  moved_is =
      sum_ℚ-same p.columns (λ k. p.x i k *ℚ (to k -ℚ from k)) (λ k. (whole (pos 1) *ℚ (p.x i k *ℚ to k)) +ℚ (neg_ℚ (whole (pos 1)) *ℚ (p.x i k *ℚ from k)))
      (λ k lk. ring_ℚ (p.x i k ∷ to k ∷ from k ∷ []) (v0 ⊠ (v1 ⊟ v2)) (number (pos 1) ⊠ (v0 ⊠ v1) ⊞ negated (number (pos 1)) ⊠ (v0 ⊠ v2)) refl)
      ∙ sum_ℚ-mix p.columns (whole (pos 1)) (neg_ℚ (whole (pos 1))) (λ k. p.x i k *ℚ to k) (λ k. p.x i k *ℚ from k)
      ∙ ring_ℚ (fitted p to i ∷ fitted p from i ∷ []) (number (pos 1) ⊠ v0 ⊞ negated (number (pos 1)) ⊠ v1) (v0 ⊟ v1) refl

  moved_up : moved ≤ℚ most
  moved_up = ≤ℚ_trans moved _ most (own_size moved) (products_stay_in_range p.columns ranges (power class) (p.x i) (λ k. to k -ℚ from k) (power_some class) within)

  moved_down : neg_ℚ moved ≤ℚ most
  moved_down = ≤ℚ_trans (neg_ℚ moved) _ most (negated_size moved) (products_stay_in_range p.columns ranges (power class) (p.x i) (λ k. to k -ℚ from k) (power_some class) within)

  -- what is left of `far`
  module _ (far least : ℚ) (short : (most +ℚ least) ≤ℚ far) where
    left : (r m : ℚ) → far ≤ℚ r → m ≤ℚ most → least ≤ℚ (r -ℚ m)
    left r m away less =
        ≤ℚ_trans least (far -ℚ most) (r -ℚ m)
        (le_by (most +ℚ least) far least (far -ℚ most) short (ring_ℚ (most ∷ least ∷ far ∷ []) (v2 ⊟ (v0 ⊞ v1)) ((v2 ⊟ v0) ⊟ v1) refl))
        (≤ℚ_trans (far -ℚ most) (r -ℚ most) (r -ℚ m)
        (le_by far r (far -ℚ most) (r -ℚ most) away (ring_ℚ (far ∷ r ∷ most ∷ []) (v1 ⊟ v0) ((v1 ⊟ v2) ⊟ (v0 ⊟ v2)) refl))
        (le_by m most (r -ℚ most) (r -ℚ m) less (ring_ℚ (m ∷ most ∷ r ∷ []) (v1 ⊟ v0) ((v2 ⊟ v0) ⊟ (v2 ⊟ v1)) refl)))

    keeps_up : far ≤ℚ residual p from i → least ≤ℚ residual p to i
    keeps_up away =
        subst (λ z. least ≤ℚ z)
        (ap (λ z. residual p from i -ℚ z) moved_is ∙ ring_ℚ (p.y i ∷ fitted p to i ∷ fitted p from i ∷ []) ((v0 ⊟ v2) ⊟ (v1 ⊟ v2)) (v0 ⊟ v1) refl)
        (left (residual p from i) moved away moved_up)

    keeps_down : far ≤ℚ neg_ℚ (residual p from i) → least ≤ℚ neg_ℚ (residual p to i)
    keeps_down away =
        subst (λ z. least ≤ℚ z)
        (ap (λ z. neg_ℚ (residual p from i) -ℚ neg_ℚ z) moved_is
        ∙ ring_ℚ (p.y i ∷ fitted p to i ∷ fitted p from i ∷ []) (negated (v0 ⊟ v2) ⊟ negated (v1 ⊟ v2)) (negated (v0 ⊟ v1)) refl)
        (left (neg_ℚ (residual p from i)) (neg_ℚ moved) away moved_down)

    -- on either side
    pub keeps_on : (side : Side) → IsFarOn side far (residual p from i) → IsFarOn side least (residual p to i)
    keeps_on Up away = keeps_up away
    keeps_on Down away = keeps_down away
    keeps_on Basic away = absurd away

  -- where both distances stand without the factor
  pub keeps_far : (far least : ℚ) → (room p.columns ranges from to +ℚ least) ≤ℚ far → (side : Side) → IsFarOn side (power class *ℚ far) (residual p from i) → IsFarOn side (power class *ℚ least) (residual p to i)
  keeps_far far least short =
      keeps_on (power class *ℚ far) (power class *ℚ least)
      (subst (λ z. z ≤ℚ (power class *ℚ far)) (ring_ℚ (power class ∷ room p.columns ranges from to ∷ least ∷ []) (v0 ⊠ (v1 ⊞ v2)) (v0 ⊠ v1 ⊞ v0 ⊠ v2) refl)
      (≤ℚ_mul (room p.columns ranges from to +ℚ least) far (power class) (power_not_negative class) short))

-- ---- shares in order

pub share-le : (a b d : ℤ) → pos 1 ≤ℤ d → a ≤ℤ b → share a d ≤ℚ share b d
share-le a b d h l =
    subst (λ z. z ≤ℚ share b d) (ring_ℚ (whole a ∷ inverse (whole d) ∷ []) (v1 ⊠ v0) (v0 ⊠ v1) refl)
    (subst (λ z. (inverse (whole d) *ℚ whole a) ≤ℚ z) (ring_ℚ (whole b ∷ inverse (whole d) ∷ []) (v1 ⊠ v0) (v0 ⊠ v1) refl)
    (≤ℚ_mul (whole a) (whole b) (inverse (whole d)) (inverse_not_negative (whole d) (whole-le (pos 0) d (omega (arith, ints)))) (whole-le a b l)))

-- ---- far on a side

-- a distance times a power of 2
power_share : (class far : ℕ) (d : ℤ) → share (pos (far * 2 ^ class)) d ≡ power class *ℚ share (pos far) d
power_share class far d =
    ap (λ z. z *ℚ inverse (whole d)) (whole-mul (pos far) (pos (2 ^ class)))
    ∙ ring_ℚ (whole (pos far) ∷ power class ∷ inverse (whole d) ∷ []) ((v0 ⊠ v1) ⊠ v2) (v1 ⊠ (v0 ⊠ v2)) refl

far_above : (r : ℤ) (far : ℕ) → pos 0 ≤ℤ r → far ≤ unsigned_abs r → (d : ℤ) → pos 1 ≤ℤ d → share (pos far) d ≤ℚ share r d
far_above r far up h d p = share-le (pos far) r d p (omega (arith, ints))

far_below : (r : ℤ) (far : ℕ) → r ≤ℤ pos 0 → far ≤ unsigned_abs r → (d : ℤ) → pos 1 ≤ℤ d → share (pos far) d ≤ℚ neg_ℚ (share r d)
far_below r far down h d p = subst (λ z. share (pos far) d ≤ℚ z) (share-neg r d) (share-le (pos far) (neg_ℤ r) d p (omega (arith, ints)))

on_own_side : (side : Side) (r : ℤ) (far : ℕ) (sized above below : Bool) → (IsTrue sized → far ≤ unsigned_abs r) → (IsTrue above → (side ≡ Up) × (pos 0 ≤ℤ r))
    → (IsTrue below → (side ≡ Down) × (r ≤ℤ pos 0)) → IsTrue (sized && (above || below)) → (d : ℤ) → pos 1 ≤ℤ d → IsFarOn side (share (pos far) d) (share r d)
on_own_side side r far true true below size up down h d p = subst (λ s. IsFarOn s (share (pos far) d) (share r d)) (sym (up refl).0) (far_above r far (up refl).1 (size refl) d p)
on_own_side side r far true false true size up down h d p = subst (λ s. IsFarOn s (share (pos far) d) (share r d)) (sym (down refl).0) (far_below r far (down refl).1 (size refl) d p)
on_own_side side r far true false false size up down h d p = absurd (cc h)
on_own_side side r far false above below size up down h d p = absurd (cc h)

-- a residual of such a size, over a power of 2, on the side of its sign
pub far_on : (side : Side) (r : ℤ) (class over far : ℕ) (sized above below : Bool) → over * 2 ^ class ≤ unsigned_abs r → (IsTrue sized → far ≤ over) → (IsTrue above → (side ≡ Up) × (pos 0 ≤ℤ r))
    → (IsTrue below → (side ≡ Down) × (r ≤ℤ pos 0)) → IsTrue (sized && (above || below)) → (d : ℤ) → pos 1 ≤ℤ d → IsFarOn side (power class *ℚ share (pos far) d) (share r d)
far_on side r class over far sized above below within size up down h d p =
    subst (λ z. IsFarOn side z (share r d)) (power_share class far d)
    (on_own_side side r (far * 2 ^ class) sized above below (λ t. let less = mul-le far (2 ^ class) over (2 ^ class) (size t) (omega arith) in omega (arith, less, within)) up down h d p)
