-- Lines c + l * t: where they are not negative, and where one that falls is 0.
use Rattle.std.specs.Prelude.{◌≡◌, ◌≢◌, ◌⊎◌, Bool, true, false, [], ◌∷◌, ◌≤ℤ◌, pos}
use Rattle.std.proofs.lemmas.Int.{ints}
use Rattle.std.proofs.Common.{arith, refl, sym, ap, subst, ◌∙◌, inl, inr}
use Rattle.rational_laws.specs.Solver.{number, negated, ◌⊞◌, ◌⊟◌, ◌⊠◌, v0, v1, v2, v3}
use Rattle.rational_laws.specs.Rational.{ℚ, ◌+ℚ◌, ◌-ℚ◌, ◌*ℚ◌, neg_ℚ, inverse, whole, le_ℚ, ◌≤ℚ◌}
use Rattle.rational_laws.proofs.RationalLaws.{ring_ℚ, ring_by_ℚ, ≤ℚ_refl, ≤ℚ_trans, ≤ℚ_mul, *ℚ-inverse}
use Rattle.rational_laws.proofs.RationalSumLaws.{≤ℚ_from}
use Rattle.rational_laws.proofs.WholeNumbers.{le_from_whole}
use Rattle.rational_laws.proofs.OrderLaws.{le_from_not, not_le, ≤ℚ-minus, ≤ℚ-from_mul}
use Rattle.pivot_model.specs.Duals.{◌<ℚ◌}

-- ---- the order

pub decide : (x y : ℚ) → (x ≤ℚ y) ⊎ ¬ (x ≤ℚ y)
decide x y = by (le_ℚ x y) refl
  where
    by : (t : Bool) → le_ℚ x y ≡ t → (x ≤ℚ y) ⊎ ¬ (x ≤ℚ y)
    by true e = inl (record { le = e })
    by false e = inr (not_le x y e)

-- an order by that of two others with the same difference
pub le_by : (x y z w : ℚ) → x ≤ℚ y → y -ℚ x ≡ w -ℚ z → z ≤ℚ w
le_by x y z w h e = ≤ℚ_from z w (subst (λ q. whole (pos 0) ≤ℚ q) e ((≤ℚ-minus x y).0 h))

pub le_trans_lt : (x y z : ℚ) → x ≤ℚ y → y <ℚ z → x <ℚ z
le_trans_lt x y z h k back = k (≤ℚ_trans z x y back h)

pub positive_neg : (x : ℚ) → x <ℚ whole (pos 0) → whole (pos 0) <ℚ neg_ℚ x
positive_neg x h k = h (le_by (neg_ℚ x) (whole (pos 0)) (whole (pos 0)) x k (ring_ℚ (x ∷ []) (number (pos 0) ⊟ negated v0) (v0 ⊟ number (pos 0)) refl))

pub negative_neg : (x : ℚ) → neg_ℚ x <ℚ whole (pos 0) → whole (pos 0) <ℚ x
negative_neg x h k = h (le_by x (whole (pos 0)) (whole (pos 0)) (neg_ℚ x) k (ring_ℚ (x ∷ []) (number (pos 0) ⊟ v0) (negated v0 ⊟ number (pos 0)) refl))

next_above : (t : ℚ) → t <ℚ (t +ℚ whole (pos 1))
next_above t h =
    none (le_from_whole (pos 1) (pos 0) (le_by (t +ℚ whole (pos 1)) t (whole (pos 1)) (whole (pos 0)) h (ring_ℚ (t ∷ []) (v0 ⊟ (v0 ⊞ number (pos 1))) (number (pos 0) ⊟ number (pos 1)) refl)))
  where
    none : pos 1 ≤ℤ pos 0 → ⊥
    none k = omega (arith, ints)

module _ (c l : ℚ) where
  abbrev pub line : ℚ → ℚ
  line t = c +ℚ (l *ℚ t)

  abbrev pub root : ℚ
  root = c *ℚ inverse (neg_ℚ l)

  -- a line that does not fall
  pub rises : (from t : ℚ) → whole (pos 0) ≤ℚ l → from ≤ℚ t → line from ≤ℚ line t
  rises from t h k =
      le_by (l *ℚ from) (l *ℚ t) (line from) (line t) (≤ℚ_mul from t l h k)
      (ring_ℚ (c ∷ l ∷ from ∷ t ∷ []) (v1 ⊠ v3 ⊟ v1 ⊠ v2) ((v0 ⊞ v1 ⊠ v3) ⊟ (v0 ⊞ v1 ⊠ v2)) refl)

  -- a line that does
  module _ (down : l <ℚ whole (pos 0)) where
    steep : ¬ (neg_ℚ l ≤ℚ whole (pos 0))
    steep h = down (le_by (neg_ℚ l) (whole (pos 0)) (whole (pos 0)) l h (ring_ℚ (l ∷ []) (number (pos 0) ⊟ negated v0) (v0 ⊟ number (pos 0)) refl))

    some : neg_ℚ l ≢ whole (pos 0)
    some e = steep (subst (λ z. z ≤ℚ whole (pos 0)) (sym e) (≤ℚ_refl (whole (pos 0))))

    -- where it is at least as high it is not later
    pub not_later : (t u : ℚ) → line t ≤ℚ line u → u ≤ℚ t
    not_later t u h =
        ≤ℚ-from_mul u t (neg_ℚ l) steep
        (le_by (line t) (line u) (neg_ℚ l *ℚ u) (neg_ℚ l *ℚ t) h
        (ring_ℚ (c ∷ l ∷ t ∷ u ∷ []) ((v0 ⊞ v1 ⊠ v3) ⊟ (v0 ⊞ v1 ⊠ v2)) (negated v1 ⊠ v2 ⊟ negated v1 ⊠ v3) refl))

    pub falls : (t u : ℚ) → t ≤ℚ u → line u ≤ℚ line t
    falls t u h =
        le_by (neg_ℚ l *ℚ t) (neg_ℚ l *ℚ u) (line u) (line t) (≤ℚ_mul t u (neg_ℚ l) (le_from_not (whole (pos 0)) (neg_ℚ l) steep) h)
        (ring_ℚ (c ∷ l ∷ t ∷ u ∷ []) (negated v1 ⊠ v3 ⊟ negated v1 ⊠ v2) ((v0 ⊞ v1 ⊠ v2) ⊟ (v0 ⊞ v1 ⊠ v3)) refl)

    pub at_root : line root ≡ whole (pos 0)
    at_root =
        ring_by_ℚ (c ∷ l ∷ inverse (neg_ℚ l) ∷ []) (v0 ⊞ v1 ⊠ (v0 ⊠ v2)) (number (pos 0)) (negated v0) (negated v1 ⊠ v2) (number (pos 1)) refl
        (*ℚ-inverse (neg_ℚ l) some)

    -- it is 0 at one place
    pub is_root : (t : ℚ) → line t ≡ whole (pos 0) → t ≡ root
    is_root t e =
        ring_by_ℚ (l ∷ inverse (neg_ℚ l) ∷ t ∷ []) v2 ((negated v0 ⊠ v2) ⊠ v1) (negated v2) (negated v0 ⊠ v1) (number (pos 1)) refl (*ℚ-inverse (neg_ℚ l) some)
        ∙ ap (λ z. z *ℚ inverse (neg_ℚ l)) (sym (ring_by_ℚ (c ∷ l ∷ t ∷ []) v0 (negated v1 ⊠ v2) (number (pos 1)) (v0 ⊞ v1 ⊠ v2) (number (pos 0)) refl e))

    -- and below 0 after it
    pub below_after : (t later : ℚ) → line t ≡ whole (pos 0) → t <ℚ later → line later <ℚ whole (pos 0)
    below_after t later e after h = after (not_later t later (subst (λ z. z ≤ℚ line later) (sym e) h))

  -- a line that is 0 and below 0 ever after falls
  pub falling_from : (t : ℚ) → line t ≡ whole (pos 0) → ((later : ℚ) → t <ℚ later → line later <ℚ whole (pos 0)) → l <ℚ whole (pos 0)
  falling_from t e beyond h =
      beyond (t +ℚ whole (pos 1)) (next_above t)
      (subst (λ z. z ≤ℚ line (t +ℚ whole (pos 1))) e (rises t (t +ℚ whole (pos 1)) h (le_from_not t (t +ℚ whole (pos 1)) (next_above t))))

  -- a line that is not negative, and does not fall to 0 before `to`, is not negative up to there
  pub keeps : (from to t : ℚ) → whole (pos 0) ≤ℚ line from → (l <ℚ whole (pos 0) → from ≤ℚ root → root <ℚ to → ⊥) → from ≤ℚ t → t ≤ℚ to → whole (pos 0) ≤ℚ line t
  keeps from to t start none lower upper = by (decide (whole (pos 0)) l)
    where
      by : (whole (pos 0) ≤ℚ l) ⊎ ¬ (whole (pos 0) ≤ℚ l) → whole (pos 0) ≤ℚ line t
      by (inl h) = ≤ℚ_trans (whole (pos 0)) (line from) (line t) start (rises from t h lower)
      by (inr down) = past (decide to root)
        where
          first : from ≤ℚ root
          first = not_later down root from (subst (λ z. z ≤ℚ line from) (sym (at_root down)) start)

          past : (to ≤ℚ root) ⊎ ¬ (to ≤ℚ root) → whole (pos 0) ≤ℚ line t
          past (inl h) = subst (λ z. z ≤ℚ line t) (at_root down) (falls down t root (≤ℚ_trans t to root upper h))
          past (inr h) = absurd (none down first h)
