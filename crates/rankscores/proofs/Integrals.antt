-- The integral of an affine function is the area of a trapezoid, and nothing else is.
use Rattle.std.specs.Prelude.{◌≡◌, ℕ, zero, suc, ◌+◌, [], ◌∷◌, pos}
use Rattle.std.proofs.Common.{arith, refl, sym, ap, ap₂, subst, ◌∙◌}
use Rattle.rational_laws.specs.Solver.{number, negated, ◌⊞◌, ◌⊟◌, ◌⊠◌, v0, v1, v2, v3, v4, v5, v6, v7}
use Rattle.rational_laws.specs.Rational.{ℚ, ◌+ℚ◌, ◌-ℚ◌, ◌*ℚ◌, neg_ℚ, inverse, whole, ◌≤ℚ◌}
use Rattle.rational_laws.specs.RationalSums.{positive_ℚ, negative_ℚ}
use Rattle.rational_laws.proofs.OrderLaws.{inverse_not_negative, le_from_not, ≤ℚ-minus, ≤ℚ_neg}
use Rattle.rational_laws.proofs.RationalLaws.{whole-add, ring_ℚ, ring_by_ℚ, *ℚ-inverse, ≤ℚ_antisym, ≤ℚ_mul, ≤ℚ_refl, ≤ℚ_trans}
use Rattle.rational_laws.proofs.RationalSumLaws.{parts_ℚ, ≤ℚ_add2, ≤ℚ_from}
use Rattle.rational_laws.proofs.Signs.{sum_not_negative, product_not_negative, whole_not_negative}
use Rattle.loss_model.specs.Strict.{◌<ℚ◌}
use Rattle.loss_model.proofs.Quotients.{inverse_of}
use Rattle.rankscores.specs.Integrals.{line, IsArea}
use Rattle.rankscores.specs.Laws.{LineMixes, TrapezoidIsIntegral}
use Rattle.rankscores.specs.Trapezoids.{trapezoid}
use Rattle.rankscores.proofs.Halving.{double, double-next, double-zero, not_positive}

-- 1/2
abbrev pub h : ℚ
h = inverse (whole (pos 2))

pub two : whole (pos 2) *ℚ h ≡ whole (pos 1)
two = inverse_of 2 (omega arith)

pub h_not_negative : whole (pos 0) ≤ℚ h
h_not_negative = inverse_not_negative (whole (pos 2)) (whole_not_negative 2)

-- ---- trapezoids

-- no smaller than the rectangle of a side that is at most both of its own
pub trapezoid_at_least : (u v x y m : ℚ) → u ≤ℚ v → m ≤ℚ x → m ≤ℚ y → (m *ℚ (v -ℚ u)) ≤ℚ trapezoid u v x y
trapezoid_at_least u v x y m ordered p q =
    subst (λ z. z ≤ℚ trapezoid u v x y)
    (ring_by_ℚ (u ∷ v ∷ m ∷ h ∷ []) (((v1 ⊟ v0) ⊠ v3) ⊠ (v2 ⊞ v2)) (v2 ⊠ (v1 ⊟ v0)) (v2 ⊠ (v1 ⊟ v0)) (number (pos 2) ⊠ v3) (number (pos 1)) refl two)
    (subst (λ z. (((v -ℚ u) *ℚ h) *ℚ (m +ℚ m)) ≤ℚ z) (ring_ℚ (u ∷ v ∷ x ∷ y ∷ h ∷ []) (((v1 ⊟ v0) ⊠ v4) ⊠ (v2 ⊞ v3)) (((v1 ⊟ v0) ⊠ (v2 ⊞ v3)) ⊠ v4) refl)
    (≤ℚ_mul (m +ℚ m) (x +ℚ y) ((v -ℚ u) *ℚ h) (product_not_negative (v -ℚ u) h ((≤ℚ-minus u v).0 ordered) h_not_negative) (≤ℚ_add2 m x m y p q)))

-- and no greater than that of one that is at least both
pub trapezoid_at_most : (u v x y m : ℚ) → u ≤ℚ v → x ≤ℚ m → y ≤ℚ m → trapezoid u v x y ≤ℚ (m *ℚ (v -ℚ u))
trapezoid_at_most u v x y m ordered p q =
    subst (λ z. trapezoid u v x y ≤ℚ z)
    (ring_by_ℚ (u ∷ v ∷ m ∷ h ∷ []) (((v1 ⊟ v0) ⊠ v3) ⊠ (v2 ⊞ v2)) (v2 ⊠ (v1 ⊟ v0)) (v2 ⊠ (v1 ⊟ v0)) (number (pos 2) ⊠ v3) (number (pos 1)) refl two)
    (subst (λ z. z ≤ℚ (((v -ℚ u) *ℚ h) *ℚ (m +ℚ m))) (ring_ℚ (u ∷ v ∷ x ∷ y ∷ h ∷ []) (((v1 ⊟ v0) ⊠ v4) ⊠ (v2 ⊞ v3)) (((v1 ⊟ v0) ⊠ (v2 ⊞ v3)) ⊠ v4) refl)
    (≤ℚ_mul (x +ℚ y) (m +ℚ m) ((v -ℚ u) *ℚ h) (product_not_negative (v -ℚ u) h ((≤ℚ-minus u v).0 ordered) h_not_negative) (≤ℚ_add2 x m y m p q)))

-- ---- a number of each part of a range that adds up, and vanishes with the square of the part's length, is nowhere positive

module _ (g : ℚ → ℚ → ℚ) (bound lo hi : ℚ) (add : (u m v : ℚ) → g u m +ℚ g m v ≡ g u v)
    (small : (u v : ℚ) → lo ≤ℚ u → u ≤ℚ v → v ≤ℚ hi → g u v ≤ℚ (bound *ℚ ((v -ℚ u) *ℚ (v -ℚ u)))) where
  -- the middle of two points
  abbrev middle : ℚ → ℚ → ℚ
  middle u v = (u +ℚ v) *ℚ h

  after_first : (u v : ℚ) → u ≤ℚ v → u ≤ℚ middle u v
  after_first u v le =
      ≤ℚ_from u (middle u v) (subst (λ z. whole (pos 0) ≤ℚ z)
      (ring_by_ℚ (u ∷ v ∷ h ∷ []) ((v1 ⊟ v0) ⊠ v2) ((v0 ⊞ v1) ⊠ v2 ⊟ v0) (negated v0) (number (pos 2) ⊠ v2) (number (pos 1)) refl two)
      (product_not_negative (v -ℚ u) h ((≤ℚ-minus u v).0 le) h_not_negative))

  before_last : (u v : ℚ) → u ≤ℚ v → middle u v ≤ℚ v
  before_last u v le =
      ≤ℚ_from (middle u v) v (subst (λ z. whole (pos 0) ≤ℚ z)
      (ring_by_ℚ (u ∷ v ∷ h ∷ []) ((v1 ⊟ v0) ⊠ v2) (v1 ⊟ (v0 ⊞ v1) ⊠ v2) v1 (number (pos 2) ⊠ v2) (number (pos 1)) refl two)
      (product_not_negative (v -ℚ u) h ((≤ℚ-minus u v).0 le) h_not_negative))

  near : (k : ℕ) (u v : ℚ) → lo ≤ℚ u → u ≤ℚ v → v ≤ℚ hi → (double k *ℚ g u v) ≤ℚ (bound *ℚ ((v -ℚ u) *ℚ (v -ℚ u)))
  near zero u v p q r =
      subst (λ z. z ≤ℚ (bound *ℚ ((v -ℚ u) *ℚ (v -ℚ u))))
      (ring_ℚ (g u v ∷ []) v0 (number (pos 1) ⊠ v0) refl ∙ ap (λ z. z *ℚ g u v) (sym double-zero)) (small u v p q r)
  near (suc k) u v p q r =
      let m = middle u v in
      let first = near k u m p (after_first u v q) (≤ℚ_trans m v hi (before_last u v q) r) in
      let last = near k m v (≤ℚ_trans lo u m p (after_first u v q)) (before_last u v q) r in
      let both = ≤ℚ_add2 (double k *ℚ g u m) _ (double k *ℚ g m v) _ first last in
      subst (λ z. z ≤ℚ (bound *ℚ ((v -ℚ u) *ℚ (v -ℚ u))))
      (ring_ℚ (double k ∷ g u m ∷ g m v ∷ []) ((v0 ⊠ v1 ⊞ v0 ⊠ v2) ⊞ (v0 ⊠ v1 ⊞ v0 ⊠ v2)) ((v0 ⊞ v0) ⊠ (v1 ⊞ v2)) refl
      ∙ ap₂ (λ x y. x *ℚ y) (sym (double-next k)) (add u m v))
      (subst (λ z. (((double k *ℚ g u m) +ℚ (double k *ℚ g m v)) +ℚ ((double k *ℚ g u m) +ℚ (double k *ℚ g m v))) ≤ℚ z)
      (ring_by_ℚ (bound ∷ u ∷ v ∷ h ∷ [])
      (let first = (v1 ⊞ v2) ⊠ v3 ⊟ v1 in let last = v2 ⊟ (v1 ⊞ v2) ⊠ v3 in (v0 ⊠ (first ⊠ first) ⊞ v0 ⊠ (last ⊠ last)) ⊞ (v0 ⊠ (first ⊠ first) ⊞ v0 ⊠ (last ⊠ last)))
      (v0 ⊠ ((v2 ⊟ v1) ⊠ (v2 ⊟ v1))) (v0 ⊠ (((v1 ⊞ v2) ⊠ (v1 ⊞ v2)) ⊠ (number (pos 2) ⊠ v3 ⊟ number (pos 1)))) (number (pos 2) ⊠ v3) (number (pos 1)) refl two)
      (≤ℚ_add2 _ _ _ _ both both))

  nowhere_positive : (u v : ℚ) → lo ≤ℚ u → u ≤ℚ v → v ≤ℚ hi → g u v ≤ℚ whole (pos 0)
  nowhere_positive u v p q r = not_positive (g u v) (bound *ℚ ((v -ℚ u) *ℚ (v -ℚ u))) (λ k. near k u v p q r)

-- ---- an affine function

-- the length of a range, where its ends differ
pub length-one : (lo hi : ℚ) → lo <ℚ hi → (hi -ℚ lo) *ℚ inverse (hi -ℚ lo) ≡ whole (pos 1)
length-one lo hi apart =
    *ℚ-inverse (hi -ℚ lo) (λ e. apart (subst (λ z. z ≤ℚ lo) (sym (ring_by_ℚ (hi ∷ lo ∷ []) v0 v1 (number (pos 1)) (v0 ⊟ v1) (number (pos 0)) refl e)) (≤ℚ_refl lo)))

module _ (lo hi a b : ℚ) where
  abbrev f : ℚ → ℚ
  f = line lo hi a b

  abbrev slope : ℚ
  slope = (b -ℚ a) *ℚ inverse (hi -ℚ lo)

  pub line-first : f lo ≡ a
  line-first = ring_ℚ (a ∷ slope ∷ lo ∷ []) (v0 ⊞ v1 ⊠ (v2 ⊟ v2)) v0 refl

  pub line-last : lo <ℚ hi → f hi ≡ b
  line-last apart =
      ring_by_ℚ (a ∷ b ∷ lo ∷ hi ∷ inverse (hi -ℚ lo) ∷ []) (v0 ⊞ ((v1 ⊟ v0) ⊠ v4) ⊠ (v3 ⊟ v2)) v1 (v1 ⊟ v0) ((v3 ⊟ v2) ⊠ v4) (number (pos 1)) refl (length-one lo hi apart)

  -- the trapezoid below f between two points
  abbrev below : ℚ → ℚ → ℚ
  below u v = trapezoid u v (f u) (f v)

  below-minus : (u v : ℚ) → below u v ≡ below lo v -ℚ below lo u
  below-minus u v =
      ring_ℚ (a ∷ slope ∷ lo ∷ u ∷ v ∷ h ∷ [])
      (((v4 ⊟ v3) ⊠ ((v0 ⊞ v1 ⊠ (v3 ⊟ v2)) ⊞ (v0 ⊞ v1 ⊠ (v4 ⊟ v2)))) ⊠ v5)
      ((((v4 ⊟ v2) ⊠ ((v0 ⊞ v1 ⊠ (v2 ⊟ v2)) ⊞ (v0 ⊞ v1 ⊠ (v4 ⊟ v2)))) ⊠ v5) ⊟ (((v3 ⊟ v2) ⊠ ((v0 ⊞ v1 ⊠ (v2 ⊟ v2)) ⊞ (v0 ⊞ v1 ⊠ (v3 ⊟ v2)))) ⊠ v5)) refl

  is_area : IsArea f lo hi (below lo)
  is_area =
      record {
        at_least = λ u v m p q r bound. subst (λ z. (m *ℚ (v -ℚ u)) ≤ℚ z) (below-minus u v) (trapezoid_at_least u v (f u) (f v) m q (bound u (≤ℚ_refl u) q) (bound v q (≤ℚ_refl v)));
        at_most = λ u v m p q r bound. subst (λ z. z ≤ℚ (m *ℚ (v -ℚ u))) (below-minus u v) (trapezoid_at_most u v (f u) (f v) m q (bound u (≤ℚ_refl u) q) (bound v q (≤ℚ_refl v)));
      }

  trapezoid_there : lo <ℚ hi → below lo hi -ℚ below lo lo ≡ trapezoid lo hi a b
  trapezoid_there apart = sym (below-minus lo hi) ∙ ap₂ (λ x y. trapezoid lo hi x y) line-first (line-last apart)

  -- no area but this one
  module _ (area : ℚ → ℚ) (is : IsArea f lo hi area) where
    abbrev rise : ℚ
    rise = positive_ℚ slope

    abbrev fall : ℚ
    fall = negative_ℚ slope

    slope_is : slope ≡ rise -ℚ fall
    slope_is = (parts_ℚ slope).0

    steep : ℚ
    steep = rise +ℚ fall

    -- how far a value is above one at u less the greatest change, and below one at u more it
    above : (u v t : ℚ) → u ≤ℚ t → t ≤ℚ v → (f u -ℚ (steep *ℚ (v -ℚ u))) ≤ℚ f t
    unfolding steep
    above u v t p q =
        let after = (≤ℚ-minus u t).0 p in
        let before = (≤ℚ-minus t v).0 q in
        ≤ℚ_from (f u -ℚ (steep *ℚ (v -ℚ u))) (f t)
        (subst (λ z. whole (pos 0) ≤ℚ z)
        (ring_by_ℚ (a ∷ slope ∷ lo ∷ u ∷ v ∷ t ∷ rise ∷ fall ∷ [])
        (v6 ⊠ ((v5 ⊟ v3) ⊞ ((v5 ⊟ v3) ⊞ (v4 ⊟ v5))) ⊞ v7 ⊠ (v4 ⊟ v5))
        ((v0 ⊞ v1 ⊠ (v5 ⊟ v2)) ⊟ ((v0 ⊞ v1 ⊠ (v3 ⊟ v2)) ⊟ (v6 ⊞ v7) ⊠ (v4 ⊟ v3)))
        (negated (v5 ⊟ v3)) v1 (v6 ⊟ v7) refl slope_is)
        (sum_not_negative (rise *ℚ ((t -ℚ u) +ℚ ((t -ℚ u) +ℚ (v -ℚ t)))) (fall *ℚ (v -ℚ t))
        (product_not_negative rise ((t -ℚ u) +ℚ ((t -ℚ u) +ℚ (v -ℚ t))) (parts_ℚ slope).1 (sum_not_negative (t -ℚ u) ((t -ℚ u) +ℚ (v -ℚ t)) after (sum_not_negative (t -ℚ u) (v -ℚ t) after before)))
        (product_not_negative fall (v -ℚ t) (parts_ℚ slope).2 before)))

    under : (u v t : ℚ) → u ≤ℚ t → t ≤ℚ v → f t ≤ℚ (f u +ℚ (steep *ℚ (v -ℚ u)))
    unfolding steep
    under u v t p q =
        let after = (≤ℚ-minus u t).0 p in
        let before = (≤ℚ-minus t v).0 q in
        ≤ℚ_from (f t) (f u +ℚ (steep *ℚ (v -ℚ u)))
        (subst (λ z. whole (pos 0) ≤ℚ z)
        (ring_by_ℚ (a ∷ slope ∷ lo ∷ u ∷ v ∷ t ∷ rise ∷ fall ∷ [])
        (v7 ⊠ ((v5 ⊟ v3) ⊞ ((v5 ⊟ v3) ⊞ (v4 ⊟ v5))) ⊞ v6 ⊠ (v4 ⊟ v5))
        (((v0 ⊞ v1 ⊠ (v3 ⊟ v2)) ⊞ (v6 ⊞ v7) ⊠ (v4 ⊟ v3)) ⊟ (v0 ⊞ v1 ⊠ (v5 ⊟ v2)))
        (v5 ⊟ v3) v1 (v6 ⊟ v7) refl slope_is)
        (sum_not_negative (fall *ℚ ((t -ℚ u) +ℚ ((t -ℚ u) +ℚ (v -ℚ t)))) (rise *ℚ (v -ℚ t))
        (product_not_negative fall ((t -ℚ u) +ℚ ((t -ℚ u) +ℚ (v -ℚ t))) (parts_ℚ slope).2 (sum_not_negative (t -ℚ u) ((t -ℚ u) +ℚ (v -ℚ t)) after (sum_not_negative (t -ℚ u) (v -ℚ t) after before)))
        (product_not_negative rise (v -ℚ t) (parts_ℚ slope).1 before)))

    -- by how much the area grows more than the trapezoid below f
    abbrev more : ℚ → ℚ → ℚ
    more u v = (area v -ℚ area u) -ℚ below u v

    abbrev less : ℚ → ℚ → ℚ
    less u v = neg_ℚ (more u v)

    more-add : (u m v : ℚ) → more u m +ℚ more m v ≡ more u v
    more-add u m v =
        ap₂ (λ x y. ((area m -ℚ area u) -ℚ x) +ℚ ((area v -ℚ area m) -ℚ y)) (below-minus u m) (below-minus m v)
        ∙ ring_ℚ (area u ∷ area m ∷ area v ∷ below lo u ∷ below lo m ∷ below lo v ∷ []) (((v1 ⊟ v0) ⊟ (v4 ⊟ v3)) ⊞ ((v2 ⊟ v1) ⊟ (v5 ⊟ v4))) ((v2 ⊟ v0) ⊟ (v5 ⊟ v3)) refl
        ∙ ap (λ x. (area v -ℚ area u) -ℚ x) (sym (below-minus u v))

    less-add : (u m v : ℚ) → less u m +ℚ less m v ≡ less u v
    less-add u m v = ring_ℚ (more u m ∷ more m v ∷ []) (negated v0 ⊞ negated v1) (negated (v0 ⊞ v1)) refl ∙ ap neg_ℚ (more-add u m v)

    -- both lie between the rectangles of the bounds of f
    within : (u v : ℚ) → lo ≤ℚ u → u ≤ℚ v → v ≤ℚ hi → (more u v ≤ℚ ((steep +ℚ steep) *ℚ ((v -ℚ u) *ℚ (v -ℚ u)))) × (less u v ≤ℚ ((steep +ℚ steep) *ℚ ((v -ℚ u) *ℚ (v -ℚ u))))
    within u v p q r =
        let d = v -ℚ u in
        let low = f u -ℚ (steep *ℚ d) in
        let high = f u +ℚ (steep *ℚ d) in
        let grown_least = is.at_least u v low p q r (above u v) in
        let grown_most = is.at_most u v high p q r (under u v) in
        let least = trapezoid_at_least u v (f u) (f v) low q (above u v u (≤ℚ_refl u) q) (above u v v q (≤ℚ_refl v)) in
        let most = trapezoid_at_most u v (f u) (f v) high q (under u v u (≤ℚ_refl u) q) (under u v v q (≤ℚ_refl v)) in (
          subst (λ z. more u v ≤ℚ z) (ring_ℚ (f u ∷ steep ∷ d ∷ []) ((v0 ⊞ v1 ⊠ v2) ⊠ v2 ⊟ (v0 ⊟ v1 ⊠ v2) ⊠ v2) ((v1 ⊞ v1) ⊠ (v2 ⊠ v2)) refl)
              (≤ℚ_add2 (area v -ℚ area u) (high *ℚ d) (neg_ℚ (below u v)) (neg_ℚ (low *ℚ d)) grown_most (≤ℚ_neg (low *ℚ d) (below u v) least)),
          subst (λ z. less u v ≤ℚ z) (ring_ℚ (f u ∷ steep ∷ d ∷ []) ((v0 ⊞ v1 ⊠ v2) ⊠ v2 ⊟ (v0 ⊟ v1 ⊠ v2) ⊠ v2) ((v1 ⊞ v1) ⊠ (v2 ⊠ v2)) refl)
              (subst (λ z. z ≤ℚ ((high *ℚ d) -ℚ (low *ℚ d))) (ring_ℚ ((area v -ℚ area u) ∷ below u v ∷ []) (v1 ⊟ v0) (negated (v0 ⊟ v1)) refl)
              (≤ℚ_add2 (below u v) (high *ℚ d) (neg_ℚ (area v -ℚ area u)) (neg_ℚ (low *ℚ d)) most (≤ℚ_neg (low *ℚ d) (area v -ℚ area u) grown_least))),
        )

    same_area : lo <ℚ hi → area hi -ℚ area lo ≡ trapezoid lo hi a b
    same_area apart =
        let ordered = le_from_not lo hi apart in
        let over = nowhere_positive more (steep +ℚ steep) lo hi more-add (λ u v p q r. (within u v p q r).0) lo hi (≤ℚ_refl lo) ordered (≤ℚ_refl hi) in
        let short = nowhere_positive less (steep +ℚ steep) lo hi less-add (λ u v p q r. (within u v p q r).1) lo hi (≤ℚ_refl lo) ordered (≤ℚ_refl hi) in
        let none : more lo hi ≡ whole (pos 0) =
        ≤ℚ_antisym (more lo hi) (whole (pos 0)) over
        (subst (λ z. whole (pos 0) ≤ℚ z) (ring_ℚ (more lo hi ∷ []) (negated (negated v0)) v0 refl)
        (subst (λ z. z ≤ℚ neg_ℚ (less lo hi)) (ring_ℚ [] (negated (number (pos 0))) (number (pos 0)) refl) (≤ℚ_neg (less lo hi) (whole (pos 0)) short))) in
        ring_by_ℚ ((area hi -ℚ area lo) ∷ below lo hi ∷ []) v0 v1 (number (pos 1)) (v0 ⊟ v1) (number (pos 0)) refl none
        ∙ ap₂ (λ x y. trapezoid lo hi x y) line-first (line-last apart)

pub trapezoid_is : TrapezoidIsIntegral
trapezoid_is lo hi a b x apart = (
  λ integral. integral.grown ∙ same_area lo hi a b integral.area integral.is apart,
  λ e. record { area = below lo hi a b lo; is = is_area lo hi a b; grown = e ∙ sym (trapezoid_there lo hi a b apart) },
)

-- ---- mixes

pub line_mixes : LineMixes
line_mixes lo hi a b m n apart some =
    let first = whole (pos m) in
    let last = whole (pos n) in
    let j = inverse (whole (pos (m + n))) in
    let one : (first +ℚ last) *ℚ j ≡ whole (pos 1) = ap (λ z. z *ℚ j) (sym (whole-add (pos m) (pos n))) ∙ inverse_of (m + n) (omega (arith, some)) in
    ap (λ z. a +ℚ (((b -ℚ a) *ℚ inverse (hi -ℚ lo)) *ℚ z))
    (ring_by_ℚ (lo ∷ hi ∷ first ∷ last ∷ j ∷ []) ((v2 ⊠ v0 ⊞ v3 ⊠ v1) ⊠ v4 ⊟ v0) ((v3 ⊠ v4) ⊠ (v1 ⊟ v0)) v0 ((v2 ⊞ v3) ⊠ v4) (number (pos 1)) refl one)
    ∙ ring_by_ℚ (lo ∷ hi ∷ a ∷ b ∷ last ∷ j ∷ inverse (hi -ℚ lo) ∷ []) (v2 ⊞ ((v3 ⊟ v2) ⊠ v6) ⊠ ((v4 ⊠ v5) ⊠ (v1 ⊟ v0))) (v2 ⊞ (v3 ⊟ v2) ⊠ (v4 ⊠ v5)) ((v3 ⊟ v2) ⊠ (v4 ⊠ v5)) ((v1 ⊟ v0) ⊠ v6) (number (pos 1)) refl (length-one lo hi apart)
    ∙ ring_by_ℚ (a ∷ b ∷ first ∷ last ∷ j ∷ []) (v0 ⊞ (v1 ⊟ v0) ⊠ (v3 ⊠ v4)) ((v2 ⊠ v0 ⊞ v3 ⊠ v1) ⊠ v4) (negated v0) ((v2 ⊞ v3) ⊠ v4) (number (pos 1)) refl one
