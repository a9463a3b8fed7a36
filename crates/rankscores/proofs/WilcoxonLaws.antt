-- Wilcoxon scores as sums, their bounds, and their balance.
use Rattle.std.specs.Prelude.{◌≡◌, ◌⊎◌, ℕ, zero, suc, ◌-◌, ◌<◌, [], ◌∷◌, pos}
use Rattle.std.proofs.Common.{add-one, arith, inl, inr, refl, sym, ap, ap₂, subst, ◌∙◌}
use Rattle.std.specs.declared.cmp.Ordering.TheVariants.{Less}
use Rattle.rational_laws.specs.Order.{cmp_ℚ}
use Rattle.rational_laws.specs.Solver.{number, negated, ◌⊞◌, ◌⊟◌, ◌⊠◌, v0, v1, v2, v3, v4, v5, v6}
use Rattle.rational_laws.specs.Rational.{ℚ, ◌+ℚ◌, ◌-ℚ◌, ◌*ℚ◌, neg_ℚ, inverse, whole, ◌≤ℚ◌}
use Rattle.rational_laws.specs.RationalSums.{sum_ℚ}
use Rattle.rational_laws.proofs.Inverses.{one-zero}
use Rattle.rational_laws.proofs.OrderLaws.{cmp_ℚ-Less, inverse_not_negative, le_from_not, ≤ℚ-minus}
use Rattle.rational_laws.proofs.RationalLaws.{ring_ℚ, ring_by_ℚ, *ℚ-inverse, ≤ℚ_add, ≤ℚ_refl}
use Rattle.rational_laws.proofs.RationalSumLaws.{sum_ℚ-le, sum_ℚ-mix, sum_ℚ-same, sum_ℚ-scale, sum_ℚ-swap, sum_ℚ-zero, ≤ℚ_from}
use Rattle.rational_laws.proofs.Signs.{sum_not_negative, product_not_negative}
use Rattle.loss_model.specs.Dual.{IsDataRow, rankscore}
use Rattle.loss_model.specs.Laws.{RankscoresAreBounded}
use Rattle.loss_model.specs.Sample.{Sample}
use Rattle.loss_model.specs.Segment.{Covers, Segments}
use Rattle.loss_model.specs.Strict.{◌<ℚ◌}
use Rattle.rankscores.specs.Integrals.{line, IsIntegral}
use Rattle.rankscores.specs.Laws.{AreFeasible, AreProper, ScoresAreBounded, WilcoxonIsBalanced, WilcoxonIsBounded, WilcoxonIsSum, WilcoxonSumsToZero}
use Rattle.rankscores.specs.Trapezoids.{score_area}
use Rattle.rankscores.specs.Wilcoxon.{half, score_along, IsWilcoxon}
use Rattle.rankscores.proofs.Integrals.{h, length-one, trapezoid_at_least, trapezoid_at_most, trapezoid_is, two}

-- ---- the sum

module _ (p : Sample) (s : Segments) (i j : ℕ) (apart : s.lo j <ℚ s.hi j) where
  abbrev first : ℚ
  first = rankscore p (s.lo j) (s.at_lo j) i

  abbrev last : ℚ
  last = rankscore p (s.hi j) (s.at_hi j) i

  -- along a segment the rankscore is affine
  along : (theta : ℚ) → score_along p s i j theta ≡ line (s.lo j) (s.hi j) first last theta
  along theta =
      ring_by_ℚ (s.lo j ∷ s.hi j ∷ s.at_lo j i ∷ s.at_hi j i ∷ inverse (p.up1 i) ∷ inverse (s.hi j -ℚ s.lo j) ∷ theta ∷ [])
      (((v2 ⊞ ((v3 ⊟ v2) ⊠ v5) ⊠ (v6 ⊟ v0)) ⊠ v4 ⊞ number (pos 1)) ⊟ v6)
      (((v2 ⊠ v4 ⊞ number (pos 1)) ⊟ v0) ⊞ ((((v3 ⊠ v4 ⊞ number (pos 1)) ⊟ v1) ⊟ ((v2 ⊠ v4 ⊞ number (pos 1)) ⊟ v0)) ⊠ v5) ⊠ (v6 ⊟ v0))
      (v6 ⊟ v0) ((v1 ⊟ v0) ⊠ v5) (number (pos 1)) refl (length-one (s.lo j) (s.hi j) apart)

  same_function : score_along p s i j ≡ line (s.lo j) (s.hi j) first last
  same_function = λ k. λ theta. along theta k

  area_from : (x : ℚ) → IsIntegral (score_along p s i j) (s.lo j) (s.hi j) x → x ≡ score_area p s i j
  area_from x integral = (trapezoid_is (s.lo j) (s.hi j) first last x apart).0 (subst (λ f. IsIntegral f (s.lo j) (s.hi j) x) same_function integral)

  area_to : IsIntegral (score_along p s i j) (s.lo j) (s.hi j) (score_area p s i j)
  area_to =
      subst (λ f. IsIntegral f (s.lo j) (s.hi j) (score_area p s i j)) (sym same_function)
      ((trapezoid_is (s.lo j) (s.hi j) first last (score_area p s i j) apart).1 refl)

pub is_sum : WilcoxonIsSum
is_sum p s i x proper = (
  λ w. w.sum ∙ ap (λ z. z -ℚ half) (sum_ℚ-same s.count w.integrals (score_area p s i) (λ j l. area_from p s i j (proper j l) (w.integrals j) (w.each j l))),
  λ e. record { integrals = score_area p s i; each = λ j l. area_to p s i j (proper j l); sum = e },
)

-- ---- segments that cover a range

module _ (rows : ℕ) (s : Segments) where
  -- a range of two ends has segments of two ends
  pub proper : Covers rows (whole (pos 0)) (whole (pos 1)) s → AreProper s
  proper c j l = by (c.proper j l)
    where
      by : (cmp_ℚ (s.lo j) (s.hi j) ≡ Less) ⊎ ((s.count ≡ 1) × (whole (pos 0) ≡ whole (pos 1))) → s.lo j <ℚ s.hi j
      by (inl less) = (cmp_ℚ-Less (s.lo j) (s.hi j)).0 less
      by (inr point) = absurd (one-zero (sym point.1))

  -- what a function gains along all segments, it gains over the range
  module _ (f : ℚ → ℚ) (lo hi : ℚ) (c : Covers rows lo hi s) where
    abbrev gain : ℕ → ℚ
    gain j = f (s.hi j) -ℚ f (s.lo j)

    gained : (n : ℕ) → n < s.count → sum_ℚ (suc n) gain ≡ f (s.hi n) -ℚ f (s.lo 0)
    gained zero l = ring_ℚ (f (s.hi 0) ∷ f (s.lo 0) ∷ []) (number (pos 0) ⊞ (v0 ⊟ v1)) (v0 ⊟ v1) refl
    gained (suc n) l =
        ap₂ (λ x y. x +ℚ (f (s.hi (suc n)) -ℚ f y)) (gained n (omega (arith, l))) (ap s.lo (sym (add-one n)) ∙ sym (c.joined n (omega (arith, l))))
        ∙ ring_ℚ (f (s.hi (suc n)) ∷ f (s.hi n) ∷ f (s.lo 0) ∷ []) ((v1 ⊟ v2) ⊞ (v0 ⊟ v1)) (v0 ⊟ v2) refl

    pub gained_all : sum_ℚ s.count gain ≡ f hi -ℚ f lo
    gained_all =
        let all : suc (s.count - 1) ≡ s.count = omega (arith, c.some) in
        ap (λ n. sum_ℚ n gain) (sym all) ∙ gained (s.count - 1) (omega (arith, c.some)) ∙ ap₂ (λ x y. f x -ℚ f y) c.last c.first

-- ---- bounds

module _ (lo hi a b theta : ℚ) (apart : lo <ℚ hi) (from : lo ≤ℚ theta) (to : theta ≤ℚ hi) where
  i : ℚ
  i = inverse (hi -ℚ lo)

  one : (hi -ℚ lo) *ℚ i ≡ whole (pos 1)
  unfolding i
  one = length-one lo hi apart

  known : whole (pos 0) ≤ℚ i
  unfolding i
  known = inverse_not_negative (hi -ℚ lo) ((≤ℚ-minus lo hi).0 (le_from_not lo hi apart))

  before : whole (pos 0) ≤ℚ ((theta -ℚ lo) *ℚ i)
  before = product_not_negative (theta -ℚ lo) i ((≤ℚ-minus lo theta).0 from) known

  after : whole (pos 0) ≤ℚ ((hi -ℚ theta) *ℚ i)
  after = product_not_negative (hi -ℚ theta) i ((≤ℚ-minus theta hi).0 to) known

  line_not_negative : whole (pos 0) ≤ℚ a → whole (pos 0) ≤ℚ b → whole (pos 0) ≤ℚ line lo hi a b theta
  unfolding i
  line_not_negative p q =
      subst (λ z. whole (pos 0) ≤ℚ z)
      (ring_by_ℚ (lo ∷ hi ∷ a ∷ b ∷ theta ∷ i ∷ []) (v2 ⊠ ((v1 ⊟ v4) ⊠ v5) ⊞ v3 ⊠ ((v4 ⊟ v0) ⊠ v5)) (v2 ⊞ ((v3 ⊟ v2) ⊠ v5) ⊠ (v4 ⊟ v0)) v2 ((v1 ⊟ v0) ⊠ v5) (number (pos 1)) refl one)
      (sum_not_negative (a *ℚ ((hi -ℚ theta) *ℚ i)) (b *ℚ ((theta -ℚ lo) *ℚ i)) (product_not_negative a ((hi -ℚ theta) *ℚ i) p after) (product_not_negative b ((theta -ℚ lo) *ℚ i) q before))

  line_at_most_one : a ≤ℚ whole (pos 1) → b ≤ℚ whole (pos 1) → line lo hi a b theta ≤ℚ whole (pos 1)
  unfolding i
  line_at_most_one p q =
      ≤ℚ_from (line lo hi a b theta) (whole (pos 1)) (subst (λ z. whole (pos 0) ≤ℚ z)
      (ring_by_ℚ (lo ∷ hi ∷ a ∷ b ∷ theta ∷ i ∷ []) ((number (pos 1) ⊟ v2) ⊠ ((v1 ⊟ v4) ⊠ v5) ⊞ (number (pos 1) ⊟ v3) ⊠ ((v4 ⊟ v0) ⊠ v5)) (number (pos 1) ⊟ (v2 ⊞ ((v3 ⊟ v2) ⊠ v5) ⊠ (v4 ⊟ v0))) (number (pos 1) ⊟ v2) ((v1 ⊟ v0) ⊠ v5)
      (number (pos 1)) refl one)
      (sum_not_negative ((whole (pos 1) -ℚ a) *ℚ ((hi -ℚ theta) *ℚ i)) ((whole (pos 1) -ℚ b) *ℚ ((theta -ℚ lo) *ℚ i))
      (product_not_negative (whole (pos 1) -ℚ a) ((hi -ℚ theta) *ℚ i) ((≤ℚ-minus a (whole (pos 1))).0 p) after) (product_not_negative (whole (pos 1) -ℚ b) ((theta -ℚ lo) *ℚ i) ((≤ℚ-minus b (whole (pos 1))).0 q) before)))

pub scores_bounded : RankscoresAreBounded → ScoresAreBounded
scores_bounded bounded p s i j theta apart feasible within row l from to =
    let low = bounded p (s.lo j) (s.at_lo j) i (feasible.at_lo j l) within row in
    let high = bounded p (s.hi j) (s.at_hi j) i (feasible.at_hi j l) within row in
    let is = along p s i j (apart j l) theta in (
      subst (λ z. whole (pos 0) ≤ℚ z) (sym is) (line_not_negative (s.lo j) (s.hi j) _ _ theta (apart j l) from to low.0 high.0),
      subst (λ z. z ≤ℚ whole (pos 1)) (sym is) (line_at_most_one (s.lo j) (s.hi j) _ _ theta (apart j l) from to low.1 high.1),
    )

-- the area below the rankscore of a row, along all segments
area_bounded : RankscoresAreBounded → (p : Sample) (s : Segments) (i : ℕ) → Covers p.rows (whole (pos 0)) (whole (pos 1)) s → AreFeasible p s → i < p.rows → IsDataRow p i
    → (whole (pos 0) ≤ℚ sum_ℚ s.count (score_area p s i)) × (sum_ℚ s.count (score_area p s i) ≤ℚ whole (pos 1))
area_bounded bounded p s i c feasible within row = (
  subst (λ z. z ≤ℚ sum_ℚ s.count (score_area p s i)) (sum_ℚ-zero s.count) (sum_ℚ-le s.count (λ j. whole (pos 0)) (score_area p s i) (λ j l. least j l)),
  subst (λ z. sum_ℚ s.count (score_area p s i) ≤ℚ z)
      (gained_all p.rows s (λ t. t) (whole (pos 0)) (whole (pos 1)) c ∙ ring_ℚ [] (number (pos 1) ⊟ number (pos 0)) (number (pos 1)) refl)
      (sum_ℚ-le s.count (score_area p s i) (gain p.rows s (λ t. t) (whole (pos 0)) (whole (pos 1)) c) (λ j l. most j l)),
)
  where
    ordered : (j : ℕ) → j < s.count → s.lo j ≤ℚ s.hi j
    ordered j l = le_from_not (s.lo j) (s.hi j) (proper p.rows s c j l)

    least : (j : ℕ) → j < s.count → whole (pos 0) ≤ℚ score_area p s i j
    least j l =
        subst (λ z. z ≤ℚ score_area p s i j) (ring_ℚ (s.lo j ∷ s.hi j ∷ []) (number (pos 0) ⊠ (v1 ⊟ v0)) (number (pos 0)) refl)
        (trapezoid_at_least (s.lo j) (s.hi j) _ _ (whole (pos 0)) (ordered j l) (bounded p (s.lo j) (s.at_lo j) i (feasible.at_lo j l) within row).0 (bounded p (s.hi j) (s.at_hi j) i (feasible.at_hi j l) within row).0)

    most : (j : ℕ) → j < s.count → score_area p s i j ≤ℚ gain p.rows s (λ t. t) (whole (pos 0)) (whole (pos 1)) c j
    most j l =
        subst (λ z. score_area p s i j ≤ℚ z) (ring_ℚ (s.lo j ∷ s.hi j ∷ []) (number (pos 1) ⊠ (v1 ⊟ v0)) (v1 ⊟ v0) refl)
        (trapezoid_at_most (s.lo j) (s.hi j) _ _ (whole (pos 1)) (ordered j l) (bounded p (s.lo j) (s.at_lo j) i (feasible.at_lo j l) within row).1 (bounded p (s.hi j) (s.at_hi j) i (feasible.at_hi j l) within row).1)

pub wilcoxon_bounded : RankscoresAreBounded → WilcoxonIsBounded
wilcoxon_bounded bounded p s i x c feasible within row w =
    let total = sum_ℚ s.count (score_area p s i) in
    let is = (is_sum p s i x (proper p.rows s c)).0 w in
    let bounds = area_bounded bounded p s i c feasible within row in (
      subst (λ z. neg_ℚ half ≤ℚ z) (ring_ℚ (half ∷ total ∷ []) (negated v0 ⊞ v1) (v1 ⊟ v0) refl ∙ sym is)
          (subst (λ z. z ≤ℚ (neg_ℚ half +ℚ total)) (ring_ℚ (half ∷ []) (negated v0 ⊞ number (pos 0)) (negated v0) refl) (≤ℚ_add (whole (pos 0)) total (neg_ℚ half) bounds.0)),
      subst (λ z. z ≤ℚ half) (ring_ℚ (half ∷ total ∷ []) (negated v0 ⊞ v1) (v1 ⊟ v0) refl ∙ sym is)
          (subst (λ z. (neg_ℚ half +ℚ total) ≤ℚ z) (ring_by_ℚ (h ∷ []) (negated (number (pos 1) ⊠ v0) ⊞ number (pos 1)) (number (pos 1) ⊠ v0) (negated (number (pos 1))) (number (pos 2) ⊠ v0) (number (pos 1)) refl two)
          (≤ℚ_add total (whole (pos 1)) (neg_ℚ half) bounds.1)),
    )

-- ---- balance

module _ (p : Sample) (s : Segments) (x : ℕ → ℚ) (c : Covers p.rows (whole (pos 0)) (whole (pos 1)) s) (feasible : AreFeasible p s)
    (row : (i : ℕ) → i < p.rows → IsDataRow p i) (w : (i : ℕ) → i < p.rows → IsWilcoxon p s i (x i)) where
  -- half the length of a segment
  abbrev width : ℕ → ℚ
  width j = (s.hi j -ℚ s.lo j) *ℚ h

  -- what the dual values of a row weigh along a segment
  abbrev part : ℕ → ℕ → ℚ
  part i j = width j *ℚ (s.at_lo j i +ℚ s.at_hi j i)

  -- t - t*t/2
  abbrev bend : ℚ → ℚ
  bend t = t -ℚ ((t *ℚ t) *ℚ h)

  abbrev bent : ℕ → ℚ
  bent = gain p.rows s bend (whole (pos 0)) (whole (pos 1)) c

  weight-one : (i : ℕ) → i < p.rows → p.up1 i *ℚ inverse (p.up1 i) ≡ whole (pos 1)
  weight-one i l =
      *ℚ-inverse (p.up1 i) (λ e. (cmp_ℚ-Less (whole (pos 0)) (p.up1 i)).0 (row i l).weighted (subst (λ z. z ≤ℚ whole (pos 0)) (sym e) (≤ℚ_refl (whole (pos 0)))))

  weighted_area : (i j : ℕ) → i < p.rows → p.up1 i *ℚ score_area p s i j ≡ (whole (pos 1) *ℚ part i j) +ℚ (p.up1 i *ℚ bent j)
  weighted_area i j l =
      ring_by_ℚ (p.up1 i ∷ inverse (p.up1 i) ∷ s.lo j ∷ s.hi j ∷ s.at_lo j i ∷ s.at_hi j i ∷ h ∷ [])
      (v0 ⊠ (((v3 ⊟ v2) ⊠ (((v4 ⊠ v1 ⊞ number (pos 1)) ⊟ v2) ⊞ ((v5 ⊠ v1 ⊞ number (pos 1)) ⊟ v3))) ⊠ v6))
      (number (pos 1) ⊠ (((v3 ⊟ v2) ⊠ v6) ⊠ (v4 ⊞ v5)) ⊞ v0 ⊠ (((v3 ⊟ v2) ⊠ v6) ⊠ (number (pos 2) ⊟ (v2 ⊞ v3))))
      (((v3 ⊟ v2) ⊠ v6) ⊠ (v4 ⊞ v5)) (v0 ⊠ v1) (number (pos 1)) refl (weight-one i l)
      ∙ ap (λ z. (whole (pos 1) *ℚ part i j) +ℚ (p.up1 i *ℚ z))
      (ring_by_ℚ (s.lo j ∷ s.hi j ∷ h ∷ []) (((v1 ⊟ v0) ⊠ v2) ⊠ (number (pos 2) ⊟ (v0 ⊞ v1))) ((v1 ⊟ (v1 ⊠ v1) ⊠ v2) ⊟ (v0 ⊟ (v0 ⊠ v0) ⊠ v2)) (v1 ⊟ v0) (number (pos 2) ⊠ v2) (number (pos 1)) refl two)

  weighted_score : (i : ℕ) → i < p.rows → p.up1 i *ℚ x i ≡ sum_ℚ s.count (part i)
  weighted_score i l =
      ap (λ z. p.up1 i *ℚ z) ((is_sum p s i (x i) (proper p.rows s c)).0 (w i l))
      ∙ ring_ℚ (p.up1 i ∷ sum_ℚ s.count (score_area p s i) ∷ half ∷ []) (v0 ⊠ (v1 ⊟ v2)) (v0 ⊠ v1 ⊟ v0 ⊠ v2) refl
      ∙ ap (λ z. z -ℚ (p.up1 i *ℚ half))
      (sym (sum_ℚ-scale s.count (p.up1 i) (score_area p s i))
      ∙ sum_ℚ-same s.count (λ j. p.up1 i *ℚ score_area p s i j) (λ j. (whole (pos 1) *ℚ part i j) +ℚ (p.up1 i *ℚ bent j)) (λ j m. weighted_area i j l)
      ∙ sum_ℚ-mix s.count (whole (pos 1)) (p.up1 i) (part i) bent
      ∙ ap (λ z. (whole (pos 1) *ℚ sum_ℚ s.count (part i)) +ℚ (p.up1 i *ℚ z)) (gained_all p.rows s bend (whole (pos 0)) (whole (pos 1)) c))
      ∙ ring_by_ℚ (p.up1 i ∷ sum_ℚ s.count (part i) ∷ h ∷ [])
      ((number (pos 1) ⊠ v1 ⊞ v0 ⊠ ((number (pos 1) ⊟ (number (pos 1) ⊠ number (pos 1)) ⊠ v2) ⊟ (number (pos 0) ⊟ (number (pos 0) ⊠ number (pos 0)) ⊠ v2))) ⊟ v0 ⊠ (number (pos 1) ⊠ v2))
      v1 (negated v0) (number (pos 2) ⊠ v2) (number (pos 1)) refl two

  module _ (k : ℕ) (column : k < p.columns) where
    -- along one segment the dual values of all rows are orthogonal to a column
    part_balanced : (j : ℕ) → j < s.count → sum_ℚ p.rows (λ i. p.x i k *ℚ part i j) ≡ whole (pos 0)
    part_balanced j l =
        sum_ℚ-same p.rows (λ i. p.x i k *ℚ part i j) (λ i. (width j *ℚ (s.at_lo j i *ℚ p.x i k)) +ℚ (width j *ℚ (s.at_hi j i *ℚ p.x i k)))
        (λ i m. ring_ℚ (width j ∷ s.at_lo j i ∷ s.at_hi j i ∷ p.x i k ∷ []) (v3 ⊠ (v0 ⊠ (v1 ⊞ v2))) (v0 ⊠ (v1 ⊠ v3) ⊞ v0 ⊠ (v2 ⊠ v3)) refl)
        ∙ sum_ℚ-mix p.rows (width j) (width j) (λ i. s.at_lo j i *ℚ p.x i k) (λ i. s.at_hi j i *ℚ p.x i k)
        ∙ ap₂ (λ y z. (width j *ℚ y) +ℚ (width j *ℚ z)) ((feasible.at_lo j l).balanced k column) ((feasible.at_hi j l).balanced k column)
        ∙ ring_ℚ (width j ∷ []) (v0 ⊠ number (pos 0) ⊞ v0 ⊠ number (pos 0)) (number (pos 0)) refl

    balanced_column : sum_ℚ p.rows (λ i. (p.up1 i *ℚ x i) *ℚ p.x i k) ≡ whole (pos 0)
    balanced_column =
        sum_ℚ-same p.rows (λ i. (p.up1 i *ℚ x i) *ℚ p.x i k) (λ i. sum_ℚ s.count (λ j. p.x i k *ℚ part i j))
        (λ i l. ap (λ z. z *ℚ p.x i k) (weighted_score i l) ∙ ring_ℚ (sum_ℚ s.count (part i) ∷ p.x i k ∷ []) (v0 ⊠ v1) (v1 ⊠ v0) refl ∙ sym (sum_ℚ-scale s.count (p.x i k) (part i)))
        ∙ sum_ℚ-swap p.rows s.count (λ i j. p.x i k *ℚ part i j)
        ∙ sum_ℚ-same s.count (λ j. sum_ℚ p.rows (λ i. p.x i k *ℚ part i j)) (λ j. whole (pos 0)) part_balanced
        ∙ sum_ℚ-zero s.count

pub balanced : WilcoxonIsBalanced
balanced p s x c feasible row w k column = balanced_column p s x c feasible row w k column

pub sums_to_zero : WilcoxonSumsToZero
sums_to_zero p s x c feasible row w k column ones =
    sum_ℚ-same p.rows x (λ i. (p.up1 i *ℚ x i) *ℚ p.x i k)
    (λ i l. ring_ℚ (x i ∷ []) v0 ((number (pos 1) ⊠ v0) ⊠ number (pos 1)) refl ∙ ap₂ (λ y z. (y *ℚ x i) *ℚ z) (sym (ones i l).1) (sym (ones i l).0))
    ∙ balanced_column p s x c feasible row w k column
