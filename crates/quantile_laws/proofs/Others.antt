-- Where a dual value of a basis is at a bound and no row is fitted exactly but those of the basis, other coefficients lose as little.
use Rattle.std.specs.Prelude.{◌≡◌, ◌≢◌, ◌⊎◌, ℕ, zero, suc, ◌<◌, ◌≤◌, Bool, true, false, ◌==◌, [], ◌∷◌, pos}
use Rattle.std.proofs.Common.{arith, refl, sym, ap, ap₂, subst, ◌∙◌, inl, inr}
use Rattle.std.proofs.lemmas.Int.{ints}
use Rattle.std.proofs.lemmas.Bool.{cases_lt, eqb-true, eqb-false}
use Rattle.rational_laws.specs.Solver.{number, negated, ◌⊞◌, ◌⊟◌, ◌⊠◌, v0, v1, v2}
use Rattle.rational_laws.specs.Rational.{ℚ, ◌+ℚ◌, ◌-ℚ◌, ◌*ℚ◌, neg_ℚ, inverse, whole, ◌≤ℚ◌, le_ℚ}
use Rattle.rational_laws.proofs.RationalLaws.{ring_ℚ, ring_by_ℚ, *ℚ-inverse, ≤ℚ_trans, ≤ℚ_antisym, ≤ℚ_mul, ≤ℚ_total}
use Rattle.rational_laws.specs.RationalSums.{positive_ℚ, negative_ℚ}
use Rattle.rational_laws.proofs.RationalSumLaws.{parts_ℚ, ≤ℚ_add2, ≤ℚ_from, sum_ℚ-same, sum_ℚ-scale}
use Rattle.rational_laws.proofs.WholeNumbers.{whole-le}
use Rattle.rational_laws.proofs.Inverses.{zero_or_not, one-zero, zero_from_product}
use Rattle.rational_laws.proofs.OrderLaws.{≤ℚ-minus, le_from_not, not_le, inverse_not_negative, same_le}
use Rattle.rational_laws.proofs.Signs.{product_not_negative}
use Rattle.rational_laws.specs.Terms.{delta}
use Rattle.rational_laws.proofs.TermLaws.{if-same, if-other}
use Rattle.loss_model.specs.Strict.{◌<ℚ◌}
use Rattle.loss_model.specs.Sample.{Sample, up_cost, down_cost, residual, row_loss, loss}
use Rattle.loss_model.specs.Complements.{IsComplementary, residual_change}
use Rattle.loss_model.specs.Dual.{IsDual}
use Rattle.loss_model.proofs.Duality.{slack, moved, positive_when, negative_when, positive_below, negative_below, cost_above, cost_below, minimum}
use Rattle.basis_model.specs.Basis.{IsBasis}
use Rattle.quantile_laws.specs.Uniqueness.{FitsBasisAlone, OthersLoseAsLittle}
use Rattle.quantile_laws.proofs.Slack.{complements}

-- ---- a step that turns no sign

-- the size of a number, by its parts
size : ℚ → ℚ
size x = positive_ℚ x +ℚ negative_ℚ x

size_known : (x : ℚ) → whole (pos 0) ≤ℚ size x
unfolding size
size_known x =
    let two = parts_ℚ x in
    subst (λ z. z ≤ℚ (positive_ℚ x +ℚ negative_ℚ x)) (ring_ℚ [] (number (pos 0) ⊞ number (pos 0)) (number (pos 0)) refl) (≤ℚ_add2 (whole (pos 0)) (positive_ℚ x) (whole (pos 0)) (negative_ℚ x) two.1 two.2)

size_above : (x : ℚ) → whole (pos 0) ≤ℚ x → size x ≡ x
unfolding size
size_above x h = ap₂ ◌+ℚ◌ (positive_when x h) (negative_when x h) ∙ ring_ℚ (x ∷ []) (v0 ⊞ number (pos 0)) v0 refl

size_below : (x : ℚ) → x ≤ℚ whole (pos 0) → size x ≡ neg_ℚ x
unfolding size
size_below x h = ap₂ ◌+ℚ◌ (positive_below x h) (negative_below x h) ∙ ring_ℚ (x ∷ []) (number (pos 0) ⊞ negated v0) (negated v0) refl

at_most_size : (x : ℚ) → (x ≤ℚ size x) × (neg_ℚ x ≤ℚ size x)
unfolding size
at_most_size x =
    let two = parts_ℚ x in (
      ≤ℚ_from x (positive_ℚ x +ℚ negative_ℚ x)
          (subst (λ z. whole (pos 0) ≤ℚ z) (ring_by_ℚ (x ∷ positive_ℚ x ∷ negative_ℚ x ∷ []) (v2 ⊞ v2) ((v1 ⊞ v2) ⊟ v0) (number (pos 1)) v0 (v1 ⊟ v2) refl two.0) (twice (negative_ℚ x) two.2)),
      ≤ℚ_from (neg_ℚ x) (positive_ℚ x +ℚ negative_ℚ x)
          (subst (λ z. whole (pos 0) ≤ℚ z) (ring_by_ℚ (x ∷ positive_ℚ x ∷ negative_ℚ x ∷ []) (v1 ⊞ v1) ((v1 ⊞ v2) ⊟ negated v0) (negated (number (pos 1))) v0 (v1 ⊟ v2) refl two.0) (twice (positive_ℚ x) two.1)),
    )
  where
    twice : (y : ℚ) → whole (pos 0) ≤ℚ y → whole (pos 0) ≤ℚ (y +ℚ y)
    twice y h = subst (λ z. z ≤ℚ (y +ℚ y)) (ring_ℚ [] (number (pos 0) ⊞ number (pos 0)) (number (pos 0)) refl) (≤ℚ_add2 (whole (pos 0)) y (whole (pos 0)) y h h)

size_some : (x : ℚ) → x ≢ whole (pos 0) → whole (pos 0) <ℚ size x
size_some x h k = by (le_ℚ (whole (pos 0)) x) refl
  where
    by : (t : Bool) → le_ℚ (whole (pos 0)) x ≡ t → ⊥
    by true e =
        let up : whole (pos 0) ≤ℚ x = record { le = e } in
        h (≤ℚ_antisym x (whole (pos 0)) (subst (λ z. z ≤ℚ whole (pos 0)) (size_above x up) k) up)
    by false e =
        let down = ≤ℚ_total (whole (pos 0)) x e in
        h (≤ℚ_antisym x (whole (pos 0)) down
        (≤ℚ_from (whole (pos 0)) x (subst (λ z. whole (pos 0) ≤ℚ z) (ring_ℚ (x ∷ []) (number (pos 0) ⊟ negated v0) (v0 ⊟ number (pos 0)) refl)
        ((≤ℚ-minus (neg_ℚ x) (whole (pos 0))).0 (subst (λ z. z ≤ℚ whole (pos 0)) (size_below x down) k)))))

-- the step t moves r by less than its size, unless r is 0
abbrev IsShort : ℚ → ℚ → ℚ → Type 0
IsShort t r f = (r ≡ whole (pos 0)) ⊎ ((t *ℚ size f) ≤ℚ size r)

-- the part of the size of r that a change by f leaves
abbrev ratio : ℚ → ℚ → ℚ
ratio r f = size r *ℚ inverse (size f +ℚ whole (pos 1))

-- a step for one number
one_step : (r f : ℚ) → (t : ℚ) × (whole (pos 0) <ℚ t) × IsShort t r f
one_step r f = by (zero_or_not r)
  where
    one_some : whole (pos 0) <ℚ whole (pos 1)
    one_some h = one-zero (≤ℚ_antisym (whole (pos 1)) (whole (pos 0)) h (whole-le (pos 0) (pos 1) (omega (arith, ints))))

    wide : whole (pos 0) <ℚ (size f +ℚ whole (pos 1))
    wide h =
        one_some (≤ℚ_trans (whole (pos 1)) (size f +ℚ whole (pos 1)) (whole (pos 0))
        (≤ℚ_from (whole (pos 1)) (size f +ℚ whole (pos 1)) (subst (λ z. whole (pos 0) ≤ℚ z) (ring_ℚ (size f ∷ []) v0 ((v0 ⊞ number (pos 1)) ⊟ number (pos 1)) refl) (size_known f))) h)

    nonzero : size f +ℚ whole (pos 1) ≢ whole (pos 0)
    nonzero e = wide (same_le (size f +ℚ whole (pos 1)) (whole (pos 0)) e)

    known : whole (pos 0) ≤ℚ inverse (size f +ℚ whole (pos 1))
    known = inverse_not_negative (size f +ℚ whole (pos 1)) (le_from_not (whole (pos 0)) (size f +ℚ whole (pos 1)) wide)

    whole_step : ratio r f *ℚ (size f +ℚ whole (pos 1)) ≡ size r
    whole_step = ring_by_ℚ (size r ∷ inverse (size f +ℚ whole (pos 1)) ∷ (size f +ℚ whole (pos 1)) ∷ []) ((v0 ⊠ v1) ⊠ v2) v0 v0 (v2 ⊠ v1) (number (pos 1)) refl (*ℚ-inverse (size f +ℚ whole (pos 1)) nonzero)

    some : r ≢ whole (pos 0) → whole (pos 0) <ℚ ratio r f
    some h k =
        size_some r h
        (subst (λ z. z ≤ℚ whole (pos 0)) (ring_ℚ (ratio r f ∷ (size f +ℚ whole (pos 1)) ∷ []) (v1 ⊠ v0) (v0 ⊠ v1) refl ∙ whole_step)
        (subst (λ z. ((size f +ℚ whole (pos 1)) *ℚ ratio r f) ≤ℚ z) (ring_ℚ ((size f +ℚ whole (pos 1)) ∷ []) (v0 ⊠ number (pos 0)) (number (pos 0)) refl)
        (≤ℚ_mul (ratio r f) (whole (pos 0)) (size f +ℚ whole (pos 1)) (le_from_not (whole (pos 0)) (size f +ℚ whole (pos 1)) wide) k)))

    short : (ratio r f *ℚ size f) ≤ℚ size r
    short =
        subst (λ z. (ratio r f *ℚ size f) ≤ℚ z) whole_step
        (≤ℚ_from (ratio r f *ℚ size f) (ratio r f *ℚ (size f +ℚ whole (pos 1)))
        (subst (λ z. whole (pos 0) ≤ℚ z) (ring_ℚ (ratio r f ∷ size f ∷ []) v0 (v0 ⊠ (v1 ⊞ number (pos 1)) ⊟ v0 ⊠ v1) refl) (product_not_negative (size r) (inverse (size f +ℚ whole (pos 1))) (size_known r) known)))

    by : (r ≡ whole (pos 0)) ⊎ (r ≢ whole (pos 0)) → (t : ℚ) × (whole (pos 0) <ℚ t) × IsShort t r f
    by (inl e) = (whole (pos 1), one_some, inl e)
    by (inr h) = (ratio r f, some h, inr short)

-- a shorter step is one too
shorter : (s t r f : ℚ) → s ≤ℚ t → IsShort t r f → IsShort s r f
shorter s t r f h (inl e) = inl e
shorter s t r f h (inr k) =
    inr (≤ℚ_trans (s *ℚ size f) (t *ℚ size f) (size r) (turned (≤ℚ_mul s t (size f) (size_known f) h)) k)
  where
    turn : (x : ℚ) → size f *ℚ x ≡ x *ℚ size f
    turn x = ring_ℚ (size f ∷ x ∷ []) (v0 ⊠ v1) (v1 ⊠ v0) refl

    turned : (size f *ℚ s) ≤ℚ (size f *ℚ t) → (s *ℚ size f) ≤ℚ (t *ℚ size f)
    turned h = subst (λ z. z ≤ℚ (t *ℚ size f)) (turn s) (subst (λ z. (size f *ℚ s) ≤ℚ z) (turn t) h)

-- and so there is one for all rows
all_steps : (n : ℕ) (r f : ℕ → ℚ) → (t : ℚ) × (whole (pos 0) <ℚ t) × ((i : ℕ) → i < n → IsShort t (r i) (f i))
all_steps zero r f = let step = one_step (r 0) (f 0) in (step.0, step.1, λ i l. absurd (omega (arith, l)))
all_steps (suc n) r f = join (all_steps n r f) (one_step (r n) (f n))
  where
    both : (t : ℚ) → ((i : ℕ) → i < n → IsShort t (r i) (f i)) → IsShort t (r n) (f n) → (i : ℕ) → i < suc n → IsShort t (r i) (f i)
    both t h k i l = by (cases_lt i n)
      where
        by : (i < n) ⊎ (n ≤ i) → IsShort t (r i) (f i)
        by (inl m) = h i m
        by (inr m) =
            let here : n ≡ i = omega (arith, l, m) in
            subst (λ j. IsShort t (r j) (f j)) here k

    join : (t : ℚ) × (whole (pos 0) <ℚ t) × ((i : ℕ) → i < n → IsShort t (r i) (f i)) → (s : ℚ) × (whole (pos 0) <ℚ s) × IsShort s (r n) (f n)
        → (t : ℚ) × (whole (pos 0) <ℚ t) × ((i : ℕ) → i < suc n → IsShort t (r i) (f i))
    join first last = by (le_ℚ first.0 last.0) refl
      where
        by : (u : Bool) → le_ℚ first.0 last.0 ≡ u → (t : ℚ) × (whole (pos 0) <ℚ t) × ((i : ℕ) → i < suc n → IsShort t (r i) (f i))
        by true e = (first.0, first.1, both first.0 first.2 (shorter first.0 last.0 (r n) (f n) (record { le = e }) last.2))
        by false e = (last.0, last.1, both last.0 (λ i l. shorter last.0 first.0 (r i) (f i) (≤ℚ_total first.0 last.0 e) (first.2 i l)) last.2)

-- a short step turns no sign
stays_above : (t r f : ℚ) → whole (pos 0) ≤ℚ t → IsShort t r f → whole (pos 0) <ℚ r → whole (pos 0) ≤ℚ (r +ℚ (t *ℚ f))
stays_above t r f known (inl e) h = absurd (h (same_le r (whole (pos 0)) e))
stays_above t r f known (inr k) h =
    let up = le_from_not (whole (pos 0)) r h in
    let below = ≤ℚ_mul (neg_ℚ f) (size f) t known (at_most_size f).1 in
    subst (λ z. whole (pos 0) ≤ℚ z) (ring_ℚ (t ∷ r ∷ f ∷ []) (v1 ⊟ v0 ⊠ negated v2) (v1 ⊞ v0 ⊠ v2) refl)
    ((≤ℚ-minus (t *ℚ neg_ℚ f) r).0 (≤ℚ_trans (t *ℚ neg_ℚ f) (t *ℚ size f) r below (subst (λ z. (t *ℚ size f) ≤ℚ z) (size_above r up) k)))

stays_below : (t r f : ℚ) → whole (pos 0) ≤ℚ t → IsShort t r f → r <ℚ whole (pos 0) → (r +ℚ (t *ℚ f)) ≤ℚ whole (pos 0)
stays_below t r f known (inl e) h = absurd (h (same_le (whole (pos 0)) r (sym e)))
stays_below t r f known (inr k) h =
    let down = le_from_not r (whole (pos 0)) h in
    let above = ≤ℚ_mul f (size f) t known (at_most_size f).0 in
    ≤ℚ_from (r +ℚ (t *ℚ f)) (whole (pos 0))
    (subst (λ z. whole (pos 0) ≤ℚ z) (ring_ℚ (t ∷ r ∷ f ∷ []) (negated v1 ⊟ v0 ⊠ v2) (number (pos 0) ⊟ (v1 ⊞ v0 ⊠ v2)) refl)
    ((≤ℚ-minus (t *ℚ f) (neg_ℚ r)).0 (≤ℚ_trans (t *ℚ f) (t *ℚ size f) (neg_ℚ r) above (subst (λ z. (t *ℚ size f) ≤ℚ z) (size_below r down) k))))

-- ---- along an edge of the fit

module _ (p : Sample) (at : ℕ → ℕ) (a : ℕ → ℕ → ℚ) (theta : ℚ) (b e : ℕ → ℚ) (j : ℕ) (basis : IsBasis p at a) (alone : FitsBasisAlone p at b) (d : IsDual p theta b e) (within : j < p.columns) where
  module _ (sign : ℚ) where
    -- along it the residual of the row at position j rises by the sign, and those of the others stay
    abbrev edge : ℕ → ℚ
    edge k = neg_ℚ sign *ℚ a k j

    change_is : (m : ℕ) → m < p.columns → residual_change p edge (at m) ≡ sign *ℚ delta m j
    change_is m l =
        ap neg_ℚ
        (sum_ℚ-same p.columns (λ k. p.x (at m) k *ℚ (neg_ℚ sign *ℚ a k j)) (λ k. neg_ℚ sign *ℚ (p.x (at m) k *ℚ a k j)) (λ k h. ring_ℚ (p.x (at m) k ∷ sign ∷ a k j ∷ []) (v0 ⊠ (negated v1 ⊠ v2)) (negated v1 ⊠ (v0 ⊠ v2)) refl)
        ∙ sum_ℚ-scale p.columns (neg_ℚ sign) (λ k. p.x (at m) k *ℚ a k j)
        ∙ ap (λ z. neg_ℚ sign *ℚ z) (basis.inverse.left m j l within))
        ∙ ring_ℚ (sign ∷ delta m j ∷ []) (negated (negated v0 ⊠ v1)) (v0 ⊠ v1) refl

    step : (t : ℚ) × (whole (pos 0) <ℚ t) × ((i : ℕ) → i < p.rows → IsShort t (residual p b i) (residual_change p edge i))
    step = all_steps p.rows (residual p b) (residual_change p edge)

    abbrev other : ℕ → ℚ
    other k = b k +ℚ (step.0 *ℚ edge k)

    known : whole (pos 0) ≤ℚ step.0
    known = le_from_not (whole (pos 0)) step.0 step.1

    -- the residual of a row of the basis
    basic : (m : ℕ) → m < p.columns → residual p other (at m) ≡ step.0 *ℚ (sign *ℚ delta m j)
    basic m l =
        moved p b edge step.0 (at m) ∙ ap₂ (λ x y. x +ℚ (step.0 *ℚ y)) (alone.fitted m l) (change_is m l)
        ∙ ring_ℚ ((step.0 *ℚ (sign *ℚ delta m j)) ∷ []) (number (pos 0) ⊞ v0) v0 refl

    own : residual p other (at j) ≡ step.0 *ℚ sign
    own = basic j within ∙ ap (λ z. step.0 *ℚ (sign *ℚ z)) (if-same j j (whole (pos 1)) (whole (pos 0)) refl) ∙ ring_ℚ (step.0 ∷ sign ∷ []) (v0 ⊠ (v1 ⊠ number (pos 1))) (v0 ⊠ v1) refl

    -- the value of the row at j times its residual is its loss
    module _ (priced : e (at j) *ℚ (step.0 *ℚ sign) ≡ (up_cost p theta (at j) *ℚ positive_ℚ (step.0 *ℚ sign)) +ℚ (down_cost p theta (at j) *ℚ negative_ℚ (step.0 *ℚ sign))) where
      abbrev IsPriced : ℕ → Type 0
      IsPriced i = e i *ℚ residual p other i ≡ row_loss p theta other i

      of_basis : (m : ℕ) → m < p.columns → IsPriced (at m)
      of_basis m l = by (m == j) refl
        where
          by : (t : Bool) → (m == j) ≡ t → IsPriced (at m)
          by true h =
              subst (λ k. IsPriced (at k)) (sym (eqb-true m j h))
              (ap (λ z. e (at j) *ℚ z) own ∙ priced ∙ ap (λ z. (up_cost p theta (at j) *ℚ positive_ℚ z) +ℚ (down_cost p theta (at j) *ℚ negative_ℚ z)) (sym own))
          by false h =
              let none : residual p other (at m) ≡ whole (pos 0) =
              basic m l ∙ ap (λ z. step.0 *ℚ (sign *ℚ z)) (if-other m j (whole (pos 1)) (whole (pos 0)) (eqb-false m j h))
              ∙ ring_ℚ (step.0 ∷ sign ∷ []) (v0 ⊠ (v1 ⊠ number (pos 0))) (number (pos 0)) refl in
              ap (λ z. e (at m) *ℚ z) none
              ∙ ring_ℚ (e (at m) ∷ up_cost p theta (at m) ∷ []) (v0 ⊠ number (pos 0)) (v1 ⊠ number (pos 0)) refl ∙ ap (λ z. up_cost p theta (at m) *ℚ z) (sym none)
              ∙ sym (cost_above (up_cost p theta (at m)) (down_cost p theta (at m)) (residual p other (at m)) (same_le (whole (pos 0)) (residual p other (at m)) (sym none)))

      c : IsComplementary p theta (residual p b) e
      c = complements p theta b e d

      each : (i : ℕ) → i < p.rows → IsPriced i
      each i l = by (le_ℚ (residual p b i) (whole (pos 0))) (le_ℚ (whole (pos 0)) (residual p b i)) refl refl
        where
          rises : whole (pos 0) <ℚ residual p b i → IsPriced i
          rises h =
              ap (λ z. z *ℚ residual p other i) (c.above i l h)
              ∙ sym (cost_above (up_cost p theta i) (down_cost p theta i) (residual p other i)
              (subst (λ z. whole (pos 0) ≤ℚ z) (sym (moved p b edge step.0 i)) (stays_above step.0 (residual p b i) (residual_change p edge i) known (step.2 i l) h)))

          falls : residual p b i <ℚ whole (pos 0) → IsPriced i
          falls h =
              ap (λ z. z *ℚ residual p other i) (c.below i l h)
              ∙ ring_ℚ (down_cost p theta i ∷ residual p other i ∷ []) (negated v0 ⊠ v1) (v0 ⊠ negated v1) refl
              ∙ sym (cost_below (up_cost p theta i) (down_cost p theta i) (residual p other i)
              (subst (λ z. z ≤ℚ whole (pos 0)) (sym (moved p b edge step.0 i)) (stays_below step.0 (residual p b i) (residual_change p edge i) known (step.2 i l) h)))

          by : (s t : Bool) → le_ℚ (residual p b i) (whole (pos 0)) ≡ s → le_ℚ (whole (pos 0)) (residual p b i) ≡ t → IsPriced i
          by false t f g = rises (not_le (residual p b i) (whole (pos 0)) f)
          by true false f g = falls (not_le (whole (pos 0)) (residual p b i) g)
          by true true f g =
              let found = alone.alone i l (≤ℚ_antisym (residual p b i) (whole (pos 0)) (record { le = f }) (record { le = g })) in
              subst IsPriced (sym found.2) (of_basis found.0 found.1)

      others : sign ≢ whole (pos 0) → (c : ℕ → ℚ) × (loss p theta c ≤ℚ loss p theta b) × ¬ ((k : ℕ) → k < p.columns → c k ≡ b k)
      others some = (
        other,
        minimum p theta other e (slack p theta other e d.feasible each) b,
        λ same.
            some (zero_from_product step.0 sign
            (sym own
            ∙ ap (λ z. p.y (at j) -ℚ z) (sum_ℚ-same p.columns (λ k. p.x (at j) k *ℚ other k) (λ k. p.x (at j) k *ℚ b k) (λ k l. ap (λ z. p.x (at j) k *ℚ z) (same k l)))
            ∙ alone.fitted j within)
            (λ none. step.1 (same_le step.0 (whole (pos 0)) none))),
      )

  -- a value at its upper bound lets the row rise, and one at its lower bound lets it fall
  either : (e (at j) ≡ up_cost p theta (at j)) ⊎ (e (at j) ≡ neg_ℚ (down_cost p theta (at j))) → (c : ℕ → ℚ) × (loss p theta c ≤ℚ loss p theta b) × ¬ ((k : ℕ) → k < p.columns → c k ≡ b k)
  either (inl h) =
      let t = (step (whole (pos 1))).0 in
      others (whole (pos 1))
      (ap (λ z. z *ℚ (t *ℚ whole (pos 1))) h
      ∙ sym (cost_above (up_cost p theta (at j)) (down_cost p theta (at j)) (t *ℚ whole (pos 1)) (subst (λ z. whole (pos 0) ≤ℚ z) (ring_ℚ (t ∷ []) v0 (v0 ⊠ number (pos 1)) refl) (known (whole (pos 1))))))
      one-zero
  either (inr h) =
      let t = (step (neg_ℚ (whole (pos 1)))).0 in
      others (neg_ℚ (whole (pos 1)))
      (ap (λ z. z *ℚ (t *ℚ neg_ℚ (whole (pos 1)))) h
      ∙ ring_ℚ (down_cost p theta (at j) ∷ t ∷ []) (negated v0 ⊠ (v1 ⊠ negated (number (pos 1)))) (v0 ⊠ negated (v1 ⊠ negated (number (pos 1)))) refl
      ∙ sym (cost_below (up_cost p theta (at j)) (down_cost p theta (at j)) (t *ℚ neg_ℚ (whole (pos 1)))
      (≤ℚ_from (t *ℚ neg_ℚ (whole (pos 1))) (whole (pos 0)) (subst (λ z. whole (pos 0) ≤ℚ z) (ring_ℚ (t ∷ []) v0 (number (pos 0) ⊟ v0 ⊠ negated (number (pos 1))) refl) (known (neg_ℚ (whole (pos 1))))))))
      (λ e. one-zero (ring_by_ℚ [] (number (pos 1)) (number (pos 0)) (negated (number (pos 1))) (negated (number (pos 1))) (number (pos 0)) refl e))

pub others_lose : OthersLoseAsLittle
others_lose p at a theta b e j basis alone d within bound = either p at a theta b e j basis alone d within bound
