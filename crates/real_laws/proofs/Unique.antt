-- Where no other coefficients of an ordered ring lose as little.
use Rattle.std.specs.Prelude.{◌≡◌, ◌≢◌, ◌⊎◌, ℕ, zero, suc, ◌<◌, ◌≤◌, Bool, true, false, ◌==◌, [], ◌∷◌, pos}
use Rattle.std.proofs.Common.{arith, refl, sym, ap, ap₂, subst, ◌∙◌, inl, inr}
use Rattle.std.proofs.lemmas.Bool.{cases_lt, eqb-true, eqb-false}
use Rattle.rational_laws.specs.Solver.{number, negated, ◌⊞◌, ◌⊟◌, ◌⊠◌, v0, v1, v2, v3, v4, v5, v6, v7, v8}
use Rattle.rational_laws.specs.Rational.{ℚ, ◌-ℚ◌, ◌*ℚ◌, neg_ℚ, inverse, whole, ◌≤ℚ◌}
use Rattle.rational_laws.proofs.RationalLaws.{ring_by_ℚ, *ℚ-inverse, ≤ℚ_refl}
use Rattle.rational_laws.proofs.Inverses.{zero_or_not}
use Rattle.rational_laws.proofs.OrderLaws.{≤ℚ-minus, le_from_not, inverse_not_negative}
use Rattle.rational_laws.specs.Terms.{delta}
use Rattle.rational_laws.proofs.TermLaws.{if-same, if-other}
use Rattle.loss_model.specs.Strict.{◌<ℚ◌}
use Rattle.loss_model.specs.Sample.{Sample, up_cost, down_cost}
use Rattle.loss_model.specs.Dual.{IsDual}
use Rattle.loss_model.proofs.Quotients.{positive_gap}
use Rattle.basis_model.specs.Basis.{IsBasis}
use Rattle.real_laws.specs.OrderedRings.{OrderedRing, total, positive_in, negative_in}
use Rattle.real_laws.specs.Losses.{fitted_in, residual_in, row_loss_in, loss_in, MinimisesIn, as_numbers}
use Rattle.real_laws.specs.Laws.{MinimumIsUniqueIn, IsStrictlyBetween, UniqueBetweenIn}
use Rattle.real_laws.proofs.RingLaws.{none, less, solved, solved_by, from_difference, difference, not_negative_sum, kept, total-same, total-le, total-mix, total-scale, total-swap, fraction-neg, fraction-total, parts_in}
use Rattle.real_laws.proofs.Minima.{cost_same, loss_same, row_bounded, total_of_residuals, shown}

module _ (R : OrderedRing) where
  -- what is at most another, x + z of them at most y + w
  cancelled : (x y z w : R.Number) → R.at_most x y → R.at_most (R.sum y w) (R.sum x z) → R.at_most w z
  cancelled x y z w h k =
      from_difference R w z
      (subst (λ v. R.at_most (none R) v) (solved R (x ∷ y ∷ z ∷ w ∷ []) (((v0 ⊞ v2) ⊟ (v1 ⊞ v3)) ⊞ (v1 ⊟ v0)) (v2 ⊟ v3) refl)
      (not_negative_sum R (less R (R.sum x z) (R.sum y w)) (less R y x) (difference R (R.sum y w) (R.sum x z) k) (difference R x y h)))

  -- terms that are at most others, with a total that isn't less, are equal to them
  tight : (n : ℕ) (f g : ℕ → R.Number) → ((k : ℕ) → k < n → R.at_most (f k) (g k)) → R.at_most (total R n g) (total R n f) → (k : ℕ) → k < n → f k ≡ g k
  tight zero f g le all k l = absurd (omega (arith, l))
  tight (suc n) f g le all k l = by (λ others m. tight n f g (λ k l. le k (omega arith)) others k m) (cases_lt k n)
    where
      last : R.at_most (g n) (f n)
      last = cancelled (total R n f) (total R n g) (f n) (g n) (total-le R n f g (λ k l. le k (omega arith))) all

      others : R.at_most (total R n g) (total R n f)
      others =
          cancelled (f n) (g n) (total R n f) (total R n g) (le n (omega arith))
          (subst (λ z. R.at_most z (R.sum (f n) (total R n f))) (R.sum_comm (total R n g) (g n)) (subst (λ z. R.at_most (R.sum (total R n g) (g n)) z) (R.sum_comm (total R n f) (f n)) all))

      by : (R.at_most (total R n g) (total R n f) → k < n → f k ≡ g k) → (k < n) ⊎ (n ≤ k) → f k ≡ g k
      by earlier (inl m) = earlier others m
      by earlier (inr m) =
          let here : n ≡ k = omega (arith, l, m) in
          subst (λ j. f j ≡ g j) here (R.antisymmetric (f n) (g n) (le n (omega arith)) last)

  -- two numbers that aren't negative, with the sum 0
  first_zero : (x y : R.Number) → R.at_most (none R) x → R.at_most (none R) y → R.sum x y ≡ none R → x ≡ none R
  first_zero x y h k e =
      R.antisymmetric x (none R)
      (subst (λ z. R.at_most x z) e (subst (λ z. R.at_most z (R.sum x y)) (solved R (x ∷ []) (v0 ⊞ number (pos 0)) v0 refl) (R.kept_by_sum (none R) y x k))) h

  -- a fraction that isn't 0 may be taken away from a product that is
  taken : (q : ℚ) (x : R.Number) → q ≢ whole (pos 0) → R.product (R.fraction q) x ≡ none R → x ≡ none R
  taken q x h e =
      solved_by R (R.fraction q ∷ R.fraction (inverse q) ∷ x ∷ []) v2 (v1 ⊠ (v0 ⊠ v2)) (negated v2) (v0 ⊠ v1) (number (pos 1)) refl
      (sym (R.fraction_product q (inverse q)) ∙ ap R.fraction (*ℚ-inverse q h))
      ∙ ap (R.product (R.fraction (inverse q))) e
      ∙ solved R (R.fraction (inverse q) ∷ []) (v0 ⊠ number (pos 0)) (number (pos 0)) refl

  -- and a positive one from both sides of an order
  taken_le : (q : ℚ) (x y : R.Number) → whole (pos 0) <ℚ q → R.at_most (R.product (R.fraction q) x) (R.product (R.fraction q) y) → R.at_most x y
  taken_le q x y h k =
      subst (λ z. R.at_most z y) (back x)
      (subst (λ z. R.at_most (R.product (R.fraction (inverse q)) (R.product (R.fraction q) x)) z) (back y)
      (kept R (R.product (R.fraction q) x) (R.product (R.fraction q) y) (R.fraction (inverse q)) known k))
    where
      some : q ≢ whole (pos 0)
      some e = h (subst (λ z. z ≤ℚ whole (pos 0)) (sym e) (≤ℚ_refl (whole (pos 0))))

      known : R.at_most (none R) (R.fraction (inverse q))
      known = R.fraction_order (whole (pos 0)) (inverse q) (inverse_not_negative q (le_from_not (whole (pos 0)) q h))

      back : (x : R.Number) → R.product (R.fraction (inverse q)) (R.product (R.fraction q) x) ≡ x
      back x =
          solved_by R (R.fraction q ∷ R.fraction (inverse q) ∷ x ∷ []) (v1 ⊠ (v0 ⊠ v2)) v2 v2 (v0 ⊠ v1) (number (pos 1)) refl
          (sym (R.fraction_product q (inverse q)) ∙ ap R.fraction (*ℚ-inverse q some))

  fraction-less : (x y : ℚ) → R.fraction (x -ℚ y) ≡ less R (R.fraction x) (R.fraction y)
  fraction-less x y = R.fraction_sum x (neg_ℚ y) ∙ ap (R.sum (R.fraction x)) (fraction-neg R y)

  -- ---- the unit matrix

  unit-past : (n k : ℕ) (c : ℕ → R.Number) → n ≤ k → total R n (λ l. R.product (R.fraction (delta k l)) (c l)) ≡ none R
  unit-past zero k c h = refl
  unit-past (suc n) k c h =
      let other : k ≢ n = λ e. absurd (omega (arith, h, e)) in
      ap₂ R.sum (unit-past n k c (omega (arith, h))) (ap (λ q. R.product (R.fraction q) (c n)) (if-other k n (whole (pos 1)) (whole (pos 0)) other))
      ∙ solved R (c n ∷ []) (number (pos 0) ⊞ number (pos 0) ⊠ v0) (number (pos 0)) refl

  unit-there : (n k : ℕ) (c : ℕ → R.Number) → k < n → total R n (λ l. R.product (R.fraction (delta k l)) (c l)) ≡ c k
  unit-there zero k c h = absurd (omega (arith, h))
  unit-there (suc n) k c h = by (λ l. unit-there n k c l) (k == n) refl
    where
      by : (k < n → total R n (λ l. R.product (R.fraction (delta k l)) (c l)) ≡ c k) → (t : Bool) → (k == n) ≡ t → total R (suc n) (λ l. R.product (R.fraction (delta k l)) (c l)) ≡ c k
      by earlier true e =
          let here : k ≡ n = eqb-true k n e in
          ap₂ R.sum (unit-past n k c (omega (arith, here))) (ap (λ q. R.product (R.fraction q) (c n)) (if-same k n (whole (pos 1)) (whole (pos 0)) here))
          ∙ solved R (c n ∷ []) (number (pos 0) ⊞ number (pos 1) ⊠ v0) v0 refl ∙ ap c (sym here)
      by earlier false e =
          let other : k ≢ n = eqb-false k n e in
          ap₂ R.sum (earlier (omega (arith, h, other))) (ap (λ q. R.product (R.fraction q) (c n)) (if-other k n (whole (pos 1)) (whole (pos 0)) other))
          ∙ solved R (c k ∷ c n ∷ []) (v0 ⊞ number (pos 0) ⊠ v1) v0 refl

  module _ (p : Sample) where
    -- coefficients are made of the fits of the rows of a basis
    recovered : (at : ℕ → ℕ) (a : ℕ → ℕ → ℚ) → IsBasis p at a → (c : ℕ → R.Number) (k : ℕ) → k < p.columns
        → total R p.columns (λ j. R.product (R.fraction (a k j)) (fitted_in R p c (at j))) ≡ c k
    recovered at a basis c k l =
        total-same R p.columns (λ j. R.product (R.fraction (a k j)) (fitted_in R p c (at j))) (λ j. total R p.columns (λ m. R.product (c m) (R.fraction (a k j *ℚ p.x (at j) m))))
        (λ j h. sym (total-scale R p.columns (R.fraction (a k j)) (λ m. R.product (R.fraction (p.x (at j) m)) (c m)))
        ∙ total-same R p.columns (λ m. R.product (R.fraction (a k j)) (R.product (R.fraction (p.x (at j) m)) (c m))) (λ m. R.product (c m) (R.fraction (a k j *ℚ p.x (at j) m)))
        (λ m g. solved R (R.fraction (a k j) ∷ R.fraction (p.x (at j) m) ∷ c m ∷ []) (v0 ⊠ (v1 ⊠ v2)) (v2 ⊠ (v0 ⊠ v1)) refl ∙ ap (R.product (c m)) (sym (R.fraction_product (a k j) (p.x (at j) m)))))
        ∙ total-swap R p.columns p.columns (λ j m. R.product (c m) (R.fraction (a k j *ℚ p.x (at j) m)))
        ∙ total-same R p.columns (λ m. total R p.columns (λ j. R.product (c m) (R.fraction (a k j *ℚ p.x (at j) m)))) (λ m. R.product (R.fraction (delta k m)) (c m))
        (λ m g. total-scale R p.columns (c m) (λ j. R.fraction (a k j *ℚ p.x (at j) m))
        ∙ ap (R.product (c m)) (sym (fraction-total R p.columns (λ j. a k j *ℚ p.x (at j) m)) ∙ ap R.fraction (basis.inverse.right k m l g))
        ∙ R.product_comm (c m) (R.fraction (delta k m)))
        ∙ unit-there p.columns k c l

    -- so coefficients with the same residuals there are the same
    decided : (at : ℕ → ℕ) (a : ℕ → ℕ → ℚ) → IsBasis p at a → (b c : ℕ → R.Number) → ((j : ℕ) → j < p.columns → residual_in R p c (at j) ≡ residual_in R p b (at j))
        → (k : ℕ) → k < p.columns → c k ≡ b k
    decided at a basis b c same k l =
        sym (recovered at a basis c k l)
        ∙ total-same R p.columns (λ j. R.product (R.fraction (a k j)) (fitted_in R p c (at j))) (λ j. R.product (R.fraction (a k j)) (fitted_in R p b (at j)))
        (λ j h. ap (R.product (R.fraction (a k j)))
        (solved_by R (R.fraction (p.y (at j)) ∷ fitted_in R p c (at j) ∷ fitted_in R p b (at j) ∷ []) v1 v2 (negated (number (pos 1))) (v0 ⊟ v1) (v0 ⊟ v2) refl (same j h)))
        ∙ recovered at a basis b k l

    -- ---- complementary slackness

    module _ (theta : ℚ) (b e : ℕ → ℚ) (d : IsDual p theta b e) (c : ℕ → R.Number) (least : R.at_most (loss_in R p (R.fraction theta) c) (loss_in R p (R.fraction theta) (as_numbers R p b))) where
      row_slack : (i : ℕ) → i < p.rows → R.product (R.fraction (e i)) (residual_in R p c i) ≡ row_loss_in R p (R.fraction theta) c i
      row_slack =
          tight p.rows (λ i. R.product (R.fraction (e i)) (residual_in R p c i)) (row_loss_in R p (R.fraction theta) c) (row_bounded R p theta c e d.feasible)
          (subst (λ z. R.at_most (loss_in R p (R.fraction theta) c) z) (loss_same R p theta b ∙ ap R.fraction d.equal ∙ sym (total_of_residuals R p theta c e d.feasible)) least)

      above : ℕ → R.Number
      above i = R.product (R.fraction (up_cost p theta i -ℚ e i)) (positive_in R (residual_in R p c i))

      below : ℕ → R.Number
      below i = R.product (R.fraction (e i -ℚ neg_ℚ (down_cost p theta i))) (negative_in R (residual_in R p c i))

      -- what the bounds leave of the parts of a residual comes to nothing
      sums : (i : ℕ) → i < p.rows → R.sum (above i) (below i) ≡ none R
      unfolding above below
      sums i l =
          let r = residual_in R p c i in
          let u = R.fraction (up_cost p theta i) in
          let v = R.fraction (down_cost p theta i) in
          let parted : R.product (R.fraction (e i)) (less R (positive_in R r) (negative_in R r)) ≡ R.sum (R.product u (positive_in R r)) (R.product v (negative_in R r)) =
          ap (R.product (R.fraction (e i))) (sym (parts_in R r)) ∙ row_slack i l
          ∙ ap₂ (λ x y. R.sum (R.product x (positive_in R r)) (R.product y (negative_in R r))) (sym (cost_same R p (p.up0 i) (p.up1 i) theta)) (sym (cost_same R p (p.down0 i) (p.down1 i) theta)) in
          ap₂ (λ x y. R.sum (R.product x (positive_in R r)) (R.product y (negative_in R r)))
          (fraction-less (up_cost p theta i) (e i)) (fraction-less (e i) (neg_ℚ (down_cost p theta i)) ∙ ap (λ z. less R (R.fraction (e i)) z) (fraction-neg R (down_cost p theta i)))
          ∙ solved_by R (u ∷ v ∷ R.fraction (e i) ∷ positive_in R r ∷ negative_in R r ∷ []) ((v0 ⊟ v2) ⊠ v3 ⊞ (v2 ⊟ negated v1) ⊠ v4) (number (pos 0)) (negated (number (pos 1))) (v2 ⊠ (v3 ⊟ v4)) (v0 ⊠ v3 ⊞ v1 ⊠ v4) refl parted

      above_known : (i : ℕ) → i < p.rows → R.at_most (none R) (above i)
      unfolding above
      above_known i l =
          R.kept_by_product (R.fraction (up_cost p theta i -ℚ e i)) (positive_in R (residual_in R p c i))
          (R.fraction_order (whole (pos 0)) (up_cost p theta i -ℚ e i) ((≤ℚ-minus (e i) (up_cost p theta i)).0 (d.feasible.upper i l))) (R.left_at_most (none R) (residual_in R p c i))

      below_known : (i : ℕ) → i < p.rows → R.at_most (none R) (below i)
      unfolding below
      below_known i l =
          R.kept_by_product (R.fraction (e i -ℚ neg_ℚ (down_cost p theta i))) (negative_in R (residual_in R p c i))
          (R.fraction_order (whole (pos 0)) (e i -ℚ neg_ℚ (down_cost p theta i)) ((≤ℚ-minus (neg_ℚ (down_cost p theta i)) (e i)).0 (d.feasible.lower i l))) (R.left_at_most (none R) (R.minus (residual_in R p c i)))

      differs : (x y : ℚ) → x ≢ y → y -ℚ x ≢ whole (pos 0)
      differs x y h e = h (ring_by_ℚ (x ∷ y ∷ []) v0 v1 (negated (number (pos 1))) (v1 ⊟ v0) (number (pos 0)) refl e)

      -- a row that isn't at its upper bound isn't above the fit, and one that isn't at its lower isn't below
      not_above : (i : ℕ) → i < p.rows → e i ≢ up_cost p theta i → positive_in R (residual_in R p c i) ≡ none R
      unfolding above
      not_above i l h =
          taken (up_cost p theta i -ℚ e i) (positive_in R (residual_in R p c i)) (differs (e i) (up_cost p theta i) h)
          (first_zero (above i) (below i) (above_known i l) (below_known i l) (sums i l))

      not_below : (i : ℕ) → i < p.rows → e i ≢ neg_ℚ (down_cost p theta i) → negative_in R (residual_in R p c i) ≡ none R
      unfolding below
      not_below i l h =
          taken (e i -ℚ neg_ℚ (down_cost p theta i)) (negative_in R (residual_in R p c i)) (differs (neg_ℚ (down_cost p theta i)) (e i) (λ s. h (sym s)))
          (first_zero (below i) (above i) (below_known i l) (above_known i l) (R.sum_comm (below i) (above i) ∙ sums i l))

    neither : (r : R.Number) → positive_in R r ≡ none R → negative_in R r ≡ none R → r ≡ none R
    neither r h k = parts_in R r ∙ ap₂ (λ x y. less R x y) h k ∙ solved R [] (number (pos 0) ⊟ number (pos 0)) (number (pos 0)) refl

    -- ---- three quantiles

    between : (lo hi theta : R.Number) (c : ℕ → R.Number)
        → R.product (less R hi lo) (loss_in R p theta c) ≡ R.sum (R.product (less R hi theta) (loss_in R p lo c)) (R.product (less R theta lo) (loss_in R p hi c))
    between lo hi theta c =
        sym (total-scale R p.rows (less R hi lo) (row_loss_in R p theta c))
        ∙ total-same R p.rows (λ i. R.product (less R hi lo) (row_loss_in R p theta c i)) (λ i. R.sum (R.product (less R hi theta) (row_loss_in R p lo c i)) (R.product (less R theta lo) (row_loss_in R p hi c i)))
        (λ i l. solved R (lo ∷ hi ∷ theta ∷ R.fraction (p.up0 i) ∷ R.fraction (p.up1 i) ∷ R.fraction (p.down0 i) ∷ R.fraction (p.down1 i) ∷ positive_in R (residual_in R p c i) ∷ negative_in R (residual_in R p c i) ∷ [])
        ((v1 ⊟ v0) ⊠ ((v3 ⊞ v4 ⊠ v2) ⊠ v7 ⊞ (v5 ⊞ v6 ⊠ v2) ⊠ v8))
        ((v1 ⊟ v2) ⊠ ((v3 ⊞ v4 ⊠ v0) ⊠ v7 ⊞ (v5 ⊞ v6 ⊠ v0) ⊠ v8) ⊞ (v2 ⊟ v0) ⊠ ((v3 ⊞ v4 ⊠ v1) ⊠ v7 ⊞ (v5 ⊞ v6 ⊠ v1) ⊠ v8)) refl)
        ∙ total-mix R p.rows (less R hi theta) (less R theta lo) (row_loss_in R p lo c) (row_loss_in R p hi c)

pub unique : (R : OrderedRing) → MinimumIsUniqueIn R
unique R p at a theta b e basis d inside c least =
    decided R p at a basis (as_numbers R p b) c
    (λ j l. zero c least j l ∙ sym (zero (as_numbers R p b) (R.reflexive (loss_in R p (R.fraction theta) (as_numbers R p b))) j l))
  where
    zero : (c : ℕ → R.Number) → R.at_most (loss_in R p (R.fraction theta) c) (loss_in R p (R.fraction theta) (as_numbers R p b)) → (j : ℕ) → j < p.columns → residual_in R p c (at j) ≡ none R
    zero c least j l =
        let within = basis.distinct.within j l in
        neither R p (residual_in R p c (at j)) (not_above R p theta b e d c least (at j) within (inside j l).below) (not_below R p theta b e d c least (at j) within (inside j l).above)

module _ (R : OrderedRing) (p : Sample) (lo hi : ℚ) (theta : R.Number) (b c : ℕ → R.Number) (strict : IsStrictlyBetween R lo hi theta) (at_lo : MinimisesIn R p (R.fraction lo) b) (at_hi : MinimisesIn R p (R.fraction hi) b)
    (least : R.at_most (loss_in R p theta c) (loss_in R p theta b)) where
  up : R.Number
  up = less R (R.fraction hi) theta

  down : R.Number
  down = less R theta (R.fraction lo)

  -- each distance is at least a positive fraction
  up_some : R.at_most (R.fraction (hi -ℚ strict.before)) up
  unfolding up
  up_some =
      from_difference R (R.fraction (hi -ℚ strict.before)) (less R (R.fraction hi) theta)
      (subst (λ z. R.at_most (none R) z)
      (solved R (R.fraction hi ∷ theta ∷ R.fraction strict.before ∷ []) (v2 ⊟ v1) ((v0 ⊟ v1) ⊟ (v0 ⊟ v2)) refl ∙ ap (λ z. less R (less R (R.fraction hi) theta) z) (sym (fraction-less R hi strict.before)))
      (difference R theta (R.fraction strict.before) strict.to))

  down_some : R.at_most (R.fraction (strict.after -ℚ lo)) down
  unfolding down
  down_some =
      from_difference R (R.fraction (strict.after -ℚ lo)) (less R theta (R.fraction lo))
      (subst (λ z. R.at_most (none R) z)
      (solved R (R.fraction lo ∷ theta ∷ R.fraction strict.after ∷ []) (v1 ⊟ v2) ((v1 ⊟ v0) ⊟ (v2 ⊟ v0)) refl ∙ ap (λ z. less R (less R theta (R.fraction lo)) z) (sym (fraction-less R strict.after lo)))
      (difference R (R.fraction strict.after) theta strict.from))

  not_negative : (x y : ℚ) → x <ℚ y → R.at_most (none R) (R.fraction (y -ℚ x))
  not_negative x y h = R.fraction_order (whole (pos 0)) (y -ℚ x) (le_from_not (whole (pos 0)) (y -ℚ x) (positive_gap x y h))

  up_known : R.at_most (none R) up
  up_known = R.transitive (none R) (R.fraction (hi -ℚ strict.before)) up (not_negative strict.before hi strict.below) up_some

  down_known : R.at_most (none R) down
  down_known = R.transitive (none R) (R.fraction (strict.after -ℚ lo)) down (not_negative lo strict.after strict.above) down_some

  -- a factor that is at least a positive fraction may be taken away from an order, where the other order is known
  freed : (q : ℚ) (w x y : R.Number) → whole (pos 0) <ℚ q → R.at_most (R.fraction q) w → R.at_most y x → R.at_most (R.product w x) (R.product w y) → R.at_most x y
  freed q w x y some h k l =
      taken_le R q x y some
      (from_difference R (R.product (R.fraction q) x) (R.product (R.fraction q) y)
      (subst (λ z. R.at_most (none R) z) (solved R (R.fraction q ∷ w ∷ x ∷ y ∷ []) ((v1 ⊠ v3 ⊟ v1 ⊠ v2) ⊞ (v1 ⊟ v0) ⊠ (v2 ⊟ v3)) (v0 ⊠ v3 ⊟ v0 ⊠ v2) refl)
      (not_negative_sum R (less R (R.product w y) (R.product w x)) (R.product (less R w (R.fraction q)) (less R x y)) (difference R (R.product w x) (R.product w y) l)
      (R.kept_by_product (less R w (R.fraction q)) (less R x y) (difference R (R.fraction q) w h) (difference R y x k)))))

  weighed : (c : ℕ → R.Number) → R.Number
  weighed c = R.sum (R.product up (loss_in R p (R.fraction lo) c)) (R.product down (loss_in R p (R.fraction hi) c))

  weighed_least : R.at_most (weighed c) (weighed b)
  unfolding weighed up down
  weighed_least =
      subst (λ z. R.at_most z (weighed b)) (between R p (R.fraction lo) (R.fraction hi) theta c)
      (subst (λ z. R.at_most (R.product (less R (R.fraction hi) (R.fraction lo)) (loss_in R p theta c)) z) (between R p (R.fraction lo) (R.fraction hi) theta b)
      (kept R (loss_in R p theta c) (loss_in R p theta b) (less R (R.fraction hi) (R.fraction lo))
      (subst (λ z. R.at_most (none R) z) (solved R (R.fraction lo ∷ R.fraction hi ∷ theta ∷ []) ((v1 ⊟ v2) ⊞ (v2 ⊟ v0)) (v1 ⊟ v0) refl) (not_negative_sum R up down up_known down_known)) least))

  pub least_lo : R.at_most (loss_in R p (R.fraction lo) c) (loss_in R p (R.fraction lo) b)
  unfolding weighed
  least_lo =
      freed (hi -ℚ strict.before) up (loss_in R p (R.fraction lo) c) (loss_in R p (R.fraction lo) b) (positive_gap strict.before hi strict.below) up_some (at_lo c)
      (cancelled R (R.product down (loss_in R p (R.fraction hi) b)) (R.product down (loss_in R p (R.fraction hi) c)) (R.product up (loss_in R p (R.fraction lo) b)) (R.product up (loss_in R p (R.fraction lo) c))
      (kept R (loss_in R p (R.fraction hi) b) (loss_in R p (R.fraction hi) c) down down_known (at_hi c))
      (subst (λ z. R.at_most z (R.sum (R.product down (loss_in R p (R.fraction hi) b)) (R.product up (loss_in R p (R.fraction lo) b)))) (turned c) (subst (λ z. R.at_most (weighed c) z) (turned b) weighed_least)))
    where
      turned : (c : ℕ → R.Number)
          → R.sum (R.product up (loss_in R p (R.fraction lo) c)) (R.product down (loss_in R p (R.fraction hi) c)) ≡ R.sum (R.product down (loss_in R p (R.fraction hi) c)) (R.product up (loss_in R p (R.fraction lo) c))
      turned c = R.sum_comm (R.product up (loss_in R p (R.fraction lo) c)) (R.product down (loss_in R p (R.fraction hi) c))

  pub least_hi : R.at_most (loss_in R p (R.fraction hi) c) (loss_in R p (R.fraction hi) b)
  unfolding weighed
  least_hi =
      freed (strict.after -ℚ lo) down (loss_in R p (R.fraction hi) c) (loss_in R p (R.fraction hi) b) (positive_gap lo strict.after strict.above) down_some (at_hi c)
      (cancelled R (R.product up (loss_in R p (R.fraction lo) b)) (R.product up (loss_in R p (R.fraction lo) c)) (R.product down (loss_in R p (R.fraction hi) b)) (R.product down (loss_in R p (R.fraction hi) c))
      (kept R (loss_in R p (R.fraction lo) b) (loss_in R p (R.fraction lo) c) up up_known (at_lo c)) weighed_least)

pub unique_between : (R : OrderedRing) → UniqueBetweenIn R
unique_between R p at a lo hi b e f basis d g theta strict inside c least =
    decided R p at a basis (as_numbers R p b) c
    (λ j l. zero c least j l ∙ sym (zero (as_numbers R p b) (R.reflexive (loss_in R p theta (as_numbers R p b))) j l))
  where
    zero : (c : ℕ → R.Number) → R.at_most (loss_in R p theta c) (loss_in R p theta (as_numbers R p b)) → (j : ℕ) → j < p.columns → residual_in R p c (at j) ≡ none R
    zero c least j l = neither R p (residual_in R p c (at j)) (up (same_or_not (e (at j)) (up_cost p lo (at j)))) (down (same_or_not (e (at j)) (neg_ℚ (down_cost p lo (at j)))))
      where
        within : at j < p.rows
        within = basis.distinct.within j l

        at_lo : R.at_most (loss_in R p (R.fraction lo) c) (loss_in R p (R.fraction lo) (as_numbers R p b))
        at_lo = least_lo R p lo hi theta (as_numbers R p b) c strict (shown R p lo b e d) (shown R p hi b f g) least

        at_hi : R.at_most (loss_in R p (R.fraction hi) c) (loss_in R p (R.fraction hi) (as_numbers R p b))
        at_hi = least_hi R p lo hi theta (as_numbers R p b) c strict (shown R p lo b e d) (shown R p hi b f g) least

        up : (e (at j) ≡ up_cost p lo (at j)) ⊎ (e (at j) ≢ up_cost p lo (at j)) → positive_in R (residual_in R p c (at j)) ≡ none R
        up (inl h) = not_above R p hi b f g c at_hi (at j) within (λ k. (inside j l).below (h, k))
        up (inr h) = not_above R p lo b e d c at_lo (at j) within h

        down : (e (at j) ≡ neg_ℚ (down_cost p lo (at j))) ⊎ (e (at j) ≢ neg_ℚ (down_cost p lo (at j))) → negative_in R (residual_in R p c (at j)) ≡ none R
        down (inl h) = not_below R p hi b f g c at_hi (at j) within (λ k. (inside j l).above (h, k))
        down (inr h) = not_below R p lo b e d c at_lo (at j) within h

        -- two fractions are the same or they aren't
        same_or_not : (x y : ℚ) → (x ≡ y) ⊎ (x ≢ y)
        same_or_not x y = by (zero_or_not (x -ℚ y))
          where
            by : (x -ℚ y ≡ whole (pos 0)) ⊎ (x -ℚ y ≢ whole (pos 0)) → (x ≡ y) ⊎ (x ≢ y)
            by (inl h) = inl (ring_by_ℚ (x ∷ y ∷ []) v0 v1 (number (pos 1)) (v0 ⊟ v1) (number (pos 0)) refl h)
            by (inr h) = inr (λ s. h (ring_by_ℚ (x ∷ y ∷ []) (v0 ⊟ v1) (number (pos 0)) (number (pos 1)) v0 v1 refl s))
