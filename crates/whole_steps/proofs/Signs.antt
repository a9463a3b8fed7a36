-- Signs and sizes of shares.
use Rattle.std.specs.Prelude.{◌≡◌, ◌≢◌, ℕ, zero, suc, ℤ, ◌≤◌, ◌<ℤ◌, ◌≤ℤ◌, ◌*◌, ◌*ℤ◌, neg_ℤ, unsigned_abs, true, false, [], ◌∷◌, pos, negsuc}
use Rattle.std.specs.Ordering.{is_lt, is_gt, nat_cmp, int_cmp, ordering_reverse}
use Rattle.std.specs.declared.cmp.Ordering.{Ordering}
use Rattle.std.specs.declared.cmp.Ordering.TheVariants.{Less, Equal, Greater}
use Rattle.std.proofs.Common.{refl, sym, ap, ap₂, subst, ◌∙◌, arith}
use Rattle.std.proofs.lemmas.Int.{ints}
use Rattle.rational_laws.specs.Solver.{number, negated, v0}
use Rattle.rational_laws.specs.Rational.{ℚ, neg_ℚ, whole, ◌≤ℚ◌}
use Rattle.rational_laws.proofs.RationalLaws.{ring_ℚ}
use Rattle.rational_laws.specs.Order.{cmp_ℚ}
use Rattle.rational_laws.proofs.OrderLaws.{by_cmp, cmp_ℚ-Less, cmp_ℚ-Equal, cmp_ℚ-Greater, cmp_ℚ-not_Less, cmp_ℚ-not_Greater, cmp_ℚ-quotient, ≤ℚ_neg}
use Rattle.loss_model.specs.declared.vertex.Side.{Side}
use Rattle.loss_model.specs.Spill.{abs_ℚ}
use Rattle.basis_model.specs.Perturbed.{turned, side_of}
use Rattle.basis_model.proofs.Ratios.{turned-zero}
use Rattle.pivot_model.proofs.Entering.{abs_above, abs_below}
use Rattle.whole_inverse.specs.Shares.{share}
use Rattle.whole_solution.proofs.Numbers.{share-neg, share_none, share_not_above, share_above, side_above, side_below}

-- ---- the sign of a share

pub share_below : (r d : ℤ) → pos 1 ≤ℤ d → r <ℤ pos 0 → ¬ (whole (pos 0) ≤ℚ share r d)
share_below r d h p l =
    share_above (neg_ℤ r) d h (omega (arith, ints)) (subst (λ z. z ≤ℚ whole (pos 0)) (sym (share-neg r d)) (negative_le (share r d) l))
  where
    negative_le : (x : ℚ) → whole (pos 0) ≤ℚ x → neg_ℚ x ≤ℚ whole (pos 0)
    negative_le x l = subst (λ z. neg_ℚ x ≤ℚ z) (ring_ℚ [] (negated (number (pos 0))) (number (pos 0)) refl) (≤ℚ_neg (whole (pos 0)) x l)

pub share_not_below : (r d : ℤ) → pos 1 ≤ℤ d → pos 0 ≤ℤ r → whole (pos 0) ≤ℚ share r d
share_not_below r d h p =
    subst (λ z. whole (pos 0) ≤ℚ z) (ap neg_ℚ (share-neg r d) ∙ ring_ℚ (share r d ∷ []) (negated (negated v0)) v0 refl)
    (subst (λ z. z ≤ℚ neg_ℚ (share (neg_ℤ r) d)) (ring_ℚ [] (negated (number (pos 0))) (number (pos 0)) refl) (≤ℚ_neg (share (neg_ℤ r) d) (whole (pos 0)) (share_not_above (neg_ℤ r) d h (omega (arith, ints)))))

not_less : (o : Ordering) → o ≢ Less → false ≡ is_lt o
not_less Less h = absurd (h refl)
not_less Equal h = refl
not_less Greater h = refl

not_more : (o : Ordering) → o ≢ Greater → false ≡ is_gt o
not_more Less h = refl
not_more Equal h = refl
not_more Greater h = absurd (h refl)

pub below_true : (r d : ℤ) → pos 1 ≤ℤ d → r <ℤ pos 0 → true ≡ is_lt (cmp_ℚ (share r d) (whole (pos 0)))
below_true r d h p = sym (ap is_lt ((cmp_ℚ-Less (share r d) (whole (pos 0))).1 (share_below r d h p)))

pub below_false : (r d : ℤ) → pos 1 ≤ℤ d → pos 0 ≤ℤ r → false ≡ is_lt (cmp_ℚ (share r d) (whole (pos 0)))
below_false r d h p = not_less (cmp_ℚ (share r d) (whole (pos 0))) ((cmp_ℚ-not_Less (share r d) (whole (pos 0))).1 (share_not_below r d h p))

pub above_true : (r d : ℤ) → pos 1 ≤ℤ d → pos 0 <ℤ r → true ≡ is_gt (cmp_ℚ (share r d) (whole (pos 0)))
above_true r d h p = sym (ap is_gt ((cmp_ℚ-Greater (share r d) (whole (pos 0))).1 (share_above r d h p)))

pub above_false : (r d : ℤ) → pos 1 ≤ℤ d → r ≤ℤ pos 0 → false ≡ is_gt (cmp_ℚ (share r d) (whole (pos 0)))
above_false r d h p = not_more (cmp_ℚ (share r d) (whole (pos 0))) ((cmp_ℚ-not_Greater (share r d) (whole (pos 0))).1 (share_not_above r d h p))

-- a negated number is below 0 where the number is above
zero_neg : whole (pos 0) ≡ neg_ℚ (whole (pos 0))
zero_neg = ring_ℚ [] (number (pos 0)) (negated (number (pos 0))) refl

reversed_gt : (o : Ordering) → is_lt (ordering_reverse o) ≡ is_gt o
reversed_gt Less = refl
reversed_gt Equal = refl
reversed_gt Greater = refl

reversed_lt : (o : Ordering) → is_gt (ordering_reverse o) ≡ is_lt o
reversed_lt Less = refl
reversed_lt Equal = refl
reversed_lt Greater = refl

neg_cmp : (x : ℚ) → cmp_ℚ (neg_ℚ x) (whole (pos 0)) ≡ ordering_reverse (cmp_ℚ x (whole (pos 0)))
neg_cmp x = by_cmp x (whole (pos 0)) (λ o. cmp_ℚ (neg_ℚ x) (whole (pos 0)) ≡ ordering_reverse o)
    (λ n. (cmp_ℚ-Greater (neg_ℚ x) (whole (pos 0))).1 (λ l. n (back x l)))
    (λ e. (cmp_ℚ-Equal (neg_ℚ x) (whole (pos 0))).1 (ap neg_ℚ e ∙ sym zero_neg))
    (λ n. (cmp_ℚ-Less (neg_ℚ x) (whole (pos 0))).1 (λ l. n (forth x l)))
  where
    back : (x : ℚ) → neg_ℚ x ≤ℚ whole (pos 0) → whole (pos 0) ≤ℚ x
    back x l = subst (λ z. z ≤ℚ x) (sym zero_neg) (subst (λ z. neg_ℚ (whole (pos 0)) ≤ℚ z) (ring_ℚ (x ∷ []) (negated (negated v0)) v0 refl) (≤ℚ_neg (neg_ℚ x) (whole (pos 0)) l))

    forth : (x : ℚ) → whole (pos 0) ≤ℚ neg_ℚ x → x ≤ℚ whole (pos 0)
    forth x l = subst (λ z. x ≤ℚ z) (sym zero_neg) (subst (λ z. z ≤ℚ neg_ℚ (whole (pos 0))) (ring_ℚ (x ∷ []) (negated (negated v0)) v0 refl) (≤ℚ_neg (whole (pos 0)) (neg_ℚ x) l))

-- negated numbers are in the reversed order
pub neg_order : (x y : ℚ) → cmp_ℚ (neg_ℚ x) (neg_ℚ y) ≡ ordering_reverse (cmp_ℚ x y)
neg_order x y = by_cmp x y (λ o. cmp_ℚ (neg_ℚ x) (neg_ℚ y) ≡ ordering_reverse o)
    (λ n. (cmp_ℚ-Greater (neg_ℚ x) (neg_ℚ y)).1 (λ l. n (turned_back y x l)))
    (λ e. (cmp_ℚ-Equal (neg_ℚ x) (neg_ℚ y)).1 (ap neg_ℚ e))
    (λ n. (cmp_ℚ-Less (neg_ℚ x) (neg_ℚ y)).1 (λ l. n (turned_back x y l)))
  where
    twice : (x : ℚ) → neg_ℚ (neg_ℚ x) ≡ x
    twice x = ring_ℚ (x ∷ []) (negated (negated v0)) v0 refl

    turned_back : (x y : ℚ) → neg_ℚ y ≤ℚ neg_ℚ x → x ≤ℚ y
    turned_back x y l = subst (λ z. z ≤ℚ y) (twice x) (subst (λ z. neg_ℚ (neg_ℚ x) ≤ℚ z) (twice y) (≤ℚ_neg (neg_ℚ y) (neg_ℚ x) l))

pub falls_by : (x : ℚ) → is_gt (cmp_ℚ x (whole (pos 0))) ≡ is_lt (cmp_ℚ (neg_ℚ x) (whole (pos 0)))
falls_by x = sym (reversed_gt (cmp_ℚ x (whole (pos 0)))) ∙ sym (ap is_lt (neg_cmp x))

pub rises_by : (x : ℚ) → is_lt (cmp_ℚ x (whole (pos 0))) ≡ is_gt (cmp_ℚ (neg_ℚ x) (whole (pos 0)))
rises_by x = sym (reversed_lt (cmp_ℚ x (whole (pos 0)))) ∙ sym (ap is_gt (neg_cmp x))

-- ---- sizes

pub abs_share : (r d : ℤ) → pos 1 ≤ℤ d → abs_ℚ (share r d) ≡ share (pos (unsigned_abs r)) d
abs_share (pos n) d h = abs_above (share (pos n) d) (share_not_below (pos n) d h (omega (arith, ints)))
abs_share (negsuc n) d h =
    let e : neg_ℤ (negsuc n) ≡ pos (unsigned_abs (negsuc n)) = omega (arith, ints) in
    abs_below (share (negsuc n) d) (share_not_above (negsuc n) d h (omega (arith, ints))) ∙ sym (share-neg (negsuc n) d) ∙ ap (λ z. share z d) e

-- a residual on its side is its size
pub turned_share : (r d : ℤ) (o : Side) → pos 1 ≤ℤ d → (r ≢ pos 0 → o ≡ side_of (cmp_ℚ (share r d) (whole (pos 0)))) → turned o (share r d) ≡ share (pos (unsigned_abs r)) d
turned_share (pos zero) d o h side = ap (turned o) (share_none (pos 0) d refl) ∙ turned-zero o ∙ sym (share_none (pos 0) d refl)
turned_share (pos (suc n)) d o h side =
    ap (λ o. turned o (share (pos (suc n)) d)) (side past ∙ sym (side_above (pos (suc n)) d h (omega (arith, ints))))
  where
    past : pos (suc n) ≡ pos 0 → ⊥
    past e = omega (arith, ints)
turned_share (negsuc n) d o h side =
    let e : neg_ℤ (negsuc n) ≡ pos (unsigned_abs (negsuc n)) = omega (arith, ints) in
    ap (λ o. turned o (share (negsuc n) d)) (side past ∙ sym (side_below (negsuc n) d h (omega (arith, ints)))) ∙ sym (share-neg (negsuc n) d) ∙ ap (λ z. share z d) e
  where
    past : negsuc n ≡ pos 0 → ⊥
    past e = omega (arith, ints)

natural_mul : (a b : ℕ) → pos a *ℤ pos b ≡ pos (a * b)
natural_mul a b = refl

natural_cmp : (a b : ℕ) → int_cmp (pos a) (pos b) ≡ nat_cmp a b
natural_cmp a b = grind (arith, ints)

-- two shares of sizes compare by cross products
pub cross_compare : (r c s e : ℕ) → 1 ≤ c → 1 ≤ e → cmp_ℚ (share (pos r) (pos c)) (share (pos s) (pos e)) ≡ nat_cmp (r * e) (s * c)
cross_compare r c s e hc he = cmp_ℚ-quotient (record { num = pos r; den = c }) (record { num = pos s; den = e }) hc he ∙ ap₂ int_cmp (natural_mul r e) (natural_mul s c) ∙ natural_cmp (r * e) (s * c)
