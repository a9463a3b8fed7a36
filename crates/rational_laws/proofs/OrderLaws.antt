-- The laws of the order of ℚ as an answer. `cmp_ℚ` and `sign_ℚ` compute from the tests of the order, which
-- are opaque, so a proof goes by these laws:
--
--     cmp_ℚ x y ≡ Less, Equal, Greater      cmp_ℚ-Less: y isn't at most x; cmp_ℚ-Equal: x ≡ y;
--                                           cmp_ℚ-Greater: x isn't at most y
--     it isn't Greater, it isn't Less       cmp_ℚ-not_Greater: x ≤ℚ y; cmp_ℚ-not_Less: y ≤ℚ x
--     the other way round                   cmp_ℚ_swap
--     sign_ℚ x ≡ 1, 0, -1                   sign_ℚ-positive, sign_ℚ-zero, sign_ℚ-negative
--     sign_ℚ x < 0, > 0, >= 0, <= 0         sign_ℚ-below, sign_ℚ-above, sign_ℚ-not_below, sign_ℚ-not_above
--     of -x, x * y, 1/x                     sign_ℚ-neg, sign_ℚ-mul, sign_ℚ-inverse
--     of n/d, of a whole number             sign_ℚ-quotient, sign_ℚ-whole, cmp_ℚ-quotient
--     by the three cases                    by_cmp x y P less equal greater, by_sign x P below at_zero above
--     the order itself                      ≤ℚ_neg, ≤ℚ_cancel, ≤ℚ-minus, ≤ℚ-from_mul, inverse_not_negative,
--                                           not_le, le_from_not
--
-- For x ≤ℚ y from e : cmp_ℚ x y ≡ Less:
--
--     le_from_not x y ((cmp_ℚ-Less x y).0 e)
use Rattle.std.specs.Prelude.{◌≡◌, ◌≢◌, ◌↔◌, ◌⊎◌, ℕ, zero, suc, ◌*◌, ◌≤◌, Bool, true, false, cond, [], ◌∷◌, ℤ, pos, negsuc, neg_ℤ, ◌*ℤ◌, ◌<ℤ◌, ◌≤ℤ◌}
use Rattle.std.specs.Int.{int_signum}
use Rattle.std.specs.Ordering.{int_cmp, ordering_reverse}
use Rattle.std.specs.declared.cmp.Ordering.{Ordering}
use Rattle.std.specs.declared.cmp.Ordering.TheVariants.{Less, Equal, Greater}
use Rattle.std.proofs.Common.{arith, refl, sym, ap, ap₂, subst, ◌∙◌, inl, inr, mul-pos}
use Rattle.std.proofs.Math.IntN.{ℤ_set}
use Rattle.std.proofs.lemmas.Int.{ints}
use lib.Signed.{le_z}
use mathlib.Core.HLevel.{Π_prop}
use Rattle.rational_laws.specs.Solver.{number, negated, ◌⊞◌, ◌⊟◌, ◌⊠◌, v0, v1, v2}
use Rattle.rational_laws.specs.Rational.{ℚ, ◌+ℚ◌, ◌-ℚ◌, ◌*ℚ◌, neg_ℚ, whole, inverse, quotient, le_ℚ, ◌≤ℚ◌}
use Rattle.rational_laws.proofs.RationalLaws.{ring_ℚ, ≤ℚ_refl, ≤ℚ_antisym, ≤ℚ_total, ≤ℚ_add, ≤ℚ_mul, *ℚ-inverse}
use Rattle.rational_laws.specs.Fraction.{Fraction}
use Rattle.rational_laws.proofs.Quotients.{by_quotient, le_ℚ-quotient, product_is, quotient-neg, quotient-one}
use Rattle.rational_laws.proofs.Inverses.{zero_or_not, inverse-zero}
use Rattle.rational_laws.specs.Order.{cmp_ℚ, sign_ℚ}

pub not_le : (x y : ℚ) → le_ℚ x y ≡ false → ¬ (x ≤ℚ y)
not_le x y e h = apart (sym e ∙ h.le)
  where
    apart : false ≡ true → ⊥
    apart s = cc

pub le_from_not : (x y : ℚ) → ¬ (y ≤ℚ x) → x ≤ℚ y
le_from_not x y h = by (le_ℚ y x) refl
  where
    by : (t : Bool) → le_ℚ y x ≡ t → x ≤ℚ y
    by true e = absurd (h (record { le = e }))
    by false e = ≤ℚ_total y x e

pub ≤ℚ_cancel : (x y z : ℚ) → (z +ℚ x) ≤ℚ (z +ℚ y) → x ≤ℚ y
≤ℚ_cancel x y z h =
    subst (λ v. v ≤ℚ y) (ring_ℚ (x ∷ z ∷ []) (negated v1 ⊞ (v1 ⊞ v0)) v0 refl)
    (subst (λ v. (neg_ℚ z +ℚ (z +ℚ x)) ≤ℚ v) (ring_ℚ (y ∷ z ∷ []) (negated v1 ⊞ (v1 ⊞ v0)) v0 refl) (≤ℚ_add (z +ℚ x) (z +ℚ y) (neg_ℚ z) h))

-- x is at most y where the difference isn't negative
pub ≤ℚ-minus : (x y : ℚ) → (x ≤ℚ y) ↔ (whole (pos 0) ≤ℚ (y -ℚ x))
≤ℚ-minus x y = (
  λ h. subst (λ v. v ≤ℚ (y -ℚ x)) (ring_ℚ (x ∷ []) (negated v0 ⊞ v0) (number (pos 0)) refl)
      (subst (λ v. (neg_ℚ x +ℚ x) ≤ℚ v) (ring_ℚ (x ∷ y ∷ []) (negated v0 ⊞ v1) (v1 ⊟ v0) refl) (≤ℚ_add x y (neg_ℚ x) h)),
  λ h. ≤ℚ_cancel x y (neg_ℚ x) (subst (λ v. v ≤ℚ (neg_ℚ x +ℚ y)) (ring_ℚ (x ∷ []) (number (pos 0)) (negated v0 ⊞ v0) refl)
      (subst (λ v. whole (pos 0) ≤ℚ v) (ring_ℚ (x ∷ y ∷ []) (v1 ⊟ v0) (negated v0 ⊞ v1) refl) h)),
)

-- negation turns the order
pub ≤ℚ_neg : (x y : ℚ) → x ≤ℚ y → neg_ℚ y ≤ℚ neg_ℚ x
≤ℚ_neg x y h =
    (≤ℚ-minus (neg_ℚ y) (neg_ℚ x)).1
    (subst (λ v. whole (pos 0) ≤ℚ v) (ring_ℚ (x ∷ y ∷ []) (v1 ⊟ v0) (negated v0 ⊟ negated v1) refl) ((≤ℚ-minus x y).0 h))

-- what holds in each of the three cases holds of the answer
pub by_cmp : (x y : ℚ) (P : Ordering → Type 0) → (¬ (y ≤ℚ x) → P Less) → (x ≡ y → P Equal) → (¬ (x ≤ℚ y) → P Greater) → P (cmp_ℚ x y)
by_cmp x y P less equal greater = at (le_ℚ x y) (le_ℚ y x) refl refl
  where
    at : (s t : Bool) → le_ℚ x y ≡ s → le_ℚ y x ≡ t → P (cond s (cond t Equal Less) Greater)
    at true true e f = equal (≤ℚ_antisym x y (record { le = e }) (record { le = f }))
    at true false e f = less (not_le y x f)
    at false t e f = greater (not_le x y e)

pub same_le : (x y : ℚ) → x ≡ y → x ≤ℚ y
same_le x y e = subst (λ z. x ≤ℚ z) e (≤ℚ_refl x)

pub cmp_ℚ-Less : (x y : ℚ) → (cmp_ℚ x y ≡ Less) ↔ ¬ (y ≤ℚ x)
cmp_ℚ-Less x y =
    by_cmp x y (λ o. (o ≡ Less) ↔ ¬ (y ≤ℚ x))
    (λ h. (λ e. h, λ n. refl))
    (λ h. (λ e. cc, λ n. absurd (n (same_le y x (sym h)))))
    (λ h. (λ e. cc, λ n. absurd (n (le_from_not y x h))))

pub cmp_ℚ-Equal : (x y : ℚ) → (cmp_ℚ x y ≡ Equal) ↔ (x ≡ y)
cmp_ℚ-Equal x y =
    by_cmp x y (λ o. (o ≡ Equal) ↔ (x ≡ y))
    (λ h. (λ e. cc, λ s. absurd (h (same_le y x (sym s)))))
    (λ h. (λ e. h, λ s. refl))
    (λ h. (λ e. cc, λ s. absurd (h (same_le x y s))))

pub cmp_ℚ-Greater : (x y : ℚ) → (cmp_ℚ x y ≡ Greater) ↔ ¬ (x ≤ℚ y)
cmp_ℚ-Greater x y =
    by_cmp x y (λ o. (o ≡ Greater) ↔ ¬ (x ≤ℚ y))
    (λ h. (λ e. cc, λ n. absurd (n (le_from_not x y h))))
    (λ h. (λ e. cc, λ n. absurd (n (same_le x y h))))
    (λ h. (λ e. h, λ n. refl))

pub cmp_ℚ-not_Greater : (x y : ℚ) → ¬ (cmp_ℚ x y ≡ Greater) ↔ (x ≤ℚ y)
cmp_ℚ-not_Greater x y =
    by_cmp x y (λ o. ¬ (o ≡ Greater) ↔ (x ≤ℚ y))
    (λ h. (λ n. le_from_not x y h, λ l. λ e. cc))
    (λ h. (λ n. same_le x y h, λ l. λ e. cc))
    (λ h. (λ n. absurd (n refl), λ l. absurd (h l)))

pub cmp_ℚ-not_Less : (x y : ℚ) → ¬ (cmp_ℚ x y ≡ Less) ↔ (y ≤ℚ x)
cmp_ℚ-not_Less x y =
    by_cmp x y (λ o. ¬ (o ≡ Less) ↔ (y ≤ℚ x))
    (λ h. (λ n. absurd (n refl), λ l. absurd (h l)))
    (λ h. (λ n. same_le y x (sym h), λ l. λ e. cc))
    (λ h. (λ n. le_from_not y x h, λ l. λ e. cc))

pub cmp_ℚ_swap : (x y : ℚ) → cmp_ℚ y x ≡ ordering_reverse (cmp_ℚ x y)
cmp_ℚ_swap x y =
    by_cmp x y (λ o. cmp_ℚ y x ≡ ordering_reverse o)
    (λ h. (cmp_ℚ-Greater y x).1 h)
    (λ h. (cmp_ℚ-Equal y x).1 (sym h))
    (λ h. (cmp_ℚ-Less y x).1 h)

same_tests : (a b : ℤ) → cond (le_z a b) (cond (le_z b a) Equal Less) Greater ≡ int_cmp a b
same_tests a b = grind (arith, ints)

-- n/d and m/e compare as their cross products do
pub cmp_ℚ-quotient : (a b : Fraction) → 1 ≤ a.den → 1 ≤ b.den → cmp_ℚ (quotient a.num a.den) (quotient b.num b.den) ≡ int_cmp (a.num *ℤ pos b.den) (b.num *ℤ pos a.den)
cmp_ℚ-quotient a b p q =
    ap₂ (λ s t. cond s (cond t Equal Less) Greater) (le_ℚ-quotient a b p q) (le_ℚ-quotient b a q p)
    ∙ same_tests (a.num *ℤ pos b.den) (b.num *ℤ pos a.den)

-- what holds in each of the three cases holds of the sign
pub by_sign : (x : ℚ) (P : ℤ → Type 0) → (¬ (whole (pos 0) ≤ℚ x) → P (negsuc 0)) → (x ≡ whole (pos 0) → P (pos 0)) → (¬ (x ≤ℚ whole (pos 0)) → P (pos 1)) → P (sign_ℚ x)
by_sign x P below at_zero above = at (le_ℚ x (whole (pos 0))) (le_ℚ (whole (pos 0)) x) refl refl
  where
    at : (s t : Bool) → le_ℚ x (whole (pos 0)) ≡ s → le_ℚ (whole (pos 0)) x ≡ t → P (cond s (cond t (pos 0) (negsuc 0)) (pos 1))
    at true true e f = at_zero (≤ℚ_antisym x (whole (pos 0)) (record { le = e }) (record { le = f }))
    at true false e f = below (not_le (whole (pos 0)) x f)
    at false t e f = above (not_le x (whole (pos 0)) e)

pub sign_ℚ-negative : (x : ℚ) → (sign_ℚ x ≡ negsuc 0) ↔ ¬ (whole (pos 0) ≤ℚ x)
sign_ℚ-negative x =
    by_sign x (λ s. (s ≡ negsuc 0) ↔ ¬ (whole (pos 0) ≤ℚ x))
    (λ h. (λ e. h, λ n. refl))
    (λ h. (λ e. cc, λ n. absurd (n (same_le (whole (pos 0)) x (sym h)))))
    (λ h. (λ e. cc, λ n. absurd (n (le_from_not (whole (pos 0)) x h))))

pub sign_ℚ-zero : (x : ℚ) → (sign_ℚ x ≡ pos 0) ↔ (x ≡ whole (pos 0))
sign_ℚ-zero x =
    by_sign x (λ s. (s ≡ pos 0) ↔ (x ≡ whole (pos 0)))
    (λ h. (λ e. cc, λ s. absurd (h (same_le (whole (pos 0)) x (sym s)))))
    (λ h. (λ e. h, λ s. refl))
    (λ h. (λ e. cc, λ s. absurd (h (same_le x (whole (pos 0)) s))))

pub sign_ℚ-positive : (x : ℚ) → (sign_ℚ x ≡ pos 1) ↔ ¬ (x ≤ℚ whole (pos 0))
sign_ℚ-positive x =
    by_sign x (λ s. (s ≡ pos 1) ↔ ¬ (x ≤ℚ whole (pos 0)))
    (λ h. (λ e. cc, λ n. absurd (n (le_from_not x (whole (pos 0)) h))))
    (λ h. (λ e. cc, λ n. absurd (n (same_le x (whole (pos 0)) h))))
    (λ h. (λ e. h, λ n. refl))

-- the tests of a sign as the code writes them
pub sign_ℚ-below : (x : ℚ) → (sign_ℚ x <ℤ pos 0) ↔ ¬ (whole (pos 0) ≤ℚ x)
sign_ℚ-below x =
    by_sign x (λ s. (s <ℤ pos 0) ↔ ¬ (whole (pos 0) ≤ℚ x))
    (λ h. (λ e. h, λ n. omega (arith, ints)))
    (λ h. (λ e. absurd (omega (arith, ints)), λ n. absurd (n (same_le (whole (pos 0)) x (sym h)))))
    (λ h. (λ e. absurd (omega (arith, ints)), λ n. absurd (n (le_from_not (whole (pos 0)) x h))))

pub sign_ℚ-above : (x : ℚ) → (pos 0 <ℤ sign_ℚ x) ↔ ¬ (x ≤ℚ whole (pos 0))
sign_ℚ-above x =
    by_sign x (λ s. (pos 0 <ℤ s) ↔ ¬ (x ≤ℚ whole (pos 0)))
    (λ h. (λ e. absurd (omega (arith, ints)), λ n. absurd (n (le_from_not x (whole (pos 0)) h))))
    (λ h. (λ e. absurd (omega (arith, ints)), λ n. absurd (n (same_le x (whole (pos 0)) h))))
    (λ h. (λ e. h, λ n. omega (arith, ints)))

pub sign_ℚ-not_below : (x : ℚ) → (pos 0 ≤ℤ sign_ℚ x) ↔ (whole (pos 0) ≤ℚ x)
sign_ℚ-not_below x =
    by_sign x (λ s. (pos 0 ≤ℤ s) ↔ (whole (pos 0) ≤ℚ x))
    (λ h. (λ e. absurd (omega (arith, ints)), λ l. absurd (h l)))
    (λ h. (λ e. same_le (whole (pos 0)) x (sym h), λ l. omega (arith, ints)))
    (λ h. (λ e. le_from_not (whole (pos 0)) x h, λ l. omega (arith, ints)))

pub sign_ℚ-not_above : (x : ℚ) → (sign_ℚ x ≤ℤ pos 0) ↔ (x ≤ℚ whole (pos 0))
sign_ℚ-not_above x =
    by_sign x (λ s. (s ≤ℤ pos 0) ↔ (x ≤ℚ whole (pos 0)))
    (λ h. (λ e. le_from_not x (whole (pos 0)) h, λ l. omega (arith, ints)))
    (λ h. (λ e. same_le x (whole (pos 0)) h, λ l. omega (arith, ints)))
    (λ h. (λ e. absurd (omega (arith, ints)), λ l. absurd (h l)))

-- the tests of a sign at whole numbers
tests_of_sign : (z : ℤ) → cond (le_z z (pos 0)) (cond (le_z (pos 0) z) (pos 0) (negsuc 0)) (pos 1) ≡ int_signum z
tests_of_sign (pos n) = grind arith
tests_of_sign (negsuc n) = refl

-- the sign of n/d is that of n
pub sign_ℚ-quotient : (n : ℤ) (d : ℕ) → 1 ≤ d → sign_ℚ (quotient n d) ≡ int_signum n
sign_ℚ-quotient n d p =
    let v : Fraction = record { num = n; den = d } in
    let none : Fraction = record { num = pos 0; den = 1 } in
    let one : 1 ≤ 1 = omega arith in
    ap (λ z. cond (le_ℚ (quotient n d) z) (cond (le_ℚ z (quotient n d)) (pos 0) (negsuc 0)) (pos 1)) (sym (quotient-one (pos 0)))
    ∙ ap₂ (λ s t. cond s (cond t (pos 0) (negsuc 0)) (pos 1)) (le_ℚ-quotient v none p one) (le_ℚ-quotient none v one p)
    ∙ ap₂ (λ a b. cond (le_z a b) (cond (le_z b a) (pos 0) (negsuc 0)) (pos 1)) times_one times_zero
    ∙ tests_of_sign n
  where
    times_one : n *ℤ pos 1 ≡ n
    times_one = omega (arith, ints)

    times_zero : pos 0 *ℤ pos d ≡ pos 0
    times_zero = omega (arith, ints)

pub sign_ℚ-whole : (z : ℤ) → sign_ℚ (whole z) ≡ int_signum z
sign_ℚ-whole z = ap sign_ℚ (sym (quotient-one z)) ∙ sign_ℚ-quotient z 1 (omega arith)

signum_neg : (n : ℤ) → int_signum (neg_ℤ n) ≡ neg_ℤ (int_signum n)
signum_neg (pos zero) = refl
signum_neg (pos (suc n)) = omega (arith, ints)
signum_neg (negsuc n) = omega (arith, ints)

pub sign_ℚ-neg : (x : ℚ) → sign_ℚ (neg_ℚ x) ≡ neg_ℤ (sign_ℚ x)
sign_ℚ-neg =
    by_quotient (λ x. sign_ℚ (neg_ℚ x) ≡ neg_ℤ (sign_ℚ x)) (λ x. ℤ_set _ _)
    (λ n d p. ap sign_ℚ (sym (quotient-neg n d)) ∙ sign_ℚ-quotient (neg_ℤ n) d p ∙ signum_neg n ∙ ap neg_ℤ (sym (sign_ℚ-quotient n d p)))

signum_above : (z : ℤ) → pos 1 ≤ℤ z → int_signum z ≡ pos 1
signum_above (pos n) h = let some : 1 ≤ n = omega (arith, ints) in grind arith
signum_above (negsuc n) h = absurd (omega (arith, ints))

signum_below : (z : ℤ) → z ≤ℤ negsuc 0 → int_signum z ≡ negsuc 0
signum_below (pos n) h = absurd (omega (arith, ints))
signum_below (negsuc n) h = refl

signum-mul : (a b : ℤ) → int_signum (a *ℤ b) ≡ int_signum a *ℤ int_signum b
signum-mul (pos zero) b = let none : pos 0 *ℤ b ≡ pos 0 = omega (arith, ints) in ap int_signum none ∙ omega (arith, ints)
signum-mul (pos (suc m)) (pos zero) = let none : pos (suc m) *ℤ pos 0 ≡ pos 0 = omega (arith, ints) in ap int_signum none ∙ omega (arith, ints)
signum-mul (pos (suc m)) (pos (suc n)) = signum_above (pos (suc m) *ℤ pos (suc n)) (omega (arith, ints)) ∙ sym (ap₂ ◌*ℤ◌ (above m) (above n))
  where
    above : (k : ℕ) → int_signum (pos (suc k)) ≡ pos 1
    above k = signum_above (pos (suc k)) (omega (arith, ints))
signum-mul (pos (suc m)) (negsuc n) = signum_below (pos (suc m) *ℤ negsuc n) (omega (arith, ints)) ∙ sym (ap (λ z. z *ℤ negsuc 0) (signum_above (pos (suc m)) (omega (arith, ints))))
signum-mul (negsuc m) (pos zero) = let none : negsuc m *ℤ pos 0 ≡ pos 0 = omega (arith, ints) in ap int_signum none ∙ omega (arith, ints)
signum-mul (negsuc m) (pos (suc n)) = signum_below (negsuc m *ℤ pos (suc n)) (omega (arith, ints)) ∙ sym (ap (λ z. negsuc 0 *ℤ z) (signum_above (pos (suc n)) (omega (arith, ints))))
signum-mul (negsuc m) (negsuc n) = signum_above (negsuc m *ℤ negsuc n) (omega (arith, ints))

pub sign_ℚ-mul : (x y : ℚ) → sign_ℚ (x *ℚ y) ≡ sign_ℚ x *ℤ sign_ℚ y
sign_ℚ-mul =
    by_quotient (λ x. (y : ℚ) → sign_ℚ (x *ℚ y) ≡ sign_ℚ x *ℤ sign_ℚ y) (λ x. Π_prop (λ y. ℤ_set _ _))
    (λ n d p. by_quotient (λ y. sign_ℚ (quotient n d *ℚ y) ≡ sign_ℚ (quotient n d) *ℤ sign_ℚ y) (λ y. ℤ_set _ _) (pairs n d p))
  where
    pairs : (n : ℤ) (d : ℕ) → 1 ≤ d → (m : ℤ) (e : ℕ) → 1 ≤ e → sign_ℚ (quotient n d *ℚ quotient m e) ≡ sign_ℚ (quotient n d) *ℤ sign_ℚ (quotient m e)
    pairs n d p m e q =
        ap sign_ℚ (sym (product_is (record { num = n; den = d }) (record { num = m; den = e }) (record { num = n *ℤ m; den = d * e }) p q (mul-pos p q) refl))
        ∙ sign_ℚ-quotient (n *ℤ m) (d * e) (mul-pos p q) ∙ signum-mul n m
        ∙ ap₂ ◌*ℤ◌ (sym (sign_ℚ-quotient n d p)) (sym (sign_ℚ-quotient m e q))

pub sign_ℚ-inverse : (x : ℚ) → sign_ℚ (inverse x) ≡ sign_ℚ x
sign_ℚ-inverse x = by (zero_or_not x)
  where
    -- a sign times the sign of the inverse is the sign of 1
    turned : (s t : ℤ) → s *ℤ t ≡ pos 1 → (s ≡ pos 0) ⊎ ((s ≡ pos 1) ⊎ (s ≡ negsuc 0)) → t ≡ s
    turned s t h (inl e) = absurd (omega (arith, ints, sym h ∙ ap (λ z. z *ℤ t) e))
    turned s t h (inr (inl e)) = omega (arith, ints, sym h ∙ ap (λ z. z *ℤ t) e)
    turned s t h (inr (inr e)) = omega (arith, ints, sym h ∙ ap (λ z. z *ℤ t) e)

    cases : (y : ℚ) → (sign_ℚ y ≡ pos 0) ⊎ ((sign_ℚ y ≡ pos 1) ⊎ (sign_ℚ y ≡ negsuc 0))
    cases y = by_sign y (λ s. (s ≡ pos 0) ⊎ ((s ≡ pos 1) ⊎ (s ≡ negsuc 0))) (λ h. inr (inr refl)) (λ h. inl refl) (λ h. inr (inl refl))

    by : (x ≡ whole (pos 0)) ⊎ (x ≢ whole (pos 0)) → sign_ℚ (inverse x) ≡ sign_ℚ x
    by (inl e) = ap sign_ℚ (ap inverse e ∙ inverse-zero ∙ sym e)
    by (inr h) =
        turned (sign_ℚ x) (sign_ℚ (inverse x)) (sym (sign_ℚ-mul x (inverse x)) ∙ ap sign_ℚ (*ℚ-inverse x h) ∙ sign_ℚ-whole (pos 1)) (cases x)

pub inverse_not_negative : (x : ℚ) → whole (pos 0) ≤ℚ x → whole (pos 0) ≤ℚ inverse x
inverse_not_negative x h = (sign_ℚ-not_below (inverse x)).0 (subst (λ s. pos 0 ≤ℤ s) (sym (sign_ℚ-inverse x)) ((sign_ℚ-not_below x).1 h))

-- a positive factor may be taken away
pub ≤ℚ-from_mul : (x y z : ℚ) → ¬ (z ≤ℚ whole (pos 0)) → (z *ℚ x) ≤ℚ (z *ℚ y) → x ≤ℚ y
≤ℚ-from_mul x y z h k =
    subst (λ v. v ≤ℚ y) (back x) (subst (λ v. (inverse z *ℚ (z *ℚ x)) ≤ℚ v) (back y) (≤ℚ_mul (z *ℚ x) (z *ℚ y) (inverse z) not_negative k))
  where
    nonzero : z ≢ whole (pos 0)
    nonzero e = h (same_le z (whole (pos 0)) e)

    not_negative : whole (pos 0) ≤ℚ inverse z
    not_negative = inverse_not_negative z (le_from_not (whole (pos 0)) z h)

    back : (v : ℚ) → inverse z *ℚ (z *ℚ v) ≡ v
    back v =
        ring_ℚ (v ∷ z ∷ inverse z ∷ []) (v2 ⊠ (v1 ⊠ v0)) ((v1 ⊠ v2) ⊠ v0) refl
        ∙ ap (λ w. w *ℚ v) (*ℚ-inverse z nonzero) ∙ ring_ℚ (v ∷ []) (number (pos 1) ⊠ v0) v0 refl
