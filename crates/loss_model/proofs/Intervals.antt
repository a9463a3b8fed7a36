-- Every fraction of a closed interval is a mix of its ends by whole numbers.
use Rattle.std.specs.Prelude.{◌≡◌, ℕ, zero, suc, ◌+◌, ◌<◌, ◌≤◌, [], ◌∷◌, ℤ, pos, negsuc, ◌*ℤ◌, ◌-ℤ◌, ◌≤ℤ◌, unsigned_abs}
use Rattle.std.proofs.Common.{arith, refl, sym, ap, subst, ◌∙◌}
use Rattle.std.proofs.lemmas.Int.{ints}
use Rattle.rational_laws.specs.Solver.{number, negated, ◌⊞◌, ◌⊟◌, ◌⊠◌, v0, v1, v2, v3, v4, v5, v6}
use Rattle.rational_laws.specs.Rational.{ℚ, ◌+ℚ◌, ◌-ℚ◌, ◌*ℚ◌, inverse, whole, ◌≤ℚ◌}
use Rattle.rational_laws.proofs.RationalLaws.{whole-add, whole-mul, ring_ℚ, ring_by_ℚ}
use Rattle.rational_laws.specs.Fraction.{Fraction, rational}
use Rattle.rational_laws.proofs.WholeNumbers.{le_from_whole}
use Rattle.rational_laws.proofs.OrderLaws.{≤ℚ-minus}
use Rattle.rational_laws.proofs.Signs.{product_not_negative, whole_not_negative}
use Rattle.loss_model.specs.Dual.{mix}
use Rattle.loss_model.specs.Laws.{IntervalIsMixes}
use Rattle.loss_model.proofs.Quotients.{inverse_of, whole-quotient, whole-sub, cancel_whole}

-- how far b is above a, in units of the three denominators
gap : Fraction → Fraction → Fraction → ℤ
gap a b c = ((b.num *ℤ pos a.den) -ℤ (a.num *ℤ pos b.den)) *ℤ pos c.den

whole-gap : (a b c : Fraction) → 1 ≤ a.den → 1 ≤ b.den → whole (gap a b c) ≡ (whole (pos a.den) *ℚ (whole (pos b.den) *ℚ whole (pos c.den))) *ℚ (rational b -ℚ rational a)
unfolding gap
whole-gap a b c h k =
    whole-mul ((b.num *ℤ pos a.den) -ℤ (a.num *ℤ pos b.den)) (pos c.den)
    ∙ ap (λ z. z *ℚ whole (pos c.den)) (whole-sub (b.num *ℤ pos a.den) (a.num *ℤ pos b.den))
    ∙ ap (λ z. (z -ℚ whole (a.num *ℤ pos b.den)) *ℚ whole (pos c.den)) (whole-mul b.num (pos a.den) ∙ ap (λ z. z *ℚ whole (pos a.den)) (whole-quotient b.num b.den k))
    ∙ ap (λ z. (((whole (pos b.den) *ℚ rational b) *ℚ whole (pos a.den)) -ℚ z) *ℚ whole (pos c.den)) (whole-mul a.num (pos b.den) ∙ ap (λ z. z *ℚ whole (pos b.den)) (whole-quotient a.num a.den h))
    ∙ ring_ℚ (whole (pos a.den) ∷ whole (pos b.den) ∷ whole (pos c.den) ∷ rational a ∷ rational b ∷ []) (((v1 ⊠ v4) ⊠ v0 ⊟ (v0 ⊠ v3) ⊠ v1) ⊠ v2) ((v0 ⊠ (v1 ⊠ v2)) ⊠ (v4 ⊟ v3)) refl

-- a number that is not negative
size : (z : ℤ) → pos 0 ≤ℤ z → pos (unsigned_abs z) ≡ z
size (pos n) h = refl
size (negsuc n) h = absurd (omega (arith, ints))

abbrev units : Fraction → Fraction → Fraction → ℚ
units a b c = whole (pos a.den) *ℚ (whole (pos b.den) *ℚ whole (pos c.den))

gap_not_negative : (a b c : Fraction) → 1 ≤ a.den → 1 ≤ b.den → rational a ≤ℚ rational b → pos 0 ≤ℤ gap a b c
gap_not_negative a b c h k le =
    le_from_whole (pos 0) (gap a b c)
    (subst (λ z. whole (pos 0) ≤ℚ z) (sym (whole-gap a b c h k))
    (product_not_negative (units a b c) (rational b -ℚ rational a)
    (product_not_negative (whole (pos a.den)) (whole (pos b.den) *ℚ whole (pos c.den)) (whole_not_negative a.den)
    (product_not_negative (whole (pos b.den)) (whole (pos c.den)) (whole_not_negative b.den) (whole_not_negative c.den)))
    ((≤ℚ-minus (rational a) (rational b)).0 le)))

whole-size : (a b c : Fraction) → 1 ≤ a.den → 1 ≤ b.den → rational a ≤ℚ rational b → whole (pos (unsigned_abs (gap a b c))) ≡ units a b c *ℚ (rational b -ℚ rational a)
whole-size a b c h k le = ap whole (size (gap a b c) (gap_not_negative a b c h k le)) ∙ whole-gap a b c h k

-- the weights by which theta is a mix of lo and hi
weighed : (m n : ℕ) (lo hi theta t d b : ℚ) → whole (pos m) ≡ (t *ℚ (d *ℚ b)) *ℚ (hi -ℚ theta) → whole (pos n) ≡ (b *ℚ (t *ℚ d)) *ℚ (theta -ℚ lo) → 0 < m + n → theta ≡ mix m n lo hi
weighed m n lo hi theta t d b left right some =
    let i = inverse (whole (pos (m + n))) in
    ring_by_ℚ (whole (pos (m + n)) ∷ i ∷ theta ∷ []) v2 ((v0 ⊠ v2) ⊠ v1) (negated v2) (v0 ⊠ v1) (number (pos 1)) refl (inverse_of (m + n) (omega arith))
    ∙ ap (λ z. (z *ℚ theta) *ℚ i) (whole-add (pos m) (pos n) ∙ ap (λ z. z +ℚ whole (pos n)) left ∙ ap (λ z. ((t *ℚ (d *ℚ b)) *ℚ (hi -ℚ theta)) +ℚ z) right)
    ∙ ring_ℚ (lo ∷ hi ∷ theta ∷ t ∷ d ∷ b ∷ i ∷ [])
    ((((v3 ⊠ (v4 ⊠ v5)) ⊠ (v1 ⊟ v2) ⊞ (v5 ⊠ (v3 ⊠ v4)) ⊠ (v2 ⊟ v0)) ⊠ v2) ⊠ v6)
    ((((v3 ⊠ (v4 ⊠ v5)) ⊠ (v1 ⊟ v2)) ⊠ v0 ⊞ ((v5 ⊠ (v3 ⊠ v4)) ⊠ (v2 ⊟ v0)) ⊠ v1) ⊠ v6) refl
    ∙ ap (λ z. ((z *ℚ lo) +ℚ (((b *ℚ (t *ℚ d)) *ℚ (theta -ℚ lo)) *ℚ hi)) *ℚ i) (sym left)
    ∙ ap (λ z. ((whole (pos m) *ℚ lo) +ℚ (z *ℚ hi)) *ℚ i) (sym right)

-- two values without a gap
same : (a t : ℚ) (x y z : ℕ) → 1 ≤ x → 1 ≤ y → 1 ≤ z → whole (pos 0) ≡ (whole (pos x) *ℚ (whole (pos y) *ℚ whole (pos z))) *ℚ (t -ℚ a) → t ≡ a
same a t x y z p q r e =
    let none : t -ℚ a ≡ whole (pos 0) =
    cancel_whole z (t -ℚ a) (whole (pos 0)) r
    (cancel_whole y (whole (pos z) *ℚ (t -ℚ a)) (whole (pos z) *ℚ whole (pos 0)) q
    (cancel_whole x (whole (pos y) *ℚ (whole (pos z) *ℚ (t -ℚ a))) (whole (pos y) *ℚ (whole (pos z) *ℚ whole (pos 0))) p
    (ring_ℚ (whole (pos x) ∷ whole (pos y) ∷ whole (pos z) ∷ (t -ℚ a) ∷ []) (v0 ⊠ (v1 ⊠ (v2 ⊠ v3))) ((v0 ⊠ (v1 ⊠ v2)) ⊠ v3) refl ∙ sym e
    ∙ ring_ℚ (whole (pos x) ∷ whole (pos y) ∷ whole (pos z) ∷ []) (number (pos 0)) (v0 ⊠ (v1 ⊠ (v2 ⊠ number (pos 0)))) refl))) in
    ring_by_ℚ (t ∷ a ∷ []) v0 v1 (number (pos 1)) (v0 ⊟ v1) (number (pos 0)) refl none

-- the mix that is the first of two values
mix-first : (lo hi : ℚ) → lo ≡ mix 1 0 lo hi
mix-first lo hi =
    ring_by_ℚ (lo ∷ hi ∷ inverse (whole (pos 1)) ∷ []) v0 ((number (pos 1) ⊠ v0 ⊞ number (pos 0) ⊠ v1) ⊠ v2) (negated v0) (number (pos 1) ⊠ v2) (number (pos 1)) refl (inverse_of 1 (omega arith))

pub mixes : IntervalIsMixes
mixes lo hi theta p q r h k = by (unsigned_abs (gap theta hi lo)) (unsigned_abs (gap lo theta hi)) (whole-size theta hi lo r q k) (whole-size lo theta hi p r h)
  where
    a : ℚ
    a = rational lo

    b : ℚ
    b = rational hi

    t : ℚ
    t = rational theta

    by : (m n : ℕ) → whole (pos m) ≡ units theta hi lo *ℚ (b -ℚ t) → whole (pos n) ≡ units lo theta hi *ℚ (t -ℚ a)
        → (m' : ℕ) × (n' : ℕ) × (0 < m' + n') × (t ≡ mix m' n' a b)
    by m (suc n) left right = (m, suc n, omega arith, weighed m (suc n) a b t (whole (pos theta.den)) (whole (pos hi.den)) (whole (pos lo.den)) left right (omega arith))
    by (suc m) zero left right = (suc m, zero, omega arith, weighed (suc m) zero a b t (whole (pos theta.den)) (whole (pos hi.den)) (whole (pos lo.den)) left right (omega arith))
    by zero zero left right = (1, 0, omega arith, same a t lo.den theta.den hi.den p r q right ∙ mix-first a b)
