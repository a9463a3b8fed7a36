-- Inverses, and products that are 0.
--
--     y is 1/x, from x * y = 1              inverse_from x y h
--     the inverse of a product, of -x, of 1/x, of 0    inverse-mul, inverse-neg, inverse_inverse, inverse-zero
--     a factor taken away from both sides   *ℚ_cancel x y z h e
--     a factor is 0, or none is             zero_from_product, product_nonzero, inverse_nonzero
--     by cases                              zero_or_not x
use Rattle.std.specs.Prelude.{◌≡◌, ◌≢◌, ◌⊎◌, Bool, true, false, [], ◌∷◌, pos}
use Rattle.std.proofs.Common.{refl, sym, ap, ap₂, subst, ◌∙◌, inl, inr}
use Rattle.rational_laws.specs.Solver.{number, negated, ◌⊠◌, v0, v1, v2, v3}
use Rattle.rational_laws.specs.Rational.{ℚ, ◌*ℚ◌, neg_ℚ, whole, inverse, le_ℚ}
use Rattle.rational_laws.proofs.RationalLaws.{≤ℚ_refl, ≤ℚ_antisym, ring_ℚ, *ℚ-inverse}
use Rattle.rational_laws.proofs.WholeNumbers.{same_from_whole}

-- a value is 0 or it isn't
pub zero_or_not : (x : ℚ) → (x ≡ whole (pos 0)) ⊎ (x ≢ whole (pos 0))
zero_or_not x = at (le_ℚ x (whole (pos 0))) (le_ℚ (whole (pos 0)) x) refl refl
  where
    apart : false ≡ true → ⊥
    apart s = cc

    at : (s t : Bool) → le_ℚ x (whole (pos 0)) ≡ s → le_ℚ (whole (pos 0)) x ≡ t → (x ≡ whole (pos 0)) ⊎ (x ≢ whole (pos 0))
    at true true e f = inl (≤ℚ_antisym x (whole (pos 0)) (record { le = e }) (record { le = f }))
    at true false e f = inr (λ h. apart (sym f ∙ subst (λ z. le_ℚ z x ≡ true) h (≤ℚ_refl x).le))
    at false t e f = inr (λ h. apart (sym e ∙ subst (λ z. le_ℚ x z ≡ true) h (≤ℚ_refl x).le))

pub one-zero : whole (pos 1) ≢ whole (pos 0)
one-zero h = apart (same_from_whole (pos 1) (pos 0) h)
  where
    apart : pos 1 ≡ pos 0 → ⊥
    apart s = cc

pub inverse-zero : inverse (whole (pos 0)) ≡ whole (pos 0)
unfolding inverse whole
inverse-zero = refl

-- a factor of 1 isn't 0
pub nonzero_from : (x y : ℚ) → x *ℚ y ≡ whole (pos 1) → x ≢ whole (pos 0)
nonzero_from x y h e = one-zero (sym h ∙ ap (λ z. z *ℚ y) e ∙ ring_ℚ (y ∷ []) (number (pos 0) ⊠ v0) (number (pos 0)) refl)

-- what gives 1 with x is its inverse
pub inverse_from : (x y : ℚ) → x *ℚ y ≡ whole (pos 1) → y ≡ inverse x
inverse_from x y h =
    ring_ℚ (y ∷ []) v0 (number (pos 1) ⊠ v0) refl
    ∙ ap (λ z. z *ℚ y) (sym (*ℚ-inverse x (nonzero_from x y h)))
    ∙ ring_ℚ (x ∷ y ∷ inverse x ∷ []) ((v0 ⊠ v2) ⊠ v1) ((v0 ⊠ v1) ⊠ v2) refl
    ∙ ap (λ z. z *ℚ inverse x) h
    ∙ ring_ℚ (inverse x ∷ []) (number (pos 1) ⊠ v0) v0 refl

-- a factor that isn't 0 may be taken away
pub *ℚ_cancel : (x y z : ℚ) → z ≢ whole (pos 0) → z *ℚ x ≡ z *ℚ y → x ≡ y
*ℚ_cancel x y z h e = sym (back x) ∙ ap (λ v. inverse z *ℚ v) e ∙ back y
  where
    back : (v : ℚ) → inverse z *ℚ (z *ℚ v) ≡ v
    back v =
        ring_ℚ (v ∷ z ∷ inverse z ∷ []) (v2 ⊠ (v1 ⊠ v0)) ((v1 ⊠ v2) ⊠ v0) refl
        ∙ ap (λ w. w *ℚ v) (*ℚ-inverse z h) ∙ ring_ℚ (v ∷ []) (number (pos 1) ⊠ v0) v0 refl

-- a product is 0 only where a factor is
pub zero_from_product : (x y : ℚ) → x *ℚ y ≡ whole (pos 0) → x ≢ whole (pos 0) → y ≡ whole (pos 0)
zero_from_product x y h n = *ℚ_cancel y (whole (pos 0)) x n (h ∙ ring_ℚ (x ∷ []) (number (pos 0)) (v0 ⊠ number (pos 0)) refl)

pub product_nonzero : (x y : ℚ) → x ≢ whole (pos 0) → y ≢ whole (pos 0) → x *ℚ y ≢ whole (pos 0)
product_nonzero x y p q h = q (zero_from_product x y h p)

pub inverse_nonzero : (x : ℚ) → x ≢ whole (pos 0) → inverse x ≢ whole (pos 0)
inverse_nonzero x h = nonzero_from (inverse x) x (ring_ℚ (x ∷ inverse x ∷ []) (v1 ⊠ v0) (v0 ⊠ v1) refl ∙ *ℚ-inverse x h)

pub inverse_inverse : (x : ℚ) → inverse (inverse x) ≡ x
inverse_inverse x = by (zero_or_not x)
  where
    by : (x ≡ whole (pos 0)) ⊎ (x ≢ whole (pos 0)) → inverse (inverse x) ≡ x
    by (inl e) = ap (λ z. inverse (inverse z)) e ∙ ap inverse inverse-zero ∙ inverse-zero ∙ sym e
    by (inr h) = sym (inverse_from (inverse x) x (ring_ℚ (x ∷ inverse x ∷ []) (v1 ⊠ v0) (v0 ⊠ v1) refl ∙ *ℚ-inverse x h))

pub inverse-mul : (x y : ℚ) → inverse (x *ℚ y) ≡ inverse x *ℚ inverse y
inverse-mul x y = by (zero_or_not x) (zero_or_not y)
  where
    none : (a b : ℚ) → a ≡ whole (pos 0) → inverse (a *ℚ b) ≡ inverse a *ℚ inverse b
    none a b e =
        ap (λ z. inverse (z *ℚ b)) e ∙ ap inverse (ring_ℚ (b ∷ []) (number (pos 0) ⊠ v0) (number (pos 0)) refl) ∙ inverse-zero
        ∙ ring_ℚ (inverse b ∷ []) (number (pos 0)) (number (pos 0) ⊠ v0) refl
        ∙ ap (λ z. z *ℚ inverse b) (sym (ap inverse e ∙ inverse-zero))

    turned : (a b : ℚ) → a *ℚ b ≡ b *ℚ a
    turned a b = ring_ℚ (a ∷ b ∷ []) (v0 ⊠ v1) (v1 ⊠ v0) refl

    by : (x ≡ whole (pos 0)) ⊎ (x ≢ whole (pos 0)) → (y ≡ whole (pos 0)) ⊎ (y ≢ whole (pos 0)) → inverse (x *ℚ y) ≡ inverse x *ℚ inverse y
    by (inl e) s = none x y e
    by (inr h) (inl e) = ap inverse (turned x y) ∙ none y x e ∙ turned (inverse y) (inverse x)
    by (inr h) (inr k) =
        sym (inverse_from (x *ℚ y) (inverse x *ℚ inverse y) (
        ring_ℚ (x ∷ y ∷ inverse x ∷ inverse y ∷ []) ((v0 ⊠ v1) ⊠ (v2 ⊠ v3)) ((v0 ⊠ v2) ⊠ (v1 ⊠ v3)) refl
        ∙ ap₂ ◌*ℚ◌ (*ℚ-inverse x h) (*ℚ-inverse y k) ∙ ring_ℚ [] (number (pos 1) ⊠ number (pos 1)) (number (pos 1)) refl))

pub inverse-neg : (x : ℚ) → inverse (neg_ℚ x) ≡ neg_ℚ (inverse x)
inverse-neg x = by (zero_or_not x)
  where
    by : (x ≡ whole (pos 0)) ⊎ (x ≢ whole (pos 0)) → inverse (neg_ℚ x) ≡ neg_ℚ (inverse x)
    by (inl e) =
        ap (λ z. inverse (neg_ℚ z)) e ∙ ap inverse (ring_ℚ [] (negated (number (pos 0))) (number (pos 0)) refl) ∙ inverse-zero
        ∙ ring_ℚ [] (number (pos 0)) (negated (number (pos 0))) refl ∙ ap neg_ℚ (sym (ap inverse e ∙ inverse-zero))
    by (inr h) =
        sym (inverse_from (neg_ℚ x) (neg_ℚ (inverse x)) (ring_ℚ (x ∷ inverse x ∷ []) (negated v0 ⊠ negated v1) (v0 ⊠ v1) refl ∙ *ℚ-inverse x h))
