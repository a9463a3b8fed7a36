-- Numbers over a scale.
use Rattle.std.specs.Prelude.{◌≡◌, ℕ, ℤ, ◌≤◌, ◌+ℤ◌, ◌*ℤ◌, ◌≤ℤ◌, ◌<ℤ◌, unsigned_abs, [], ◌∷◌, pos}
use Rattle.std.proofs.Common.{arith, refl, sym, ap, ap₂, subst, ◌∙◌}
use Rattle.std.proofs.lemmas.Int.{ints}
use Rattle.rational_laws.specs.Integers.{mul_positive}
use Rattle.rational_laws.specs.Solver.{number, ◌⊞◌, ◌⊠◌, v0, v1, v2, v3, v4, v5, v6}
use Rattle.rational_laws.specs.Rational.{◌+ℚ◌, ◌*ℚ◌, inverse, whole, ◌≤ℚ◌}
use Rattle.rational_laws.proofs.RationalLaws.{whole-add, whole-mul, *ℚ-inverse, ring_ℚ, ring_by_ℚ, ≤ℚ_mul}
use Rattle.rational_laws.proofs.OrderLaws.{≤ℚ-from_mul}
use Rattle.rational_laws.proofs.Inverses.{inverse-mul}
use Rattle.rational_laws.proofs.WholeNumbers.{le_from_whole, whole-le}
use Rattle.rational_laws.proofs.Signs.{whole_nonzero}
use Rattle.pivot_model.specs.Duals.{◌<ℚ◌}
use Rattle.whole_inverse.specs.Shares.{share}

size_is : (z : ℤ) → pos 1 ≤ℤ z → pos (unsigned_abs z) ≡ z
size_is z h = omega (arith, ints)

pub scale_positive : (d t : ℤ) → pos 1 ≤ℤ d → pos 1 ≤ℤ t → 1 ≤ unsigned_abs (d *ℤ t)
scale_positive d t hd ht =
    let z = mul_positive d t hd ht in
    omega (arith, ints)

module _ (d t : ℤ) (hd : pos 1 ≤ℤ d) (ht : pos 1 ≤ℤ t) where
  -- a number over a product
  pub scaled_share : (n : ℤ) → share n (pos (unsigned_abs (d *ℤ t))) ≡ whole n *ℚ (inverse (whole d) *ℚ inverse (whole t))
  scaled_share n =
      ap (λ e. share n e) (size_is (d *ℤ t) (mul_positive d t hd ht))
      ∙ ap (λ z. whole n *ℚ inverse z) (whole-mul d t) ∙ ap (λ z. whole n *ℚ z) (inverse-mul (whole d) (whole t))

  -- a number that is affine in the quotient s / t
  pub affine_share : (c l s n : ℤ) → n ≡ (c *ℤ t) +ℤ (l *ℤ s) → share n (pos (unsigned_abs (d *ℤ t))) ≡ share c d +ℚ (share l d *ℚ share s t)
  affine_share c l s n e =
      scaled_share n
      ∙ ap (λ z. z *ℚ (inverse (whole d) *ℚ inverse (whole t))) (ap whole e ∙ whole-add (c *ℤ t) (l *ℤ s) ∙ ap₂ (λ x y. x +ℚ y) (whole-mul c t) (whole-mul l s))
      ∙ ring_by_ℚ (whole c ∷ whole t ∷ whole l ∷ whole s ∷ inverse (whole d) ∷ inverse (whole t) ∷ []) ((v0 ⊠ v1 ⊞ v2 ⊠ v3) ⊠ (v4 ⊠ v5)) (v0 ⊠ v4 ⊞ (v2 ⊠ v4) ⊠ (v3 ⊠ v5)) (v0 ⊠ v4) (v1 ⊠ v5) (number (pos 1)) refl
      (*ℚ-inverse (whole t) (whole_nonzero t ht))

  -- a size times a number that is affine
  pub weighed_share : (m c l s w n : ℤ) → w ≡ (c *ℤ t) +ℤ (l *ℤ s) → n ≡ m *ℤ w → share n (pos (unsigned_abs (d *ℤ t))) ≡ share m d *ℚ (whole c +ℚ (whole l *ℚ share s t))
  weighed_share m c l s w n ew en =
      scaled_share n
      ∙ ap (λ z. z *ℚ (inverse (whole d) *ℚ inverse (whole t))) (ap whole en ∙ whole-mul m w ∙ ap (λ z. whole m *ℚ z) (ap whole ew ∙ whole-add (c *ℤ t) (l *ℤ s) ∙ ap₂ (λ x y. x +ℚ y) (whole-mul c t) (whole-mul l s)))
      ∙ ring_by_ℚ (whole m ∷ whole c ∷ whole t ∷ whole l ∷ inverse (whole d) ∷ inverse (whole t) ∷ whole s ∷ []) ((v0 ⊠ (v1 ⊠ v2 ⊞ v3 ⊠ v6)) ⊠ (v4 ⊠ v5)) ((v0 ⊠ v4) ⊠ (v1 ⊞ v3 ⊠ (v6 ⊠ v5))) ((v0 ⊠ v4) ⊠ v1) (v2 ⊠ v5) (number (pos 1)) refl
      (*ℚ-inverse (whole t) (whole_nonzero t ht))

pub share-sum : (a b e : ℤ) → share (a +ℤ b) e ≡ share a e +ℚ share b e
share-sum a b e =
    ap (λ z. z *ℚ inverse (whole e)) (whole-add a b) ∙ ring_ℚ (whole a ∷ whole b ∷ inverse (whole e) ∷ []) ((v0 ⊞ v1) ⊠ v2) (v0 ⊠ v2 ⊞ v1 ⊠ v2) refl

-- numbers over one scale are in their own order
module _ (e : ℕ) (some : 1 ≤ e) where
  above : pos 1 ≤ℤ pos e
  above = omega (arith, ints, some)

  times : (n : ℤ) → whole (pos e) *ℚ share n (pos e) ≡ whole n
  times n = ring_by_ℚ (whole n ∷ whole (pos e) ∷ inverse (whole (pos e)) ∷ []) (v1 ⊠ (v0 ⊠ v2)) v0 v0 (v1 ⊠ v2) (number (pos 1)) refl (*ℚ-inverse (whole (pos e)) (whole_nonzero (pos e) above))

  raised : (m n : ℤ) → share m (pos e) ≤ℚ share n (pos e) → m ≤ℤ n
  raised m n l =
      le_from_whole m n
      (subst (λ z. z ≤ℚ whole n) (times m) (subst (λ z. (whole (pos e) *ℚ share m (pos e)) ≤ℚ z) (times n) (≤ℚ_mul (share m (pos e)) (share n (pos e)) (whole (pos e)) (whole-le (pos 0) (pos e) (omega (arith, ints))) l)))

  pub share_less : (m n : ℤ) → m <ℤ n → share m (pos e) <ℚ share n (pos e)
  share_less m n l back =
      let z = raised n m back in
      omega (arith, ints)

  pub share_at_most : (m n : ℤ) → m ≤ℤ n → share m (pos e) ≤ℚ share n (pos e)
  share_at_most m n l =
      ≤ℚ-from_mul (share m (pos e)) (share n (pos e)) (whole (pos e)) not_below
      (subst (λ z. z ≤ℚ (whole (pos e) *ℚ share n (pos e))) (sym (times m)) (subst (λ z. whole m ≤ℚ z) (sym (times n)) (whole-le m n l)))
    where
      not_below : ¬ (whole (pos e) ≤ℚ whole (pos 0))
      not_below l =
          let z = le_from_whole (pos e) (pos 0) l in
          omega (arith, ints, some)

  zero_share : share (pos 0) (pos e) ≡ whole (pos 0)
  zero_share = ring_ℚ (inverse (whole (pos e)) ∷ []) (number (pos 0) ⊠ v0) (number (pos 0)) refl

  pub share_negative : (n : ℤ) → n <ℤ pos 0 → share n (pos e) <ℚ whole (pos 0)
  share_negative n l up = share_less n (pos 0) l (subst (λ z. z ≤ℚ share n (pos e)) (sym zero_share) up)

  pub share_not_negative : (n : ℤ) → pos 0 ≤ℤ n → whole (pos 0) ≤ℚ share n (pos e)
  share_not_negative n l = subst (λ z. z ≤ℚ share n (pos e)) zero_share (share_at_most (pos 0) n l)
