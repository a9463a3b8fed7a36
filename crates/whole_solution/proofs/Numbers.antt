-- Numerators and the values that they stand for.
use Rattle.std.specs.Prelude.{◌≡◌, ◌≢◌, ◌↔◌, ℕ, ℤ, ◌<◌, ◌<ℤ◌, ◌≤ℤ◌, ◌+ℤ◌, ◌*ℤ◌, neg_ℤ, List, length, slice_get, Option, Some, None, [], ◌∷◌, pos}
use Rattle.std.specs.Option.{option_map_or}
use Rattle.std.specs.declared.cmp.Ordering.TheVariants.{Less, Equal, Greater}
use Rattle.std.specs.declared.cmp.Ordering.{Ordering}
use Rattle.std.proofs.Common.{refl, sym, ap, ap₂, subst, ◌∙◌, get_or, arith}
use Rattle.std.proofs.lemmas.Int.{ints}
use Rattle.std.proofs.lemmas.Option.{slice_get-get_or}
use Rattle.rational_laws.specs.Solver.{number, negated, ◌⊞◌, ◌⊟◌, ◌⊠◌, v0, v1, v2, v3}
use Rattle.rational_laws.specs.Rational.{ℚ, ◌+ℚ◌, ◌-ℚ◌, ◌*ℚ◌, neg_ℚ, whole, inverse, ◌≤ℚ◌}
use Rattle.rational_laws.proofs.RationalLaws.{whole-add, whole-mul, *ℚ-inverse, ring_ℚ, ring_by_ℚ, ≤ℚ_mul}
use Rattle.rational_laws.specs.Order.{cmp_ℚ}
use Rattle.rational_laws.proofs.OrderLaws.{cmp_ℚ-Greater, cmp_ℚ-not_Greater, ≤ℚ-from_mul}
use Rattle.rational_laws.proofs.WholeNumbers.{same_from_whole, le_from_whole, whole-le, whole-neg}
use Rattle.rational_laws.proofs.Signs.{whole_nonzero}
use Rattle.loss_model.specs.declared.vertex.Side.TheVariants.{Up, Down}
use Rattle.basis_model.specs.Perturbed.{side_of}
use Rattle.lex_rule.specs.Scan.{AreZeroAt}
use Rattle.rational_laws.specs.WholeLists.{whole_at}
use Rattle.whole_inverse.specs.Shares.{share, share_at}

pub times : (r d : ℤ) → pos 1 ≤ℤ d → whole d *ℚ share r d ≡ whole r
times r d h = ring_by_ℚ (whole r ∷ whole d ∷ inverse (whole d) ∷ []) (v1 ⊠ (v0 ⊠ v2)) v0 v0 (v1 ⊠ v2) (number (pos 1)) refl (*ℚ-inverse (whole d) (whole_nonzero d h))

none : (d : ℤ) → whole d *ℚ whole (pos 0) ≡ whole (pos 0)
none d = ring_ℚ (whole d ∷ []) (v0 ⊠ number (pos 0)) (number (pos 0)) refl

pub above : (d : ℤ) → pos 1 ≤ℤ d → ¬ (whole d ≤ℚ whole (pos 0))
above d h l =
    let z = le_from_whole d (pos 0) l in
    omega (arith, ints)

pub not_greater : (o : Ordering) → ¬ (o ≡ Greater) → Down ≡ side_of o
not_greater Less h = refl
not_greater Equal h = refl
not_greater Greater h = absurd (h refl)

-- a share of a positive number is above 0, and any other is not
pub share_above : (r d : ℤ) → pos 1 ≤ℤ d → pos 0 <ℤ r → ¬ (share r d ≤ℚ whole (pos 0))
share_above r d h p l =
    let z = le_from_whole r (pos 0) (subst (λ z. z ≤ℚ whole (pos 0)) (times r d h) (subst (λ z. (whole d *ℚ share r d) ≤ℚ z) (none d) (≤ℚ_mul (share r d) (whole (pos 0)) (whole d) (whole-le (pos 0) d (omega (arith, ints))) l))) in
    omega (arith, ints)

pub share_not_above : (r d : ℤ) → pos 1 ≤ℤ d → r ≤ℤ pos 0 → share r d ≤ℚ whole (pos 0)
share_not_above r d h p =
    ≤ℚ-from_mul (share r d) (whole (pos 0)) (whole d) (above d h) (subst (λ z. (whole d *ℚ share r d) ≤ℚ z) (sym (none d)) (subst (λ z. z ≤ℚ whole (pos 0)) (sym (times r d h)) (whole-le r (pos 0) p)))

pub side_above : (r d : ℤ) → pos 1 ≤ℤ d → pos 0 <ℤ r → Up ≡ side_of (cmp_ℚ (share r d) (whole (pos 0)))
side_above r d h p = sym (ap side_of ((cmp_ℚ-Greater (share r d) (whole (pos 0))).1 (share_above r d h p)))

pub side_below : (r d : ℤ) → pos 1 ≤ℤ d → r ≤ℤ pos 0 → Down ≡ side_of (cmp_ℚ (share r d) (whole (pos 0)))
side_below r d h p = not_greater (cmp_ℚ (share r d) (whole (pos 0))) ((cmp_ℚ-not_Greater (share r d) (whole (pos 0))).1 (share_not_above r d h p))

pub share-neg : (r d : ℤ) → share (neg_ℤ r) d ≡ neg_ℚ (share r d)
share-neg r d = ap (λ z. z *ℚ inverse (whole d)) (whole-neg r) ∙ ring_ℚ (whole r ∷ inverse (whole d) ∷ []) (negated v0 ⊠ v1) (negated (v0 ⊠ v1)) refl

pub negated_above : (r d : ℤ) → pos 1 ≤ℤ d → r <ℤ pos 0 → Up ≡ side_of (cmp_ℚ (neg_ℚ (share r d)) (whole (pos 0)))
negated_above r d h p = side_above (neg_ℤ r) d h (omega (arith, ints)) ∙ ap (λ z. side_of (cmp_ℚ z (whole (pos 0)))) (share-neg r d)

pub negated_below : (r d : ℤ) → pos 1 ≤ℤ d → pos 0 ≤ℤ r → Down ≡ side_of (cmp_ℚ (neg_ℚ (share r d)) (whole (pos 0)))
negated_below r d h p = side_below (neg_ℤ r) d h (omega (arith, ints)) ∙ ap (λ z. side_of (cmp_ℚ z (whole (pos 0)))) (share-neg r d)

-- ---- items of a list

pub whole_read : (xs : List ℤ) (k : ℕ) → k < length xs → whole_at xs k ≡ whole (get_or xs k (pos 0))
whole_read xs k l = ap (λ (o : Option ℤ). option_map_or whole o (whole (pos 0))) (slice_get-get_or xs k (pos 0) l)

pub zero_at : (xs : List ℤ) (k : ℕ) → k < length xs → (get_or xs k (pos 0) ≡ pos 0) ↔ AreZeroAt (whole_at xs) (whole_at xs) k
zero_at xs k l = (
  λ e. record { left = whole_read xs k l ∙ ap whole e; right = whole_read xs k l ∙ ap whole e },
  λ h. same_from_whole (get_or xs k (pos 0)) (pos 0) (sym (whole_read xs k l) ∙ h.left),
)

pub share_whole : (d : ℤ) (xs : List ℤ) (k : ℕ) → share_at d xs k ≡ whole_at xs k *ℚ inverse (whole d)
share_whole d xs k = by (slice_get xs k)
  where
    by : (o : Option ℤ) → option_map_or (λ n. share n d) o (whole (pos 0)) ≡ option_map_or whole o (whole (pos 0)) *ℚ inverse (whole d)
    by None = ring_ℚ (inverse (whole d) ∷ []) (number (pos 0)) (number (pos 0) ⊠ v0) refl
    by (Some n) = refl

pub share_zero : (d : ℤ) (xs : List ℤ) (k : ℕ) → whole_at xs k ≡ whole (pos 0) → share_at d xs k ≡ whole (pos 0)
share_zero d xs k e = share_whole d xs k ∙ ap (λ z. z *ℚ inverse (whole d)) e ∙ ring_ℚ (inverse (whole d) ∷ []) (number (pos 0) ⊠ v0) (number (pos 0)) refl

pub share_back : (d : ℤ) → pos 1 ≤ℤ d → (xs : List ℤ) (k : ℕ) → share_at d xs k ≡ whole (pos 0) → whole_at xs k ≡ whole (pos 0)
share_back d h xs k e =
    sym (ring_by_ℚ (whole_at xs k ∷ whole d ∷ inverse (whole d) ∷ []) (v1 ⊠ (v0 ⊠ v2)) v0 v0 (v1 ⊠ v2) (number (pos 1)) refl (*ℚ-inverse (whole d) (whole_nonzero d h)))
    ∙ ap (λ z. whole d *ℚ z) (sym (share_whole d xs k) ∙ e) ∙ none d

pub share_some : (r d : ℤ) → pos 1 ≤ℤ d → r ≢ pos 0 → share r d ≢ whole (pos 0)
share_some r d h some e = some (same_from_whole r (pos 0) (sym (times r d h) ∙ ap (λ z. whole d *ℚ z) e ∙ none d))

pub share_none : (r d : ℤ) → r ≡ pos 0 → share r d ≡ whole (pos 0)
share_none r d e = ap (λ n. share n d) e ∙ ring_ℚ (inverse (whole d) ∷ []) (number (pos 0) ⊠ v0) (number (pos 0)) refl

pub rest_share : (y d f r : ℤ) (s : ℚ) → pos 1 ≤ℤ d → r ≡ (y *ℤ d) +ℤ neg_ℤ f → share f d ≡ s → share r d ≡ whole y -ℚ s
rest_share y d f r s h e g =
    ap (λ z. share z d) e
    ∙ ap (λ z. z *ℚ inverse (whole d)) (whole-add (y *ℤ d) (neg_ℤ f) ∙ ap₂ (λ u v. u +ℚ v) (whole-mul y d) (whole-neg f))
    ∙ ring_by_ℚ (whole y ∷ whole d ∷ whole f ∷ inverse (whole d) ∷ []) ((v0 ⊠ v1 ⊞ negated v2) ⊠ v3) (v0 ⊟ v2 ⊠ v3) v0 (v1 ⊠ v3) (number (pos 1)) refl (*ℚ-inverse (whole d) (whole_nonzero d h))
    ∙ ap (λ z. whole y -ℚ z) g
