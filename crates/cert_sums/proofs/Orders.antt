-- What comparisons of fractions show.
use Rattle.std.specs.Prelude.{◌≡◌, ◌≢◌, ℤ, ◌<ℤ◌, ◌≤ℤ◌, [], ◌∷◌, IsTrue, pos}
use Rattle.std.specs.declared.cmp.Ordering.{Ordering}
use Rattle.std.specs.declared.cmp.Ordering.TheVariants.{Less, Equal, Greater}
use Rattle.std.specs.Ordering.{MatchOrdering, int_cmp, is_eq, is_le, is_gt}
use Rattle.std.proofs.Common.{arith, refl, sym, ap, subst, ◌∙◌}
use Rattle.std.proofs.lemmas.Cmp.{int_ranked}
use Rattle.std.proofs.lemmas.Int.{ints}
use Rattle.rational_laws.specs.Solver.{number, ◌⊠◌, v0, v1, v2}
use Rattle.rational_laws.specs.Rational.{ℚ, ◌*ℚ◌, whole, inverse, ◌≤ℚ◌}
use Rattle.rational_laws.specs.Order.{cmp_ℚ, sign_ℚ}
use Rattle.rational_laws.proofs.RationalLaws.{*ℚ-inverse, ring_by_ℚ, ≤ℚ_refl}
use Rattle.rational_laws.proofs.OrderLaws.{by_cmp, cmp_ℚ-Less, cmp_ℚ-Equal, cmp_ℚ-Greater, cmp_ℚ-not_Greater, sign_ℚ-above, ≤ℚ-from_mul}

not_greater : (o : Ordering) → o ≡ Greater → ¬ (IsTrue (is_le o))
not_greater o e h = cc (subst (λ z. IsTrue (is_le z)) e h)

is_greater : (o : Ordering) → IsTrue (is_gt o) → o ≡ Greater
is_greater Less h = absurd (cc h)
is_greater Equal h = absurd (cc h)
is_greater Greater h = refl

-- two whole numbers that are equal, or the first of which isn't greater
equal_of : (x y : ℤ) (o : Ordering) → MatchOrdering o (x <ℤ y) (x ≡ y) (y <ℤ x) → IsTrue (is_eq o) → x ≡ y
equal_of x y Less m h = absurd (cc h)
equal_of x y Equal m h = m
equal_of x y Greater m h = absurd (cc h)

pub equal_whole : (x y : ℤ) (o : Ordering) → o ≡ int_cmp x y → IsTrue (is_eq o) → x ≡ y
equal_whole x y o e h = equal_of x y o (int_ranked x y o e) h

most_of : (x y : ℤ) (o : Ordering) → MatchOrdering o (x <ℤ y) (x ≡ y) (y <ℤ x) → IsTrue (is_le o) → x ≤ℤ y
most_of x y Less m h = omega (arith, ints, m)
most_of x y Equal m h = omega (arith, ints, m)
most_of x y Greater m h = absurd (cc h)

pub most_whole : (x y : ℤ) (o : Ordering) → o ≡ int_cmp x y → IsTrue (is_le o) → x ≤ℤ y
most_whole x y o e h = most_of x y o (int_ranked x y o e) h

pub most_from : (x y : ℚ) (o : Ordering) → o ≡ cmp_ℚ x y → IsTrue (is_le o) → x ≤ℚ y
most_from x y o e h = (cmp_ℚ-not_Greater x y).0 (λ g. not_greater o (e ∙ g) h)

pub beyond_from : (x y : ℚ) (o : Ordering) → o ≡ cmp_ℚ x y → IsTrue (is_gt o) → ¬ (x ≤ℚ y)
beyond_from x y o e h = (cmp_ℚ-Greater x y).0 (sym e ∙ is_greater o h)

pub above_zero : (x : ℚ) (n : ℤ) → n ≡ sign_ℚ x → pos 0 <ℤ n → ¬ (x ≤ℚ whole (pos 0))
above_zero x n e l = (sign_ℚ-above x).0 (subst (λ z. pos 0 <ℤ z) e l)

module _ (s b q : ℚ) (positive : ¬ (b ≤ℚ whole (pos 0))) where
  pub not_zero : b ≢ whole (pos 0)
  not_zero e = positive (subst (λ z. z ≤ℚ whole (pos 0)) (sym e) (≤ℚ_refl (whole (pos 0))))

  back : b *ℚ (s *ℚ inverse b) ≡ s
  back = ring_by_ℚ (b ∷ s ∷ inverse b ∷ []) (v0 ⊠ (v1 ⊠ v2)) v1 v1 (v0 ⊠ v2) (number (pos 1)) refl (*ℚ-inverse b not_zero)

  -- a number over a positive one compares as the number with the product
  pub over_compares : cmp_ℚ (s *ℚ inverse b) q ≡ cmp_ℚ s (b *ℚ q)
  over_compares =
      by_cmp (s *ℚ inverse b) q (λ o. o ≡ cmp_ℚ s (b *ℚ q))
      (λ n. sym ((cmp_ℚ-Less s (b *ℚ q)).1 (λ k. n (≤ℚ-from_mul q (s *ℚ inverse b) b positive (subst (λ z. (b *ℚ q) ≤ℚ z) (sym back) k)))))
      (λ e. sym ((cmp_ℚ-Equal s (b *ℚ q)).1 (sym back ∙ ap (λ z. b *ℚ z) e)))
      (λ n. sym ((cmp_ℚ-Greater s (b *ℚ q)).1 (λ k. n (≤ℚ-from_mul (s *ℚ inverse b) q b positive (subst (λ z. z ≤ℚ (b *ℚ q)) (sym back) k)))))
