-- A value times a factor, from the quotient that was multiplied back.
use Rattle.std.specs.Prelude.{◌≡◌, ℕ, ℤ, ◌≤◌, ◌≤ℤ◌, ◌*ℤ◌, [], ◌∷◌, pos}
use Rattle.std.proofs.Common.{refl, sym, ap, subst, ◌∙◌, arith}
use Rattle.std.proofs.lemmas.Int.{ints}
use Rattle.rational_laws.specs.Solver.{number, negated, ◌⊠◌, v0, v1, v2, v3, v4}
use Rattle.rational_laws.specs.Rational.{ℚ, ◌*ℚ◌, whole, inverse, quotient, ◌≤ℚ◌}
use Rattle.rational_laws.proofs.RationalLaws.{whole-mul, *ℚ-inverse, ring_ℚ, ring_by_ℚ, ≤ℚ_mul}
use Rattle.rational_laws.proofs.WholeNumbers.{le_from_whole, whole-le}
use Rattle.rational_laws.proofs.Signs.{whole_nonzero}
use Rattle.whole_inverse.specs.Shares.{share}

steps : (q n o d u i j : ℚ) → d *ℚ i ≡ whole (pos 1) → u *ℚ j ≡ whole (pos 1) → q *ℚ (d *ℚ u) ≡ n *ℚ o → q ≡ (o *ℚ j) *ℚ (n *ℚ i)
steps q n o d u i j e f h =
    ring_by_ℚ (q ∷ d ∷ i ∷ []) v0 (v0 ⊠ (v1 ⊠ v2)) (negated v0) (v1 ⊠ v2) (number (pos 1)) refl e
    ∙ ring_by_ℚ (q ∷ d ∷ i ∷ u ∷ j ∷ []) (v0 ⊠ (v1 ⊠ v2)) ((v0 ⊠ (v1 ⊠ v3)) ⊠ (v2 ⊠ v4)) (negated (v0 ⊠ (v1 ⊠ v2))) (v3 ⊠ v4) (number (pos 1)) refl f
    ∙ ap (λ z. z *ℚ (i *ℚ j)) h
    ∙ ring_ℚ (n ∷ o ∷ i ∷ j ∷ []) ((v0 ⊠ v1) ⊠ (v2 ⊠ v3)) ((v1 ⊠ v3) ⊠ (v0 ⊠ v2)) refl

pub scaled_value : (q n o u : ℤ) (d : ℕ) → 1 ≤ d → pos 1 ≤ℤ u → q *ℤ (pos d *ℤ u) ≡ n *ℤ o → whole q ≡ share o u *ℚ quotient n d
scaled_value q n o u d hd hu e =
    let one : pos 1 ≤ℤ pos d = omega (arith, ints) in
    steps (whole q) (whole n) (whole o) (whole (pos d)) (whole u) (inverse (whole (pos d))) (inverse (whole u)) (*ℚ-inverse (whole (pos d)) (whole_nonzero (pos d) one)) (*ℚ-inverse (whole u) (whole_nonzero u hu))
    (ap (λ z. whole q *ℚ z) (sym (whole-mul (pos d) u)) ∙ sym (whole-mul q (pos d *ℤ u)) ∙ ap whole e ∙ whole-mul n o)

pub positive_share : (o u : ℤ) → pos 1 ≤ℤ o → pos 1 ≤ℤ u → ¬ (share o u ≤ℚ whole (pos 0))
positive_share o u ho hu h = past (le_from_whole o (pos 0) (subst (λ z. z ≤ℚ whole (pos 0)) (back) (subst (λ z. (whole u *ℚ share o u) ≤ℚ z) none (≤ℚ_mul (share o u) (whole (pos 0)) (whole u) (whole-le (pos 0) u (omega (arith, ints))) h))))
  where
    none : whole u *ℚ whole (pos 0) ≡ whole (pos 0)
    none = ring_ℚ (whole u ∷ []) (v0 ⊠ number (pos 0)) (number (pos 0)) refl

    back : whole u *ℚ share o u ≡ whole o
    back = ring_by_ℚ (whole o ∷ whole u ∷ inverse (whole u) ∷ []) (v1 ⊠ (v0 ⊠ v2)) v0 v0 (v1 ⊠ v2) (number (pos 1)) refl (*ℚ-inverse (whole u) (whole_nonzero u hu))

    past : o ≤ℤ pos 0 → ⊥
    past l = omega (arith, ints)
