-- How far all coefficients together can have moved a residual.
use Rattle.std.specs.Prelude.{◌≡◌, ℕ, ℤ, ◌<◌, ◌*◌, ◌≤ℤ◌, ◌+ℤ◌, ◌*ℤ◌, neg_ℤ, List, [], ◌∷◌, length, get_or, unsigned_abs, pos}
use Rattle.std.proofs.Common.{arith, refl, sym, ap, ap₂, subst, ◌∙◌}
use Rattle.std.proofs.lemmas.Int.{ints}
use Rattle.rational_laws.specs.Solver.{negated, ◌⊞◌, ◌⊟◌, ◌⊠◌, v0, v1, v2, v3}
use Rattle.rational_laws.specs.Rational.{ℚ, ◌+ℚ◌, ◌-ℚ◌, ◌*ℚ◌, neg_ℚ, whole, ◌≤ℚ◌}
use Rattle.rational_laws.proofs.RationalLaws.{ring_ℚ, whole-add, whole-mul}
use Rattle.rational_laws.proofs.OrderLaws.{≤ℚ-from_mul}
use Rattle.rational_laws.proofs.WholeNumbers.{whole-le, whole-neg}
use Rattle.whole_inverse.specs.Shares.{share, share_at}
use Rattle.whole_inverse.proofs.Lists.{share_read}
use Rattle.whole_solution.specs.declared.near.Near.{Near}
use Rattle.whole_solution.specs.Far.{move_of, moves, room}
use Rattle.whole_solution.proofs.Numbers.{above, times}
use Rattle.whole_solution.proofs.Within.{most_scaled}

module _ (d0 d : ℤ) (p0 : pos 1 ≤ℤ d0) (p : pos 1 ≤ℤ d) where
  abbrev times_both : ℚ → ℚ
  times_both q = whole d *ℚ (whole d0 *ℚ q)

  -- the difference of two shares, times both denominators
  difference : (b0 b : ℤ) → times_both (share b d -ℚ share b0 d0) ≡ whole (b *ℤ d0 +ℤ neg_ℤ (b0 *ℤ d))
  difference b0 b =
      ring_ℚ (whole d ∷ whole d0 ∷ share b d ∷ share b0 d0 ∷ []) (v0 ⊠ (v1 ⊠ (v2 ⊟ v3))) (v1 ⊠ (v0 ⊠ v2) ⊟ v0 ⊠ (v1 ⊠ v3)) refl
      ∙ ap₂ (λ x y. (whole d0 *ℚ x) -ℚ (whole d *ℚ y)) (times b d p) (times b0 d0 p0)
      ∙ ring_ℚ (whole d ∷ whole d0 ∷ whole b ∷ whole b0 ∷ []) (v1 ⊠ v2 ⊟ v0 ⊠ v3) (v2 ⊠ v1 ⊞ negated (v3 ⊠ v0)) refl
      ∙ sym (whole-add (b *ℤ d0) (neg_ℤ (b0 *ℤ d)) ∙ ap₂ (λ x y. x +ℚ y) (whole-mul b d0) (whole-neg (b0 *ℤ d) ∙ ap neg_ℚ (whole-mul b0 d)))

  not_negative : (z : ℤ) → pos 1 ≤ℤ z → whole (pos 0) ≤ℚ whole z
  not_negative z h = whole-le (pos 0) z (omega (arith, ints))

  -- of the earlier fit
  module _ (near : Near) (over : near.determinant ≡ d0) (coef : List ℤ) (same : length coef ≡ length near.coef) where
    abbrev moved : ℕ → ℚ
    moved k = share_at d coef k -ℚ share_at d0 near.coef k

    abbrev numbers : ℕ → ℚ
    numbers k = whole (move_of near k (get_or coef k (pos 0)) d)

    each : (k : ℕ) → k < length coef → times_both (moved k) ≡ numbers k
    each k lk =
        ap₂ (λ x y. times_both (x -ℚ y)) (sym (share_read d coef k lk)) (sym (share_read d0 near.coef k (omega (arith, same, lk))))
        ∙ difference (get_or near.coef k (pos 0)) (get_or coef k (pos 0))
        ∙ ap (λ d0. whole (get_or coef k (pos 0) *ℤ d0 +ℤ neg_ℤ (get_or near.coef k (pos 0) *ℤ d))) (sym over)

    room_is : times_both (room (length coef) near.ranges (share_at d0 near.coef) (share_at d coef)) ≡ moves near coef d (length coef)
    room_is =
        ap (λ z. whole d *ℚ z) (most_scaled (whole d0) (not_negative d0 p0) (length coef) near.ranges moved (λ k. whole d0 *ℚ moved k) (λ k lk. refl))
        ∙ most_scaled (whole d) (not_negative d p) (length coef) near.ranges (λ k. whole d0 *ℚ moved k) numbers each

    -- a number times the size of the second denominator
    scaled : (n : ℕ) → whole (pos (n * unsigned_abs d)) ≡ times_both (share (pos n) d0)
    scaled n =
        let positive : d ≡ pos (unsigned_abs d) = omega (arith, ints) in
        whole-mul (pos n) (pos (unsigned_abs d)) ∙ ap (λ z. whole (pos n) *ℚ whole z) (sym positive)
        ∙ ring_ℚ (whole (pos n) ∷ whole d ∷ []) (v0 ⊠ v1) (v1 ⊠ v0) refl ∙ ap (λ z. whole d *ℚ z) (sym (times (pos n) d0 p0))

    -- what may have moved and a reach are within a distance
    pub room_left : (reach distance : ℕ) → (moves near coef d (length coef) +ℚ whole (pos (reach * unsigned_abs d))) ≤ℚ whole (pos (distance * unsigned_abs d))
        → (room (length coef) near.ranges (share_at d0 near.coef) (share_at d coef) +ℚ share (pos reach) d0) ≤ℚ share (pos distance) d0
    room_left reach distance h =
        let most = room (length coef) near.ranges (share_at d0 near.coef) (share_at d coef) in
        let least = share (pos reach) d0 in
        let both : times_both (most +ℚ least) ≡ moves near coef d (length coef) +ℚ whole (pos (reach * unsigned_abs d)) =
        ring_ℚ (whole d ∷ whole d0 ∷ most ∷ least ∷ []) (v0 ⊠ (v1 ⊠ (v2 ⊞ v3))) (v0 ⊠ (v1 ⊠ v2) ⊞ v0 ⊠ (v1 ⊠ v3)) refl ∙ ap₂ (λ x y. x +ℚ y) room_is (sym (scaled reach)) in
        let all : times_both (most +ℚ least) ≤ℚ times_both (share (pos distance) d0) =
        subst (λ z. z ≤ℚ times_both (share (pos distance) d0)) (sym both)
        (subst (λ z. (moves near coef d (length coef) +ℚ whole (pos (reach * unsigned_abs d))) ≤ℚ z) (scaled distance) h) in
        ≤ℚ-from_mul (most +ℚ least) (share (pos distance) d0) (whole d0) (above d0 p0)
        (≤ℚ-from_mul (whole d0 *ℚ (most +ℚ least)) (whole d0 *ℚ share (pos distance) d0) (whole d) (above d p) all)
