-- Products of bounds, and the most that a sum of products can be.
use Rattle.std.specs.Prelude.{◌≡◌, ℕ, ℤ, ◌+◌, ◌*◌, ◌<◌, ◌≤◌, ◌≤ℤ◌, List, [], ◌∷◌, get_or, length, IsTrue, pos}
use Rattle.std.specs.Ordering.{is_lt, nat_cmp}
use Rattle.std.proofs.Common.{arith, refl, ap, ◌∙◌}
use Rattle.std.proofs.lemmas.Int.{ints}
use Rattle.std.proofs.lemmas.Grind.{common_steps}
use Rattle.std.proofs.lemmas.Nat.{mul-le}
use Rattle.rational_laws.specs.Solver.{◌⊠◌, v0, v1}
use Rattle.rational_laws.specs.Rational.{◌*ℚ◌, whole, inverse}
use Rattle.rational_laws.proofs.RationalLaws.{ring_ℚ}
use Rattle.rational_laws.proofs.OrderLaws.{inverse_not_negative}
use Rattle.rational_laws.proofs.WholeNumbers.{whole-le}
use Rattle.whole_inverse.specs.Shares.{share, share_at}
use Rattle.whole_inverse.proofs.Lists.{share_read}
use Rattle.whole_solution.specs.declared.ranges.Ranges.{Ranges}
use Rattle.whole_solution.specs.Ranges.{most_of_products}
use Rattle.whole_solution.proofs.Within.{most_scaled}
use Rattle.whole_steps.specs.declared.bound.Pair.{Pair}
use Rattle.whole_steps.specs.Bounds.{IsReduced}

-- ---- products of three

grown : (a b k : ℕ) → a < b → 0 < k → a * k < b * k
grown a b k h p =
    let more : (a + 1) * k ≤ b * k = mul-le (a + 1) k b k (omega arith) (omega arith) in
    omega arith

scaled : (a b c d e f s t u : ℕ) → 0 < s → 0 < t → 0 < u → a * b * c < d * e * f → (a * s) * (b * t) * (c * u) < (d * s) * (e * t) * (f * u)
scaled a b c d e f s t u ps pt pu h =
    let one : (a * b * c) * s < (d * e * f) * s = grown (a * b * c) (d * e * f) s h ps in
    let two : ((a * b * c) * s) * t < ((d * e * f) * s) * t = grown ((a * b * c) * s) ((d * e * f) * s) t one pt in
    let three : (((a * b * c) * s) * t) * u < (((d * e * f) * s) * t) * u = grown (((a * b * c) * s) * t) (((d * e * f) * s) * t) u two pu in
    omega arith

-- the parts of three pairs compare as those of the pairs to which they are reduced
pub products_less : (one two three p q r : Pair) → IsReduced one p → IsReduced two q → IsReduced three r → p.left * q.left * r.left < p.right * q.right * r.right
    → one.left * two.left * three.left < one.right * two.right * three.right
products_less one two three p q r (s, ps, ha, hd) (t, pt, hb, he) (u, pu, hc, hf) h =
    let above : one.left * two.left * three.left ≤ (p.left * s) * (q.left * t) * (r.left * u) =
    mul-le (one.left * two.left) three.left ((p.left * s) * (q.left * t)) (r.left * u) (mul-le one.left two.left (p.left * s) (q.left * t) ha hb) hc in
    let below : (p.right * s) * (q.right * t) * (r.right * u) ≤ one.right * two.right * three.right =
    mul-le ((p.right * s) * (q.right * t)) (r.right * u) (one.right * two.right) three.right (mul-le (p.right * s) (q.right * t) one.right two.right hd he) hf in
    let between = scaled p.left q.left r.left p.right q.right r.right s t u ps pt pu h in
    omega (arith, above, below, between)

-- what a comparison tells
pub less_than : (x y : ℕ) → IsTrue (is_lt (nat_cmp x y)) → x < y
less_than x y t = grind (arith, common_steps)

-- ---- sums of products

-- the most that they can be, over a denominator
pub most_share : (r : Ranges) (column : List ℤ) (n m : ℕ) (d : ℤ) → n ≤ length column → pos 1 ≤ℤ d → whole (pos m) ≡ most_of_products n r (λ k. whole (get_or column k (pos 0)))
    → share (pos m) d ≡ most_of_products n r (share_at d column)
most_share r column n m d short h is =
    ap (λ z. z *ℚ inverse (whole d)) is
    ∙ ring_ℚ (most_of_products n r (λ k. whole (get_or column k (pos 0))) ∷ inverse (whole d) ∷ []) (v0 ⊠ v1) (v1 ⊠ v0) refl
    ∙ most_scaled (inverse (whole d)) (inverse_not_negative (whole d) (whole-le (pos 0) d (omega (arith, ints)))) n r (λ k. whole (get_or column k (pos 0))) (share_at d column)
    (λ k lk. ring_ℚ (whole (get_or column k (pos 0)) ∷ inverse (whole d) ∷ []) (v1 ⊠ v0) (v0 ⊠ v1) refl ∙ share_read d column k (omega (arith, lk, short)))
