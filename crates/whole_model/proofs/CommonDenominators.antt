-- Fractions over a common denominator: every vector of them is one of whole numbers over one.
use Rattle.std.specs.Prelude.{◌≡◌, ℕ, zero, suc, ◌*◌, ◌<◌, ◌≤◌, Bool, true, false, cond, ltb, [], ◌∷◌, ℤ, pos, ◌*ℤ◌}
use Rattle.std.proofs.Common.{arith, refl, sym, ap, ◌∙◌}
use Rattle.std.proofs.lemmas.Bool.{ltb-false}
use borrow.Author.Tests.{ltb-true}
use Rattle.rational_laws.specs.Solver.{◌⊠◌, v0, v1, v2}
use Rattle.rational_laws.specs.Rational.{ℚ, ◌*ℚ◌, whole}
use Rattle.rational_laws.proofs.RationalLaws.{whole-mul, ring_ℚ}
use Rattle.rational_laws.proofs.Signs.{whole_product, some_product}
use Rattle.loss_model.proofs.Quotients.{whole-quotient}
use Rattle.whole_model.proofs.LowestTerms.{lowest_of}

-- c/d is v in each of the first n places
pub record IsOver (n : ℕ) (c : ℕ → ℤ) (d : ℕ) (v : ℕ → ℚ) : Type 0 where
  pub each : (k : ℕ) → k < n → whole (c k) ≡ whole (pos d) *ℚ v k

-- over a product of two denominators
pub over_product : (n : ℕ) (c : ℕ → ℤ) (d g : ℕ) (v : ℕ → ℚ) → IsOver n c (d * g) v → (k : ℕ) → k < n → whole (c k) ≡ (whole (pos d) *ℚ whole (pos g)) *ℚ v k
over_product n c d g v over k l = over.each k l ∙ ap (λ z. z *ℚ v k) (whole_product d g)

-- c/d in the first n places, and m/b in the next
abbrev extended : ℕ → (ℕ → ℤ) → ℕ → ℤ → ℕ → ℕ → ℤ
extended n c d m b k = cond (ltb k n) (c k *ℤ pos b) (m *ℤ pos d)

extended_is : (n : ℕ) (c : ℕ → ℤ) (d : ℕ) (m : ℤ) (b : ℕ) (v : ℕ → ℚ) → IsOver n c d v → whole m ≡ whole (pos b) *ℚ v n → IsOver (suc n) (extended n c d m b) (d * b) v
extended_is n c d m b v over e = record { each = λ k l. by k l (ltb k n) refl }
  where
    by : (k : ℕ) → k < suc n → (t : Bool) → ltb k n ≡ t → whole (cond t (c k *ℤ pos b) (m *ℤ pos d)) ≡ whole (pos (d * b)) *ℚ v k
    by k l true h =
        whole-mul (c k) (pos b) ∙ ap (λ z. z *ℚ whole (pos b)) (over.each k (ltb-true k n h))
        ∙ ring_ℚ (whole (pos d) ∷ whole (pos b) ∷ v k ∷ []) ((v0 ⊠ v2) ⊠ v1) ((v0 ⊠ v1) ⊠ v2) refl ∙ ap (λ z. z *ℚ v k) (sym (whole_product d b))
    by k l false h =
        let last : n ≡ k = omega (arith, ltb-false k n h) in
        whole-mul m (pos d) ∙ ap (λ z. z *ℚ whole (pos d)) e
        ∙ ring_ℚ (whole (pos d) ∷ whole (pos b) ∷ v n ∷ []) ((v1 ⊠ v2) ⊠ v0) ((v0 ⊠ v1) ⊠ v2) refl
        ∙ ap (λ z. z *ℚ v n) (sym (whole_product d b)) ∙ ap (λ i. whole (pos (d * b)) *ℚ v i) last

-- the first n places of a vector of fractions over one denominator
pub record CommonDenominator (n : ℕ) (v : ℕ → ℚ) : Type 0 where
  pub c : ℕ → ℤ
  pub d : ℕ
  pub positive : 1 ≤ d
  pub over : IsOver n c d v

pub common_denominator : (n : ℕ) (v : ℕ → ℚ) → CommonDenominator n v
common_denominator zero v = record { c = λ k. pos 0; d = 1; positive = omega arith; over = record { each = λ k l. absurd (omega arith) } }
common_denominator (suc n) v =
    let before = common_denominator n v in
    let last = lowest_of (v n) in
    record {
      c = extended n before.c before.d last.v.num last.v.den;
      d = before.d * last.v.den;
      positive = some_product before.d last.v.den before.positive last.is.positive;
      over = extended_is n before.c before.d last.v.num last.v.den v before.over (whole-quotient last.v.num last.v.den last.is.positive ∙ ap (λ z. whole (pos last.v.den) *ℚ z) last.is.is);
    }
