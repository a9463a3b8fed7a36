-- A product that is a fraction of the program is no multiplication that overflows, and the first in a row that overflows is one.
use Rattle.std.proofs.Common.{◌≡◌, ◌≤◌, ◌<◌, ◌-◌, ◌*◌, ◌/◌, ◌^◌, ℕ, zero, suc, ℤ, pos, ◌*ℤ◌, unsigned_abs, List, [], ◌∷◌, length, take, get_or, arith, refl, sym, ap, ap₂, subst, ◌∙◌, one-mul}
use Rattle.std.proofs.Math.Nat.{dvd-mul_left, div-mul_cancel, mul-div_cancel, mul_comm}
use Rattle.std.proofs.lemmas.Int.{unsigned_abs-mul}
use Rattle.std.specs.Int.{◌∣◌}
use Rattle.rational_laws.specs.Fraction.{Fraction, rational}
use Rattle.rational_laws.specs.Rational.{ℚ, ◌*ℚ◌, whole}
use Rattle.rational_laws.proofs.Quotients.{cross_from, product_is}
use Rattle.frac_core.specs.Gcd.{gcd}
use Rattle.frac_core.specs.GcdLaws.{dvd_from_coprime, gcd-mul, gcd_comm, quotient_pos}
use Rattle.frac_core.specs.Overflow.{IsWithin, ReducesWithin}
use Rattle.frac_core.specs.declared.frac128.Frac128.{Frac128}
use Rattle.loss_model.specs.declared.spill.Spill.{Spill}
use Rattle.design_matrix.specs.Designs.{OverflowsInColumn, OverflowsInRow, RowFits, entry_site}
use Rattle.design_matrix.specs.Parts.{Part, factors}
use Rattle.design_matrix.specs.Products.{Fits, IsValue, product, product_onto}
use Rattle.loss_model.specs.declared.spill.Site.{Site}
use Rattle.std.proofs.lemmas.List.{get_or-take, length-take}
use Rattle.frac_core.specs.Values.{value, exact}
use Rattle.frac_core.proofs.Values.{same_number}
use native.Mathlib.Decide.{dec_lt}

-- what equals a fraction in lowest terms within the range reduces to one
reduces_within : (range : ℕ) (v : Fraction) (n : ℤ) (d : ℕ) → IsWithin range v → 1 ≤ d → rational v ≡ rational (record { num = n; den = d }) → ReducesWithin range n d
reduces_within range v n d w some same =
    let e : v.num *ℤ pos d ≡ n *ℤ pos v.den = cross_from v (record { num = n; den = d }) w.positive some same in
    let sizes : unsigned_abs v.num * d ≡ unsigned_abs n * v.den = sym (unsigned_abs-mul v.num (pos d)) ∙ ap unsigned_abs e ∙ unsigned_abs-mul n (pos v.den) in
    let divides : v.den ∣ d =
    dvd_from_coprime v.den (unsigned_abs v.num) d (gcd_comm v.den (unsigned_abs v.num) ∙ w.lowest) (subst (λ m. v.den ∣ m) (sym sizes) (dvd-mul_left v.den (unsigned_abs n))) in
    by (d / v.den) (quotient_pos d v.den some divides) (div-mul_cancel v.den divides) sizes
  where
    associate : (a b c : ℕ) → a * (b * c) ≡ (a * b) * c
    associate a b c = omega arith

    by : (k : ℕ) → 0 < k → k * v.den ≡ d → unsigned_abs v.num * d ≡ unsigned_abs n * v.den → ReducesWithin range n d
    by k kp whole sizes =
        let num : unsigned_abs n ≡ unsigned_abs v.num * k =
        sym (mul-div_cancel (unsigned_abs n) w.positive) ∙ ap (λ m. m / v.den) (sym sizes ∙ ap (λ m. unsigned_abs v.num * m) (sym whole) ∙ associate (unsigned_abs v.num) k v.den)
        ∙ mul-div_cancel (unsigned_abs v.num * k) w.positive in
        let den : d ≡ v.den * k = sym whole ∙ mul_comm k v.den in
        let divisor : gcd (unsigned_abs n) d ≡ k = ap₂ gcd num den ∙ gcd-mul (unsigned_abs v.num) v.den k kp ∙ ap (λ m. m * k) w.lowest ∙ one-mul k in
        record {
          num = subst (λ m. m ≤ range) (sym (ap₂ (λ a b. a / b) num divisor ∙ mul-div_cancel (unsigned_abs v.num) kp)) w.num_fits;
          den = subst (λ m. m ≤ range) (sym (ap₂ (λ a b. a / b) den divisor ∙ mul-div_cancel v.den kp)) w.den_fits;
        }

-- so does the product of two fractions whose value is one of the program's
product_reduces : (v x y : Frac128) → rational (value v) ≡ rational (value x) *ℚ rational (value y) → ReducesWithin (2 ^ 127 - 1) (x.num *ℤ y.num) (x.den * y.den)
product_reduces v x y same =
    let some : 1 ≤ x.den * y.den = both (x.den) (y.den) x.within.positive y.within.positive in
    let product = product_is (value x) (value y) (record { num = x.num *ℤ y.num; den = x.den * y.den }) x.within.positive y.within.positive some refl in
    reduces_within (2 ^ 127 - 1) (value v) (x.num *ℤ y.num) (x.den * y.den) v.within some (same ∙ sym product)
  where
    both : (a b : ℕ) → 1 ≤ a → 1 ≤ b → 1 ≤ a * b
    both (suc a) (suc b) h k = omega arith
    both zero b h k = absurd (omega (arith, h))
    both (suc a) zero h k = absurd (omega (arith, k))

-- one number more in a product
onto_more : (x : ℚ) (xs : List ℚ) (t : ℕ) (d : ℚ) → t < length xs → product_onto x (take (suc t) xs) ≡ product_onto x (take t xs) *ℚ get_or xs t d
onto_more x [] t d l = absurd (omega (arith, l))
onto_more x (y ∷ ys) zero d l = refl
onto_more x (y ∷ ys) (suc t) d l = onto_more (x *ℚ y) ys t d (omega (arith, l))

-- where the product with one number more fits, it doesn't overflow
none_beyond : (parts : List Part) (place rec column : ℕ) (spill : Spill Frac128) (h : OverflowsInColumn parts place rec column spill) → IsValue (product (take (suc h.term) (factors parts place))) → ⊥
none_beyond parts place rec column spill h made =
    let xs = factors parts place in
    h.operation.overflows
    (product_reduces made.0 spill.left spill.right
    (made.1 ∙ onto_more (whole (pos 1)) xs h.term (whole (pos 0)) h.more ∙ ap₂ (λ a b. a *ℚ b) (sym h.operation.is_left) (sym h.operation.is_right)))

-- where all products fit, none overflows
none_in_column : (parts : List Part) (place rec column : ℕ) (spill : Spill Frac128) → Fits (factors parts place) → OverflowsInColumn parts place rec column spill → ⊥
none_in_column parts place rec column spill fits h = none_beyond parts place rec column spill h (fits (suc h.term) (omega (arith, h.more)))

-- nor does any in a row, where they fit in its columns
pub none_in_row : (columns : List (List Part)) (place rec : ℕ) (spill : Spill Frac128) → RowFits columns place → OverflowsInRow columns place rec spill → ⊥
none_in_row columns place rec spill fits h = none_in_column (get_or columns h.column []) place rec h.column spill (fits h.column [] h.there) h.first

-- ---- the first product that overflows is one

pub same_spill : (site : Site) (left right : ℚ) (s t : Spill Frac128) → s.site ≡ site → t.site ≡ site
    → exact s.left ≡ left → exact t.left ≡ left → exact s.right ≡ right → exact t.right ≡ right → s ≡ t
same_spill site left right s t a b c d e f =
    let l = same_number s.left t.left (c ∙ sym d) in
    let r = same_number s.right t.right (e ∙ sym f) in
    λ i. record { site = (a ∙ sym b) i; left = l i; right = r i }

same_in_column : (parts : List Part) (place rec column : ℕ) (s t : Spill Frac128) → OverflowsInColumn parts place rec column s → OverflowsInColumn parts place rec column t → s ≡ t
same_in_column parts place rec column s t h k = elim (dec_lt h.term k.term) [
  | yes before ↦ absurd (none_beyond parts place rec column s h (k.first (suc h.term) (omega (arith, before))))
  | no late ↦ elim (dec_lt k.term h.term) [
    | yes after ↦ absurd (none_beyond parts place rec column t k (h.first (suc k.term) (omega (arith, after))))
    | no early ↦
        let xs = factors parts place in
        let e : k.term ≡ h.term = omega (arith, late, early) in
        same_spill (entry_site rec column h.term) (product (take h.term xs)) (get_or xs h.term (whole (pos 0))) s t
        h.operation.named (k.operation.named ∙ ap (entry_site rec column) e)
        h.operation.is_left (k.operation.is_left ∙ ap (λ n. product (take n xs)) e)
        h.operation.is_right (k.operation.is_right ∙ ap (λ n. get_or xs n (whole (pos 0))) e)
  ]
]

pub same_in_row : (columns : List (List Part)) (place rec : ℕ) (s t : Spill Frac128) → OverflowsInRow columns place rec s → OverflowsInRow columns place rec t → s ≡ t
same_in_row columns place rec s t h k = elim (dec_lt h.column k.column) [
  | yes before ↦ absurd (earlier s h k.column k.before before)
  | no late ↦ elim (dec_lt k.column h.column) [
    | yes after ↦ absurd (earlier t k h.column h.before after)
    | no early ↦
        let e : k.column ≡ h.column = omega (arith, late, early) in
        same_in_column (get_or columns h.column []) place rec h.column s t h.first (subst (λ c. OverflowsInColumn (get_or columns c []) place rec c t) e k.first)
  ]
]
  where
    earlier : (u : Spill Frac128) (h : OverflowsInRow columns place rec u) (n : ℕ) → RowFits (take n columns) place → h.column < n → ⊥
    earlier u h n fits below =
        let there : h.column < length (take n columns) = omega (arith, below, h.there, length-take n columns) in
        let of : get_or (take n columns) h.column [] ≡ get_or columns h.column [] = get_or-take n columns h.column [] below in
        none_in_column (get_or columns h.column []) place rec h.column u (subst (λ c. Fits (factors c place)) of (fits h.column [] there)) h.first
