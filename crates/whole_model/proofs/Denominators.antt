-- The product of all denominators of a problem makes every value whole.
use Rattle.std.specs.Prelude.{◌≡◌, ℕ, zero, suc, ◌*◌, ◌/◌, ◌≤◌, List, [], ◌∷◌, ◌++◌, map, slice_get, ℤ, pos}
use Rattle.std.specs.Option.{option_map_or}
use Rattle.std.proofs.Common.{arith, refl, sym, ap, ◌∙◌}
use Rattle.std.proofs.Math.Nat.{mul-div_cancel_left}
use Rattle.rational_laws.specs.Fraction.{Fraction, rational, common, over}
use Rattle.rational_laws.specs.Solver.{number, ◌⊠◌, v0, v1, v2, v3}
use Rattle.rational_laws.specs.Rational.{ℚ, ◌*ℚ◌, inverse, quotient, whole}
use Rattle.rational_laws.proofs.RationalLaws.{whole-mul, ring_ℚ, ring_by_ℚ}
use Rattle.rational_laws.proofs.Quotients.{quotient_from}
use Rattle.rational_laws.proofs.Signs.{whole_product, some_product}
use Rattle.loss_model.specs.declared.problem.Row.{Row}
use Rattle.loss_model.specs.declared.problem.Problem.{Problem}
use Rattle.loss_model.specs.Problem.{value_at, sample}
use Rattle.whole_model.specs.Scaled.{row_values, values, unit, over_at, scaled}
use Rattle.whole_model.specs.Laws.{LossInIntegers, MinimisesInIntegers, DualsInIntegers, ListIsOver}
use Rattle.loss_model.proofs.Quotients.{inverse_of, whole-quotient}
use Rattle.whole_model.proofs.Scales.{Scales, loss_scaled}
use Rattle.whole_model.proofs.Integers.{minima, duals}

record Divides (d q : ℕ) : Type 0 where
  pub factor : ℕ
  pub is : q ≡ d * factor

-- every denominator divides q
abbrev AllDivide : ℕ → List Fraction → Type 0
AllDivide q [] = Unit {0}
AllDivide q (v ∷ vs) = Divides v.den q × AllDivide q vs

times_divide : (k q : ℕ) (vs : List Fraction) → AllDivide q vs → AllDivide (k * q) vs
times_divide k q [] h = tt
times_divide k q (v ∷ vs) (h, rest) = (record { factor = k * h.factor; is = ap (λ z. k * z) h.is ∙ omega arith }, times_divide k q vs rest)

common_divides : (vs : List Fraction) → AllDivide (common vs) vs
common_divides [] = tt
common_divides (v ∷ vs) = (record { factor = common vs; is = refl }, times_divide v.den (common vs) vs (common_divides vs))

left_divides : (q : ℕ) (vs ws : List Fraction) → AllDivide q (vs ++ ws) → AllDivide q vs
left_divides q [] ws h = tt
left_divides q (v ∷ vs) ws (h, rest) = (h, left_divides q vs ws rest)

right_divides : (q : ℕ) (vs ws : List Fraction) → AllDivide q (vs ++ ws) → AllDivide q ws
right_divides q [] ws h = h
right_divides q (v ∷ vs) ws (h, rest) = right_divides q vs ws rest

-- a value in units of 1/q
whole-over : (q : ℕ) (v : Fraction) → 1 ≤ v.den → Divides v.den q → whole (over q v) ≡ whole (pos q) *ℚ rational v
whole-over q v h d =
    whole-mul v.num (pos (q / v.den))
    ∙ ap (λ k. whole v.num *ℚ whole (pos k)) (ap (λ n. n / v.den) d.is ∙ mul-div_cancel_left d.factor (omega arith))
    ∙ ring_by_ℚ (whole v.num ∷ whole (pos v.den) ∷ whole (pos d.factor) ∷ inverse (whole (pos v.den)) ∷ []) (v0 ⊠ v2) ((v1 ⊠ v2) ⊠ (v0 ⊠ v3)) (v0 ⊠ v2) (number (pos 1)) (v1 ⊠ v3) refl (sym (inverse_of v.den h))
    ∙ ap (λ z. z *ℚ rational v) (sym (whole_product v.den d.factor) ∙ ap (λ n. whole (pos n)) (sym d.is))

nothing : (q : ℕ) → whole (pos 0) ≡ whole (pos q) *ℚ whole (pos 0)
nothing q = ring_ℚ (whole (pos q) ∷ []) (number (pos 0)) (v0 ⊠ number (pos 0)) refl

module _ {F : Type 0} (value : F → Fraction) (positive : (x : F) → 1 ≤ (value x).den) where
  -- the items of a list
  item_over : (q : ℕ) (xs : List F) → AllDivide q (map value xs) → (k : ℕ) → whole (over_at value q xs k) ≡ whole (pos q) *ℚ value_at value xs k
  item_over q [] h k = nothing q
  item_over q (x ∷ xs) (h, rest) zero = whole-over q (value x) (positive x) h
  item_over q (x ∷ xs) (h, rest) (suc k) = item_over q xs rest k

  one_le_common : (xs : List F) → 1 ≤ common (map value xs)
  one_le_common [] = omega arith
  one_le_common (x ∷ xs) = some_product (value x).den (common (map value xs)) (positive x) (one_le_common xs)

  one_le_append : (xs : List F) (vs : List Fraction) → 1 ≤ common vs → 1 ≤ common (map value xs ++ vs)
  one_le_append [] vs h = h
  one_le_append (x ∷ xs) vs h = some_product (value x).den (common (map value xs ++ vs)) (positive x) (one_le_append xs vs h)

  one_le_values : (rows : List (Row F)) → 1 ≤ common (values value rows)
  one_le_values [] = omega arith
  one_le_values (r ∷ rows) = one_le_append (r.y ∷ r.up0 ∷ r.up1 ∷ r.down0 ∷ r.down1 ∷ r.x) (values value rows) (one_le_values rows)

  pub unit_positive : (p : Problem F) → 1 ≤ unit value p
  unit_positive p = one_le_values p.rows

  at_row : (q : ℕ) (n : Row F → ℤ) (x : Row F → ℚ) (rows : List (Row F)) → ((r : Row F) → AllDivide q (row_values value r) → whole (n r) ≡ whole (pos q) *ℚ x r) → AllDivide q (values value rows) → (i : ℕ)
      → whole (option_map_or n (slice_get rows i) (pos 0)) ≡ whole (pos q) *ℚ option_map_or x (slice_get rows i) (whole (pos 0))
  at_row q n x [] each h i = nothing q
  at_row q n x (r ∷ rows) each h zero = each r (left_divides q (row_values value r) (values value rows) h)
  at_row q n x (r ∷ rows) each h (suc i) = at_row q n x rows each (right_divides q (row_values value r) (values value rows) h) i

  pub scales : (p : Problem F) → Scales (unit value p) (sample value p) (scaled value p)
  scales p =
      let q = unit value p in
      let all = common_divides (values value p.rows) in
      record {
        rows = refl;
        columns = refl;
        x = λ i k. at_row q (λ r. over_at value q r.x k) (λ r. value_at value r.x k) p.rows (λ r h. item_over q r.x h.1.1.1.1.1 k) all i;
        y = at_row q (λ r. over q (value r.y)) (λ r. rational (value r.y)) p.rows (λ r h. whole-over q (value r.y) (positive r.y) h.0) all;
        up0 = at_row q (λ r. over q (value r.up0)) (λ r. rational (value r.up0)) p.rows (λ r h. whole-over q (value r.up0) (positive r.up0) h.1.0) all;
        up1 = at_row q (λ r. over q (value r.up1)) (λ r. rational (value r.up1)) p.rows (λ r h. whole-over q (value r.up1) (positive r.up1) h.1.1.0) all;
        down0 = at_row q (λ r. over q (value r.down0)) (λ r. rational (value r.down0)) p.rows (λ r h. whole-over q (value r.down0) (positive r.down0) h.1.1.1.0) all;
        down1 = at_row q (λ r. over q (value r.down1)) (λ r. rational (value r.down1)) p.rows (λ r h. whole-over q (value r.down1) (positive r.down1) h.1.1.1.1.0) all;
      }

  pub losses : (p : Problem F) → LossInIntegers value p
  losses p theta c d tp dp =
      loss_scaled (unit value p) (sample value p) (scaled value p) (scales p) theta tp c d (λ k. quotient (c k) d)
      (record { each = λ k l. whole-quotient (c k) d dp })

  pub minimises : (p : Problem F) → MinimisesInIntegers value p
  minimises p theta c d tp dp =
      minima (unit value p) (sample value p) (scaled value p) (scales p) (unit_positive p) theta tp c d (λ k. quotient (c k) d) dp
      (record { each = λ k l. whole-quotient (c k) d dp })

  pub dual : (p : Problem F) → DualsInIntegers value p
  dual p theta c d e g tp dp gp =
      let q = unit value p in
      duals q (sample value p) (scaled value p) (scales p) (unit_positive p) theta tp e g (λ i. quotient (e i) (q * g)) gp
      (record { each = λ i l. whole-quotient (e i) (q * g) (some_product q g (unit_positive p) gp) })
      c d (λ k. quotient (c k) d) dp (record { each = λ k l. whole-quotient (c k) d dp })

  pub list_is_over : (xs : List F) → ListIsOver value xs
  list_is_over xs =
      let d = common (map value xs) in
      (one_le_common xs, λ k. quotient_from (value_at value xs k) (over_at value d xs k) d (one_le_common xs) (sym (item_over d xs (common_divides (map value xs)) k)))
