-- Entries of a row within ranges, and the classes of rows.
use Rattle.std.specs.Prelude.{◌≡◌, ◌≢◌, ℕ, ℤ, ◌+◌, ◌*◌, ◌^◌, ◌<◌, ◌≤◌, ◌-ℤ◌, ◌+ℤ◌, neg_ℤ, Bool, true, false, ◌==◌, List, [], ◌∷◌, ◌++◌, length, get_or, slice_index, unsigned_abs, pos}
use Rattle.std.proofs.Common.{arith, refl, sym, ap, subst, ◌∙◌}
use Rattle.std.proofs.lemmas.Int.{ints}
use Rattle.std.proofs.lemmas.Nat.{mul-le}
use borrow.Author.Tests.{eqb-true, eqb-false}
use Rattle.rational_laws.specs.Solver.{◌⊠◌, v0, v1}
use Rattle.rational_laws.specs.Rational.{◌+ℚ◌, ◌-ℚ◌, ◌*ℚ◌, whole, ◌≤ℚ◌}
use Rattle.rational_laws.proofs.RationalLaws.{ring_ℚ, whole-add, whole-mul}
use Rattle.rational_laws.proofs.WholeNumbers.{whole-le, whole-neg}
use Rattle.loss_model.specs.Spill.{abs_ℚ}
use Rattle.rational_laws.specs.WholeLists.{whole_at}
use Rattle.whole_rows.specs.declared.rows.WholeRow.{WholeRow}
use Rattle.whole_rows.specs.Wholes.{of_whole, sample_of_rows}
use Rattle.whole_solution.specs.Ranges.{factor_at, half_at, power, AreWithin}
use Rattle.whole_solution.proofs.Listed.{half_last, read_before}
use Rattle.whole_solution.proofs.Numbers.{whole_read}
use Rattle.whole_solution.proofs.Reading.{row_read}
use Rattle.whole_solution.proofs.Sizes.{abs_whole}

-- how far a whole number is from another one
distance : (x m : ℤ) → abs_ℚ (whole x -ℚ whole m) ≡ whole (pos (unsigned_abs (x -ℤ m)))
distance x m =
    let minus : x -ℤ m ≡ x +ℤ neg_ℤ m = omega (arith, ints) in
    ap abs_ℚ (ap (λ z. whole x +ℚ z) (sym (whole-neg m)) ∙ sym (whole-add x (neg_ℤ m)) ∙ ap whole (sym minus)) ∙ abs_whole (x -ℤ m)

-- an entry more
module _ (x middles : List ℤ) (halves : List ℕ) (class k over : ℕ) (inside : k < length x) (columns : k < length middles)
    (up : unsigned_abs (get_or x k (pos 0) -ℤ get_or middles k (pos 0)) ≤ over * 2 ^ class) (less : over ≤ slice_index halves k)
    (before : AreWithin k middles halves (power class) (whole_at x)) where
  abbrev IsIn : ℕ → Type 0
  IsIn k = abs_ℚ (whole_at x k -ℚ whole_at middles k) ≤ℚ (power class *ℚ half_at halves k)

  this : abs_ℚ (whole (get_or x k (pos 0)) -ℚ whole (get_or middles k (pos 0))) ≤ℚ (power class *ℚ half_at halves k)
  this =
      let most = mul-le over (2 ^ class) (slice_index halves k) (2 ^ class) less (omega arith) in
      subst (λ z. z ≤ℚ (power class *ℚ half_at halves k)) (sym (distance (get_or x k (pos 0)) (get_or middles k (pos 0))))
      (subst (λ z. whole (pos (unsigned_abs (get_or x k (pos 0) -ℤ get_or middles k (pos 0)))) ≤ℚ z)
      (whole-mul (pos (slice_index halves k)) (pos (2 ^ class)) ∙ ring_ℚ (half_at halves k ∷ power class ∷ []) (v0 ⊠ v1) (v1 ⊠ v0) refl)
      (whole-le (pos (unsigned_abs (get_or x k (pos 0) -ℤ get_or middles k (pos 0)))) (pos (slice_index halves k * 2 ^ class)) (omega (arith, ints, up, most))))

  pub entry_more : AreWithin (k + 1) middles halves (power class) (whole_at x)
  entry_more m l = by (m == k) refl
    where
      here : IsIn k
      here =
          subst (λ z. abs_ℚ (z -ℚ whole_at middles k) ≤ℚ (power class *ℚ half_at halves k)) (sym (whole_read x k inside))
          (subst (λ z. abs_ℚ (whole (get_or x k (pos 0)) -ℚ z) ≤ℚ (power class *ℚ half_at halves k)) (sym (whole_read middles k columns)) this)

      by : (t : Bool) → (m == k) ≡ t → IsIn m
      by true e = subst IsIn (sym (eqb-true m k e)) here
      by false e =
          let other : m ≢ k = eqb-false m k e in
          before m (omega (arith, l, other))

-- a row more
module _ (rows : List (WholeRow ℤ)) (n i : ℕ) (middles : List ℤ) (halves classes : List ℕ) (class : ℕ) (r : WholeRow ℤ) (here : i < length rows) (is : r ≡ get_or rows i r) (size : length classes ≡ i)
    (own : AreWithin n middles halves (power class) (whole_at r.x))
    (before : (m : ℕ) → m < i → AreWithin n middles halves (factor_at classes m) ((sample_of_rows n rows).x m)) where
  abbrev AreRow : ℕ → Type 0
  AreRow m = AreWithin n middles halves (factor_at (classes ++ class ∷ []) m) ((sample_of_rows n rows).x m)

  row : AreRow i
  row k lk =
      subst (λ c. abs_ℚ (of_whole rows (λ r. whole_at r.x k) i -ℚ whole_at middles k) ≤ℚ (power c *ℚ half_at halves k)) (sym (half_last classes class i size))
      (subst (λ x. abs_ℚ (x -ℚ whole_at middles k) ≤ℚ (power class *ℚ half_at halves k)) (sym (row_read rows i r (λ r. whole_at r.x k) here is)) (own k lk))

  pub row_more : (m : ℕ) → m < i + 1 → AreRow m
  row_more m l = by (m == i) refl
    where
      by : (t : Bool) → (m == i) ≡ t → AreRow m
      by true e = subst AreRow (sym (eqb-true m i e)) row
      by false e =
          let other : m ≢ i = eqb-false m i e in
          let less : m < i = omega (arith, l, other) in
          subst (λ c. AreWithin n middles halves (power c) ((sample_of_rows n rows).x m)) (sym (read_before classes class m (omega (arith, less, size)))) (before m less)
