-- The Gram matrix, from what is read and added.
use Rattle.std.specs.Prelude.{◌≡◌, ◌⊎◌, ℕ, ◌+◌, ◌<◌, ◌≤◌, List, [], ◌∷◌, length, get_or, slice_get, Option, Some, pos}
use Rattle.std.specs.Option.{option_map_or}
use Rattle.std.proofs.Common.{arith, refl, sym, ap, subst, ◌∙◌, inl, inr}
use Rattle.std.proofs.lemmas.Bool.{cases_lt}
use Rattle.std.proofs.lemmas.Option.{slice_get_past, slice_get_read}
use Rattle.rational_laws.specs.Fraction.{Fraction, rational}
use Rattle.rational_laws.specs.Solver.{number, ◌⊠◌, v0, v1}
use Rattle.rational_laws.specs.Rational.{ℚ, ◌+ℚ◌, ◌*ℚ◌, whole}
use Rattle.rational_laws.proofs.RationalLaws.{ring_ℚ, zero-+ℚ}
use Rattle.rational_laws.specs.RationalSums.{sum_ℚ}
use Rattle.rational_laws.proofs.RationalSumLaws.{sum_ℚ-same}
use Rattle.frac_core.specs.Overflow.{Overflows}
use Rattle.frac_core.specs.declared.exact.OpKind.{OpKind}
use Rattle.loss_model.specs.declared.problem.Problem.{Problem}
use Rattle.loss_model.specs.declared.problem.Row.{Row}
use Rattle.loss_model.specs.declared.spill.Site.{Site}
use Rattle.loss_model.specs.declared.spill.Spill.{Spill}
use Rattle.loss_model.specs.Problem.{value_at, sample, IsWellShaped}
use Rattle.loss_model.specs.Spill.{IsOperation}
use Rattle.loss_model.proofs.Products.{value_at-item}
use Rattle.rank_model.specs.Gram.{gram}
use Rattle.gram_matrix.specs.Grams.{scaled}
use Rattle.gram_matrix.specs.GramRows.{AreScaled, AreGramRows}

-- an operation by its operands
pub operation : {F : Type 0} (value : F → Fraction) (range : ℕ) (site : Site) (kind : OpKind) (left right : F) (x y : ℚ) (s : Spill F)
    → s ≡ record { site = record site { kind = kind }; left = left; right = right } → Overflows range kind (value left) (value right)
    → rational (value left) ≡ x → rational (value right) ≡ y → IsOperation value range (record site { kind = kind }) x y s
operation value range site kind left right x y s is over is_left is_right =
    subst (IsOperation value range (record site { kind = kind }) x y) (sym is) (record { named = refl; is_left = is_left; is_right = is_right; overflows = over })

-- ---- what is read

module _ {F : Type 0} (value : F → Fraction) (p : Problem F) (i k : ℕ) (r : Row F) (x : F) (li : i < length p.rows) (is : r ≡ get_or p.rows i r) where
  there : slice_get p.rows i ≡ Some r
  there = slice_get_read p.rows (length p.rows) i r refl li is

  pub weight_read : rational (value r.up1) ≡ (sample value p).up1 i
  weight_read = sym (ap (λ (o : Option (Row F)). option_map_or (λ r. rational (value r.up1)) o (whole (pos 0))) there)

  pub width_read : IsWellShaped p → length r.x ≡ p.columns
  width_read shaped = ap (λ (r : Row F). length r.x) is ∙ shaped.entries i r li

  pub entry_read : IsWellShaped p → k < p.columns → x ≡ get_or r.x k x → rational (value x) ≡ (sample value p).x i k
  entry_read shaped lk entry =
      sym (value_at-item value r.x k x (let wide : length r.x ≡ p.columns = width_read shaped in omega (arith, lk, wide)) entry)
      ∙ sym (ap (λ (o : Option (Row F)). option_map_or (λ r. value_at value r.x k) o (whole (pos 0))) there)

-- ---- sums of the weighted columns

module _ {F : Type 0} (value : F → Fraction) (p : Problem F) where
  -- past the rows everything is 0
  past_rows : (i k : ℕ) → length p.rows ≤ i → scaled (sample value p) i k ≡ whole (pos 0)
  past_rows i k past =
      ap (λ (o : Option (Row F)). option_map_or (λ r. rational (value r.up1)) o (whole (pos 0)) *ℚ (sample value p).x i k) (slice_get_past p.rows i past)
      ∙ ring_ℚ ((sample value p).x i k ∷ []) (number (pos 0) ⊠ v0) (number (pos 0)) refl

  -- a list of the entries of a weighted column has them all, and 0 beyond
  pub list_is : (k : ℕ) (xs : List F) → length xs ≡ length p.rows → ((i : ℕ) → i < length p.rows → value_at value xs i ≡ scaled (sample value p) i k) → value_at value xs ≡ (λ i. scaled (sample value p) i k)
  list_is k xs size entries = λ at. λ i. each i at
    where
      each : (i : ℕ) → value_at value xs i ≡ scaled (sample value p) i k
      each i = by (cases_lt i (length p.rows))
        where
          by : (i < length p.rows) ⊎ (length p.rows ≤ i) → value_at value xs i ≡ scaled (sample value p) i k
          by (inl li) = entries i li
          by (inr past) =
              ap (λ (o : Option F). option_map_or (λ x. rational (value x)) o (whole (pos 0))) (slice_get_past xs i (omega (arith, past, size)))
              ∙ sym (past_rows i k past)

  -- so has the list of a column among those of all
  pub column_is : (lists : List (List F)) (k : ℕ) (xs : List F) → AreScaled value p lists → k < p.columns → xs ≡ get_or lists k xs → value_at value xs ≡ (λ i. scaled (sample value p) i k)
  column_is lists k xs h lk is =
      list_is k xs (ap length is ∙ h.square k xs (omega (arith, lk, h.size)))
      (λ i li. sym (ap (λ (o : Option (List F)). option_map_or (λ xs. value_at value xs i) o (whole (pos 0))) listed) ∙ h.each k i lk li)
    where
      listed : slice_get lists k ≡ Some xs
      listed = slice_get_read lists (length lists) k xs refl (omega (arith, lk, h.size)) is

  pub column_size : (lists : List (List F)) (k : ℕ) (xs : List F) → AreScaled value p lists → k < p.columns → xs ≡ get_or lists k xs → length xs ≡ length p.rows
  column_size lists k xs h lk is = ap length is ∙ h.square k xs (omega (arith, lk, h.size))

  pub gram_total : (k l : ℕ) → whole (pos 0) +ℚ sum_ℚ (length p.rows) (λ i. scaled (sample value p) i k *ℚ scaled (sample value p) i l) ≡ gram (sample value p) k l
  gram_total k l = zero-+ℚ _

  -- the matrix is symmetric
  pub symmetric : (k l : ℕ) → gram (sample value p) k l ≡ gram (sample value p) l k
  symmetric k l =
      sum_ℚ-same (length p.rows) (λ i. scaled (sample value p) i k *ℚ scaled (sample value p) i l) (λ i. scaled (sample value p) i l *ℚ scaled (sample value p) i k)
      (λ i li. ring_ℚ (scaled (sample value p) i k ∷ scaled (sample value p) i l ∷ []) (v0 ⊠ v1) (v1 ⊠ v0) refl)

  -- an entry that stands above
  pub entry_above : (rows : List (Row F)) (k l : ℕ) (r : Row F) (x : F) → AreGramRows value p rows → l < length rows → k < p.columns → r ≡ get_or rows l r → x ≡ get_or r.x k x
      → rational (value x) ≡ gram (sample value p) k l
  entry_above rows k l r x h ll lk is entry =
      let row = h l r (slice_get_read rows (length rows) l r refl ll is) in
      let wide : length r.x ≡ p.columns = row.width in
      sym (value_at-item value r.x k x (omega (arith, lk, wide)) entry) ∙ row.each k lk ∙ symmetric l k
