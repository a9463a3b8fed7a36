-- A row whose weight is above 0, and whose other costs follow from it.
use Rattle.std.specs.Ordering.{is_eq, is_lt}
use Rattle.std.specs.Option.{option_map_or}
use Rattle.std.proofs.Common.{◌≡◌, ◌<◌, ℕ, true, pos, Less, Option, List, length, get_or, refl, sym, ap, ◌∙◌}
use Rattle.rational_laws.specs.Fraction.{rational}
use Rattle.rational_laws.specs.Rational.{ℚ, whole, neg_ℚ}
use Rattle.rational_laws.specs.Order.{cmp_ℚ}
use Rattle.rational_laws.proofs.OrderLaws.{by_cmp}
use Rattle.loss_model.specs.Problem.{of_row, sample}
use Rattle.loss_model.specs.declared.problem.Row.{Row}
use Rattle.std.proofs.lemmas.Option.{slice_get_read}
use Rattle.test_kit.proofs.problems.is_data.Goals as goal

same_by : (x y : ℚ) → true ≡ is_eq (cmp_ℚ x y) → x ≡ y
same_by x y = by_cmp x y (λ o. true ≡ is_eq o → x ≡ y) (λ h e. absurd (cc e)) (λ h e. h) (λ h e. absurd (cc e))

less_by : (x y : ℚ) → is_lt (cmp_ℚ x y) ≡ true → cmp_ℚ x y ≡ Less
less_by x y = by_cmp x y (λ o. is_lt o ≡ true → o ≡ Less) (λ h e. refl) (λ h e. absurd (cc e)) (λ h e. absurd (cc e))

number_of : {F : Type 0} (rows : List (Row F)) (i : ℕ) (r : Row F) → i < length rows → r ≡ get_or rows i r → (f : Row F → ℚ) → f r ≡ of_row rows f i
number_of rows i r within is f = sym (ap (λ (o : Option (Row _)). option_map_or f o (whole (pos 0))) (slice_get_read rows (length rows) i r refl within is))

pub returns : goal.returns
returns g c = λ t.
    let value = g.F.Exact.value in
    let p = c.args.problem.now in
    let i = c.args.row in
    let r = c.index-as_slice-row.result in
    let read : r ≡ get_or p.rows i r = rw c.as_slice.ensures at c.index-as_slice-row.is in
    let up1 : rational (value r.up1) ≡ (sample value p).up1 i = number_of p.rows i r c.requires read (λ s. rational (value s.up1)) in
    record {
      weighted =
          sym (ap (λ y. cmp_ℚ (whole (pos 0)) y) up1)
          ∙ sym (ap (λ x. cmp_ℚ x (rational (value r.up1))) c.zero-2.ensures)
          ∙ less_by _ _ (sym (c.is_lt.ensures ∙ ap is_lt c.compare-4.ensures) ∙ t);
      up0 = sym (number_of p.rows i r c.requires read (λ s. rational (value s.up0))) ∙ same_by _ _ (c.if-not-is_eq.ensures {u = tt} ∙ ap is_eq c.compare.ensures) ∙ c.zero.ensures;
      down0 = sym (number_of p.rows i r c.requires read (λ s. rational (value s.down0))) ∙ same_by _ _ (c.if-not-is_eq-2.ensures {u = tt} ∙ ap is_eq c.compare-2.ensures) ∙ up1;
      down1 =
          sym (number_of p.rows i r c.requires read (λ s. rational (value s.down1)))
          ∙ same_by _ _ (c.if-not-is_eq-3.ensures {u = tt} ∙ ap is_eq c.compare-3.ensures) ∙ c.neg.ensures ∙ ap neg_ℚ up1;
    }
