-- Problems whose numbers are of 64 bits.
use Rattle.std.specs.Prelude.{◌≡◌, ◌-◌, ◌^◌, ◌≤◌, List, [], ◌∷◌, length, map, All}
use Rattle.std.proofs.Common.{sym, ap, subst, ◌∙◌}
use Rattle.std.proofs.lemmas.List.{length-map}
use Rattle.std.proofs.lemmas.List.Elements.{All-nil, All-cons, All-head, All-tail}
use Rattle.frac_core.specs.declared.frac64.Frac64.{Frac64}
use Rattle.frac_core.specs.declared.frac128.Frac128.{Frac128}
use Rattle.frac_core.specs.Limits.{most_rows}
use Rattle.frac_core.specs.Overflow.{IsWithin}
use Rattle.frac_core.specs.Values.{narrow_value, value as wide_value}
use Rattle.loss_model.specs.declared.problem.Row.{Row}
use Rattle.loss_model.specs.declared.problem.Problem.{Problem}
use Rattle.loss_model.specs.Problem.{IsWellShaped}
use Rattle.loss_model.specs.Widths.{row_by, IsNarrow, IsNarrowRow}

-- what passes from items to those that look the same holds of all of them
all_alike : {A B C : Type 0} (f : A → C) (g : B → C) (P : B → Type 0) (Q : A → Type 0) → ((x : A) (y : B) → f x ≡ g y → P y → Q x) → (xs : List A) (ys : List B) → map f xs ≡ map g ys → All P ys → All Q xs
all_alike f g P Q one [] ys e h = All-nil Q
all_alike f g P Q one (x ∷ xs) [] e h = absurd (cc e)
all_alike f g P Q one (x ∷ xs) (y ∷ ys) e h = All-cons Q x xs (one x y (cc e) (All-head P y ys h)) (all_alike f g P Q one xs ys (cc e) (All-tail P y ys h))

alike_long : {A B C : Type 0} (f : A → C) (g : B → C) (xs : List A) (ys : List B) → map f xs ≡ map g ys → length xs ≡ length ys
alike_long f g xs ys e = sym (length-map xs f) ∙ ap length e ∙ length-map ys g

-- rows with the same values make a problem of the same shape
pub shaped_alike : (p : Problem Frac128) (rows : List (Row Frac64)) → map (row_by narrow_value) rows ≡ map (row_by wide_value) p.rows → IsWellShaped p → IsWellShaped {F = Frac64} (record { columns = p.columns; rows = rows })
shaped_alike p rows e h = record {
  some = h.some;
  columns = h.columns;
  rows = subst (λ n. n ≤ most_rows) (sym (alike_long (row_by narrow_value) (row_by wide_value) rows p.rows e)) h.rows;
  entries = all_alike (row_by narrow_value) (row_by wide_value) (λ r. length r.x ≡ p.columns) (λ r. length r.x ≡ p.columns)
      (λ x y same long. alike_long narrow_value wide_value x.x y.x (ap (λ r. r.x) same) ∙ long) rows p.rows e h.entries;
}

number_fits : (x : Frac128) (made : Frac64) → wide_value x ≡ narrow_value made → IsNarrow x
number_fits x made e = subst (IsWithin (2 ^ 63 - 1)) (sym e) made.within

row_fits : (r : Row Frac128) (made : Row Frac64) → row_by wide_value r ≡ row_by narrow_value made → IsNarrowRow r
row_fits r made e = record {
  x = all_alike wide_value narrow_value (λ x. Unit {0}) IsNarrow (λ x y same h. number_fits x y same) r.x made.x (ap (λ r. r.x) e) (λ k d l. tt);
  y = number_fits r.y made.y (ap (λ r. r.y) e);
  up0 = number_fits r.up0 made.up0 (ap (λ r. r.up0) e);
  up1 = number_fits r.up1 made.up1 (ap (λ r. r.up1) e);
  down0 = number_fits r.down0 made.down0 (ap (λ r. r.down0) e);
  down1 = number_fits r.down1 made.down1 (ap (λ r. r.down1) e);
}

-- rows that have the values of others of 64 bits are within 64 bits
pub rows_fit : (rows : List (Row Frac128)) (made : List (Row Frac64)) → map (row_by narrow_value) made ≡ map (row_by wide_value) rows → All IsNarrowRow rows
rows_fit rows made e = all_alike (row_by wide_value) (row_by narrow_value) (λ r. Unit {0}) IsNarrowRow (λ x y same h. row_fits x y same) rows made (sym e) (λ k d l. tt)
