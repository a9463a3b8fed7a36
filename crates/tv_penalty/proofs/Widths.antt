-- The lists and rows that smooths add have an entry for each name.
use Rattle.std.specs.Prelude.{All, IfOk, OnOk}
use Rattle.std.proofs.Common.{◌≡◌, ◌≤◌, ◌+◌, ◌-◌, ℕ, ◌++◌, ◌&&◌, Bool, true, false, List, [], ◌∷◌, Option, Some, None, Result}
use Rattle.std.proofs.Common.{Ok, Err, Less, length, get_or, map, pos, replicate, nat_lt, if◌then◌else◌, refl, sym, ap, subst, ◌∙◌, arith, length-append}
use Rattle.std.specs.List.{flat_map}
use Rattle.std.specs.Option.{option_or}
use Rattle.std.specs.Ordering.{is_lt}
use Rattle.std.proofs.lemmas.List.Elements.{All-nil, All-cons, All-append, All-map}
use Rattle.std.proofs.lemmas.List.{get_or-map, length-map, length-replicate}
use Rattle.std.proofs.lemmas.List.FromFn.{length-map-range_with_len}
use borrow.Author.Tests.{ltb-false}
use Rattle.rational_laws.specs.Order.{cmp_ℚ}
use Rattle.rational_laws.proofs.OrderLaws.{by_cmp}
use Rattle.rational_laws.specs.Rational.{ℚ, whole}
use Rattle.frac_core.specs.Values.{exact}
use Rattle.formula_parser.specs.declared.formula.Formula.{Formula}
use Rattle.formula_parser.specs.declared.formula.Smooth.{Smooth}
use Rattle.design_matrix.specs.declared.design.Design.{Design}
use Rattle.design_matrix.specs.declared.design.DesignRow.{DesignRow}
use Rattle.design_matrix.specs.Cells.{Table, column_of, number_in}
use Rattle.design_matrix.specs.CodedVariable.{is_text}
use Rattle.design_matrix.specs.Lists.{each}
use Rattle.tv_penalty.specs.declared.fault.PenaltyFault.{PenaltyFault}
use Rattle.tv_penalty.specs.declared.fault.PenaltyFault.TheVariants.{NotNumeric, TooFewKnots}
use Rattle.tv_penalty.specs.declared.Smoothing.{Smoothing}
use Rattle.tv_penalty.specs.Faults.{AreSound, IsSound, Setting, columns_fault, columns_in, knots_fault, setting_of}
use Rattle.tv_penalty.specs.Knots.{knots_of}
use Rattle.tv_penalty.specs.Shapes.{IsShaped}
use Rattle.tv_penalty.specs.Smoothings.{Bend, PartOf, PenaltyOf, bend_after, bend_entries, bend_row, bends_of, exact_penalty, exact_smoothing, has_rows, knot_entry}
use Rattle.tv_penalty.specs.Smoothings.{knot_name, part_entries, part_names, part_of, placed, rows_from, smoothing_by, smoothing_of, width, with_columns}
use Rattle.tv_penalty.proofs.Lists.{columns_of_knots}

-- what holds of all that a function makes holds behind it
unmapped : {X Y : Type 0} (f : X → Y) (P : Y → Type 0) (xs : List X) → All P (map f xs) → All (λ x. P (f x)) xs
unmapped f P xs h k d l = subst P (get_or-map f xs k d (f d) l) (h k (f d) (omega (arith, length-map xs f)))

entries_wide : (b : Bool) (row : DesignRow) (ps : List PartOf) → length (flat_map (part_entries b row) ps) ≡ length (flat_map (part_names b) ps)
entries_wide b row [] = refl
entries_wide b row (p ∷ ps) =
    omega (
      arith,
      length-append (part_entries b row p) (flat_map (part_entries b row) ps),
      length-append (part_names b p) (flat_map (part_names b) ps),
      entries_wide b row ps,
      length-map (with_columns b p.knots) (knot_entry (number_in p.cells (row.rec - 1))),
      length-map (with_columns b p.knots) (knot_name p.name),
    )

placed_wide : (columns before : ℕ) (xs : List ℚ) → before + length xs ≤ columns → length (placed columns before xs) ≡ columns
placed_wide columns before xs l =
    let after = replicate (columns - (before + length xs)) (whole (pos 0)) in
    let front = replicate before (whole (pos 0)) in
    omega (arith, length-append front (xs ++ after), length-append xs after, length-replicate before (whole (pos 0)), length-replicate (columns - (before + length xs)) (whole (pos 0)))

same_columns : {A B : Type 0} (b : Bool) (xs : List A) (ys : List B) → length xs ≡ length ys → length (with_columns b xs) ≡ length (with_columns b ys)
same_columns false xs ys e = e
same_columns true [] [] e = refl
same_columns true [] (y ∷ ys) e = absurd (omega arith)
same_columns true (x ∷ xs) [] e = absurd (omega arith)
same_columns true (x ∷ xs) (y ∷ ys) e = omega arith

row_wide : (b : Bool) (columns before : ℕ) (p : PartOf) (k : ℕ) (bend : Bend) → k + 3 ≤ length p.knots → before + width b p ≤ columns → length (bend_row b columns before p k bend).x ≡ columns
row_wide b columns before p k bend inner fits =
    let whole_row : length (bend_entries (length p.knots) k bend) ≡ length p.knots = placed_wide (length p.knots) k (bend.below ∷ bend.at_knot ∷ bend.above ∷ []) inner in
    let e = same_columns b (bend_entries (length p.knots) k bend) p.knots whole_row in
    placed_wide columns before (with_columns b (bend_entries (length p.knots) k bend)) (omega arith)

each_wide : (b : Bool) (columns before : ℕ) (p : PartOf) (k : ℕ) (bends : List Bend) → k + length bends ≤ length p.knots - 2 → before + width b p ≤ columns → All (λ r. length r.x ≡ columns) (each (bend_row b columns before p) k bends)
each_wide b columns before p k [] few fits = All-nil (λ r. length r.x ≡ columns)
each_wide b columns before p k (x ∷ xs) few fits =
    All-cons (λ r. length r.x ≡ columns) (bend_row b columns before p k x) (each (bend_row b columns before p) (k + 1) xs)
    (row_wide b columns before p k x (omega arith) fits) (each_wide b columns before p (k + 1) xs (omega arith) fits)

module _ (b : Bool) (pen : Bool) (table : Table) (rows : List DesignRow) where
  few_bends : (s : Smooth) → length (part_of pen table rows s).bends ≤ length (part_of pen table rows s).knots - 2
  unfolding part_of
  few_bends s = by (has_rows pen (exact s.lambda))
    where
      by : (t : Bool) → length (if t then bends_of (knots_of table rows s) else []) ≤ length (knots_of table rows s) - 2
      by true = omega (arith, length-map-range_with_len (bend_after (knots_of table rows s)) 0 (length (knots_of table rows s) - 2))
      by false = omega arith

  rows_wide : (columns before : ℕ) (ss : List Smooth) → before + length (flat_map (part_names b) (map (part_of pen table rows) ss)) ≤ columns → All (λ r. length r.x ≡ columns) (rows_from b columns before (map (part_of pen table rows) ss))
  rows_wide columns before [] fits = All-nil (λ r. length r.x ≡ columns)
  rows_wide columns before (s ∷ ss) fits =
      let p = part_of pen table rows s in
      let rest = flat_map (part_names b) (map (part_of pen table rows) ss) in
      let n = length-append (part_names b p) rest in
      let m = length-map (with_columns b p.knots) (knot_name p.name) in
      All-append (λ r. length r.x ≡ columns) (each (bend_row b columns before p) 0 p.bends) (rows_from b columns (before + width b p) (map (part_of pen table rows) ss))
      (each_wide b columns before p 0 p.bends (omega (arith, few_bends s)) (omega arith)) (rows_wide columns (before + width b p) ss (omega arith))

  above_zero : (x : ℚ) → is_lt (cmp_ℚ (whole (pos 0)) x) ≡ true → cmp_ℚ (whole (pos 0)) x ≡ Less
  above_zero x = by_cmp (whole (pos 0)) x (λ o. is_lt o ≡ true → o ≡ Less) (λ l e. refl) (λ s e. absurd (cc e)) (λ g e. absurd (cc e))

  abbrev IsWeighted : PenaltyOf → Type 0
  IsWeighted r = cmp_ℚ (whole (pos 0)) r.lambda ≡ Less

  each_weighted : (columns before : ℕ) (p : PartOf) (k : ℕ) (bends : List Bend) → cmp_ℚ (whole (pos 0)) p.lambda ≡ Less → All IsWeighted (each (bend_row b columns before p) k bends)
  each_weighted columns before p k [] h = All-nil IsWeighted
  each_weighted columns before p k (x ∷ xs) h = All-cons IsWeighted (bend_row b columns before p k x) (each (bend_row b columns before p) (k + 1) xs) h (each_weighted columns before p (k + 1) xs h)

  smooth_weighted : (columns before : ℕ) (s : Smooth) → All IsWeighted (each (bend_row b columns before (part_of pen table rows s)) 0 (part_of pen table rows s).bends)
  unfolding part_of
  smooth_weighted columns before s = by pen (is_lt (cmp_ℚ (whole (pos 0)) (exact s.lambda))) refl
    where
      p : PartOf
      p = part_of pen table rows s

      by : (t u : Bool) → is_lt (cmp_ℚ (whole (pos 0)) (exact s.lambda)) ≡ u → All IsWeighted (each (bend_row b columns before p) 0 (if (t && u) then bends_of (knots_of table rows s) else []))
      by true true e = each_weighted columns before p 0 (bends_of (knots_of table rows s)) (above_zero (exact s.lambda) e)
      by true false e = All-nil IsWeighted
      by false u e = All-nil IsWeighted

  rows_weighted : (columns before : ℕ) (ss : List Smooth) → All IsWeighted (rows_from b columns before (map (part_of pen table rows) ss))
  rows_weighted columns before [] = All-nil IsWeighted
  rows_weighted columns before (s ∷ ss) =
      let p = part_of pen table rows s in
      All-append IsWeighted (each (bend_row b columns before p) 0 p.bends) (rows_from b columns (before + width b p) (map (part_of pen table rows) ss))
      (smooth_weighted columns before s) (rows_weighted columns (before + width b p) ss)

none_left : (o p : Option PenaltyFault) → option_or o p ≡ None → o ≡ None
none_left None p e = refl
none_left (Some x) p e = absurd (cc e)

many : (table : Table) (rows : List DesignRow) (s : Smooth) → knots_fault table rows s ≡ None → 3 ≤ length (knots_of table rows s)
unfolding knots_fault
many table rows s = by (is_text (column_of table s.name)) (nat_lt (length (knots_of table rows s)) 3) refl
  where
    by : (t u : Bool) → nat_lt (length (knots_of table rows s)) 3 ≡ u → (if t then Some (NotNumeric s.name) else (if u then Some (TooFewKnots s.name) else None)) ≡ None → 3 ≤ length (knots_of table rows s)
    by true u n e = absurd (cc e)
    by false true n e = absurd (cc e)
    by false false n e = ltb-false (length (knots_of table rows s)) 3 n

first_names : (at : Setting) (number before : ℕ) (ss : List Smooth) → AreSound at number before ss → 1 ≤ length ss → 1 ≤ length (flat_map (part_names at.intercept) (map (part_of at.penalised at.table at.rows) ss))
unfolding part_of
first_names at number before [] h l = absurd (omega arith)
first_names at number before (s ∷ ss) h l =
    let ks = knots_of at.table at.rows s in
    let p = part_of at.penalised at.table at.rows s in
    let wide = many at.table at.rows s (none_left (knots_fault at.table at.rows s) (columns_fault (before + columns_in at s)) h.0.plain) in
    omega (
      arith,
      wide,
      columns_of_knots at.intercept ks,
      length-append (part_names at.intercept p) (flat_map (part_names at.intercept) (map (part_of at.penalised at.table at.rows) ss)),
      length-map (with_columns at.intercept ks) (knot_name s.name),
    )

-- a smoothing by its definition
pub shaped : (pen : Bool) (table : Table) (design : Design) (model : Formula) (s : Smoothing) → exact_smoothing s ≡ smoothing_by pen table design model → IsSound pen table design model → IsShaped design model s
unfolding smoothing_of
shaped pen table design model s is sound = record {
  lists = sym (length-map s.columns (map exact)) ∙ ap (λ z. length z.columns) is ∙ length-map design.rows (λ row. flat_map (part_entries b row) ps);
  entries = λ k d l. sym (length-map (get_or s.columns k d) exact) ∙ unmapped (map exact) (λ xs. length xs ≡ length s.names) s.columns lists k d l;
  penalties = λ k d l. sym (length-map (get_or s.rows k d).x exact) ∙ unmapped exact_penalty (λ r. length r.x ≡ length s.names) s.rows wide k d l;
  some = λ l. subst (λ n. 1 ≤ n) (sym count) (first_names (setting_of pen table design model) 0 (length design.names) model.smooths sound l);
  weighted = unmapped exact_penalty (λ r. cmp_ℚ (whole (pos 0)) r.lambda ≡ Less) s.rows
      (subst (All (λ r. cmp_ℚ (whole (pos 0)) r.lambda ≡ Less)) (sym (ap (λ z. z.rows) is)) (rows_weighted b pen table design.rows (length (flat_map (part_names b) ps)) 0 model.smooths));
}
  where
    b : Bool
    b = model.intercept

    ps : List PartOf
    ps = map (part_of pen table design.rows) model.smooths

    count : length s.names ≡ length (flat_map (part_names b) ps)
    count = ap (λ z. length z.names) is

    lists : All (λ xs. length xs ≡ length s.names) (map (map exact) s.columns)
    lists =
        subst (All (λ xs. length xs ≡ length s.names)) (sym (ap (λ z. z.columns) is))
        (All-map (λ xs. length xs ≡ length s.names) (λ row. flat_map (part_entries b row) ps) design.rows (λ k d l. entries_wide b (get_or design.rows k d) ps ∙ sym count))

    wide : All (λ r. length r.x ≡ length s.names) (map exact_penalty s.rows)
    wide =
        subst (All (λ r. length r.x ≡ length s.names)) (sym (ap (λ z. z.rows) is))
        (subst (λ n. All (λ r. length r.x ≡ n) (rows_from b (length (flat_map (part_names b) ps)) 0 ps)) (sym count)
        (rows_wide b pen table design.rows (length (flat_map (part_names b) ps)) 0 model.smooths (omega arith)))

-- the same of an answer
pub shaped_result : (pen : Bool) (table : Table) (design : Design) (model : Formula) (r : Result Smoothing PenaltyFault) → IfOk r (λ s. exact_smoothing s ≡ smoothing_by pen table design model) → OnOk r (IsSound pen table design model)
    → IfOk r (IsShaped design model)
shaped_result pen table design model (Ok s) is sound = shaped pen table design model s is sound
shaped_result pen table design model (Err e) is sound = tt
