-- What the rows and columns of a design are like whose table and formula have no fault.
use Rattle.std.proofs.Common.{◌≡◌, ◌==◌, ◌&&◌, ◌≤◌, ℕ, zero, suc, ◌+◌, not, Bool, true, false, cond, List, [], ◌∷◌, Option}
use Rattle.std.proofs.Common.{Some, None, All, filter, length, map, option_and_then, nat_lt, get_or, pos, arith, refl, sym, ap, subst, ◌∙◌, length-append}
use Rattle.std.specs.List.{flat_map, range_with_len}
use Rattle.std.specs.Option.{option_or}
use Rattle.std.specs.Ordering.{is_lt, is_ne, ordering_reverse}
use Rattle.std.specs.declared.cmp.Ordering.{Ordering}
use Rattle.std.specs.declared.cmp.Ordering.TheVariants.{Less, Equal, Greater}
use Rattle.std.proofs.lemmas.Bool.{ltb-false}
use Rattle.std.proofs.lemmas.List.{get_or-map, length-map}
use Rattle.std.proofs.lemmas.List.Elements.{All-cons, All-filter, All-head, All-nil, All-tail, filter_passes}
use Rattle.rational_laws.specs.Order.{cmp_ℚ}
use Rattle.rational_laws.proofs.OrderLaws.{cmp_ℚ_swap}
use Rattle.rational_laws.specs.Rational.{whole}
use Rattle.rational_laws.proofs.Signs.{some_product}
use Rattle.frac_core.specs.Values.{exact}
use Rattle.contrasts.specs.declared.Coding.{Coding}
use Rattle.data_frame.specs.Records.{Text}
use Rattle.formula_parser.specs.declared.formula.Formula.{Formula}
use Rattle.design_matrix.specs.declared.design.Design.{Design}
use Rattle.design_matrix.specs.declared.fault.DesignFault.TheVariants.{NegativeWeight, NoColumns, OneLevel, ResponseNotNumeric, TooManyColumns, WeightNotNumeric}
use Rattle.design_matrix.specs.Cells.{Column, Table, column_of, is_complete, is_kept, kept, used_names, weight_at, weight_sign, weights_in}
use Rattle.design_matrix.specs.CodedVariable.{CodedVariable, coded_term, coded_terms, width}
use Rattle.design_matrix.specs.Designs.{design_of, exact_row, row_of}
use Rattle.formula_parser.specs.Held.{ariths_of}
use Rattle.design_matrix.specs.Faults.{ariths_fault, IsDesign, columns_fault, empty_fault, factor_fault, fault_of, lacks_columns, late_fault, level_fault}
use Rattle.design_matrix.specs.Faults.{levels_fault, name_fault, rows_fault, terms_fault, used_fault, weight_fault, weights_fault, widths_fault}
use Rattle.design_matrix.specs.Lists.{each, first_some}
use Rattle.design_matrix.specs.Parts.{column_name, columns_in, columns_of, count, factors, term_columns}
use Rattle.design_matrix.specs.Products.{product}
use Rattle.design_matrix.specs.Shapes.{IsShaped}
use Rattle.design_matrix.proofs.Counts.{length-term_columns}
use Rattle.design_matrix.proofs.Lengths.{each_length}

-- lists

each_all : {A B : Type 0} (P : B → Type 0) (f : ℕ → A → B) (k : ℕ) (xs : List A) (Q : A → Type 0) → All Q xs → ((j : ℕ) (x : A) → Q x → P (f j x)) → All P (each f k xs)
each_all P f k [] Q q h = All-nil P
each_all P f k (x ∷ xs) Q q h =
    All-cons P (f k x) (each f (k + 1) xs) (h k x (All-head Q x xs q)) (each_all P f (k + 1) xs Q (All-tail Q x xs q) h)

-- what holds of the images holds of what they are images of
unmapped : {A B : Type 0} (P : B → Type 0) (f : A → B) (xs : List A) (ys : List B) → map f xs ≡ ys → All P ys → All (λ x. P (f x)) xs
unmapped P f xs ys e h k d l =
    subst P (ap (λ zs. get_or zs k (f d)) (sym e) ∙ get_or-map f xs k d (f d) l)
    (h k (f d) (omega (arith, ap length e, length-map xs f)))

-- faults that a sound table and formula don't have

pub first_none : {B : Type 0} (a b : Option B) → option_or a b ≡ None → (a ≡ None) × (b ≡ None)
first_none None b h = (refl, h)
first_none (Some x) b h = absurd (cc h)

pub if_none : {B : Type 0} (b : Bool) (x : B) → cond b (Some x) None ≡ None → b ≡ false
if_none true x h = absurd (cc h)
if_none false x h = refl

module _ (table : Table) (model : Formula) (coding : Coding) (weights : Option Text) (sound : fault_of table model coding weights ≡ None) where
  used : used_fault table model weights ≡ None
  unfolding fault_of
  used = (first_none (used_fault table model weights) _ sound).0

  no_negative : weights_fault (weights_in table weights) table.records ≡ None
  unfolding used_fault
  no_negative =
      let first = first_none (option_and_then (name_fault table) weights) _ used in
      let second = first_none (factor_fault ResponseNotNumeric (column_of table model.response)) _ first.1 in
      let third = first_none (option_and_then (factor_fault WeightNotNumeric) (weights_in table weights)) _ second.1 in
      let fourth = first_none (ariths_fault table (ariths_of model)) _ third.1 in
      (first_none (widths_fault table (used_names model weights)) _ fourth.1).1

  parts : (rows_fault (kept table model weights) ≡ None) × (late_fault table model coding (kept table model weights) ≡ None)
  unfolding fault_of
  parts =
      let first = first_none (used_fault table model weights) _ sound in
      first_none (rows_fault (kept table model weights)) (late_fault table model coding (kept table model weights)) first.1

  no_rows : length (kept table model weights) ≡ 0 → ⊥
  no_rows e = by (kept table model weights) e parts.0
    where
      by : (records : List ℕ) → length records ≡ 0 → rows_fault records ≡ None → ⊥
      by [] e h = absurd (cc h)
      by (r ∷ rs) e h = absurd (cc e)

  pub columns : (terms_fault (coded_terms table model coding (kept table model weights)) ≡ None) × (empty_fault model ≡ None)
      × (columns_fault (length (columns_of table model coding (kept table model weights))) ≡ None)
  unfolding late_fault
  columns =
      let first = first_none (terms_fault (coded_terms table model coding (kept table model weights))) _ parts.1 in
      let second = first_none (empty_fault model) (columns_fault (length (columns_of table model coding (kept table model weights)))) first.1 in
      (first.0, second.0, second.1)

-- the weights of kept records are above 0

pub none_each : {A B : Type 0} (f : A → Option B) (xs : List A) → first_some f xs ≡ None → All (λ x. f x ≡ None) xs
none_each f [] h = All-nil (λ x. f x ≡ None)
none_each f (x ∷ xs) h =
    let first = first_none (f x) (first_some f xs) h in
    All-cons (λ y. f y ≡ None) x xs first.0 (none_each f xs first.1)

above : (o : Ordering) → is_lt o ≡ false → is_ne o ≡ true → ordering_reverse o ≡ Less
above Less h k = absurd (cc h)
above Equal h k = absurd (cc k)
above Greater h k = refl

weight_above : (columns : List Column) (weights : Option Column) (i : ℕ) → is_kept columns weights i ≡ true → weight_fault weights i ≡ None
    → cmp_ℚ (whole (pos 0)) (weight_at weights i) ≡ Less
weight_above columns weights i kept sound =
    cmp_ℚ_swap (weight_at weights i) (whole (pos 0))
    ∙ above (weight_sign weights i) (if_none (is_lt (weight_sign weights i)) (NegativeWeight (i + 1)) sound) (and_second (is_complete columns i) kept)
  where
    and_second : (a : Bool) {b : Bool} → (a && b) ≡ true → b ≡ true
    and_second true h = h
    and_second false h = absurd (cc h)

above_each : (columns : List Column) (weights : Option Column) (n : ℕ) → weights_fault weights n ≡ None
    → All (λ i. cmp_ℚ (whole (pos 0)) (weight_at weights i) ≡ Less) (filter (is_kept columns weights) (range_with_len 0 n))
unfolding weights_fault
above_each columns weights n sound =
    let passed = filter_passes (is_kept columns weights) (range_with_len 0 n) in
    let sounds = All-filter (is_kept columns weights) (λ i. weight_fault weights i ≡ None) (range_with_len 0 n) (none_each (weight_fault weights) (range_with_len 0 n) sound) in
    λ k d l. weight_above columns weights _ (passed k d l) (sounds k d l)

kept_above : (table : Table) (model : Formula) (coding : Coding) (weights : Option Text) → fault_of table model coding weights ≡ None
    → All (λ i. cmp_ℚ (whole (pos 0)) (weight_at (weights_in table weights) i) ≡ Less) (kept table model weights)
unfolding kept
kept_above table model coding weights sound =
    above_each (map (column_of table) (used_names model weights)) (weights_in table weights) table.records (no_negative table model coding weights sound)

-- columns

pub wide : (v : CodedVariable) → level_fault v ≡ None → 1 ≤ width v
wide v h = by (width v) (if_none (width v == 0) (OneLevel v.name) h)
  where
    by : (n : ℕ) → (n == 0) ≡ false → 1 ≤ n
    by zero e = absurd (cc e)
    by (suc n) e = omega arith

count_some : (vs : List CodedVariable) → levels_fault vs ≡ None → 1 ≤ count vs
unfolding levels_fault
count_some [] h = omega arith
count_some (v ∷ vs) h =
    let first = first_none (level_fault v) (first_some level_fault vs) h in
    some_product (width v) (count vs) (wide v first.0) (count_some vs first.1)

term_some : (t : List CodedVariable) (ts : List (List CodedVariable)) → terms_fault (t ∷ ts) ≡ None → 1 ≤ length (flat_map term_columns (t ∷ ts))
unfolding terms_fault
term_some t ts h =
    let some = count_some t (first_none (levels_fault t) (first_some levels_fault ts) h).0 in
    omega (arith, length-append (term_columns t) (flat_map term_columns ts), length-term_columns t)

-- without an intercept there is a term
terms_there : (model : Formula) → empty_fault model ≡ None → length model.smooths ≡ 0 → model.intercept ≡ false → length model.terms ≡ 0 → ⊥
terms_there model h smooths off terms =
    let lacks : lacks_columns model ≡ true = ap (λ b. not b && ((length model.terms == 0) && (length model.smooths == 0))) off ∙ ap (λ n. (n == 0) && (length model.smooths == 0)) terms ∙ ap (λ n. n == 0) smooths in
    absurd (cc (sym lacks ∙ if_none (lacks_columns model) NoColumns h))

columns_some : (table : Table) (model : Formula) (coding : Coding) (records : List ℕ) → terms_fault (coded_terms table model coding records) ≡ None → empty_fault model ≡ None
    → length model.smooths ≡ 0 → 1 ≤ length (columns_of table model coding records)
unfolding columns_of coded_terms
columns_some table model coding records sound empty smooths =
    by model.intercept model.terms refl (λ off none. terms_there model empty smooths off none) sound
  where
    by : (b : Bool) (terms : List _) → model.intercept ≡ b → (model.intercept ≡ false → length terms ≡ 0 → ⊥) → terms_fault (each (coded_term table model coding records) 0 terms) ≡ None
        → 1 ≤ length (columns_in b (each (coded_term table model coding records) 0 terms))
    by true terms on there sound = omega arith
    by false [] off there sound = absurd (there off refl)
    by false (t ∷ ts) off there sound = term_some (coded_term table model coding records 0 t) (each (coded_term table model coding records) 1 ts) sound

pub columns_few : (n : ℕ) → columns_fault n ≡ None → n ≤ 128
columns_few n h = ltb-false 128 n (if_none (nat_lt 128 n) TooManyColumns h)

-- the design

module _ (table : Table) (model : Formula) (coding : Coding) (weights : Option Text) (design : Design) (is : IsDesign table model coding weights design) where
  pub names_are : design.names ≡ map column_name (columns_of table model coding (kept table model weights))
  unfolding design_of
  names_are = ap (λ d. d.names) is.design_is.exact

  pub rows_are : map exact_row design.rows
      ≡ each (row_of table (column_of table model.response) model.offsets (weights_in table weights) (columns_of table model coding (kept table model weights))) 0 (kept table model weights)
  unfolding design_of
  rows_are = ap (λ d. d.rows) is.design_is.exact

  length_names : length design.names ≡ length (columns_of table model coding (kept table model weights))
  length_names = ap length names_are ∙ length-map (columns_of table model coding (kept table model weights)) column_name

  rows_there : 1 ≤ length design.rows
  rows_there =
      let cs = columns_of table model coding (kept table model weights) in
      let same = each_length exact_row (row_of table (column_of table model.response) model.offsets (weights_in table weights) cs) design.rows (kept table model weights) rows_are in
      by (length design.rows) (λ e. no_rows table model coding weights is.sound (sym same ∙ e))
    where
      by : (n : ℕ) → (n ≡ 0 → ⊥) → 1 ≤ n
      by zero h = absurd (h refl)
      by (suc n) h = omega arith

  entries_there : All (λ r. length r.x ≡ length design.names) design.rows
  entries_there k d l =
      let cs = columns_of table model coding (kept table model weights) in
      let entries = unmapped (λ q. length q.x ≡ length cs) exact_row design.rows _ rows_are
      (each_all (λ q. length q.x ≡ length cs) (row_of table (column_of table model.response) model.offsets (weights_in table weights) cs) 0 (kept table model weights) (λ x. x ≡ x)
      (λ _ _ _. refl) (λ j x _. length-map cs (λ column. product (factors column j)))) in
      sym (length-map (get_or design.rows k d).x exact) ∙ entries k d l ∙ sym length_names

  weights_above : All (λ r. cmp_ℚ (whole (pos 0)) (exact r.weight) ≡ Less) design.rows
  weights_above =
      let cs = columns_of table model coding (kept table model weights) in
      unmapped (λ q. cmp_ℚ (whole (pos 0)) q.weight ≡ Less) exact_row design.rows _ rows_are
      (each_all (λ q. cmp_ℚ (whole (pos 0)) q.weight ≡ Less) (row_of table (column_of table model.response) model.offsets (weights_in table weights) cs) 0 (kept table model weights)
      (λ i. cmp_ℚ (whole (pos 0)) (weight_at (weights_in table weights) i) ≡ Less) (kept_above table model coding weights is.sound) (λ j x h. h))

  pub shaped : IsShaped model design
  shaped =
      let faults = columns table model coding weights is.sound in
      record {
        rows = rows_there;
        entries = entries_there;
        weighted = weights_above;
        some = λ smooths. omega (arith, columns_some table model coding (kept table model weights) faults.0 faults.1 smooths, length_names);
        few = omega (arith, columns_few (length (columns_of table model coding (kept table model weights))) faults.2, length_names);
      }
