-- Terms without a fault have columns, and few levels.
use Rattle.std.proofs.Common.{◌≡◌, ◌≤◌, ℕ, ◌+◌, ◌*◌, Bool, true, false, List, [], ◌∷◌, Option, Some, None, Vec, All, cond, length, map, nat_eq, eq-eqb, refl, sym, ap, ◌∙◌, arith, length-append}
use Rattle.std.proofs.Math.Nat.{mul-le-mul_left}
use Rattle.std.proofs.lemmas.Bool.{eqb-true}
use Rattle.std.proofs.lemmas.List.Elements.{All-cons, All-nil}
use Rattle.std.specs.List.{flat_map}
use Rattle.std.specs.Option.{option_or}
use Rattle.std.specs.declared.alloc.Global.{Global}
use Rattle.rational_laws.proofs.Signs.{some_product}
use Rattle.contrasts.specs.declared.Coding.{Coding}
use Rattle.contrasts.specs.declared.Coding.TheVariants.{Treatment}
use Rattle.contrasts.specs.Coding.{width_of}
use Rattle.design_matrix.specs.declared.coded.CodedVariable.{CodedVariable as Held}
use Rattle.design_matrix.specs.declared.coded.Values.{Values}
use Rattle.design_matrix.specs.declared.coded.Values.TheVariants.{Numbers, Levels, Computed}
use Rattle.design_matrix.specs.CodedVariable.{CodedVariable, width, width_in}
use Rattle.design_matrix.specs.declared.fault.DesignFault.TheVariants.{OneLevel}
use Rattle.design_matrix.specs.Faults.{level_fault, levels_fault}
use Rattle.design_matrix.specs.Lists.{first_some}
use Rattle.design_matrix.specs.Parts.{count, term_columns}
use Rattle.design_matrix.specs.Views.{coded_seen, terms_seen, values_seen}
use Rattle.design_matrix.specs.Widths.{IsUsable, levels_held, width_held}
use Rattle.design_matrix.proofs.Counts.{length-term_columns}
use Rattle.design_matrix.proofs.Shapes.{wide}

none_left : {B : Type 0} (a b : Option B) → option_or a b ≡ None → a ≡ None
none_left None b e = refl
none_left (Some x) b e = absurd (cc e)

none_right : {B : Type 0} (a b : Option B) → option_or a b ≡ None → b ≡ None
none_right None b e = e
none_right (Some x) b e = absurd (cc e)

pub level_found : (v : CodedVariable) (name : List ℕ) → width v ≡ 0 → name ≡ v.name → level_fault v ≡ Some (OneLevel name)
level_found v name e f = ap (λ b. cond b (Some (OneLevel v.name)) None) (eq-eqb (width v) 0 e) ∙ ap (λ n. Some (OneLevel n)) (sym f)

pub level_none : (v : CodedVariable) → (width v ≡ 0 → ⊥) → level_fault v ≡ None
level_none v h = at (nat_eq (width v) 0) refl
  where
    at : (b : Bool) → nat_eq (width v) 0 ≡ b → level_fault v ≡ None
    at true e = absurd (h (eqb-true (width v) 0 e))
    at false e = ap (λ b. cond b (Some (OneLevel v.name)) None) e

width_same : (coding : Coding) (values : Values) → width_in coding (values_seen values) ≡ width_held coding values
width_same coding (Numbers cells records) = refl
width_same coding (Levels levels) = refl
width_same coding (Computed values) = refl

width_near : (coding : Coding) (n : ℕ) → n ≤ width_of coding n + 1
width_near Treatment n = omega arith
width_near other n = omega arith

levels_near : (coding : Coding) (values : Values) → levels_held values ≤ width_held coding values + 1
levels_near coding (Numbers cells records) = omega arith
levels_near coding (Levels levels) = width_near coding (length levels.texts.items)
levels_near coding (Computed values) = omega arith

product_left : (a b n : ℕ) → 1 ≤ b → a * b ≤ n → a ≤ n
product_left a b n h k = let p : a * 1 ≤ a * b = mul-le-mul_left a h in omega arith

product_right : (a b n : ℕ) → 1 ≤ a → a * b ≤ n → b ≤ n
product_right a b n h k = let p : b * 1 ≤ b * a = mul-le-mul_left b h in omega arith

count_some : (vs : List CodedVariable) → first_some level_fault vs ≡ None → 1 ≤ count vs
count_some [] e = omega arith
count_some (v ∷ vs) e =
    some_product (width v) (count vs) (wide v (none_left (level_fault v) (first_some level_fault vs) e))
    (count_some vs (none_right (level_fault v) (first_some level_fault vs) e))

variables_usable : (vs : List Held) → first_some level_fault (map coded_seen vs) ≡ None → count (map coded_seen vs) ≤ 128 → All IsUsable vs
variables_usable [] e h = All-nil IsUsable
variables_usable (v ∷ vs) e h =
    let mine : level_fault (coded_seen v) ≡ None = none_left (level_fault (coded_seen v)) (first_some level_fault (map coded_seen vs)) e in
    let others : first_some level_fault (map coded_seen vs) ≡ None = none_right (level_fault (coded_seen v)) (first_some level_fault (map coded_seen vs)) e in
    let wide : 1 ≤ width (coded_seen v) = wide (coded_seen v) mine in
    let more : 1 ≤ count (map coded_seen vs) = count_some (map coded_seen vs) others in
    let few : width (coded_seen v) ≤ 128 = product_left (width (coded_seen v)) (count (map coded_seen vs)) 128 more h in
    let rest : count (map coded_seen vs) ≤ 128 = product_right (width (coded_seen v)) (count (map coded_seen vs)) 128 wide h in
    let same : width (coded_seen v) ≡ width_held v.coding v.values = width_same v.coding v.values in
    let near : levels_held v.values ≤ width_held v.coding v.values + 1 = levels_near v.coding v.values in
    All-cons IsUsable v vs (record { some = omega arith; few = omega arith }) (variables_usable vs others rest)

term_usable : (vs : List Held) → levels_fault (map coded_seen vs) ≡ None → count (map coded_seen vs) ≤ 128 → All IsUsable vs
unfolding levels_fault
term_usable vs e h = variables_usable vs e h

columns_left : (vs : List CodedVariable) (rest : List (List CodedVariable)) → length (flat_map term_columns (vs ∷ rest)) ≡ count vs + length (flat_map term_columns rest)
columns_left vs rest =
    length-append (term_columns vs) (flat_map term_columns rest) ∙ ap (λ n. n + length (flat_map term_columns rest)) (length-term_columns vs)

pub terms_usable : (terms : List (Vec Held Global)) → first_some levels_fault (terms_seen terms) ≡ None
    → length (flat_map term_columns (terms_seen terms)) ≤ 128 → All (λ vs. All IsUsable vs.items) terms
terms_usable [] e h = All-nil (λ vs. All IsUsable vs.items)
terms_usable (t ∷ ts) e h =
    let n : length (flat_map term_columns (terms_seen (t ∷ ts))) ≡ count (map coded_seen t.items) + length (flat_map term_columns (terms_seen ts)) =
    columns_left (map coded_seen t.items) (terms_seen ts) in
    let mine : count (map coded_seen t.items) ≤ 128 = omega arith in
    let others : length (flat_map term_columns (terms_seen ts)) ≤ 128 = omega arith in
    All-cons (λ vs. All IsUsable vs.items) t ts
    (term_usable t.items (none_left (levels_fault (map coded_seen t.items)) (first_some levels_fault (terms_seen ts)) e) mine)
    (terms_usable ts (none_right (levels_fault (map coded_seen t.items)) (first_some levels_fault (terms_seen ts)) e) others)

pub terms_few : (terms : List (Vec Held Global)) → length (flat_map term_columns (terms_seen terms)) ≤ 128 → All (λ vs. count (map coded_seen vs.items) ≤ 128) terms
terms_few [] h = All-nil (λ vs. count (map coded_seen vs.items) ≤ 128)
terms_few (t ∷ ts) h =
    let n : length (flat_map term_columns (terms_seen (t ∷ ts))) ≡ count (map coded_seen t.items) + length (flat_map term_columns (terms_seen ts)) =
    columns_left (map coded_seen t.items) (terms_seen ts) in
    let mine : count (map coded_seen t.items) ≤ 128 = omega arith in
    let others : length (flat_map term_columns (terms_seen ts)) ≤ 128 = omega arith in
    All-cons (λ vs. count (map coded_seen vs.items) ≤ 128) t ts mine (terms_few ts others)
