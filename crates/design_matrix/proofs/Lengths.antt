-- How long lists are that are told of others.
use Rattle.std.proofs.Common.{◌≡◌, ◌<◌, ◌^◌, ◌≤◌, ℕ, suc, ◌+◌, List, [], ◌∷◌, ◌++◌, All, Vec, Bool, true, false, cond, length, map, filter, refl, sym, ap, ◌∙◌, arith, subst}
use Rattle.std.specs.List.{flat_map, range_with_len}
use Rattle.std.specs.declared.alloc.Global.{Global}
use Rattle.std.proofs.lemmas.List.{length-map}
use Rattle.std.proofs.lemmas.List.Elements.{All-filter, All-push}
use Rattle.std.proofs.lemmas.List.FromFn.{get_or-range_with_len, length-range_with_len}
use Rattle.design_matrix.specs.CodedVariable.{CodedVariable}
use Rattle.design_matrix.specs.Lists.{each}
use Rattle.design_matrix.specs.Parts.{Part, chosen, columns_in, term_columns}

pub length-each : {A B : Type 0} (f : ℕ → A → B) (k : ℕ) (xs : List A) → length (each f k xs) ≡ length xs
length-each f k [] = refl
length-each f k (x ∷ xs) = ap suc (length-each f (k + 1) xs)

length-chosen : (vs : List CodedVariable) (n : ℕ) → length (chosen vs n) ≡ length vs
length-chosen [] n = refl
length-chosen (v ∷ vs) n = ap suc (length-chosen vs _)

pub each_length : {X A B : Type 0} (told : X → B) (f : ℕ → A → B) (xs : List X) (ys : List A) → map told xs ≡ each f 0 ys → length xs ≡ length ys
each_length told f xs ys e = sym (length-map xs told) ∙ ap length e ∙ length-each f 0 ys

pub chosen_length : {X V : Type 0} (told : X → Part) (seen : V → CodedVariable) (parts : List X) (vs : List V) (n : ℕ) → map told parts ≡ chosen (map seen vs) n
    → length parts ≡ length vs
chosen_length told seen parts vs n e = sym (length-map parts told) ∙ ap length e ∙ length-chosen (map seen vs) n ∙ length-map vs seen

-- no list of these is as long as a number of 32 bits can't say
abbrev pub AreShort : {X : Type 0} → List (Vec X Global) → Type 0
AreShort vs = All (λ v. length v.items < 2 ^ 32) vs

pub short_push : {X : Type 0} (old new : List (Vec X Global)) (v : Vec X Global) → AreShort old → new ≡ old ++ (v ∷ []) → length v.items < 2 ^ 32 → AreShort new
short_push {X} old new v a e h =
    let Q : List (Vec X Global) → Type 0 = λ l. AreShort l in subst Q (sym e) (All-push (λ w. length w.items < 2 ^ 32) old v a h)

below : (n : ℕ) → All (λ i. i < n) (range_with_len 0 n)
below n k d h =
    let m : length (range_with_len 0 n) ≡ n = length-range_with_len 0 n in
    let P : ℕ → Type 0 = λ i. i < n in
    let lt : k < n = omega arith in
    subst P (sym (get_or-range_with_len 0 n k d lt)) (omega arith)

pub filtered_below : (test : ℕ → Bool) (n : ℕ) → All (λ i. i < n) (filter test (range_with_len 0 n))
filtered_below test n = All-filter test (λ i. i < n) (range_with_len 0 n) (below n)

pub length-filter-le : (test : ℕ → Bool) (xs : List ℕ) → length (filter test xs) ≤ length xs
length-filter-le test [] = omega arith
length-filter-le test (x ∷ xs) =
    let rest : length (filter test xs) ≤ length xs = length-filter-le test xs in
    elim (test x) as (λ b. length (cond b (x ∷ filter test xs) (filter test xs)) ≤ length (x ∷ xs)) [ true ↦ omega arith | false ↦ omega arith ]

pub filtered_fewer : (test : ℕ → Bool) (n : ℕ) → length (filter test (range_with_len 0 n)) ≤ n
filtered_fewer test n =
    let m : length (range_with_len 0 n) ≡ n = length-range_with_len 0 n in
    let few : length (filter test (range_with_len 0 n)) ≤ length (range_with_len 0 n) = length-filter-le test (range_with_len 0 n) in
    omega arith

pub terms_part : (b : Bool) (terms : List (List CodedVariable)) → length (flat_map term_columns terms) ≤ length (columns_in b terms)
terms_part true terms = omega arith
terms_part false terms = omega arith
