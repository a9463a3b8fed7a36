-- How many columns terms have.
use Rattle.std.proofs.Common.{◌≡◌, ◌<◌, ◌≤◌, ℕ, zero, suc, ◌+◌, ◌*◌, ◌^◌, List, [], ◌∷◌, ◌++◌, length, map, min, take, get_or, refl, sym, ap, ◌∙◌, arith, length-append, Bool, true, false, leb, leb-true, leb-false}
use Rattle.std.proofs.Math.Nat.{mul_assoc, mul-le-mul_left}
use Rattle.std.proofs.lemmas.List.{map_more}
use Rattle.std.proofs.lemmas.List.FromFn.{length-map-range_with_len}
use Rattle.std.proofs.lemmas.Grind.{flat_map-append}
use Rattle.std.specs.List.{flat_map}
use Rattle.design_matrix.specs.CodedVariable.{CodedVariable, width}
use Rattle.design_matrix.specs.Parts.{chosen, columns_in, count, term_columns}

count_push : (vs : List CodedVariable) (v : CodedVariable) → count (vs ++ (v ∷ [])) ≡ count vs * width v
count_push [] v = omega arith
count_push (u ∷ us) v = ap (λ n. width u * n) (count_push us v) ∙ sym (mul_assoc (width u) (count us) (width v))

beyond : (n w : ℕ) → 129 ≤ n → min (129 * suc w) 129 ≡ min (n * suc w) 129
beyond n w h =
    let one : 1 ≤ suc w = omega arith in
    let a : 129 * 1 ≤ 129 * suc w = mul-le-mul_left 129 one in
    let b : n * 1 ≤ n * suc w = mul-le-mul_left n one in
    omega arith

times_zero : (n : ℕ) → n * 0 ≡ 0
times_zero n = omega arith

capped_product : (n w : ℕ) → min (min n 129 * w) 129 ≡ min (n * w) 129
capped_product n zero = ap (λ m. min m 129) (times_zero (min n 129) ∙ sym (times_zero n))
capped_product n (suc w) = at (leb n 129) refl
  where
    at : (b : Bool) → leb n 129 ≡ b → min (min n 129 * suc w) 129 ≡ min (n * suc w) 129
    at true e = let h : n ≤ 129 = leb-true n 129 e in ap (λ m. min (m * suc w) 129) (let k : min n 129 ≡ n = omega arith in k)
    at false e = let h : 129 < n = leb-false n 129 e in ap (λ m. min (m * suc w) 129) (let k : min n 129 ≡ 129 = omega arith in k) ∙ beyond n w (omega arith)

capped_sum : (n m : ℕ) → min (min n 129 + min m 129) 129 ≡ min (n + m) 129
capped_sum n m = omega arith

pub product_fits : (a b : ℕ) → a ≤ 129 → b < 2 ^ 32 → a * b < 2 ^ 64
product_fits a b h k = let p : b * a ≤ b * 129 = mul-le-mul_left b h in omega arith

pub count_more : {X : Type 0} (told : X → CodedVariable) (vs : List X) (i : ℕ) (v : X) (old w new : ℕ) → i < length vs → v ≡ get_or vs i v
    → old ≡ min (count (map told (take i vs))) 129 → w ≡ width (told v) → new ≡ min (old * w) 129
    → new ≡ min (count (map told (take (i + 1) vs))) 129
count_more told vs i v old w new h e p q r =
    r
    ∙ ap (λ n. min (n * w) 129) p
    ∙ ap (λ n. min (min (count (map told (take i vs))) 129 * n) 129) q
    ∙ capped_product (count (map told (take i vs))) (width (told v))
    ∙ ap (λ n. min n 129) (sym (ap count (map_more told vs i v h ∙ ap (λ z. map told (take i vs) ++ (told z ∷ [])) (sym e)) ∙ count_push (map told (take i vs)) (told v)))

pub length-term_columns : (vs : List CodedVariable) → length (term_columns vs) ≡ count vs
length-term_columns vs = length-map-range_with_len (chosen vs) 0 (count vs)

columns_push : (terms : List (List CodedVariable)) (vs : List CodedVariable)
    → length (flat_map term_columns (terms ++ (vs ∷ []))) ≡ length (flat_map term_columns terms) + count vs
columns_push terms vs =
    ap length (flat_map-append term_columns terms (vs ∷ []))
    ∙ length-append (flat_map term_columns terms) (term_columns vs ++ [])
    ∙ ap (λ n. length (flat_map term_columns terms) + n) (length-append (term_columns vs) [] ∙ (let e : length (term_columns vs) + 0 ≡ length (term_columns vs) = omega arith in e) ∙ length-term_columns vs)

pub columns_more : {X : Type 0} (told : X → List CodedVariable) (terms : List X) (i : ℕ) (t : X) (old c new : ℕ) → i < length terms → t ≡ get_or terms i t
    → old ≡ min (length (flat_map term_columns (map told (take i terms)))) 129 → c ≡ min (count (told t)) 129 → new ≡ min (old + c) 129
    → new ≡ min (length (flat_map term_columns (map told (take (i + 1) terms)))) 129
columns_more told terms i t old c new h e p q r =
    r
    ∙ ap (λ n. min (n + c) 129) p
    ∙ ap (λ n. min (min (length (flat_map term_columns (map told (take i terms)))) 129 + n) 129) q
    ∙ capped_sum (length (flat_map term_columns (map told (take i terms)))) (count (told t))
    ∙ ap (λ n. min n 129) (sym (ap (λ l. length (flat_map term_columns l)) (map_more told terms i t h ∙ ap (λ z. map told (take i terms) ++ (told z ∷ [])) (sym e)) ∙ columns_push (map told (take i terms)) (told t)))

pub columns_split : (b : Bool) (terms : List (List CodedVariable)) → columns_in b [] ++ flat_map term_columns terms ≡ columns_in b terms
columns_split true terms = refl
columns_split false terms = refl
