-- The first answer that a function gives along a list.
use Rattle.std.proofs.Common.{◌≡◌, ◌<◌, ◌≤◌, ℕ, zero, suc, ◌+◌, ◌-◌, List, [], ◌∷◌, ◌++◌, Option, Some, None, length, map, take, drop, get_or, arith, refl, sym, ap, ◌∙◌, take_all}
use Rattle.std.proofs.Math.Seq.{drop-cons}
use Rattle.std.proofs.lemmas.List.{take-append-drop, take_more}
use Rattle.std.specs.List.{range_with_len}
use Rattle.std.specs.Option.{option_or}
use Rattle.design_matrix.specs.Lists.{first_some}
use Rattle.design_matrix.proofs.Puts.{around, first_item}
use Rattle.design_matrix.proofs.Steps.{range_more}

or_assoc : {B : Type 0} (a b c : Option B) → option_or a (option_or b c) ≡ option_or (option_or a b) c
or_assoc None b c = refl
or_assoc (Some x) b c = refl

first-append : {A B : Type 0} (f : A → Option B) (xs ys : List A) → first_some f (xs ++ ys) ≡ option_or (first_some f xs) (first_some f ys)
first-append f [] ys = refl
first-append f (x ∷ xs) ys = ap (λ o. option_or (f x) o) (first-append f xs ys) ∙ or_assoc (f x) (first_some f xs) (first_some f ys)

pub first_more : {X A B : Type 0} (f : A → Option B) (told : X → A) (xs : List X) (i : ℕ) (x : X) → i < length xs → x ≡ get_or xs i x
    → first_some f (map told (take i xs)) ≡ None → f (told x) ≡ None → first_some f (map told (take (i + 1) xs)) ≡ None
first_more f told xs i x h e p q =
    ap (λ l. first_some f l) (first_item told xs i x h e)
    ∙ first-append f (map told (take i xs)) (told x ∷ [])
    ∙ ap (λ o. option_or o (option_or (f (told x)) None)) p
    ∙ ap (λ o. option_or o None) q

pub first_found : {X A B : Type 0} (f : A → Option B) (told : X → A) (xs : List X) (i : ℕ) (x : X) (found : B) → i < length xs → x ≡ get_or xs i x
    → first_some f (map told (take i xs)) ≡ None → f (told x) ≡ Some found → first_some f (map told xs) ≡ Some found
first_found f told xs i x found h e p q =
    ap (λ l. first_some f l) (around told xs i x h e)
    ∙ first-append f (map told (take i xs)) (told x ∷ map told (drop (suc i) xs))
    ∙ ap (λ o. option_or o (option_or (f (told x)) (first_some f (map told (drop (suc i) xs))))) p
    ∙ ap (λ o. option_or o (first_some f (map told (drop (suc i) xs)))) q

pub first_all : {X A B : Type 0} (f : A → Option B) (told : X → A) (xs : List X) (i : ℕ) → length xs ≤ i
    → first_some f (map told (take i xs)) ≡ None → first_some f (map told xs) ≡ None
first_all f told xs i h p = ap (λ l. first_some f (map told l)) (sym (take_all i xs h)) ∙ p

-- the same of the items themselves

pub next_none : {A B : Type 0} (f : A → Option B) (xs : List A) (i : ℕ) (x : A) → i < length xs → x ≡ get_or xs i x
    → first_some f (take i xs) ≡ None → f x ≡ None → first_some f (take (i + 1) xs) ≡ None
next_none f xs i x h e p q =
    ap (first_some f) (take_more xs i x h ∙ ap (λ y. take i xs ++ (y ∷ [])) (sym e))
    ∙ first-append f (take i xs) (x ∷ [])
    ∙ ap (λ o. option_or o (option_or (f x) None)) p
    ∙ ap (λ o. option_or o None) q

pub next_found : {A B : Type 0} (f : A → Option B) (xs : List A) (i : ℕ) (x : A) (found : B) → i < length xs → x ≡ get_or xs i x
    → first_some f (take i xs) ≡ None → f x ≡ Some found → first_some f xs ≡ Some found
next_found f xs i x found h e p q =
    ap (first_some f) (sym (take-append-drop i xs))
    ∙ first-append f (take i xs) (drop i xs)
    ∙ ap (λ o. option_or o (first_some f (drop i xs))) p
    ∙ ap (first_some f) (drop-cons xs i x h)
    ∙ ap (λ y. option_or (f y) (first_some f (drop (suc i) xs))) (sym e)
    ∙ ap (λ o. option_or o (first_some f (drop (suc i) xs))) q

pub all_none : {A B : Type 0} (f : A → Option B) (xs : List A) (i : ℕ) → length xs ≤ i → first_some f (take i xs) ≡ None → first_some f xs ≡ None
all_none f xs i h p = ap (first_some f) (sym (take_all i xs h)) ∙ p

-- the same over the numbers below n

module _ {B : Type 0} (f : ℕ → Option B) where
  pub below_more : (i : ℕ) → first_some f (range_with_len 0 i) ≡ None → f i ≡ None → first_some f (range_with_len 0 (i + 1)) ≡ None
  below_more i p q =
      ap (λ l. first_some f l) (range_more i)
      ∙ first-append f (range_with_len 0 i) (i ∷ [])
      ∙ ap (λ o. option_or o (option_or (f i) None)) p
      ∙ ap (λ o. option_or o None) q

  -- what is found below i is found below n
  found_below : (i n k : ℕ) (found : B) → n ≡ i + k → first_some f (range_with_len 0 i) ≡ Some found → first_some f (range_with_len 0 n) ≡ Some found
  found_below i n zero found e p = ap (λ m. first_some f (range_with_len 0 m)) (let e' : n ≡ i = omega arith in e') ∙ p
  found_below i n (suc k) found e p =
      ap (λ m. first_some f (range_with_len 0 m)) (let e' : n ≡ (i + k) + 1 = omega arith in e')
      ∙ ap (λ l. first_some f l) (range_more (i + k))
      ∙ first-append f (range_with_len 0 (i + k)) ((i + k) ∷ [])
      ∙ ap (λ o. option_or o (option_or (f (i + k)) None)) (found_below i (i + k) k found refl p)

  pub below_found : (i n : ℕ) (found : B) → i < n → first_some f (range_with_len 0 i) ≡ None → f i ≡ Some found → first_some f (range_with_len 0 n) ≡ Some found
  below_found i n found h p q =
      found_below (i + 1) n (n - (i + 1)) found (omega arith)
      (ap (λ l. first_some f l) (range_more i)
      ∙ first-append f (range_with_len 0 i) (i ∷ [])
      ∙ ap (λ o. option_or o (option_or (f i) None)) p
      ∙ ap (λ o. option_or o None) q)

  pub below_all : (i n : ℕ) → n ≤ i → i ≤ n → first_some f (range_with_len 0 i) ≡ None → first_some f (range_with_len 0 n) ≡ None
  below_all i n h k p = ap (λ m. first_some f (range_with_len 0 m)) (let e : n ≡ i = omega arith in e) ∙ p

-- of two answers the first that there is
pub or_first : {B : Type 0} (a b : Option B) (x : B) → a ≡ Some x → option_or a b ≡ Some x
or_first a b x e = ap (λ o. option_or o b) e

pub or_second : {B : Type 0} (a b c : Option B) → a ≡ None → b ≡ c → option_or a b ≡ c
or_second a b c e f = ap (λ o. option_or o b) e ∙ f
