-- One item more.
use Rattle.std.proofs.Common.{◌≡◌, ◌<◌, ◌&&◌, ◌||◌, ℕ, ◌+◌, Bool, true, false, cond, List, [], ◌∷◌, ◌++◌, Option, take, length, map}
use Rattle.std.proofs.Common.{filter, get_or, refl, sym, ap, ◌∙◌, append_assoc, arith, nat_eq, eq-eqb, drop, take_all, length-drop, ◌-◌, ◌≤◌, All, subst}
use Rattle.std.proofs.lemmas.Bool.{eqb-true}
use Rattle.std.specs.declared.cmp.Ordering.{Ordering}
use Rattle.std.specs.List.{flat_map, list_all, list_any, range_with_len}
use Rattle.std.proofs.lemmas.List.{length-take-le, map-append, take_more}
use Rattle.std.proofs.lemmas.Grind.{flat_map-append}
use Rattle.std.proofs.lemmas.List.Elements.{All-push, filter-append, filter_map-append}
use Rattle.std.proofs.lemmas.List.FromFn.{map-range_with_len_more}
use Rattle.design_matrix.specs.Cells.{cell_of, present}
use Rattle.design_matrix.specs.Levels.{put, put_all}
use Rattle.design_matrix.specs.Lists.{each}
use Rattle.design_matrix.proofs.Puts.{first_item}

map_same : {A : Type 0} (xs : List A) → map (λ x. x) xs ≡ xs
map_same [] = refl
map_same (x ∷ xs) = ap (λ l. x ∷ l) (map_same xs)

pub range_more : (n : ℕ) → range_with_len 0 (n + 1) ≡ range_with_len 0 n ++ (n ∷ [])
range_more n =
    sym (map_same (range_with_len 0 (n + 1)))
    ∙ map-range_with_len_more (λ x. x) 0 n n (omega arith)
    ∙ ap (λ l. l ++ (n ∷ [])) (map_same (range_with_len 0 n))

pub list_all-map : {A B : Type 0} (f : A → B) (test : B → Bool) (xs : List A) → list_all test (map f xs) ≡ list_all (λ x. test (f x)) xs
list_all-map f test [] = refl
list_all-map f test (x ∷ xs) = ap (λ b. test (f x) && b) (list_all-map f test xs)

pub list_any-map : {A B : Type 0} (f : A → B) (test : B → Bool) (xs : List A) → list_any test (map f xs) ≡ list_any (λ x. test (f x)) xs
list_any-map f test [] = refl
list_any-map f test (x ∷ xs) = ap (λ b. test (f x) || b) (list_any-map f test xs)

filter_more : (test : ℕ → Bool) (n : ℕ) (b : Bool) → test n ≡ b
    → filter test (range_with_len 0 (n + 1)) ≡ filter test (range_with_len 0 n) ++ cond b (n ∷ []) []
filter_more test n b e =
    ap (λ l. filter test l) (range_more n)
    ∙ filter-append test (range_with_len 0 n) (n ∷ [])
    ∙ ap (λ t. filter test (range_with_len 0 n) ++ cond t (n ∷ []) []) e

pub keeps : (test : ℕ → Bool) (n : ℕ) (old new : List ℕ) → old ≡ filter test (range_with_len 0 n) → new ≡ old ++ (n ∷ []) → test n ≡ true
    → new ≡ filter test (range_with_len 0 (n + 1))
keeps test n old new e f t = f ∙ ap (λ l. l ++ (n ∷ [])) e ∙ sym (filter_more test n true t)

pub append_nothing : {A : Type 0} (xs : List A) → xs ++ [] ≡ xs
append_nothing [] = refl
append_nothing (x ∷ xs) = ap (λ l. x ∷ l) (append_nothing xs)

pub passes_over : (test : ℕ → Bool) (n : ℕ) (old new : List ℕ) → old ≡ filter test (range_with_len 0 n) → new ≡ old → test n ≡ false
    → new ≡ filter test (range_with_len 0 (n + 1))
passes_over test n old new e f t = f ∙ e ∙ sym (filter_more test n false t ∙ append_nothing (filter test (range_with_len 0 n)))

pub present_more : {K : Type 0} (cells : List (Option K)) (records : List ℕ) (i r : ℕ) → i < length records → r ≡ get_or records i 0
    → present cells (take (i + 1) records) ≡ present cells (take i records) ++ present cells (r ∷ [])
present_more cells records i r h e =
    ap (λ l. present cells l) (take_more records i 0 h ∙ ap (λ x. take i records ++ (x ∷ [])) (sym e))
    ∙ filter_map-append (cell_of cells) (take i records) (r ∷ [])

put_all-append : {K : Type 0} (order : K → K → Ordering) (levels xs ys : List K)
    → put_all order levels (xs ++ ys) ≡ put_all order (put_all order levels xs) ys
put_all-append order levels [] ys = refl
put_all-append order levels (x ∷ xs) ys = put_all-append order (put order x levels) xs ys

pub levels_more : {K : Type 0} (order : K → K → Ordering) (cells : List (Option K)) (records : List ℕ) (i r : ℕ)
    (old new : List K) → i < length records → r ≡ get_or records i 0 → old ≡ put_all order [] (present cells (take i records))
    → new ≡ put_all order old (present cells (r ∷ [])) → new ≡ put_all order [] (present cells (take (i + 1) records))
levels_more order cells records i r old new h e f g =
    g
    ∙ ap (λ l. put_all order l (present cells (r ∷ []))) f
    ∙ sym (put_all-append order [] (present cells (take i records)) (present cells (r ∷ [])))
    ∙ ap (λ l. put_all order [] l) (sym (present_more cells records i r h e))

pub places_more : {K : Type 0} (level : K → ℕ) (cells : List (Option K)) (records : List ℕ) (i r : ℕ) (old new : List ℕ)
    → i < length records → r ≡ get_or records i 0 → old ≡ map level (present cells (take i records))
    → new ≡ old ++ map level (present cells (r ∷ [])) → new ≡ map level (present cells (take (i + 1) records))
places_more level cells records i r old new h e f g =
    g
    ∙ ap (λ l. l ++ map level (present cells (r ∷ []))) f
    ∙ sym (map-append level (present cells (take i records)) (present cells (r ∷ [])))
    ∙ ap (λ l. map level l) (sym (present_more cells records i r h e))

each_push : {A B : Type 0} (f : ℕ → A → B) (k n : ℕ) (xs : List A) (x : A) → n ≡ k + length xs
    → each f k (xs ++ (x ∷ [])) ≡ each f k xs ++ (f n x ∷ [])
each_push f k n [] x e = ap (λ m. f m x ∷ []) (let e' : k ≡ n = omega arith in e')
each_push f k n (y ∷ ys) x e = ap (λ l. f k y ∷ l) (each_push f (k + 1) n ys x (omega arith))

pub each_more : {A B : Type 0} (f : ℕ → A → B) (xs : List A) (i : ℕ) (x : A) (old new : List B) → i < length xs → x ≡ get_or xs i x
    → old ≡ each f 0 (take i xs) → new ≡ old ++ (f i x ∷ []) → new ≡ each f 0 (take (i + 1) xs)
each_more f xs i x old new h e p q =
    let e' : length (take i xs) ≡ i = length-take-le i xs (omega arith) in
    let n : i ≡ 0 + length (take i xs) = omega arith in
    q
    ∙ ap (λ l. l ++ (f i x ∷ [])) p
    ∙ sym (each_push f 0 i (take i xs) x n)
    ∙ ap (λ l. each f 0 l) (sym (take_more xs i x h ∙ ap (λ y. take i xs ++ (y ∷ [])) (sym e)))

pub map_push : {A B : Type 0} (f : A → B) (xs : List A) (i : ℕ) (x : A) (old new : List B) → i < length xs → x ≡ get_or xs i x
    → old ≡ map f (take i xs) → new ≡ old ++ (f x ∷ []) → new ≡ map f (take (i + 1) xs)
map_push f xs i x old new h e p q =
    q
    ∙ ap (λ l. l ++ (f x ∷ [])) p
    ∙ sym (map-append f (take i xs) (x ∷ []))
    ∙ ap (λ l. map f l) (sym (take_more xs i x h ∙ ap (λ y. take i xs ++ (y ∷ [])) (sym e)))

pub map_map : {A B C : Type 0} (f : B → C) (g : A → B) (xs : List A) → map f (map g xs) ≡ map (λ x. f (g x)) xs
map_map f g [] = refl
map_map f g (x ∷ xs) = ap (λ l. f (g x) ∷ l) (map_map f g xs)

pub at_one : {A : Type 0} (n : ℕ) (x y : A) → n ≡ 1 → cond (nat_eq n 1) x y ≡ x
at_one n x y e = ap (λ b. cond b x y) (eq-eqb n 1 e)

pub not_one : (n : ℕ) → (n ≡ 1 → ⊥) → nat_eq n 1 ≡ false
not_one n h = at (nat_eq n 1) refl
  where
    at : (b : Bool) → nat_eq n 1 ≡ b → nat_eq n 1 ≡ false
    at true e = absurd (h (eqb-true n 1 e))
    at false e = e

pub elsewhere : {A : Type 0} (n : ℕ) (x y : A) → (n ≡ 1 → ⊥) → cond (nat_eq n 1) x y ≡ y
elsewhere n x y h = ap (λ b. cond b x y) (not_one n h)

pub one_no : (n m : ℕ) (b : Bool) → m ≡ n → (m ≡ 1 → ⊥) → false ≡ (nat_eq n 1 && b)
one_no n m b e h = ap (λ t. t && b) (sym (not_one n (λ k. h (e ∙ k))))

pub one_yes : (n m : ℕ) (b r : Bool) → m ≡ n → m ≡ 1 → r ≡ b → r ≡ (nat_eq n 1 && b)
one_yes n m b r e h k = k ∙ ap (λ t. t && b) (sym (eq-eqb n 1 (sym e ∙ h)))

-- what is told of a new item
pub each_told : {X A B : Type 0} (told : X → B) (f : ℕ → A → B) (xs : List A) (i : ℕ) (x : A) (old new : List X) (y : X) → i < length xs
    → x ≡ get_or xs i x → map told old ≡ each f 0 (take i xs) → new ≡ old ++ (y ∷ []) → told y ≡ f i x → map told new ≡ each f 0 (take (i + 1) xs)
each_told told f xs i x old new y h e p q s =
    each_more f xs i x (map told old) (map told new) h e p
    (ap (λ l. map told l) q ∙ map-append told old (y ∷ []) ∙ ap (λ z. map told old ++ (z ∷ [])) s)

pub each_all : {A B : Type 0} (f : ℕ → A → B) (xs : List A) (i : ℕ) (ys : List B) → length xs ≤ i → ys ≡ each f 0 (take i xs) → ys ≡ each f 0 xs
each_all f xs i ys h e = e ∙ ap (λ l. each f 0 l) (take_all i xs h)

pub rest_is : {A : Type 0} (xs : List A) (n : ℕ) → take (length xs - n) (drop n xs) ≡ drop n xs
rest_is xs n = let e : length (drop n xs) ≡ length xs - n = length-drop n xs in take_all (length xs - n) (drop n xs) (omega arith)

pub spanned_now : (n : ℕ) (a b y : Bool) → n ≡ 1 → a ≡ true → true ≡ cond (nat_eq n 1) (a || b) y
spanned_now n a b y e f = sym (at_one n (a || b) y e ∙ ap (λ t. t || b) f)

pub spanned_later : (n : ℕ) (a b y r : Bool) → n ≡ 1 → a ≡ false → r ≡ b → r ≡ cond (nat_eq n 1) (a || b) y
spanned_later n a b y r e f g = g ∙ sym (at_one n (a || b) y e ∙ ap (λ t. t || b) f)

-- what is told of the item for one more number
pub range_told : {X B : Type 0} (told : X → B) (f : ℕ → B) (start : List B) (n : ℕ) (old new : List X) (y : X)
    → map told old ≡ start ++ map f (range_with_len 0 n) → new ≡ old ++ (y ∷ []) → told y ≡ f n
    → map told new ≡ start ++ map f (range_with_len 0 (n + 1))
range_told told f start n old new y p q s =
    ap (λ l. map told l) q
    ∙ map-append told old (y ∷ [])
    ∙ ap (λ l. l ++ (told y ∷ [])) p
    ∙ append_assoc start (map f (range_with_len 0 n)) (told y ∷ [])
    ∙ ap (λ z. start ++ (map f (range_with_len 0 n) ++ (z ∷ []))) s
    ∙ ap (λ l. start ++ l) (sym (map-range_with_len_more f 0 n n (omega arith)))

flat_one : {A B : Type 0} (f : A → List B) (x : A) → flat_map f (x ∷ []) ≡ f x
flat_one f x = append_nothing (f x)

-- what one more item adds
pub flat_told : {X A B : Type 0} (told : X → A) (f : A → List B) (start : List B) (xs : List X) (i : ℕ) (x : X) (old new : List B)
    → i < length xs → x ≡ get_or xs i x → old ≡ start ++ flat_map f (map told (take i xs)) → new ≡ old ++ f (told x)
    → new ≡ start ++ flat_map f (map told (take (i + 1) xs))
flat_told told f start xs i x old new h e p q =
    q
    ∙ ap (λ l. l ++ f (told x)) p
    ∙ append_assoc start (flat_map f (map told (take i xs))) (f (told x))
    ∙ ap (λ l. start ++ (flat_map f (map told (take i xs)) ++ l)) (sym (flat_one f (told x)))
    ∙ ap (λ l. start ++ l) (sym (flat_map-append f (map told (take i xs)) (told x ∷ [])))
    ∙ ap (λ l. start ++ flat_map f l) (sym (map-append told (take i xs) (x ∷ [])))
    ∙ ap (λ l. start ++ flat_map f (map told l)) (sym (take_more xs i x h ∙ ap (λ y. take i xs ++ (y ∷ [])) (sym e)))

pub flat_more : {A B : Type 0} (f : A → List B) (start : List B) (xs : List A) (i : ℕ) (x : A) (old new : List B)
    → i < length xs → x ≡ get_or xs i x → old ≡ start ++ flat_map f (take i xs) → new ≡ old ++ f x
    → new ≡ start ++ flat_map f (take (i + 1) xs)
flat_more f start xs i x old new h e p q =
    q
    ∙ ap (λ l. l ++ f x) p
    ∙ append_assoc start (flat_map f (take i xs)) (f x)
    ∙ ap (λ l. start ++ (flat_map f (take i xs) ++ l)) (sym (flat_one f x))
    ∙ ap (λ l. start ++ l) (sym (flat_map-append f (take i xs) (x ∷ [])))
    ∙ ap (λ l. start ++ flat_map f l) (sym (take_more xs i x h ∙ ap (λ y. take i xs ++ (y ∷ [])) (sym e)))

pub told_more : {V B X Y : Type 0} (value : V → B) (f : Y → B) (told : X → Y) (xs : List X) (i : ℕ) (x : X) (old new : List V) (v : V)
    → i < length xs → x ≡ get_or xs i x → map value old ≡ map f (map told (take i xs)) → new ≡ old ++ (v ∷ []) → value v ≡ f (told x)
    → map value new ≡ map f (map told (take (i + 1) xs))
told_more value f told xs i x old new v h e p q s =
    ap (λ l. map value l) q
    ∙ map-append value old (v ∷ [])
    ∙ ap (λ l. l ++ (value v ∷ [])) p
    ∙ ap (λ z. map f (map told (take i xs)) ++ (z ∷ [])) s
    ∙ sym (map-append f (map told (take i xs)) (told x ∷ []))
    ∙ ap (λ l. map f l) (sym (first_item told xs i x h e))

pub all_told : {X Y : Type 0} (P : Y → Type 0) (told : X → Y) (xs : List X) (i : ℕ) (x : X) → i < length xs → x ≡ get_or xs i x
    → All P (map told (take i xs)) → P (told x) → All P (map told (take (i + 1) xs))
all_told {X} {Y} P told xs i x h e a b =
    let Q : List Y → Type 0 = λ l. All P l in subst Q (sym (first_item told xs i x h e)) (All-push P (map told (take i xs)) (told x) a b)
