-- A list that is read item by item.
use Rattle.std.proofs.Common.{◌≡◌, ℕ, suc, ◌+◌, ◌-◌, ◌<◌, ◌≤◌, List, [], ◌∷◌, ◌++◌, Option, Some, None, Ok, Err, All, length, take, drop, get_or, map, slice_get, refl, sym, ap, ap₂, ◌∙◌, subst, append_assoc, append-nil, arith}
use Rattle.std.proofs.lemmas.List.{drop_more, drop_all, map_push, take_more, take_all}
use Rattle.std.specs.List.{last_or}
use Rattle.serde_json.specs.Data.{Data, Items, no_items, item}
use Rattle.serde_json.specs.View.{view, items_view}
use Rattle.serde_json.specs.declared.value.Value.{Value}
use Rattle.cert_text.specs.Paths.{item_step}
use Rattle.cert_text.specs.Reading.{Reading, Reader, on_read, under, further, items_from}
use Rattle.cert_text.specs.declared.fault.CertFault.{CertFault}

-- the items before place i have been read, and the rest is left
abbrev pub IsReadUpTo : {A : Type 0} → (Option A → Reader A) → Items → ℕ → Items → List A → Type 0
IsReadUpTo read all i rest found = items_from read None 0 all ≡ on_read (items_from read (last_or None found) i rest) (λ more. Ok (found ++ more))

same : {A : Type 0} (r : Reading (List A)) → r ≡ on_read r (λ more. Ok more)
same (Ok xs) = refl
same (Err e) = refl

pub last_pushed : {A : Type 0} (o : Option A) (xs : List A) (a : A) → last_or o (xs ++ a ∷ []) ≡ Some a
last_pushed o [] a = refl
last_pushed o (x ∷ xs) a = last_pushed (Some x) xs a

regroup : {A : Type 0} (found : List A) (a : A) (r : Reading (List A))
    → on_read (on_read r (λ more. Ok (a ∷ more))) (λ more. Ok (found ++ more)) ≡ on_read r (λ more. Ok ((found ++ a ∷ []) ++ more))
regroup found a (Ok xs) = ap Ok (sym (append_assoc found (a ∷ []) xs))
regroup found a (Err e) = refl

one_read : {A : Type 0} (read : Option A → Reader A) (all : Items) (i : ℕ) (d : Data) (rest : Items) (found : List A) (a : A)
    → IsReadUpTo read all i (item d rest) found → read (last_or None found) d ≡ Ok a → IsReadUpTo read all (i + 1) rest (found ++ a ∷ [])
unfolding items_from
one_read read all i d rest found a before h =
    before ∙ ap (λ r. on_read (on_read (under (item_step i) r) (λ b. on_read (items_from read (Some b) (i + 1) rest) (λ more. Ok (b ∷ more)))) (λ more. Ok (found ++ more))) h
    ∙ regroup found a (items_from read (Some a) (i + 1) rest)
    ∙ ap (λ o. on_read (items_from read o (i + 1) rest) (λ more. Ok ((found ++ a ∷ []) ++ more))) (sym (last_pushed None found a))

one_fails : {A : Type 0} (read : Option A → Reader A) (all : Items) (i : ℕ) (d : Data) (rest : Items) (found : List A) (e : CertFault)
    → IsReadUpTo read all i (item d rest) found → read (last_or None found) d ≡ Err e → items_from read None 0 all ≡ Err (further (item_step i) e)
unfolding items_from
one_fails read all i d rest found e before h =
    before ∙ ap (λ r. on_read (on_read (under (item_step i) r) (λ b. on_read (items_from read (Some b) (i + 1) rest) (λ more. Ok (b ∷ more)))) (λ more. Ok (found ++ more))) h

all_read : {A : Type 0} (read : Option A → Reader A) (all : Items) (i : ℕ) (found : List A)
    → IsReadUpTo read all i no_items found → items_from read None 0 all ≡ Ok found
unfolding items_from
all_read read all i found before = before ∙ ap Ok (append-nil found)

-- ---- the same over values

left : (vs : List Value) (i : ℕ) (v : Value) → i < length vs → v ≡ get_or vs i v
    → items_view (drop i vs) ≡ item (view v) (items_view (drop (i + 1) vs))
left vs i v lt here = ap items_view (drop_more vs i v lt ∙ ap (λ w. w ∷ drop (i + 1) vs) (sym here))

pub value_read : {T A : Type 0} (show : T → A) (read : Option A → Reader A) (vs : List Value) (i : ℕ) (v : Value) (found after : List T) (x : T)
    → i < length vs → v ≡ get_or vs i v
    → IsReadUpTo read (items_view vs) i (items_view (drop i vs)) (map show found)
    → read (last_or None (map show found)) (view v) ≡ Ok (show x) → after ≡ found ++ x ∷ []
    → IsReadUpTo read (items_view vs) (i + 1) (items_view (drop (i + 1) vs)) (map show after)
value_read show read vs i v found after x lt here before h pushed =
    let all = items_view vs in
    let rest = items_view (drop (i + 1) vs) in
    let now = subst (λ r. IsReadUpTo read all i r (map show found)) (left vs i v lt here) before in
    let one = one_read read all i (view v) rest (map show found) (show x) now h in
    subst (λ l. IsReadUpTo read all (i + 1) rest l) (sym (ap (map show) pushed ∙ map_push show found x)) one

pub value_fails : {T A : Type 0} (show : T → A) (read : Option A → Reader A) (vs : List Value) (i : ℕ) (v : Value) (found : List T) (e seen : CertFault)
    → i < length vs → v ≡ get_or vs i v
    → IsReadUpTo read (items_view vs) i (items_view (drop i vs)) (map show found)
    → read (last_or None (map show found)) (view v) ≡ Err e → seen ≡ further (item_step i) e → items_from read None 0 (items_view vs) ≡ Err seen
value_fails show read vs i v found e seen lt here before h named =
    let now = subst (λ r. IsReadUpTo read (items_view vs) i r (map show found)) (left vs i v lt here) before in
    one_fails read (items_view vs) i (view v) (items_view (drop (i + 1) vs)) (map show found) e now h ∙ ap Err (sym named)

pub values_read : {T A : Type 0} (show : T → A) (read : Option A → Reader A) (vs : List Value) (i : ℕ) (found : List T)
    → length vs ≤ i → IsReadUpTo read (items_view vs) i (items_view (drop i vs)) (map show found)
    → items_from read None 0 (items_view vs) ≡ Ok (map show found)
values_read show read vs i found over before =
    all_read read (items_view vs) i (map show found) (subst (λ r. IsReadUpTo read (items_view vs) i r (map show found)) (ap items_view (drop_all i vs over)) before)

-- ---- a list that is written item by item

pub first_items : {T : Type 0} (xs : List T) (i : ℕ) (x : T) → i < length xs → x ≡ get_or xs i x → take (i + 1) xs ≡ take i xs ++ x ∷ []
first_items xs i x lt here = take_more xs i x lt ∙ ap (λ y. take i xs ++ y ∷ []) (sym here)

pub value_written : {T : Type 0} (tree : T → Data) (xs : List T) (i : ℕ) (x : T) (found after : List Value) (v : Value)
    → i < length xs → x ≡ get_or xs i x → map view found ≡ map tree (take i xs) → view v ≡ tree x → after ≡ found ++ v ∷ []
    → map view after ≡ map tree (take (i + 1) xs)
value_written tree xs i x found after v lt here before h pushed =
    ap (map view) pushed ∙ map_push view found v ∙ ap₂ (λ l d. l ++ d ∷ []) before h
    ∙ sym (ap (map tree) (first_items xs i x lt here) ∙ map_push tree (take i xs) x)

pub all_taken : {T : Type 0} (P : List T → Type 0) (xs ys : List T) (i : ℕ) → length xs ≤ i → xs ≡ ys → P (take i xs) → P ys
all_taken P xs ys i over same h = subst P (take_all i xs over ∙ same) h

-- ---- what holds of each item

pub first_holds : {T : Type 0} (P : T → Type 0) (x : T) (xs : List T) → All P (x ∷ xs) → P x
first_holds P x xs all = all 0 x (omega arith)

pub rest_hold : {T : Type 0} (P : T → Type 0) (x : T) (xs : List T) → All P (x ∷ xs) → All P xs
rest_hold P x xs all = λ k d lt. all (suc k) d (omega (arith, lt))

-- what is read after a fault

pub stops : {A B : Type 0} (r : Reading A) (f : A → Reading B) (e : CertFault) → r ≡ Err e → on_read r f ≡ Err e
stops r f e h = ap (λ z. on_read z f) h

-- ---- the item before

last_behind : {A : Type 0} (x : A) (xs : List A) → slice_get (x ∷ xs) (length xs) ≡ last_or (Some x) xs
last_behind x [] = refl
last_behind x (y ∷ ys) = last_behind y ys

-- the last item of a slice is the last of its list
pub last_of : {A : Type 0} (xs : List A) → slice_get xs (length xs - 1) ≡ last_or None xs
last_of [] = refl
last_of (x ∷ xs) =
    let e : suc (length xs) - 1 ≡ length xs = omega arith in
    ap (slice_get (x ∷ xs)) e ∙ last_behind x xs
