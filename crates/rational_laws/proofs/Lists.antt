-- Lists by place: the items there, and what one item more leaves as it was.
use Rattle.std.proofs.Common.{◌≡◌, ◌<◌, ◌+◌, ℕ, zero, suc, List, [], ◌∷◌, ◌++◌, length, map, replicate, take, get_or, slice_get, slice_index, Contains, Some, arith, refl, sym, ap, ap₂, subst, ◌∙◌, append_assoc, inl, inr}
use Rattle.std.proofs.lemmas.List.{map-append, take_more}
use Rattle.std.proofs.lemmas.Option.{none-some, same_Some, slice_get_cases, slice_get-get_or}
use Rattle.rational_laws.specs.Pairs.{ArePaired}

pub item_at : {X : Type 0} (xs : List X) (i : ℕ) → i < length xs → (x : X) × (slice_get xs i ≡ Some x) × (get_or xs i x ≡ x)
item_at xs i l = elim (slice_get_cases xs i).1 [ inl w ↦ (w.0, w.2, w.3) | inr h ↦ absurd (omega arith) ]

pub item_there : {X : Type 0} (xs : List X) (i : ℕ) → i < length xs → (x : X) × (slice_get xs i ≡ Some x)
item_there xs i l = let w = item_at xs i l in (w.0, w.1)

pub contains_item : (xs : List ℕ) (k : ℕ) → k < length xs → Contains xs (slice_index xs k)
contains_item xs k l = (k, l, cc (sym (slice_get-get_or xs k (slice_index xs k) l) ∙ slice_get-get_or xs k 0 l))

pub pushed_before : {X : Type 0} (made : List X) (x : X) (i : ℕ) → i < length made → slice_get (made ++ x ∷ []) i ≡ slice_get made i
pushed_before [] x i l = absurd (omega arith)
pushed_before (y ∷ made) x zero l = refl
pushed_before (y ∷ made) x (suc i) l = pushed_before made x i (omega arith)

pub pushed_last : {X : Type 0} (made : List X) (x : X) → slice_get (made ++ x ∷ []) (length made) ≡ Some x
pushed_last [] x = refl
pushed_last (y ∷ made) x = pushed_last made x

pub length_pushed : {X : Type 0} (made : List X) (x : X) (n : ℕ) → length made ≡ n → length (made ++ x ∷ []) ≡ n + 1
length_pushed [] x n e = omega (arith, e)
length_pushed (y ∷ made) x zero e = absurd (omega arith)
length_pushed (y ∷ made) x (suc n) e = let h = length_pushed made x n (omega arith) in omega arith

pub map_replicate : {X Y : Type 0} (f : X → Y) (n : ℕ) (x : X) → map f (replicate n x) ≡ replicate n (f x)
map_replicate f zero x = refl
map_replicate f (suc n) x = ap (λ z. f x ∷ z) (map_replicate f n x)

-- the step of a loop that adds w, which is to g what the item at k is to f
pub mapped_more : {W X Y : Type 0} (g : W → Y) (f : X → Y) (xs : List X) (k : ℕ) (x : X) (start : List Y) (olds news : List W) (w : W) → k < length xs → x ≡ get_or xs k x → map g olds ≡ start ++ map f (take k xs) → news ≡ olds ++ w ∷ []
    → g w ≡ f x → map g news ≡ start ++ map f (take (k + 1) xs)
mapped_more g f xs k x start olds news w within here so_far more made =
    ap (map g) more ∙ map-append g olds (w ∷ []) ∙ ap (λ y. map g olds ++ y ∷ []) (made ∙ ap f here) ∙ ap (λ z. z ++ f (get_or xs k x) ∷ []) so_far
    ∙ append_assoc start (map f (take k xs)) (f (get_or xs k x) ∷ [])
    ∙ ap (λ z. start ++ z) (sym (map-append f (take k xs) (get_or xs k x ∷ [])) ∙ ap (map f) (sym (take_more xs k x within)))

-- lists are the same whose items show the same
pub same_lists : {A B : Type 0} (show : A → B) → ((x y : A) → show x ≡ show y → x ≡ y) → (xs ys : List A) → map show xs ≡ map show ys → xs ≡ ys
same_lists show one [] [] h = refl
same_lists show one [] (y ∷ ys) h = absurd (cc h)
same_lists show one (x ∷ xs) [] h = absurd (cc h)
same_lists show one (x ∷ xs) (y ∷ ys) h = ap₂ (λ z zs. z ∷ zs) (one x y (cc h)) (same_lists show one xs ys (cc h))

-- lists that are related item by item, with one item more
pub paired_pushed : {A B : Type 0} (R : A → B → Type 0) (xs : List A) (ys : List B) (x : A) (y : B) → slice_get xs (length ys) ≡ Some x → R x y → ArePaired R xs ys → ArePaired R xs (ys ++ y ∷ [])
paired_pushed R [] ys x y e r h i a b ea eb = absurd (none-some a ea)
paired_pushed R (z ∷ xs) [] x y e r h zero a b ea eb = subst (λ b. R a b) (same_Some y b eb) (subst (λ a. R a y) (sym (same_Some z x e) ∙ same_Some z a ea) r)
paired_pushed R (z ∷ xs) [] x y e r h (suc i) a b ea eb = absurd (none-some b eb)
paired_pushed R (z ∷ xs) (w ∷ ys) x y e r h zero a b ea eb = h 0 a b ea eb
paired_pushed R (z ∷ xs) (w ∷ ys) x y e r h (suc i) a b ea eb = paired_pushed R xs ys x y e r (λ i a b. h (suc i) a b) i a b ea eb
