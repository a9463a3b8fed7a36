-- Two lists that agree place by place; and what a test leaves of a list.
use Rattle.std.proofs.Common.{◌≡◌, ℕ, zero, suc, ◌+◌, ◌<◌, ◌≤◌, Bool, true, false, if◌then◌else◌, filter, List, [], ◌∷◌, ◌++◌, Some, length, get_or, slice_get, take, arith, refl, sym, ap, subst}
use Rattle.std.specs.List.{AllZip}
use Rattle.std.proofs.lemmas.List.{take_more}

-- with one item more at the end of each
zip_push : {A B : Type 0} (R : A → B → Type 0) (xs : List A) (ys : List B) (x : A) (y : B) → AllZip R xs ys → R x y → AllZip R (xs ++ x ∷ []) (ys ++ y ∷ [])
zip_push R [] [] x y all more = (more, tt)
zip_push R [] (b ∷ ys) x y all more = absurd all
zip_push R (a ∷ xs) [] x y all more = absurd all
zip_push R (a ∷ xs) (b ∷ ys) x y all more = (all.0, zip_push R xs ys x y all.1 more)

-- the step of a loop that adds the item for the one at k
pub zip_more_at : {A B : Type 0} (R : A → B → Type 0) (xs : List A) (k : ℕ) (d : A) (ys next : List B) (y : B) → k < length xs → AllZip R (take k xs) ys → R (get_or xs k d) y → next ≡ ys ++ y ∷ [] → AllZip R (take (k + 1) xs) next
zip_more_at R xs k d ys next y within all more grown =
    subst (λ l. AllZip R (take (k + 1) xs) l) (sym grown)
    (subst (λ l. AllZip R l (ys ++ y ∷ [])) (sym (take_more xs k d within)) (zip_push R (take k xs) ys (get_or xs k d) y all more))

-- the same, where the item is known by an equation
pub zip_more : {A B : Type 0} (R : A → B → Type 0) (xs : List A) (k : ℕ) (x : A) (ys next : List B) (y : B) → k < length xs → x ≡ get_or xs k x → AllZip R (take k xs) ys → R x y → next ≡ ys ++ y ∷ [] → AllZip R (take (k + 1) xs) next
zip_more R xs k x ys next y within here all more grown = zip_more_at R xs k x ys next y within all (subst (λ z. R z y) here more) grown

-- they are as long as one another
pub zip_length : {A B : Type 0} (R : A → B → Type 0) (xs : List A) (ys : List B) → AllZip R xs ys → length ys ≡ length xs
zip_length R [] [] all = refl
zip_length R [] (y ∷ ys) all = absurd all
zip_length R (x ∷ xs) [] all = absurd all
zip_length R (x ∷ xs) (y ∷ ys) all = ap suc (zip_length R xs ys all.1)

-- what follows at each place
pub zip_map : {A B : Type 0} (R S : A → B → Type 0) → ((x : A) (y : B) → R x y → S x y) → (xs : List A) (ys : List B) → AllZip R xs ys → AllZip S xs ys
zip_map R S f [] [] all = tt
zip_map R S f [] (y ∷ ys) all = absurd all
zip_map R S f (x ∷ xs) [] all = absurd all
zip_map R S f (x ∷ xs) (y ∷ ys) all = (f x y all.0, zip_map R S f xs ys all.1)

-- what agrees with an item that is there
pub zip_item : {A B : Type 0} (R : A → B → Type 0) (xs : List A) (ys : List B) (k : ℕ) (x : A) → AllZip R xs ys → slice_get xs k ≡ Some x → (y : B) × R x y
zip_item R [] ys k x all there = absurd (cc there)
zip_item R (a ∷ xs) [] k x all there = absurd all
zip_item R (a ∷ xs) (y ∷ ys) zero x all there = let same : a ≡ x = cc there in (y, subst (λ z. R z y) same all.0)
zip_item R (a ∷ xs) (y ∷ ys) (suc k) x all there = zip_item R xs ys k x all.1 there

-- what a test leaves of one item and what it leaves behind it
one_count : {A : Type 0} (b : Bool) (x : A) (rest : List A) (n : ℕ) → length rest ≤ n → length (if b then x ∷ rest else rest) ≤ suc n
one_count true x rest n h = omega (arith, h)
one_count false x rest n h = omega (arith, h)

-- a test passes no more items than there are
pub filter_count : {A : Type 0} (test : A → Bool) (xs : List A) → length (filter test xs) ≤ length xs
filter_count test [] = omega arith
filter_count test (x ∷ xs) = one_count (test x) x (filter test xs) (length xs) (filter_count test xs)
