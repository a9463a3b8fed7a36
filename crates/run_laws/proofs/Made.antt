-- Tests that are all true, item by item.
use Rattle.std.proofs.Common.{◌≡◌, ℕ, ◌+◌, List, [], All, length, get_or, slice_get, Option, Some, None, refl, sym, subst, ◌∙◌}
use Rattle.std.specs.Option.{option_map_or}
use Rattle.std.proofs.lemmas.Option.{slice_get_within, slice_get-get_or}
use Rattle.cert_checker.specs.Tests.{Test, AreTrue}
use Rattle.cert_checker.specs.Conditions.{each}
use Rattle.cert_checker.proofs.Wholes.{true_upto}

-- what holds of all items holds of the one at a place
pub item_at : {A : Type 0} (P : A → Type 0) (xs : List A) → All P xs → (i : ℕ) (x : A) → slice_get xs i ≡ Some x → P x
item_at P xs all i x e =
    let l = slice_get_within xs i x e in
    let same : get_or xs i x ≡ x = cc (sym (slice_get-get_or xs i x l) ∙ e) in
    subst P same (all i x l)

of_option : {A : Type 0} (o : Option A) (f : A → List Test) → ((x : A) → o ≡ Some x → AreTrue (f x)) → AreTrue (option_map_or f o [])
of_option (Some x) f h = h x refl
of_option None f h = tt

-- the tests of each item of a list
pub all_each : {A : Type 0} (xs : List A) (f : ℕ → A → List Test) → ((i : ℕ) (x : A) → slice_get xs i ≡ Some x → AreTrue (f (i + 1) x)) → AreTrue (each xs f)
all_each xs f h = true_upto (length xs) (λ i. option_map_or (f (i + 1)) (slice_get xs i) []) (λ i l. of_option (slice_get xs i) (f (i + 1)) (h i))

-- the tests of an item, if there is one
pub all_of : {A : Type 0} (xs : List A) (i : ℕ) (f : A → List Test) → ((x : A) → slice_get xs i ≡ Some x → AreTrue (f x)) → AreTrue (option_map_or f (slice_get xs i) [])
all_of xs i f h = of_option (slice_get xs i) f h
