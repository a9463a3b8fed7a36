-- Lists that are gone through item by item: whether all pass a test, and what is known of each.
use Rattle.std.proofs.Common.{◌≡◌, ℕ, ◌+◌, ◌<◌, ◌≤◌, ◌&&◌, All, Bool, true, false, List, [], ◌∷◌, None, arith, length, drop, take, get_or, refl, sym, ap, subst, ◌∙◌}
use Rattle.std.proofs.Math.Bool.{and_assoc}
use Rattle.std.proofs.lemmas.List.{drop_all, drop_more}
use Rattle.std.proofs.lemmas.List.Elements.{All-push}
use Rattle.serde_json.specs.View.{items_view}
use Rattle.serde_json.specs.declared.value.Value.{Value}
use Rattle.cert_text.specs.Certificates.{second_of}
use Rattle.cert_text.proofs.Lists.{all_taken, first_items}

with_true : (a : Bool) → (a && true) ≡ a
with_true true = refl
with_true false = refl

module _ {T : Type 0} (P : T → Type 0) (test : T → Bool) (are : List T → Bool) (none : are [] ≡ true) (more : (x : T) (xs : List T) → are (x ∷ xs) ≡ (test x && are xs)) where
  -- what is known before item i
  abbrev pub IsWalked : List T → ℕ → Bool → Type 0
  IsWalked xs i all = (are xs ≡ (all && are (drop i xs))) × All P (take i xs)

  pub walked_more : (xs : List T) (i : ℕ) (x : T) (all here after : Bool) → i < length xs → x ≡ get_or xs i x → IsWalked xs i all
      → here ≡ test x → P x → after ≡ (all && here) → IsWalked xs (i + 1) after
  walked_more xs i x all here after lt at before is holds joined =
      let rest = are (drop (i + 1) xs) in (
        before.0 ∙ ap (λ l. all && are l) (drop_more xs i x lt ∙ ap (λ y. y ∷ drop (i + 1) xs) (sym at)) ∙ ap (λ b. all && b) (more x (drop (i + 1) xs))
            ∙ ap (λ b. all && (b && rest)) (sym is) ∙ sym (and_assoc all here rest) ∙ ap (λ b. b && rest) (sym joined),
        subst (All P) (sym (first_items xs i x lt at)) (All-push P (take i xs) x before.1 holds),
      )

  pub walked_value : (xs : List T) (i : ℕ) (all : Bool) → length xs ≤ i → IsWalked xs i all → all ≡ are xs
  walked_value xs i all over h = sym (h.0 ∙ ap (λ l. all && are l) (drop_all i xs over) ∙ ap (λ b. all && b) none ∙ with_true all)

  pub walked_each : (xs : List T) (i : ℕ) (all : Bool) → length xs ≤ i → IsWalked xs i all → All P xs
  walked_each xs i all over h = all_taken (All P) xs xs i over refl h.1

-- a list of fewer than two items has no second one
pub no_second : (vs : List Value) → length vs < 2 → second_of (items_view vs) ≡ None
no_second [] h = refl
no_second (v ∷ []) h = refl
no_second (v ∷ (w ∷ vs)) h = absurd (omega arith)
