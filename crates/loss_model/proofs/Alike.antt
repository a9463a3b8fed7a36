-- Lists whose items look as those of another.
use Rattle.std.specs.Prelude.{◌≡◌, ℕ, zero, suc, ◌+◌, ◌<◌, List, [], ◌∷◌, ◌++◌, length, map, take, get_or}
use Rattle.std.proofs.Common.{refl, sym, ap, ap₂, ◌∙◌}
use Rattle.std.proofs.lemmas.List.{map-append, map_more}
use Rattle.rational_laws.specs.Fraction.{Fraction}
use Rattle.loss_model.specs.Problem.{number_at, value_at}

-- one more item that looks as its original does
pub one_more_alike : {A B C : Type 0} (f : A → C) (g : B → C) (made next : List A) (items : List B) (i : ℕ) (x : A) (y : B) → i < length items → y ≡ get_or items i y
    → map f made ≡ map g (take i items) → f x ≡ g y → next ≡ made ++ x ∷ [] → map f next ≡ map g (take (i + 1) items)
one_more_alike f g made next items i x y within is before same pushed =
    ap (map f) pushed ∙ map-append f made (x ∷ [])
    ∙ ap₂ (λ us v. us ++ v ∷ []) before (same ∙ ap g is)
    ∙ sym (map_more g items i y within)

-- a number of any size that was made of one of the list
pub same_numbers : {F : Type 0} (value : F → Fraction) (xs : List F) (k : ℕ) → number_at (map value xs) k ≡ value_at value xs k
same_numbers value [] k = refl
same_numbers value (x ∷ xs) zero = refl
same_numbers value (x ∷ xs) (suc k) = same_numbers value xs k
