-- Lists that agree place by place, one behind the other.
use Rattle.std.proofs.Common.{◌≡◌, ℕ, List, [], ◌∷◌, ◌++◌, take, drop, ap, ◌∙◌, sym, subst}
use Rattle.std.specs.List.{AllZip}
use Rattle.std.proofs.lemmas.List.{take-append-drop}

pub zip_append : {A B : Type 0} (R : A → B → Type 0) (xs us : List A) (ys vs : List B) → AllZip R xs ys → AllZip R us vs → AllZip R (xs ++ us) (ys ++ vs)
zip_append R [] us [] vs first second = second
zip_append R [] us (y ∷ ys) vs first second = absurd first
zip_append R (x ∷ xs) us [] vs first second = absurd first
zip_append R (x ∷ xs) us (y ∷ ys) vs first second = (first.0, zip_append R xs us ys vs first.1 second)

-- so of a list that is cut in two
pub zip_halves : {A B : Type 0} (R : A → B → Type 0) (all low high : List A) (cut : ℕ) (ys vs both : List B) → low ≡ take cut all → high ≡ drop cut all → both ≡ ys ++ vs
    → AllZip R low ys → AllZip R high vs → AllZip R all both
zip_halves R all low high cut ys vs both front back is first second =
    let whole : low ++ high ≡ all = ap (λ l. l ++ high) front ∙ ap (λ l. take cut all ++ l) back ∙ take-append-drop cut all in
    subst (λ l. AllZip R l both) whole (subst (AllZip R (low ++ high)) (sym is) (zip_append R low high ys vs first second))
