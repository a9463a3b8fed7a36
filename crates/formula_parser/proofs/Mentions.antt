-- Variables, each once.
use Rattle.std.proofs.Common.{◌≡◌, ◌<◌, ◌+◌, ◌∷◌, ◌++◌, [], ℕ, List, length, flat_map, drop, get_or, refl, sym, ◌∙◌, ap}
use Rattle.formula_parser.specs.Words.{Step}
use Rattle.formula_parser.specs.Scope.{Mention, each_once, with_variable}
use Rattle.formula_parser.proofs.Unions.{split_at}

once_append : (found a b : List Mention) → each_once found (a ++ b) ≡ each_once (each_once found a) b
once_append found [] b = refl
once_append found (v ∷ a) b = once_append (with_variable found v) a b

pub step_loaded : (f : Step → List Mention) (steps : List Step) (found found' all : List Mention) (i : ℕ) (t : Step) → i < length steps → t ≡ get_or steps i t → found' ≡ each_once found (f t)
    → each_once found (flat_map f (drop i steps)) ≡ all → each_once found' (flat_map f (drop (i + 1) steps)) ≡ all
step_loaded f steps found found' all i t lt is e h =
    ap (λ (x : List Mention). each_once x (flat_map f (drop (i + 1) steps))) (e ∙ ap (λ (s : Step). each_once found (f s)) is)
    ∙ sym (once_append found (f (get_or steps i t)) (flat_map f (drop (i + 1) steps)))
    ∙ ap (λ (x : List Step). each_once found (flat_map f x)) (sym (split_at steps i t lt))
    ∙ h
