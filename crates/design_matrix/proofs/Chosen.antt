-- The choice of a column goes on from variable to variable.
use Rattle.std.proofs.Common.{◌≡◌, ◌<◌, ℕ, ◌+◌, ◌/◌, ◌%◌, List, [], ◌∷◌, ◌++◌, length, map, take, get_or, sym, ap, ◌∙◌, append_assoc}
use Rattle.std.proofs.lemmas.List.{map-append}
use Rattle.design_matrix.specs.CodedVariable.{CodedVariable, width}
use Rattle.design_matrix.specs.Parts.{Part, chosen, part_of}
use Rattle.design_matrix.proofs.Puts.{first_item}

-- the step of a loop that takes the digit of the variable at i
pub chosen_more : {X V : Type 0} (told : X → Part) (seen : V → CodedVariable) (vs : List V) (i number rest w : ℕ) (v : V) (old new : List X) (p : X)
    → i < length vs → v ≡ get_or vs i v → w ≡ width (seen v) → told p ≡ part_of (seen v) (rest % w) → new ≡ old ++ (p ∷ [])
    → ((more : List CodedVariable) → map told old ++ chosen more rest ≡ chosen (map seen (take i vs) ++ more) number)
    → (more : List CodedVariable) → map told new ++ chosen more (rest / w) ≡ chosen (map seen (take (i + 1) vs) ++ more) number
chosen_more told seen vs i number rest w v old new p within here w_is p_is new_is goes_on more =
    ap (λ l. map told l ++ chosen more (rest / w)) new_is
    ∙ ap (λ l. l ++ chosen more (rest / w)) (map-append told old (p ∷ []))
    ∙ append_assoc (map told old) (told p ∷ []) (chosen more (rest / w))
    ∙ ap (λ q. map told old ++ (q ∷ chosen more (rest / w))) p_is
    ∙ ap (λ n. map told old ++ (part_of (seen v) (rest % n) ∷ chosen more (rest / n))) w_is
    ∙ goes_on (seen v ∷ more)
    ∙ ap (λ l. chosen l number) (sym (ap (λ l. l ++ more) (first_item seen vs i v within here) ∙ append_assoc (map seen (take i vs)) (seen v ∷ []) more))
