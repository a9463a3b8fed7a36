-- Moves that are made one by one.
use Rattle.std.proofs.Common.{◌≡◌, ℕ, ◌+◌, ◌<◌, Bool, true, false, List, [], ◌∷◌, Some, None, length, drop, get_or, slice_set, if◌then◌else◌, refl, sym, ap, ap₂, ◌∙◌}
use Rattle.std.proofs.lemmas.List.{drop_more}
use Rattle.cert_text.specs.Chains.{may_move, moved, moves_from}
use Rattle.cert_text.specs.declared.place.Place.{Place}
use Rattle.cert_text.specs.declared.moves.Move.{Move}

-- no row is left
pub none_left : {F : Type 0} (i : ℕ) (ps : List (Place F)) → moves_from i ps [] ≡ []
none_left i [] = refl
none_left i (p ∷ ps) = refl

module _ {F : Type 0} (start ps : List (Place F)) (all : List (Move F)) (i k : ℕ) (m : Move F)
    (lt : k < length all) (here : m ≡ get_or all k m) (before : moved 0 start all ≡ moved i ps (drop k all)) where
  turn : moved 0 start all ≡ moved i ps (m ∷ drop (k + 1) all)
  turn = before ∙ ap (moved i ps) (drop_more all k m lt ∙ ap (λ n. n ∷ drop (k + 1) all) (sym here))

  pub refused : may_move i ps m ≡ false → moved 0 start all ≡ None
  refused h = turn ∙ ap (λ b. if b then moved (m.row + 1) (slice_set ps m.row m.place) (drop (k + 1) all) else None) h

  pub made : may_move i ps m ≡ true → moved 0 start all ≡ moved (m.row + 1) (slice_set ps m.row m.place) (drop (k + 1) all)
  made h = turn ∙ ap (λ b. if b then moved (m.row + 1) (slice_set ps m.row m.place) (drop (k + 1) all) else None) h

-- the moves from a list of places, as they were made
pub moved_as : {F : Type 0} (start places : List (Place F)) (seen ms : List (Move F)) (o : List (Place F)) (made b : Bool)
    → start ≡ places → seen ≡ ms → moved 0 start seen ≡ (if made then Some o else None) → made ≡ b → moved 0 places ms ≡ (if b then Some o else None)
moved_as start places seen ms o made b from all h is =
    ap₂ (moved 0) (sym from) (sym all) ∙ h ∙ ap (λ c. if c then Some o else None) is
