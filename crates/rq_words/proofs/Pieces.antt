-- The texts between commas, read one after the other.
use Rattle.std.proofs.Common.{◌≡◌, ◌<◌, ◌≤◌, ◌+◌, ◌++◌, ◌==◌, ℕ, suc, Bool, true, false, List, [], ◌∷◌, Option, Some}
use Rattle.std.proofs.Common.{None, length, drop, get_or, map, nat_le, refl, sym, ap, arith, add-one, drop-cons, append_assoc, option_map, if◌then◌else◌}
use Rattle.std.specs.List.{slice_split}
use Rattle.std.proofs.lemmas.Bool.{le-leb}
use Rattle.std.proofs.lemmas.Bool.Decides.{nat_tests}
use Rattle.std.proofs.lemmas.List.{append-nil, drop_all, map-append}
use Rattle.rq_words.specs.Words.{all_read as all_texts, joined}

abbrev pub pieces_of : List ℕ → List (List ℕ)
pieces_of text = slice_split (λ b. b == 44) text

-- texts are read as values of Y, which are those of the items that are kept
module _ {X Y : Type 0} (read : List ℕ → Option Y) (value : X → Y) where
  -- what is read of the pieces: those before place i are found
  abbrev pub Reads : List (List ℕ) → ℕ → List X → Type 0
  Reads pieces i found = all_texts read pieces ≡ option_map (λ rest. map value found ++ rest) (all_texts read (drop i pieces))

  regroup : (found : List Y) (x : Y) (r : Option (List Y))
      → option_map (λ rest. found ++ rest) (option_map (λ xs. x ∷ xs) r) ≡ option_map (λ rest. (found ++ x ∷ []) ++ rest) r
  regroup found x None = refl
  regroup found x (Some r) = ap (λ (xs : List Y). Some xs) (sym (append_assoc found (x ∷ []) r))

  pub one_more : (pieces : List (List ℕ)) (i : ℕ) (d : List ℕ) (found : List X) (x : X) → i < length pieces → read (get_or pieces i d) ≡ Some (value x)
      → Reads pieces i found → Reads pieces (i + 1) (found ++ x ∷ [])
  unfolding all_texts
  one_more pieces i d found x lt e h =
      rw (h, add-one, drop-cons pieces i d, e, map-append value found (x ∷ [])) (regroup (map value found) (value x) (all_texts read (drop (suc i) pieces)))

  no_value : (pieces : List (List ℕ)) (i : ℕ) (d : List ℕ) (found : List X) → i < length pieces → read (get_or pieces i d) ≡ None
      → Reads pieces i found → all_texts read pieces ≡ None
  unfolding all_texts
  no_value pieces i d found lt e h = rw (h, drop-cons pieces i d, e) refl

  all_found : (pieces : List (List ℕ)) (i : ℕ) (found : List X) → length pieces ≤ i → Reads pieces i found → all_texts read pieces ≡ Some (map value found)
  unfolding all_texts
  all_found pieces i found le h = rw (h, drop_all i pieces le) (ap (λ (xs : List Y). Some xs) (append-nil (map value found)))

  module _ (most : ℕ) where
    pub not_read : (text : List ℕ) (i : ℕ) (d : List ℕ) (found : List X) → i < length (pieces_of text) → read (get_or (pieces_of text) i d) ≡ None
        → Reads (pieces_of text) i found → None ≡ joined most read text
    unfolding joined
    not_read text i d found lt e h = rw (no_value (pieces_of text) i d found lt e h) (by (nat_le (length (pieces_of text)) most))
      where
        by : (t : Bool) → ◌≡◌ {A = Option (List Y)} None (if t then None else None)
        by true = refl
        by false = refl

    pub too_many : (text : List ℕ) → most < length (pieces_of text) → None ≡ joined most read text
    unfolding joined
    too_many text h = let many : nat_le (length (pieces_of text)) most ≡ false = grind (arith, nat_tests) in rw many refl

    pub all_read : (text : List ℕ) (i : ℕ) (found : List X) → length (pieces_of text) ≤ i → i ≤ most → Reads (pieces_of text) i found → Some (map value found) ≡ joined most read text
    unfolding joined
    all_read text i found le few h = rw (le-leb (length (pieces_of text)) most (omega arith), all_found (pieces_of text) i found le h) refl
