-- Chains that are tested segment by segment.
use Rattle.std.proofs.Common.{◌≡◌, ℕ, ◌+◌, ◌<◌, ◌≤◌, Bool, true, ◌&&◌, List, [], ◌∷◌, ◌++◌, Some, None, length, map, drop, take, get_or, refl, sym, ap, ap₂, ◌∙◌, append_assoc}
use Rattle.std.specs.List.{last_or}
use Rattle.std.proofs.lemmas.List.{drop_more, drop_all, map_push}
use Rattle.rational_laws.specs.Fraction.{Fraction}
use Rattle.loss_model.specs.declared.process.Segment.{Segment}
use Rattle.serde_json.specs.View.{view}
use Rattle.serde_json.specs.declared.value.Value.{Value}
use Rattle.cert_text.specs.Trees.{linked_tree, linked_trees}
use Rattle.cert_text.specs.Chains.{high_places, low_places, keeps_value, keep_values, is_filled, follows_any, are_chained}
use Rattle.cert_text.specs.declared.place.Place.{Place}
use Rattle.cert_text.proofs.Lists.{first_items, last_pushed}

pub from_here : {T : Type 0} (xs : List T) (i : ℕ) (x : T) → i < length xs → x ≡ get_or xs i x → drop i xs ≡ x ∷ drop (i + 1) xs
from_here xs i x lt here = drop_more xs i x lt ∙ ap (λ y. y ∷ drop (i + 1) xs) (sym here)

-- ---- values that are kept

none_now : (ps : List (Place Fraction)) → keep_values ps [] ≡ true
none_now [] = refl
none_now (p ∷ ps) = refl

module _ (ps qs : List (Place Fraction)) (i : ℕ)
    (before : keep_values ps qs ≡ keep_values (drop i ps) (drop i qs)) where
  pub all_kept : length qs ≤ i → keep_values ps qs ≡ true
  all_kept over = before ∙ ap (λ l. keep_values (drop i ps) l) (drop_all i qs over) ∙ none_now (drop i ps)

  module _ (p q : Place Fraction) (lp : i < length ps) (lq : i < length qs) (hp : p ≡ get_or ps i p) (hq : q ≡ get_or qs i q) where
    pub kept_next : (r : Bool) → keeps_value p q ≡ r
        → keep_values ps qs ≡ (r && keep_values (drop (i + 1) ps) (drop (i + 1) qs))
    kept_next r h =
        before ∙ ap₂ (λ a b. keep_values a b) (from_here ps i p lp hp) (from_here qs i q lq hq)
        ∙ ap (λ b. b && keep_values (drop (i + 1) ps) (drop (i + 1) qs)) h

pub follows_by : (a b : Segment) (ps qs : List (Place Fraction)) (x y r : Bool) → ps ≡ high_places a → qs ≡ low_places b → true ≡ x → true ≡ y
    → r ≡ keep_values ps qs
    → r ≡ (x && (y && keep_values (high_places a) (low_places b)))
follows_by a b ps qs x y r hp hq hx hy h =
    h ∙ ap₂ (λ l m. keep_values l m) hp hq
    ∙ ap₂ (λ s t. s && (t && keep_values (high_places a) (low_places b))) hx hy

-- ---- segments one by one

module _ (rows : ℕ) (ss : List Segment) (i : ℕ) (s : Segment) (lt : i < length ss) (here : s ≡ get_or ss i s)
    (before : are_chained rows None ss
    ≡ are_chained rows (last_or None (take i ss)) (drop i ss)) where
  pub chained_next : (filled joined : Bool) → is_filled rows s.vertex.sides s.basic_lo s.basic_hi ≡ filled
      → follows_any (last_or None (take i ss)) s ≡ joined
      → are_chained rows None ss ≡ (filled && (joined && are_chained rows (Some s) (drop (i + 1) ss)))
  chained_next filled joined hf hj =
      let so_far = (last_or None (take i ss)) in
      let rest = are_chained rows (Some s) (drop (i + 1) ss) in
      before ∙ ap (λ l. are_chained rows so_far l) (from_here ss i s lt here)
      ∙ ap₂ (λ f j. f && (j && rest)) hf hj

  pub after_next : last_or None (take (i + 1) ss) ≡ Some s
  after_next = ap (last_or None) (first_items ss i s lt here) ∙ last_pushed None (take i ss) s

-- ---- segments as trees

pub trees_next : (ss : List Segment) (i : ℕ) (s : Segment) (found after : List Value) (v : Value) → i < length ss → s ≡ get_or ss i s
    → linked_trees None ss ≡ map view found ++ linked_trees (last_or None (take i ss)) (drop i ss)
    → view v ≡ linked_tree (last_or None (take i ss)) s → after ≡ found ++ v ∷ []
    → linked_trees None ss ≡ map view after ++ linked_trees (last_or None (take (i + 1) ss)) (drop (i + 1) ss)
trees_next ss i s found after v lt here before h pushed =
    let rest = drop (i + 1) ss in
    let last_here : last_or None (take (i + 1) ss) ≡ Some s = ap (last_or None) (first_items ss i s lt here) ∙ last_pushed None (take i ss) s in
    before ∙ ap (λ l. map view found ++ linked_trees (last_or None (take i ss)) l) (from_here ss i s lt here)
    ∙ ap (λ d. map view found ++ d ∷ linked_trees (Some s) rest) (sym h)
    ∙ sym (append_assoc (map view found) (view v ∷ []) (linked_trees (Some s) rest))
    ∙ ap₂ (λ l o. l ++ linked_trees o rest) (sym (ap (map view) pushed ∙ map_push view found v)) (sym last_here)
