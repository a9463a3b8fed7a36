-- How many variables the terms of a formula have, and how many offsets it has.
use Rattle.std.proofs.Common.{◌≡◌, ◌∙◌, ◌<◌, ◌≤◌, ◌+◌, ◌*◌, ◌^◌, ◌==◌, ◌&&◌, ℕ, zero, suc, Bool, true, false, List, [], ◌∷◌}
use Rattle.std.proofs.Common.{◌++◌, Some, None, cond, eqb, filter, flat_map, length, map, nat_lt, position, refl, sym, subst, arith, zip, bytes_eq}
use Rattle.std.specs.List.{AllByRecursion, IsDistinct, list_any, position_or_len, range_with_len}
use Rattle.std.specs.Option.{unwrap_or}
use Rattle.std.proofs.lemmas.Bool.{eqb-true, ltb-true}
use Rattle.std.proofs.lemmas.Cmp.{nat_eq_equiv}
use Rattle.std.proofs.lemmas.List.Elements.{All-from_recursion}
use Rattle.std.proofs.lemmas.Bool.Decides.{nat_tests}
use Rattle.std.proofs.lemmas.List.{length-map, map-append}
use Rattle.std.proofs.lemmas.Map.Keys.{IsDistinct-push}
use Rattle.std.proofs.lemmas.Map.Steps.{length-le_from_distinct_below}
use mathlib.Core.Bool.{beq}
use Rattle.frac_core.specs.declared.arith.Arith.{Arith}
use Rattle.formula_parser.specs.Words.{ArithPart, End, Span, Step, Token, Load, LoadAll, LoadArith}
use Rattle.std.proofs.lemmas.List.{length-append}
use Rattle.std.proofs.lemmas.List.Sums.{prefix_len-le-length}
use Rattle.formula_grammar.specs.Codes.{items_code, offsets_of}
use Rattle.formula_grammar.specs.Grammar.{items_tokens, formula_tokens}
use Rattle.formula_grammar.specs.Arithmetics.{token}
use Rattle.formula_parser.specs.Arithmetics.{arith_place, part_said}
use Rattle.formula_parser.specs.Laws.{FormulasAreCountable}
use Rattle.formula_parser.proofs.Held.{tokens_short}
use Rattle.formula_parser.proofs.Loads.{ariths_few, items_loads, offsets_few}
use Rattle.formula_parser.specs.Scope.{Mention, Text, column_at, each_once, loaded, other_columns, piece, same, variable, variables_of, with_variable}
use Rattle.formula_parser.specs.Parsed.{Formula, Term, IsParsed, ariths_in, members, spoken_term, spoken_variable, variables_in}
use Rattle.formula_parser.specs.Terms.{Terms}
use Rattle.formula_parser.specs.Terms.{Term as Bools}

-- a number of its own for each variable
abbrev number : Mention → ℕ
number v = v.column + v.column + cond v.as_factor 1 0

same_number : (v w : Mention) → eqb (number v) (number w) ≡ same w v
same_number v w = go v.as_factor w.as_factor
  where
    go : (a b : Bool) → eqb (v.column + v.column + cond a 1 0) (w.column + w.column + cond b 1 0) ≡ ((w.column == v.column) && beq b a)
    go true true = grind (arith, nat_tests)
    go true false = grind (arith, nat_tests)
    go false true = grind (arith, nat_tests)
    go false false = grind (arith, nat_tests)

same_any : (v : Mention) (found : List Mention) → list_any (eqb (number v)) (map number found) ≡ list_any (λ w. same w v) found
same_any v [] = refl
same_any v (w ∷ found) = rw (same_number v w, same_any v found) refl

module _ (most : ℕ) where
  abbrev AreBelow : List Mention → Type 0
  AreBelow vs = AllByRecursion (λ v. v.column < most) vs

  -- no variable stands twice, and each is one of the columns
  record AreOnce (vs : List Mention) : Type 0 where
    distinct : IsDistinct eqb (map number vs)
    below : AreBelow vs

  joined : (a b : List Mention) → AreBelow a → AreBelow b → AreBelow (a ++ b)
  joined [] b p q = q
  joined (v ∷ a) b p q = (p.0, joined a b p.1 q)

  once_more : (found : List Mention) (v : Mention) → AreOnce found → v.column < most → AreOnce (with_variable found v)
  once_more found v h lt = go (list_any (λ w. same w v) found) refl
    where
      go : (t : Bool) → list_any (λ w. same w v) found ≡ t → AreOnce (cond t found (found ++ v ∷ []))
      go true e = h
      go false e = record {
        distinct = rw (map-append number found (v ∷ [])) (IsDistinct-push nat_eq_equiv (map number found) (number v) h.distinct (same_any v found ∙ e));
        below = joined found (v ∷ []) h.below (lt, tt);
      }

  all_once : (found vs : List Mention) → AreOnce found → AreBelow vs → AreOnce (each_once found vs)
  all_once found [] h b = h
  all_once found (v ∷ vs) h b = all_once (with_variable found v) vs (once_more found v h b.0) b.1

  below_two : (vs : List Mention) → AreBelow vs → (q : ℕ) → list_any (eqb q) (map number vs) ≡ true → q < most + most
  below_two [] b q h = absurd (cc h)
  below_two (v ∷ vs) b q h = go (eqb q (number v)) refl (below_two vs b.1 q)
    where
      bit : (a : Bool) → cond a 1 0 ≤ 1
      bit true = omega arith
      bit false = omega arith

      go : (t : Bool) → eqb q (number v) ≡ t → (list_any (eqb q) (map number vs) ≡ true → q < most + most) → q < most + most
      go true e rest = let same = eqb-true q (number v) e in omega (arith, b.0, bit v.as_factor)
      go false e rest = rest (rw e at h)

  few_once : (vs : List Mention) → AreOnce vs → length vs ≤ most + most
  few_once vs h = let few = length-le_from_distinct_below (map number vs) (most + most) h.distinct (below_two vs h.below) in
      rw length-map at few

  -- ---- the variables that steps load

  below_range : (p : ℕ → Bool) (a n : ℕ) → a + n ≤ most → AreBelow (map (λ c. variable c false) (filter p (range_with_len a n)))
  below_range p a zero h = tt
  below_range p a (suc n) h = go (p a) (below_range p (a + 1) n (omega arith))
    where
      go : (t : Bool) → AreBelow (map (λ c. variable c false) (filter p (range_with_len (a + 1) n)))
          → AreBelow (map (λ c. variable c false) (cond t (a ∷ filter p (range_with_len (a + 1) n)) (filter p (range_with_len (a + 1) n))))
      go true rest = (omega arith, rest)
      go false rest = rest

  below_found : {X : Type 0} (p : X → Bool) (xs : List X) → length xs < most → unwrap_or (position p xs) 0 < most
  below_found p xs h = go (nat_lt (position_or_len p xs) (length xs)) refl
    where
      go : (t : Bool) → nat_lt (position_or_len p xs) (length xs) ≡ t → unwrap_or (cond t (Some (position_or_len p xs)) None) 0 < most
      go true e = let found = ltb-true (position_or_len p xs) (length xs) e in omega arith
      go false e = omega arith

  below_column : (text : Text) (names : List Text) (x : Span) → length names < most → column_at text names x < most
  below_column text names x h = below_found (λ n. bytes_eq n (piece text x)) names h

  place_few : (text : Text) (names : List Text) (ariths : List Arith) (p : ArithPart) → arith_place text names ariths p ≤ length ariths
  place_few text names ariths p = prefix_len-le-length _ ariths

  below_loaded : (text : Text) (names : List Text) (response : ℕ) (ariths : List Arith) (step : Step) → length names + length ariths < most
      → AreBelow (loaded text names (other_columns (length names) response) ariths step)
  below_loaded text names response ariths (Load x f) h = (below_column text names x (omega arith), tt)
  below_loaded text names response ariths (LoadArith p) h = (omega (arith, place_few text names ariths p), tt)
  below_loaded text names response ariths LoadAll h = below_range _ 0 (length names) (omega arith)
  below_loaded text names response ariths step h = tt

  below_steps : (text : Text) (names : List Text) (response : ℕ) (ariths : List Arith) (steps : List Step) → length names + length ariths < most
      → AreBelow (flat_map (loaded text names (other_columns (length names) response) ariths) steps)
  below_steps text names response ariths [] h = tt
  below_steps text names response ariths (step ∷ steps) h = joined _ _ (below_loaded text names response ariths step h) (below_steps text names response ariths steps h)

-- a formula has at most two variables for each column and each arithmetic, and two more
few_variables : (text : Text) (names : List Text) (response : ℕ) (ariths : List Arith) (steps : List Step)
    → length (variables_of text names (other_columns (length names) response) ariths steps) ≤ 2 * (length names + length ariths) + 2
unfolding IsDistinct
few_variables text names response ariths steps =
    let loads = below_steps (length names + length ariths + 1) text names response ariths steps (omega arith) in
    let few = few_once (length names + length ariths + 1) _ (all_once (length names + length ariths + 1) [] _ (record { distinct = tt; below = tt }) loads) in
    omega arith

-- ---- the variables of a term

members_few : (vs : List Mention) (t : Bools) → length (members vs t) ≤ length vs
members_few [] t = omega arith
members_few (v ∷ vs) [] = omega arith
members_few (v ∷ vs) (b ∷ t) =
    let few = members_few vs t in
    elim b as (λ (b : Bool). length (map (λ (p : Mention × Bool). p.0) (cond b ((v, b) ∷ filter (λ p. p.1) (zip vs t)) (filter (λ p. p.1) (zip vs t)))) ≤ length (v ∷ vs))
    [ true ↦ omega (arith, few) | false ↦ omega (arith, few) ]

-- so does each of its terms
abbrev IsFew : List Text → List Arith → Term → Type 0
IsFew names ariths t = length t.variables ≤ 2 * (length names + length ariths) + 2

term_few : (text : Text) (names : List Text) (f : Formula) (h : IsParsed text names f) → AllByRecursion (IsFew names (ariths_in text names h.formula)) f.terms
term_few text names f h =
    let few = few_variables text names (column_at text names h.formula.head.response) (ariths_in text names h.formula) (items_code h.formula.items) in
    subst (AllByRecursion (IsFew names (ariths_in text names h.formula))) (sym h.terms) (spoken h.ordered few)
  where
    spoken : (ts : Terms) → length (variables_in text names h.formula) ≤ 2 * (length names + length (ariths_in text names h.formula)) + 2
        → AllByRecursion (IsFew names (ariths_in text names h.formula)) (map (spoken_term names (ariths_in text names h.formula) (variables_in text names h.formula)) ts)
    spoken [] few = tt
    spoken (t ∷ ts) few = (
      omega (arith, members_few (variables_in text names h.formula) t, length-map (members (variables_in text names h.formula) t) (spoken_variable names (ariths_in text names h.formula))),
      spoken ts few,
    )

-- the tokens of a formula's items are no more than the bytes of its text, but for one
items_short : (text : Text) (names : List Text) (f : Formula) (h : IsParsed text names f) → length (items_tokens h.formula.items) ≤ length text + 1
items_short text names f h =
    let t = h.formula in
    let long : length (formula_tokens t) ≤ length text + 1 = subst (λ (ts : List Token). length ts ≤ length text + 1) h.is.reads (tokens_short text) in
    omega (arith, length-append (items_tokens t.items) (token End t.ended ∷ []), long)

-- the variables of a term and the offsets are counted in 32 bits
pub formulas_countable : FormulasAreCountable
formulas_countable text names f few short h = record {
  variables = All-from_recursion (λ t. length t.variables < 2 ^ 32) f.terms (all f.terms (term_few text names f h));
  offsets = subst (λ fs. length fs < 2 ^ 31) (sym h.offsets)
      (omega (arith, length-map (offsets_of h.formula.items) (part_said text names), offsets_few h.formula.items, items_short text names f h, short));
}
  where
    loads : 2 * length (ariths_in text names h.formula) ≤ length text + 1
    loads = omega (arith, ariths_few text names [] (items_code h.formula.items), items_loads h.formula.items, items_short text names f h)

    all : (ts : List Term) → AllByRecursion (IsFew names (ariths_in text names h.formula)) ts → AllByRecursion (λ t. length t.variables < 2 ^ 32) ts
    all [] each = tt
    all (t ∷ ts) each = (omega (arith, each.0, few, short, loads), all ts each.1)
