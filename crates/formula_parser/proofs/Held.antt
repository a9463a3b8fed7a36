-- The arithmetics of a formula hold what their texts say, can be evaluated, and have the names of columns.
use Rattle.std.proofs.Common.{◌≡◌, ◌≤◌, ◌<◌, ◌+◌, ◌-◌, ◌^◌, ℕ, zero, suc, Bool, true, false, List, [], ◌∷◌, ◌++◌, Option, Some, None, All, length, map, refl, sym, ◌∙◌, ap, subst, arith}
use Rattle.std.specs.Prelude.{Contains, cond, flat_map, nat_lt, option_to_list, slice_get}
use Rattle.std.proofs.lemmas.List.Elements.{All-append, All-cons, All-head, All-map, All-nil, All-push, All-tail, All-weaker}
use Rattle.std.proofs.lemmas.Option.{get_or_from_slice_get, slice_get_within}
use Rattle.frac_core.specs.declared.arith.Arith.{Arith}
use Rattle.formula_arith.specs.Arithmetics.{distinct_names, arithmetic_names}
use Rattle.formula_parser.specs.Words.{End, Open, Token, ArithPart, Step, LoadArith, Reading}
use Rattle.formula_grammar.specs.ArithCodes.{arith_code}
use Rattle.formula_grammar.specs.Codes.{items_code, offsets_of}
use Rattle.formula_grammar.specs.Grammar.{Formula as Tree}
use Rattle.formula_grammar.specs.Grammar.{formula_tokens}
use Rattle.formula_grammar.specs.Faults.{IsFormula, IsReading}
use Rattle.formula_grammar.specs.Tokens.{is_blank, lexeme, tokens, tokens_from}
use Rattle.formula_parser.specs.Columns.{Text}
use Rattle.formula_parser.specs.Scope.{Mention}
use Rattle.formula_parser.specs.Parsed.{Term, arith_of_column, ariths_in, members, spoken_by, spoken_term, spoken_variable, unknown_name, variables_in}
use Rattle.formula_parser.specs.Terms.{Term as Bools}
use Rattle.formula_parser.specs.Arithmetics.{arith_loaded, arith_place, ariths_from, column_name, part_said}
use Rattle.formula_parser.specs.ArithTrees.{arith_said, told}
use Rattle.formula_parser.specs.Held.{IsHeld, term_ariths}
use Rattle.formula_parser.specs.Laws.{ArithmeticsAreHeld}
use Rattle.formula_parser.proofs.ArithTexts.{whole}
use Rattle.formula_parser.specs.Spoken.{IsCounted, IsShort, LoadsShort}
use Rattle.formula_parser.proofs.Kept.{arith_counts, arith_in_range, arith_known, arith_long, once_known}
use Rattle.formula_parser.proofs.Within.{Fine, IsWithin, Loads, formula_fine, items_in, items_within, offsets_within}

-- ---- a text has no more tokens than bytes, but for its end

one_more : (blank : Bool) (t : Token) (a b : List Token) (n : ℕ) → length a ≤ n → length b ≤ n → length (cond blank a (t ∷ b)) ≤ n + 1
one_more true t a b n h k = omega (arith, h)
one_more false t a b n h k = omega (arith, k)

tokens_short_from : (at passed : ℕ) (text : Text) → length (tokens_from at passed text) ≤ length text + 1
tokens_short_from at passed [] = omega arith
tokens_short_from at (suc passed) (b ∷ bs) = let more = tokens_short_from (at + 1) passed bs in omega (arith, more)
tokens_short_from at zero (b ∷ bs) =
    let more = one_more (is_blank b) (record { kind = (lexeme at b bs).kind; at = at }) (tokens_from (at + 1) 0 bs) (tokens_from (at + 1) ((lexeme at b bs).len - 1) bs) (length bs + 1)
    (tokens_short_from (at + 1) 0 bs) (tokens_short_from (at + 1) ((lexeme at b bs).len - 1) bs) in
    omega (arith, more)

pub tokens_short : (text : Text) → length (tokens text) ≤ length text + 1
unfolding tokens
tokens_short text = tokens_short_from 0 0 text

-- ---- one arithmetic

module _ (text : Text) (names : List Text) (n : ℕ) (few : n ≤ 2 ^ 31) where
  part_held : (p : ArithPart) → IsWithin text names n p → IsHeld names (part_said text names p)
  part_held p w =
      let a = arith_said (column_name text names) w.tree in
      let count = arith_counts text names (distinct_names a) w.tree Open w.fine in
      let held : IsHeld names (told a) = record {
        tree = a;
        text = refl;
        is = record { names = refl; code = refl; exponents = arith_in_range text names w.tree Open w.fine };
        short = omega (arith, count, w.short, few);
        known = once_known text names [] (arithmetic_names a) (All-nil (Contains names)) (arith_known text names w.tree Open w.fine);
      } in
      subst (IsHeld names) (sym (ap (part_said text names) w.is ∙ whole text names w.tree)) held

  parts_held : (ps : List ArithPart) → All (IsWithin text names n) ps → All (IsHeld names) (map (part_said text names) ps)
  parts_held ps h = All-map (IsHeld names) (part_said text names) ps (All-weaker (IsWithin text names n) (λ p. IsHeld names (part_said text names p)) part_held ps h)

  with_held : (b : Bool) (found : List Arith) (p : ArithPart) → All (IsHeld names) found → IsWithin text names n p → All (IsHeld names) (cond b found (found ++ part_said text names p ∷ []))
  with_held true found p h w = h
  with_held false found p h w = All-push (IsHeld names) found (part_said text names p) h (part_held p w)

  loaded_held : (found : List Arith) (s : Step) → All (IsHeld names) found → Loads (IsWithin text names n) s → All (IsHeld names) (arith_loaded text names found s)
  loaded_held found (LoadArith p) h w = with_held (nat_lt (arith_place text names found p) (length found)) found p h w
  loaded_held found s h w = h

  ariths_held : (found : List Arith) (steps : List Step) → All (IsHeld names) found → All (Loads (IsWithin text names n)) steps → All (IsHeld names) (ariths_from text names found steps)
  ariths_held found [] h w = h
  ariths_held found (s ∷ ss) h w =
      ariths_held (arith_loaded text names found s) ss (loaded_held found s h (All-head (Loads (IsWithin text names n)) s ss w)) (All-tail (Loads (IsWithin text names n)) s ss w)

-- ---- those of variables and terms

module _ (P : Arith → Type 0) (names : List Text) (ariths : List Arith) (all : All P ariths) where
  at_column : (i : ℕ) (o : Option Arith) → slice_get ariths i ≡ o → All P (option_to_list o)
  at_column i None e = All-nil P
  at_column i (Some a) e =
      let is = get_or_from_slice_get ariths i a a e in
      All-cons P a [] (subst P is (all i a (slice_get_within ariths i a e))) (All-nil P)

  spoken : (v : Mention) (o : Option Arith) → All P (option_to_list o) → All P (option_to_list (spoken_by names v o).arith)
  spoken v None h = h
  spoken v (Some a) h = h

  behind_names : (b : Bool) (i : ℕ) → All P (option_to_list (cond b None (slice_get ariths i)))
  behind_names true i = All-nil P
  behind_names false i = at_column i (slice_get ariths i) refl

  variable_held : (v : Mention) → All P (option_to_list (spoken_variable names ariths v).arith)
  variable_held v = spoken v (arith_of_column names ariths v.column) (behind_names (nat_lt v.column (length names)) (v.column - length names))

  variables_held : (vs : List Mention) → All P (flat_map (λ v. option_to_list v.arith) (map (spoken_variable names ariths) vs))
  variables_held [] = All-nil P
  variables_held (v ∷ vs) =
      All-append P (option_to_list (spoken_variable names ariths v).arith) (flat_map (λ v. option_to_list v.arith) (map (spoken_variable names ariths) vs)) (variable_held v) (variables_held vs)

  terms_held : (vs : List Mention) (ts : List Bools) → All P (flat_map term_ariths (map (spoken_term names ariths vs) ts))
  terms_held vs [] = All-nil P
  terms_held vs (t ∷ ts) =
      All-append P (term_ariths (spoken_term names ariths vs t)) (flat_map term_ariths (map (spoken_term names ariths vs) ts)) (variables_held (members vs t)) (terms_held vs ts)

-- ---- the formula

-- the tokens of a formula, over as many as there are
inside : (text : Text) (names : List Text) (f : Tree) → IsFormula (tokens text) f → unknown_name text names (tokens text) ≡ None
    → Fine text names End (formula_tokens f) × (length (formula_tokens f) ≤ length (tokens text))
inside text names f w u =
    let le : length (formula_tokens f) ≤ length (tokens text) = subst (λ (ts : List Token). length ts ≤ length (tokens text)) w.reads (omega arith) in
    (subst (Fine text names End) w.reads (formula_fine text names (tokens text) f w u), le)

pub steps_within : (text : Text) (names : List Text) (f : Tree) → IsFormula (tokens text) f → unknown_name text names (tokens text) ≡ None
    → All (Loads (IsWithin text names (length (tokens text)))) (items_code f.items)
steps_within text names f w u =
    let n = length (tokens text) in
    items_within text names n f.items _ (items_in text names n f (inside text names f w u))

pub parts_within : (text : Text) (names : List Text) (f : Tree) → IsFormula (tokens text) f → unknown_name text names (tokens text) ≡ None
    → All (IsWithin text names (length (tokens text))) (offsets_of f.items)
parts_within text names f w u =
    let n = length (tokens text) in
    offsets_within text names n f.items _ (items_in text names n f (inside text names f w u))

pub arithmetics_held : ArithmeticsAreHeld
arithmetics_held text names f short said =
    let n = length (tokens text) in
    let few : n ≤ 2 ^ 31 = omega (arith, tokens_short text, short) in
    let t = said.formula in
    let ariths = ariths_held text names n few [] (items_code t.items) (All-nil (IsHeld names)) (steps_within text names t said.is said.known) in
    All-append (IsHeld names) (flat_map term_ariths f.terms) f.offsets
    (subst (λ (ts : List Term). All (IsHeld names) (flat_map term_ariths ts)) (sym said.terms) (terms_held (IsHeld names) names (ariths_in text names t) ariths (variables_in text names t) said.ordered))
    (subst (All (IsHeld names)) (sym said.offsets) (parts_held text names n few (offsets_of t.items) (parts_within text names t said.is said.known)))

-- ---- what was read is counted in 32 bits

module _ (text : Text) (names : List Text) (n : ℕ) (few : n ≤ 2 ^ 31) where
  part_short : (p : ArithPart) → IsWithin text names n p → IsShort p
  part_short p w =
      let short : length (arith_code w.tree) < 2 ^ 32 = omega (arith, arith_long w.tree, w.short, few) in
      subst IsShort (sym w.is) short

  step_short : (s : Step) → Loads (IsWithin text names n) s → LoadsShort s
  step_short (LoadArith p) w = part_short p w
  step_short s w = tt

pub counted : (text : Text) (names : List Text) (r : Reading) → length text < 2 ^ 31 → IsReading (tokens text) r → unknown_name text names (tokens text) ≡ None → IsCounted r
counted text names r short h known =
    let n = length (tokens text) in
    let few : n ≤ 2 ^ 31 = omega (arith, tokens_short text, short) in
    let t = h.formula in
    subst IsCounted (sym h.code) (record {
      steps = All-weaker (Loads (IsWithin text names n)) LoadsShort (step_short text names n few) (items_code t.items) (steps_within text names t h.is known);
      offsets = All-weaker (IsWithin text names n) IsShort (part_short text names n few) (offsets_of t.items) (parts_within text names t h.is known);
    })
