-- The formula of a generated table, over its names: the response on all other columns.
use Rattle.std.proofs.Common.{◌≡◌, ◌≢◌, ℕ, zero, suc, ◌+◌, ◌<◌, ◌≤◌, ◌==◌, not, Bool, true, false, All, List, [], ◌∷◌, ◌++◌}
use Rattle.std.proofs.Common.{Some, None, Ok, map, length, drop, take, filter, codes, arith, refl, sym, ap, subst, ◌∙◌, append-nil, take-append-drop}
use Rattle.std.specs.List.{list_any, range_with_len}
use Rattle.std.proofs.lemmas.Bool.{eq-eqb, lt-ltb, ne_eqb}
use Rattle.std.proofs.lemmas.List.{length-map}
use Rattle.std.proofs.lemmas.List.Elements.{All-cons, All-map, All-nil}
use Rattle.std.proofs.lemmas.List.FromFn.{length-range_with_len, map-range_with_len_more}
use Rattle.std.proofs.lemmas.List.Sorted.{All-permutation, length_permutation}
use native.Mathlib.Decide.{dec_lt}
use Rattle.formula_grammar.specs.Codes.{has_intercept, offsets_of, smooths_of}
use Rattle.formula_grammar.specs.Faults.{IsCleanBelow, IsFormula, NoFormulaHasFaults, limit_at}
use Rattle.formula_grammar.specs.Arithmetics.{Bare}
use Rattle.formula_grammar.specs.Grammar.{Begins, OneFormula, Start, One, Lone, Plain, Dot, formula_tokens}
use Rattle.formula_grammar.specs.Grammar.{Formula as Tree, Term as term_item}
use Rattle.formula_grammar.specs.Tokens.{name_or_word, tokens}
use Rattle.formula_grammar.specs.declared.fault.ReadFault.TheVariants as read_fault
use Rattle.formula_parser.specs.Arithmetics.{part_said}
use Rattle.formula_parser.specs.Parsed.{IsFault, IsParsed, ariths_in, meaning_of, meant_smooth, members, spoken_term, spoken_variable, told_smooth, variables_in, others_of, unknown_name}
use Rattle.formula_parser.specs.Scope.{Text, column_at, column_of, dot_terms, each_once, name_at, only_term, other_columns, same, variable, with_variable}
use Rattle.formula_parser.specs.declared.formula.Formula.{Formula}
use Rattle.formula_parser.specs.declared.formula.Smooth.{Smooth}
use Rattle.formula_parser.specs.declared.formula.Term.{Term}
use Rattle.formula_parser.specs.declared.fault.FormulaFault.{FormulaFault}
use Rattle.formula_parser.specs.declared.fault.FormulaFault.TheVariants.{OutOfMemory, Syntax, UnknownName, TooDeep, TooManyTerms, PowerRange, NumberTooWide}

-- ---- the tree

abbrev pub dot_formula : Text
dot_formula = codes "y ~ ."

-- the response, the tilde and the point
abbrev pub dot_tree : Tree
dot_tree = record {
  head = record { response = record { start = 0; len = 1 }; place = 0; tilde = 2 };
  items = Start Bare (term_item (One (Lone (Plain (Dot 4)))));
  ended = 5;
}

reads : tokens dot_formula ≡ formula_tokens dot_tree
unfolding tokens name_or_word
reads = refl

-- some formula begins with the first of its tokens, however many
begins : (i : ℕ) → Begins (take i (formula_tokens dot_tree))
begins i = record { formula = dot_tree; rest = drop i (formula_tokens dot_tree); whole = take-append-drop i (formula_tokens dot_tree) }

-- no token passes a limit
within : (i : ℕ) → i < 4 → limit_at (formula_tokens dot_tree) i ≡ None
within (suc (suc (suc (suc i)))) l = absurd (omega (arith, l))
within other l = refl

clean : IsCleanBelow (formula_tokens dot_tree) 4
clean i l read_fault.OutOfMemory h = h
clean i l (read_fault.Syntax n) h = h.1 (begins (i + 1))
clean i l other h = absurd (cc (sym (within i l) ∙ h.1))

is_formula : IsFormula (tokens dot_formula) dot_tree
is_formula = record { reads = reads; clean = subst (λ ts. IsCleanBelow ts (length ts)) (sym reads) clean }

-- ---- columns in their order

no_response : (a n : ℕ) → 1 ≤ a → filter (λ c. not (c == 0)) (range_with_len a n) ≡ range_with_len a n
no_response a zero l = refl
no_response a (suc n) l = rw (ne_eqb a 0 (λ e. omega (arith, e, l))) (ap (λ t. a ∷ t) (no_response (a + 1) n (omega arith)))

other : (c d : ℕ) → c < d → same (variable c false) (variable d false) ≡ false
other c d l = rw (ne_eqb c d (λ e. omega (arith, e, l))) refl

other_below : (c d : ℕ) → d < c → same (variable c false) (variable d false) ≡ false
other_below c d l = rw (ne_eqb c d (λ e. omega (arith, e, l))) refl

itself : (c : ℕ) → same (variable c false) (variable c false) ≡ true
itself c = rw (eq-eqb c c refl) refl

-- none of the columns before is this one
none_before : (c a n : ℕ) → a + n ≤ c → list_any (λ w. same w (variable c false)) (map (λ k. variable k false) (range_with_len a n)) ≡ false
none_before c a zero l = refl
none_before c a (suc n) l = rw (other a c (omega (arith, l))) (none_before c (a + 1) n (omega (arith, l)))

one_more : (a n m : ℕ) → a + n ≡ m → map (λ k. variable k false) (range_with_len a n) ++ variable m false ∷ [] ≡ map (λ k. variable k false) (range_with_len a (n + 1))
one_more a n m e = sym (map-range_with_len_more (λ k. variable k false) a n m e)

next_stands : (a n : ℕ) → with_variable (map (λ k. variable k false) (range_with_len a n)) (variable (a + n) false) ≡ map (λ k. variable k false) (range_with_len a (n + 1))
next_stands a n = rw (none_before (a + n) a n (omega arith)) (one_more a n (a + n) refl)

-- columns in their order stand each once
once : (a n m : ℕ) → each_once (map (λ k. variable k false) (range_with_len a n)) (map (λ k. variable k false) (range_with_len (a + n) m)) ≡ map (λ k. variable k false) (range_with_len a (n + m))
once a n zero = ap (λ j. map (λ k. variable k false) (range_with_len a j)) (let e : n ≡ n + 0 = omega arith in e)
once a n (suc m) =
    ap (λ l. each_once l (map (λ k. variable k false) (range_with_len (a + n + 1) m))) (next_stands a n)
    ∙ ap (λ b. each_once (map (λ k. variable k false) (range_with_len a (n + 1))) (map (λ k. variable k false) (range_with_len b m))) (let e : a + n + 1 ≡ a + (n + 1) = omega arith in e)
    ∙ once a (n + 1) m ∙ ap (λ j. map (λ k. variable k false) (range_with_len a j)) (let e : n + 1 + m ≡ n + suc m = omega arith in e)

-- the variables of the term of a column, of the columns from one on
none_chosen : (c a n : ℕ) → c < a → members (map (λ k. variable k false) (range_with_len a n)) (only_term (map (λ k. variable k false) (range_with_len a n)) (variable c false)) ≡ []
none_chosen c a zero l = refl
none_chosen c a (suc n) l = rw (other_below a c l) (none_chosen c (a + 1) n (omega (arith, l)))

one_chosen : (c a n : ℕ) → a ≤ c → c < a + n → members (map (λ k. variable k false) (range_with_len a n)) (only_term (map (λ k. variable k false) (range_with_len a n)) (variable c false)) ≡ variable c false ∷ []
one_chosen c a zero l k = absurd (omega (arith, l, k))
one_chosen c a (suc n) l k = elim (dec_lt a c) [
  | yes more ↦ rw (other a c more) (one_chosen c (a + 1) n (omega (arith, more)) (omega (arith, k)))
  | no last ↦
      let is : a ≡ c = omega (arith, l, last) in
      rw is (rw (itself c) (ap (λ t. variable c false ∷ t) (none_chosen c (c + 1) n (omega arith))))
]

-- ---- what the formula says over names that begin with the response's

-- a term is the numbers of one column
abbrev pub IsColumn : List Text → Term → Type 0
IsColumn names t = (c : ℕ) × (c < length names) × (t.variables ≡ record { name = name_at names c; as_factor = false; arith = None } ∷ [])

-- a term for each of the other columns
pub record AreColumns (names : List Text) (model : Formula) : Type 0 where
  pub response : model.response ≡ codes "y"
  pub intercept : model.intercept ≡ true
  pub smooths : model.smooths ≡ []
  pub offsets : model.offsets ≡ []
  pub number : 1 + length model.terms ≡ length names
  pub single : All (IsColumn names) model.terms

module _ (more : List Text) where
  abbrev names : List Text
  names = codes "y" ∷ more

  abbrev m : ℕ
  m = length more

  first_column : column_of names (codes "y") ≡ Some 0
  first_column = rw (lt-ltb 0 (length names) (omega arith)) refl

  response_column : column_at dot_formula names dot_tree.head.response ≡ 0
  response_column = rw first_column refl

  all_known : unknown_name dot_formula names (tokens dot_formula) ≡ None
  all_known = rw (reads, first_column) refl

  others : others_of dot_formula names dot_tree.head.response ≡ range_with_len 1 m
  others = ap (other_columns (length names)) response_column ∙ no_response 1 m (omega arith)

  variables : variables_in dot_formula names dot_tree ≡ map (λ k. variable k false) (range_with_len 1 m)
  variables = ap (each_once []) (append-nil _ ∙ ap (map (λ k. variable k false)) others) ∙ once 1 0 m ∙ ap (λ j. map (λ k. variable k false) (range_with_len 1 j)) (let e : 0 + m ≡ m = omega arith in e)

  -- the meaning is the terms of the point
  means : meaning_of dot_formula names dot_tree ≡ Ok (dot_terms (map (λ k. variable k false) (range_with_len 1 m)) (range_with_len 1 m))
  means = ap (λ vs. Ok (dot_terms vs (others_of dot_formula names dot_tree.head.response))) variables ∙ ap (λ os. Ok (dot_terms (map (λ k. variable k false) (range_with_len 1 m)) os)) others

  -- a term that a list of truth values says, over the variables of the point
  abbrev IsSpoken : List Bool → Type 0
  IsSpoken t = IsColumn names (spoken_term names [] (map (λ k. variable k false) (range_with_len 1 m)) t)

  -- the variable of a column, for there are no arithmetics
  plain : (c : ℕ) → c < length names → spoken_variable names [] (variable c false) ≡ record { name = name_at names c; as_factor = false; arith = None }
  plain c l = rw (lt-ltb c (length names) l) refl

  spoken : (c : ℕ) → 1 ≤ c → c < 1 + m → IsSpoken (only_term (map (λ k. variable k false) (range_with_len 1 m)) (variable c false))
  spoken c some l = (c, omega (arith, l), ap (map (spoken_variable names [])) (one_chosen c 1 m some l) ∙ ap (λ v. v ∷ []) (plain c (omega (arith, l))))

  all_spoken : (a n : ℕ) → 1 ≤ a → a + n ≤ 1 + m → All IsSpoken (dot_terms (map (λ k. variable k false) (range_with_len 1 m)) (range_with_len a n))
  all_spoken a zero some l = All-nil IsSpoken
  all_spoken a (suc n) some l =
      All-cons IsSpoken (only_term (map (λ k. variable k false) (range_with_len 1 m)) (variable a false)) (dot_terms (map (λ k. variable k false) (range_with_len 1 m)) (range_with_len (a + 1) n))
      (spoken a some (omega (arith, l))) (all_spoken (a + 1) n (omega arith) (omega (arith, l)))

  none_smooth : (ss : List Smooth) → map told_smooth ss ≡ [] → ss ≡ []
  none_smooth [] e = refl
  none_smooth (s ∷ ss) e = absurd (cc e)

  module _ (one : OneFormula) (model : Formula) (p : IsParsed dot_formula names model) where
    tree : p.formula ≡ dot_tree
    tree = one p.formula dot_tree (sym p.is.reads ∙ reads)

    same_meaning : p.meaning ≡ dot_terms (map (λ k. variable k false) (range_with_len 1 m)) (range_with_len 1 m)
    same_meaning = cc (sym p.means ∙ ap (meaning_of dot_formula names) tree ∙ means)

    all_ordered : All IsSpoken p.ordered
    all_ordered = All-permutation IsSpoken p.meaning p.ordered p.by_size.moved (subst (All IsSpoken) (sym same_meaning) (all_spoken 1 m (omega arith) (omega arith)))

    terms : model.terms ≡ map (spoken_term names [] (map (λ k. variable k false) (range_with_len 1 m))) p.ordered
    terms =
        p.terms ∙ ap (λ f. map (spoken_term names (ariths_in dot_formula names f) (variables_in dot_formula names f)) p.ordered) tree
        ∙ ap (λ vs. map (spoken_term names [] vs) p.ordered) variables

    count : length model.terms ≡ m
    count =
        ap length terms ∙ length-map p.ordered (spoken_term names [] (map (λ k. variable k false) (range_with_len 1 m)))
        ∙ length_permutation p.meaning p.ordered p.by_size.moved ∙ ap length same_meaning
        ∙ length-map (range_with_len 1 m) (λ c. only_term (map (λ k. variable k false) (range_with_len 1 m)) (variable c false)) ∙ length-range_with_len 1 m

    pub said : AreColumns names model
    said = record {
      response = p.response ∙ ap (λ f. name_at names (column_at dot_formula names f.head.response)) tree ∙ ap (name_at names) response_column;
      intercept = p.intercept ∙ ap (λ f. has_intercept f.items) tree;
      smooths = none_smooth model.smooths (p.smooths ∙ ap (λ f. map (meant_smooth dot_formula names) (smooths_of f.items)) tree);
      offsets = p.offsets ∙ ap (λ f. map (part_said dot_formula names) (offsets_of f.items)) tree;
      number = omega (arith, count);
      single = subst (All (IsColumn names)) (sym terms) (All-map (IsColumn names) (spoken_term names [] (map (λ k. variable k false) (range_with_len 1 m))) p.ordered all_ordered);
    }

  -- and nothing is wrong with it
  pub no_formula_fault : OneFormula → NoFormulaHasFaults → (fault : FormulaFault) → fault ≢ OutOfMemory → ¬ IsFault dot_formula names fault
  no_formula_fault one none OutOfMemory named h = named refl
  no_formula_fault one none (Syntax n) named h = none (tokens dot_formula) dot_tree (read_fault.Syntax n) is_formula h
  no_formula_fault one none (TooDeep n) named h = none (tokens dot_formula) dot_tree (read_fault.TooDeep n) is_formula h
  no_formula_fault one none (PowerRange n) named h = none (tokens dot_formula) dot_tree (read_fault.PowerRange n) is_formula h
  no_formula_fault one none (NumberTooWide n) named h = none (tokens dot_formula) dot_tree (read_fault.NumberTooWide n) is_formula h
  no_formula_fault one none (UnknownName n) named h = absurd (cc (sym all_known ∙ h.unknown))
  no_formula_fault one none (TooManyTerms n) named h = absurd (cc (sym means ∙ ap (meaning_of dot_formula names) (sym (one h.formula dot_tree (sym h.is.reads ∙ reads))) ∙ h.many))
