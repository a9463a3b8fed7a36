-- From `clap`'s clauses to the options of a command.
use Rattle.std.proofs.Common.{◌≡◌, ◌∙◌, ◌⊎◌, inl, inr, ◌<◌, ◌≤◌, ◌+◌, ℕ, Bool, true, List, [], ◌∷◌, ◌++◌, Some, None, Bor, ap, refl, sym, length, take, map}
use Rattle.std.specs.List.{slice_index_or}
use Rattle.std.proofs.lemmas.List.{append_assoc, map_more, take_all}
use Rattle.std.proofs.lemmas.Bool.{and_parts}
use Rattle.clap.specs.Words.{App, HasMatchesOf, IsAmong, Kinds, Row, Rule, Text, fault_of, found_of, is_simple, is_simple_and_free, matches_of, rows_of, with_rule}
use Rattle.clap.specs.Faults.{is_free_app}
use Rattle.clap.specs.Simple.{built}
use Rattle.clap.specs.declared.parser.matches.ArgMatches.{ArgMatches}
use Rattle.clap.specs.declared.error.kind.ErrorKind.{ErrorKind}
use Rattle.clap.specs.declared.error.kind.ErrorKind.TheVariants as kind
use Rattle.clap.proofs.OnLiterals.{clap_on_literals}
use Rattle.rq_words.specs.Commands.{command_of, option_rule, options_of, read_by, some_if_none, with_rules}
use Rattle.rq_words.specs.declared.command.Kind.{Kind}
use Rattle.rq_words.specs.declared.command.Kind.TheVariants.{Ranks}

-- the options of these names
abbrev pub options_named : Bool → List (Bor Text) → List Rule
options_named required names = map (λ name. option_rule name.now required) names

-- one more option
pub one_more : (app : App) (names : List (Bor Text)) (required : Bool) (i : ℕ) (d : Bor Text) → i < length names
    → with_rule (with_rules app (options_named required (take i names))) (option_rule (slice_index_or names i d).now required)
    ≡ with_rules app (options_named required (take (i + 1) names))
one_more app names required i d h =
    ap (λ (rules : List Rule). record app { top = record app.top { rules = rules } })
    (append_assoc app.top.rules (options_named required (take i names)) _ ∙ ap (λ (rules : List Rule). app.top.rules ++ rules) (sym (map_more (λ (name : Bor Text). option_rule name.now required) names i d h)))

pub all_options : (app : App) (names : List (Bor Text)) (required : Bool) (i : ℕ) → length names ≤ i
    → with_rules app (options_named required (take i names)) ≡ with_rules app (options_named required names)
all_options app names required i h = rw take_all refl

-- each command is one of which `clap` says when it refuses words
pub simple : (kind : Kind) → is_simple_and_free (command_of (options_of kind)) ≡ true
unfolding clap_on_literals
simple Ranks = refl
simple other = refl

-- what is found where the words are taken
pub taken : (made app : App) (words : List Text) (m : ArgMatches) → made ≡ app → is_simple_and_free app ≡ true
    → (is_simple_and_free made ≡ true → fault_of made words ≡ []) → HasMatchesOf made words m
    → read_by app words ≡ Some (rows_of (found_of m))
unfolding read_by
taken made app words m e simple ok has =
    let none : fault_of app words ≡ [] = rw (← e) (ok (rw e simple)) in
    let rows : rows_of (found_of m) ≡ matches_of made words = (has (rw e (and_parts (is_simple app) (is_free_app (built app)) simple).0)).0 in
    rw (none, rows, e) refl

some_kind : (k : ErrorKind) (kinds : Kinds) (rows : List Row) → IsAmong k kinds → some_if_none kinds rows ≡ None
some_kind k [] rows h = absurd h
some_kind k (x ∷ xs) rows h = refl

-- words that are refused, and not for memory
pub refused : (made app : App) (words : List Text) (k : ErrorKind) → made ≡ app → is_simple_and_free app ≡ true
    → (is_simple_and_free made ≡ true → (k ≡ kind.OutOfMemory) ⊎ IsAmong k (fault_of made words))
    → (k ≡ kind.OutOfMemory → ⊥) → read_by app words ≡ None
unfolding read_by
refused made app words k e simple kinds memory =
    some_kind k (fault_of app words) (matches_of app words) (among (kinds (rw e simple)))
  where
    among : (k ≡ kind.OutOfMemory) ⊎ IsAmong k (fault_of made words) → IsAmong k (fault_of app words)
    among (inl m) = absurd (memory m)
    among (inr h) = rw (← e) h
