-- An option that must stand has a value in the rows that `clap` finds: each use has one, and so has each default.
use Rattle.std.proofs.Common.{◌≡◌, ℕ, zero, suc, Bool, true, false, not, ◌&&◌, List, [], ◌∷◌, ◌++◌, Option, Some, None, refl, subst, length, if◌then◌else◌, is_some}
use Rattle.std.specs.Prelude.{find, fold, nat_lt, slice_get, drop, encode_utf8, option_and_then}
use Rattle.std.specs.List.{list_all, list_any}
use Rattle.std.specs.Option.{option_map_or}
use Rattle.std.specs.Str.{bytes_eq, chars}
use Rattle.std.proofs.lemmas.Bool.{and_parts, or_parts}
use Rattle.clap.specs.Lexer.{long_of, short_of}
use Rattle.clap.specs.Facts.{explicit_source, unwrap_or_range}
use Rattle.clap.specs.Kinds.{Kinds, check_kinds, or_else}
use Rattle.clap.specs.Walk.{Held, Names, Outcome, Row, Rule, Step, Text, Waiting, Walk, idle, option, positional, action_of, after_flag, after_step, arg_by_id, arg_by_index, arg_by_long, arg_by_short}
use Rattle.clap.specs.Walk.{at_row, attached_value, bundle, bundle_met, bundle_step, default_rows, done, finished, first_of, flag_met, has_row, is_pending, long_met, long_or_other, more_values, next}
use Rattle.clap.specs.Walk.{nothing_held, option_met, option_word, plain, plain_word, reacted, reading_by, refused, rows_after, settled, settled_rows, short_met, short_or_plain, subcommand}
use Rattle.clap.specs.Walk.{subcommand_met, subcommand_or_other, takes_several, takes_values, to_positional, trailing, used, used_as, used_by_id, value, waits, walk, walk_from, walked, walked_from}
use Rattle.clap.specs.Walk.{with_default, with_values, without, word_met}
use Rattle.clap.specs.Takes.{is_given}
use Rattle.clap.specs.Simple.{Shape}
use Rattle.clap.specs.Faults.{bundle_fault, level_fault, bundle_step_fault, flag_word_fault, flags_fault, long_fault, option_fault, other_fault, positional_fault, react_fault, settle_fault}
use Rattle.clap.specs.Faults.{short_fault, step_fault, stray_fault, use_fault, walk_fault, word_fault}
use Rattle.clap.specs.declared.builder.action.ArgAction.{ArgAction}
use Rattle.clap.specs.declared.builder.action.ArgAction.TheVariants.{Set, Append, SetTrue, SetFalse, Count, Help, HelpShort, HelpLong, Version}
use Rattle.clap.specs.declared.builder.value_parser.Reading.{Reading}
use Rattle.clap.specs.declared.error.kind.ErrorKind.{ErrorKind}
use Rattle.clap.specs.declared.error.kind.ErrorKind.TheVariants as kind
use Rattle.clap.specs.declared.parser.matches.ValueSource.{ValueSource}
use Rattle.clap.specs.declared.parser.matches.ValueSource.TheVariants.{DefaultValue, CommandLine}

-- ---- rows with values

-- there is a value
abbrev HasSome : List Text → Type 0
HasSome [] = ⊥
HasSome (v ∷ vs) = Unit {0}

-- each row has one
abbrev pub HaveValues : List Row → Type 0
HaveValues [] = Unit {0}
HaveValues (r ∷ rs) = HasSome r.values × HaveValues rs

more : (xs ys : List Text) → HasSome xs → HasSome (xs ++ ys)
more [] ys h = absurd h
more (x ∷ xs) ys h = tt

joined : (xs ys : List Row) → HaveValues xs → HaveValues ys → HaveValues (xs ++ ys)
joined [] ys h k = k
joined (x ∷ xs) ys h k = (h.0, joined xs ys h.1 k)

chosen : (b : Bool) (r : Row) (new rs others : List Row) → HasSome r.values → HaveValues new → HaveValues rs → HaveValues others → HaveValues (if b then new ++ rs else r ∷ others)
chosen true r new rs others h n k o = joined new rs n k
chosen false r new rs others h n k o = (h, o)

module _ (id : Text) (change : Row → List Row) (missing : List Row)
    (changed : (r : Row) → HasSome r.values → HaveValues (change r)) (m : HaveValues missing) where
  at_row_values : (rows : List Row) → HaveValues rows → HaveValues (at_row id change missing rows)
  at_row_values [] h = m
  at_row_values (r ∷ rs) h = chosen (bytes_eq r.id id) r (change r) rs (at_row id change missing rs) h.0 (changed r h.0) h.1 (at_row_values rs h.1)

without_values : (id : Text) (rows : List Row) → HaveValues rows → HaveValues (without id rows)
without_values id rows h = at_row_values id (λ _. []) [] (λ r k. tt) tt rows h

with_more : (id : Text) (how : Reading) (s : ValueSource) (v : Text) (vs : List Text) (rows : List Row) → HaveValues rows → HaveValues (with_values id how s (v ∷ vs) rows)
with_more id how s v vs rows h = at_row_values id (more_values s (v ∷ vs)) _ (λ r k. (more r.values (v ∷ vs) k, tt)) (tt, tt) rows h

-- ---- one use

used_as_values : (action : ArgAction) (id : Text) (how : Reading) (values : List Text) (rows : List Row) → HasSome values → HaveValues rows → HaveValues (used_as action id how values rows)
used_as_values action id how [] rows some h = absurd some
used_as_values Set id how (v ∷ vs) rows some h = with_more id how CommandLine v vs (without id rows) (without_values id rows h)
used_as_values SetTrue id how (v ∷ vs) rows some h = with_more id how CommandLine v vs (without id rows) (without_values id rows h)
used_as_values SetFalse id how (v ∷ vs) rows some h = with_more id how CommandLine v vs (without id rows) (without_values id rows h)
used_as_values Append id how (v ∷ vs) rows some h = with_more id how CommandLine v vs rows h
used_as_values Count id how (v ∷ vs) rows some h = with_more id how CommandLine v vs (without id rows) (without_values id rows h)
used_as_values Help id how (v ∷ vs) rows some h = h
used_as_values HelpShort id how (v ∷ vs) rows some h = h
used_as_values HelpLong id how (v ∷ vs) rows some h = h
used_as_values Version id how (v ∷ vs) rows some h = h

-- a use of the argument wants a value
abbrev pub wants_value : Rule → Bool
wants_value a = nat_lt 0 (unwrap_or_range a.range).start_inclusive

-- so does one of the argument that is found, if one is
abbrev FoundWants : Option Rule → Type 0
FoundWants None = Unit {0}
FoundWants (Some a) = wants_value a ≡ true

no_two : (x y : Kinds) → or_else x y ≡ [] → (x ≡ []) × (y ≡ [])
no_two [] y h = (refl, h)
no_two (k ∷ ks) y h = absurd (cc h)

wanted : (b : Bool) (k : ErrorKind) (others : Kinds) → b ≡ true → (if b && true then k ∷ [] else others) ≡ [] → ⊥
wanted true k others is h = cc h
wanted false k others is h = cc is

used_values : (again : Bool) (a : Rule) (values : List Text) (rows faulty : List Row) → wants_value a ≡ true → use_fault again a values faulty ≡ [] → HaveValues rows → HaveValues (used a values rows)
used_values again a [] rows faulty wants none h = absurd (wanted (wants_value a) _ _ wants (no_two _ _ none).0)
used_values again a (v ∷ vs) rows faulty wants none h = used_as_values (action_of a) a.id (reading_by a) (v ∷ vs) rows tt h

-- ---- the walk over the words, by rules whose uses all want a value

picked : (b : Bool) (a : Rule) (o : Option Rule) → wants_value a ≡ true → FoundWants o → FoundWants (if b then Some a else o)
picked true a o wants found = wants
picked false a o wants found = found

found_wants : (q : Rule → Bool) (rules : List Rule) → list_all wants_value rules ≡ true → FoundWants (find q rules)
found_wants q [] h = tt
found_wants q (a ∷ rest) h =
    let both = and_parts (wants_value a) (list_all wants_value rest) h in
    picked (q a) a (find q rest) both.0 (found_wants q rest both.1)

-- what the rest of a bundle comes to keeps the values
abbrev Keeps : (Held → Held × Outcome) → (Held → Kinds) → Type 0
Keeps onward faults = (h : Held) → faults h ≡ [] → HaveValues h.rows → HaveValues (onward h).0.rows

option_word_values : (o : Option Rule) (id word : Text) (h : Held) → HaveValues h.rows → HaveValues (option_word o id word h).0.rows
option_word_values None id word h k = k
option_word_values (Some a) id word h k = k

module _ (c : List Rule) (again : Bool) (wants : list_all wants_value c ≡ true) where
  settled_by : (o : Option Rule) (values : List Text) (rows : List Row) → FoundWants o → option_map_or (λ a. use_fault again a values rows) o [] ≡ [] → HaveValues rows → HaveValues (used_by_id o values rows)
  settled_by None values rows found none h = h
  settled_by (Some a) values rows found none h = used_values again a values rows rows found none h

  settled_pending : (pending : Option (Text × List Text)) (rows : List Row) → option_map_or (λ p. option_map_or (λ a. use_fault again a p.1 rows) (arg_by_id c p.0) []) pending [] ≡ []
      → HaveValues rows → HaveValues (settled_rows c pending rows)
  settled_pending None rows none h = h
  settled_pending (Some p) rows none h = settled_by (arg_by_id c p.0) p.1 rows (found_wants _ c wants) none h

  settled_values : (h : Held) → settle_fault c again h ≡ [] → HaveValues h.rows → HaveValues (settled c h).rows
  settled_values h none k = settled_pending h.pending h.rows none k

  reacted_values : (a : Rule) (values : List Text) (h : Held) → wants_value a ≡ true → react_fault c again a values h ≡ [] → HaveValues h.rows → HaveValues (reacted c a values h).rows
  reacted_values a values h want none k =
      let both = no_two _ _ none in
      used_values again a values (settled c h).rows (settled c h).rows want both.1 (settled_values h both.0 k)

  option_values : (a : Rule) (v : Option Text) (h : Held) → wants_value a ≡ true → option_fault c again a v h ≡ [] → HaveValues h.rows → HaveValues (option_met c a v h).0.rows
  option_values a (Some v) h want none k = reacted_values a (v ∷ []) h want none k
  option_values a None h want none k = settled_values h none k

  flag_values : (a : Rule) (v : Option Text) (h : Held) → wants_value a ≡ true → (if is_some v then kind.TooManyValues ∷ [] else react_fault c again a [] h) ≡ [] → HaveValues h.rows
      → HaveValues (flag_met c a v h).0.rows
  flag_values a (Some v) h want none k = k
  flag_values a None h want none k = reacted_values a [] h want none k

  taking : (takes : Bool) (a : Rule) (v : Option Text) (h : Held) → wants_value a ≡ true
      → (if takes then option_fault c again a v h else (if is_some v then kind.TooManyValues ∷ [] else react_fault c again a [] h)) ≡ [] → HaveValues h.rows
      → HaveValues (if takes then option_met c a v h else flag_met c a v h).0.rows
  taking true a v h want none k = option_values a v h want none k
  taking false a v h want none k = flag_values a v h want none k

  long_values : (o : Option Rule) (v : Option Text) (h : Held) → FoundWants o → long_fault c again o v h ≡ [] → HaveValues h.rows → HaveValues (long_met c o v h).0.rows
  long_values None v h found none k = k
  long_values (Some a) v h found none k = taking (takes_values a) a v h found none k

  short_taking : (takes : Bool) (a : Rule) (v : Option Text) (h : Held) (onward : Held → Held × Outcome) (faults : Held → Kinds) → Keeps onward faults → wants_value a ≡ true
      → (if takes then option_fault c again a v h else or_else (react_fault c again a [] h) (faults (reacted c a [] h))) ≡ [] → HaveValues h.rows
      → HaveValues (if takes then option_met c a v h else onward (reacted c a [] h)).0.rows
  short_taking true a v h onward faults keeps want none k = option_values a v h want none k
  short_taking false a v h onward faults keeps want none k =
      let both = no_two _ _ none in
      keeps (reacted c a [] h) both.1 (reacted_values a [] h want both.0 k)

  short_values : (o : Option Rule) (rest : Text) (h : Held) (onward : Held → Held × Outcome) (faults : Held → Kinds) → Keeps onward faults → FoundWants o
      → short_fault c again o rest h faults ≡ [] → HaveValues h.rows → HaveValues (short_met c o rest h onward).0.rows
  short_values None rest h onward faults keeps found none k = k
  short_values (Some a) rest h onward faults keeps found none k = short_taking (takes_values a) a (attached_value rest) h onward faults keeps found none k

  bundle_step_values : (o : Option ℕ) (flags : Text) (skip : ℕ) (so_far : Outcome) (h : Held) (onward : Text → ℕ → Outcome → Held → Held × Outcome) (faults : Text → ℕ → Held → Kinds)
      → ((flags : Text) (skip : ℕ) (so_far : Outcome) → Keeps (onward flags skip so_far) (faults flags skip))
      → bundle_step_fault c again o flags skip h faults ≡ [] → HaveValues h.rows → HaveValues (bundle_step c o flags skip so_far h onward).0.rows
  bundle_step_values None flags skip so_far h onward faults keeps none k = k
  bundle_step_values (Some x) flags zero so_far h onward faults keeps none k =
      let rest = drop (length (encode_utf8 x)) flags in
      short_values (arg_by_short c x) rest h (onward rest 0 done) (faults rest 0) (keeps rest 0 done) (found_wants _ c wants) none k
  bundle_step_values (Some x) flags (suc skip) so_far h onward faults keeps none k = keeps (drop (length (encode_utf8 x)) flags) skip so_far h none k

  flags_values : (n : ℕ) (flags : Text) (skip : ℕ) (so_far : Outcome) → Keeps (bundle_met c n flags skip so_far) (flags_fault c again n flags skip)
  unfolding bundle_met flags_fault
  flags_values zero flags skip so_far h none k = k
  flags_values (suc n) flags skip so_far h none k =
      bundle_step_values (slice_get (chars flags) 0) flags skip so_far h (bundle_met c n) (flags_fault c again n) (flags_values n) none k

  bundle_values : (flags : Text) (h : Held) → bundle_fault c again flags h ≡ [] → HaveValues h.rows → HaveValues (bundle c flags h).0.rows
  bundle_values flags h none k = flags_values (length flags) flags h.skip plain (record h { skip = 0 }) none k

  -- ---- one word

  plain_values : (waiting : Waiting) (word : Text) (h : Held) → HaveValues h.rows → HaveValues (plain_word c waiting word h).0.rows
  plain_values idle word h k = k
  plain_values (option id) word h k = option_word_values (arg_by_id c id) id word h k
  plain_values positional word h k = k

  after_values : (waiting : Waiting) (word : Text) (h : Held) (o : Outcome) → HaveValues h.rows → HaveValues (after_flag c waiting word h o).0.rows
  after_values waiting word h done k = k
  after_values waiting word h (waits id) k = k
  after_values waiting word h plain k = plain_values waiting word h k
  after_values waiting word h refused k = plain_values waiting word h k

  short_word_values : (o : Option Text) (waiting : Waiting) (word : Text) (h : Held) → option_map_or (λ flags. bundle_fault c again flags h) o [] ≡ [] → HaveValues h.rows
      → HaveValues (short_or_plain c waiting word o h).0.rows
  short_word_values None waiting word h none k = plain_values waiting word h k
  short_word_values (Some flags) waiting word h none k =
      after_values waiting word (bundle c flags h).0 (bundle c flags h).1 (bundle_values flags h none k)

  flag_word_values : (o : Option (Text × Option Text)) (waiting : Waiting) (word : Text) (h : Held) → flag_word_fault c again o word h ≡ [] → HaveValues h.rows
      → HaveValues (long_or_other c waiting word o h).0.rows
  flag_word_values None waiting word h none k = short_word_values (short_of word) waiting word h none k
  flag_word_values (Some p) waiting word h none k =
      let o = arg_by_long c p.0 in
      after_values waiting word (long_met c o p.1 h).0 (long_met c o p.1 h).1 (long_values o p.1 h (found_wants _ c wants) none k)

-- ---- the defaults

default_values : (id : Text) (how : Reading) (defaults : List Text) (rows : List Row) → HaveValues rows → HaveValues (default_rows id how defaults rows)
default_values id how [] rows k = k
default_values id how (v ∷ vs) rows k = with_more id how DefaultValue v vs rows k

unless_there : (b : Bool) (a : Rule) (rows : List Row) → HaveValues rows → HaveValues (if b then rows else default_rows a.id (reading_by a) a.defaults rows)
unless_there true a rows k = k
unless_there false a rows k = default_values a.id (reading_by a) a.defaults rows k

all_defaults : (rules : List Rule) (rows : List Row) → HaveValues rows → HaveValues (fold with_default rows rules)
all_defaults [] rows k = k
all_defaults (a ∷ rest) rows k = all_defaults rest (with_default rows a) (unless_there (has_row a.id rows) a rows k)

-- ---- what must stand

demanded : (x y z : Bool) → check_kinds x y z ≡ [] → z ≡ false
demanded true y z h = absurd (cc h)
demanded false true z h = absurd (cc h)
demanded false false true h = absurd (cc h)
demanded false false false h = refl

unless_negated : (negates has any : Bool) → negates ≡ false → (not (negates && has) && any) ≡ false → any ≡ false
unless_negated false has any is h = h
unless_negated true has any is h = absurd (cc is)

so_given : (required given : Bool) → required ≡ true → (required && not given) ≡ false → given ≡ true
so_given true true is h = refl
so_given true false is h = absurd (cc h)
so_given false given is h = absurd (cc is)

given_at : (rows : List Row) (rules : List Rule) (i : ℕ) (a : Rule) → slice_get rules i ≡ Some a → a.required ≡ true
    → list_any (λ b. b.required && not (is_given b.id rows)) rules ≡ false → is_given a.id rows ≡ true
given_at rows [] i a at required h = absurd (cc at)
given_at rows (b ∷ rest) zero a at required h =
    let same : b ≡ a = cc at in
    let none = (or_parts (b.required && not (is_given b.id rows)) _ h).0 in
    so_given a.required (is_given a.id rows) required (subst (λ (r : Rule). (r.required && not (is_given r.id rows)) ≡ false) same none)
given_at rows (b ∷ rest) (suc i) a at required h = given_at rows rest i a at required (or_parts (b.required && not (is_given b.id rows)) _ h).1

-- a row that is found has a value
abbrev FoundHas : Option Row → Type 0
FoundHas None = Unit {0}
FoundHas (Some r) = HasSome r.values

kept : (b : Bool) (r : Row) (o : Option Row) → HasSome r.values → FoundHas o → FoundHas (if b then Some r else o)
kept true r o h k = h
kept false r o h k = k

found_has : (q : Row → Bool) (rows : List Row) → HaveValues rows → FoundHas (find q rows)
found_has q [] h = tt
found_has q (r ∷ rs) h = kept (q r) r (find q rs) h.0 (found_has q rs h.1)

first_text : (values : List Text) → HasSome values → (text : Text) × (slice_get values 0 ≡ Some text)
first_text [] h = absurd h
first_text (v ∷ vs) h = (v, refl)

first_found : (o : Option Row) → FoundHas o → option_map_or (λ r. explicit_source r.source) o false ≡ true → (text : Text) × (option_and_then (λ r. slice_get r.values 0) o ≡ Some text)
first_found None has h = absurd (cc h)
first_found (Some r) has h = first_text r.values has

-- ---- the rows of a command that takes the words

module _ (s : Shape) (names : Names) (wants : list_all wants_value s.rules ≡ true) where
  dashed : (b : Bool) (waiting : Waiting) (position : ℕ) (word : Text) (h : Held) → (if b then [] else flag_word_fault s.rules s.args_override_self (long_of word) word h) ≡ [] → HaveValues h.rows
      → HaveValues (if b then (h, trailing position) else long_or_other s.rules waiting word (long_of word) h).0.rows
  dashed true waiting position word h none k = k
  dashed false waiting position word h none k = flag_word_values s.rules s.args_override_self wants (long_of word) waiting word h none k

  other_values : (o : Option Text) (waiting : Waiting) (position : ℕ) (word : Text) (h : Held) → other_fault s o word h ≡ [] → HaveValues h.rows
      → HaveValues (subcommand_or_other s.rules o waiting position word h).0.rows
  other_values (Some name) waiting position word h none k = k
  other_values None waiting position word h none k = dashed (bytes_eq word (45 ∷ 45 ∷ [])) waiting position word h none k

  word_values : (is_trailing : Bool) (waiting : Waiting) (position : ℕ) (word : Text) (h : Held) → word_fault s names is_trailing waiting word h ≡ [] → HaveValues h.rows
      → HaveValues (word_met s.rules names is_trailing waiting position word h).0.rows
  word_values true waiting position word h none k = k
  word_values false waiting position word h none k = other_values (subcommand_met names waiting word) waiting position word h none k

  held_values : (b : Bool) (h : Held) → (if b then [] else settle_fault s.rules s.args_override_self h) ≡ [] → HaveValues h.rows → HaveValues (if b then h else settled s.rules h).rows
  held_values true h none k = k
  held_values false h none k = settled_values s.rules s.args_override_self wants h none k

  to_values : (o : Option Rule) (word : Text) (w : Walk) (h : Held) → option_map_or (λ a. positional_fault s.rules s.args_override_self a h) o (stray_fault s) ≡ [] → HaveValues h.rows
      → HaveValues (to_positional s.rules o word w h).held.rows
  to_values None word w h none k = k
  to_values (Some a) word w h none k = held_values (is_pending a h.pending && takes_several a) h none k

  step_values : (step : Step) (word : Text) (w : Walk) (h : Held) → step_fault s w.position h step ≡ [] → HaveValues h.rows → HaveValues (after_step s.rules word w h step).held.rows
  step_values (next waiting) word w h none k = k
  step_values (trailing position) word w h none k = k
  step_values (subcommand name) word w h none k = k
  step_values value word w h none k = to_values (arg_by_index s.rules w.position) word w h none k

  turn_values : (o : Option (Text × List Text)) (w : Walk) (word : Text)
      → (let met = word_met s.rules names w.is_trailing w.waiting w.position word w.held in
      if is_some o then [] else or_else (word_fault s names w.is_trailing w.waiting word w.held) (step_fault s w.position met.0 met.1)) ≡ []
      → HaveValues w.held.rows → HaveValues (walked_from s.rules names o w word).held.rows
  turn_values (Some p) w word none k = k
  turn_values None w word none k =
      let met = word_met s.rules names w.is_trailing w.waiting w.position word w.held in
      let both = no_two _ _ none in
      step_values met.1 word w met.0 both.1 (word_values w.is_trailing w.waiting w.position word w.held both.0 k)

  walk_values : (words : List Text) (w : Walk) → walk_fault s names w words ≡ [] → HaveValues w.held.rows → HaveValues (fold (walked s.rules names) w words).held.rows
  unfolding walk_fault walked
  walk_values [] w none k = k
  walk_values (word ∷ rest) w none k =
      let both = no_two _ _ none in
      walk_values rest (walked s.rules names w word) both.1 (turn_values w.stopped w word both.0 k)

  -- an option that must stand is read where the words have no fault
  pub option_given : (words : List Text) (has : Bool) (below : Kinds) (i : ℕ) (a : Rule) → s.subcommand_negates_reqs ≡ false → slice_get s.rules i ≡ Some a → a.required ≡ true
      → level_fault s names nothing_held words has below ≡ [] → (text : Text) × (first_of a.id (rows_after s.rules names words) ≡ Some text)
  option_given words has below i a negates at required h =
      let end = (walk s.rules names nothing_held words).held in
      let rows = finished s.rules end in
      let walked = no_two _ _ h in
      let under = no_two _ _ walked.1 in
      let settling = no_two _ _ under.1 in
      let defaults = no_two _ _ settling.1 in
      let valued = settled_values s.rules s.args_override_self wants end settling.0 (walk_values words (walk_from nothing_held) walked.0 tt) in
      let any = unless_negated s.subcommand_negates_reqs has _ negates (demanded _ _ _ defaults.1) in
      first_found (find (λ r. bytes_eq r.id a.id) rows) (found_has _ rows (all_defaults s.rules (settled s.rules end).rows valued)) (given_at rows s.rules i a at required any)
