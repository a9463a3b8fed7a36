-- No value that `clap` finds in words is as long as words may not be.
use Rattle.std.proofs.Common.{◌≡◌, ◌∙◌, ◌<◌, ◌+◌, ◌^◌, ◌==◌, ◌&&◌, ◌||◌, ℕ, zero, suc, Bool, true, false, List, [], ◌∷◌, ◌++◌, Option, Some, None, IfSome}
use Rattle.std.proofs.Common.{Ok, refl, sym, option_and_then, nat_le, nat_eq, subst, arith, codes, cond, drop, find, fold, length, length-drop, rules, if◌then◌else◌, chars, encode_utf8, bytes_eq}
use Rattle.std.specs.List.{AllByRecursion, after_first, list_any, position_or_len, slice_get}
use Rattle.std.specs.Option.{option_map_or}
use Rattle.std.proofs.Math.Dec.{lit<}
use Rattle.std.proofs.lemmas.Bool.{false≢true, leb-false}
use Rattle.clap.specs.Lexer.{has_byte, long_of, long_of_rest, short_of, short_of_rest, strip_byte}
use Rattle.clap.specs.Walk.{Held, Names, Outcome, Row, Rule, Step, Text, Waiting, Walk, action_of, after_flag, after_step, arg_by_id, arg_by_index, arg_by_long, arg_by_short, at_row}
use Rattle.clap.specs.Walk.{attached_value, bundle_met, bundle_step, done, first_of, flag_met, has_row, is_pending, long_met, long_or_other, more_values, next, nothing_held, option, option_met, option_word, plain}
use Rattle.clap.specs.Walk.{plain_word, positional, pushed, reacted, reading_by, refused, rows_after, settled, settled_rows, short_met, short_or_plain, started, subcommand, subcommand_met, subcommand_or_other, takes_several, takes_values}
use Rattle.clap.specs.Walk.{to_positional, trailing, used, used_by_id, value, waits, walk, walk_from, walked, walked_from, with_default, with_values, without, word_met, idle}
use Rattle.clap.specs.Faults.{fault_of as kinds_of}
use Rattle.clap.specs.Kinds.{Kinds}
use Rattle.clap.specs.Simple.{App, built, matches_of, names_of}
use Rattle.clap.specs.declared.builder.action.ArgAction.TheVariants.{Set}
use Rattle.clap.specs.declared.parser.matches.ValueSource.{ValueSource}
use Rattle.clap.specs.declared.parser.matches.ValueSource.TheVariants.{CommandLine}
use Rattle.clap.specs.declared.builder.value_parser.Reading.{Reading}
use Rattle.rq_words.specs.Commands.{command_of, options_of, read_by, some_if_none}
use Rattle.rq_words.specs.Requests.{Request}
use Rattle.rq_words.specs.Words.{is_long, text_or_empty, words_of}
use Rattle.rq_words.specs.declared.command.Kind.{Kind}
use Rattle.rq_words.specs.declared.command.Kind.TheVariants as kind
use Rattle.rq_words.proofs.Requested.{requested}
use Rattle.rq_words.proofs.Parts.{HasShortFormula, request_short}

-- an argument that is used by its values, as they stand in the words, and by no others
record IsOption (a : Rule) : Type 0 where
  action : action_of a ≡ Set
  missing : a.missing ≡ []
  defaults : a.defaults ≡ []

module _ (most : ℕ) where
  abbrev IsShort : Text → Type 0
  IsShort v = length v < most

  abbrev AreShort : List Text → Type 0
  AreShort vs = AllByRecursion IsShort vs

  abbrev Rows : List Row → Type 0
  Rows rows = AllByRecursion (λ r. AreShort r.values) rows

  abbrev Pending : Option (Text × List Text) → Type 0
  Pending None = Unit {0}
  Pending (Some p) = AreShort p.1

  -- all that is held is short
  record Holds (h : Held) : Type 0 where
    rows : Rows h.rows
    pending : Pending h.pending

  cut : (n : ℕ) (v : Text) → IsShort v → IsShort (drop n v)
  cut n v h = omega (arith, length-drop n v)

  joined : (a b : List Text) → AreShort a → AreShort b → AreShort (a ++ b)
  joined [] b p q = q
  joined (v ∷ a) b p q = (p.0, joined a b p.1 q)

  rows_joined : (a b : List Row) → Rows a → Rows b → Rows (a ++ b)
  rows_joined [] b p q = q
  rows_joined (r ∷ a) b p q = (p.0, rows_joined a b p.1 q)

  either_rows : (t : Bool) (a b : List Row) → Rows a → Rows b → Rows (if t then a else b)
  either_rows true a b p q = p
  either_rows false a b p q = q

  either_held : (t : Bool) (a b : Held) → Holds a → Holds b → Holds (if t then a else b)
  either_held true a b p q = p
  either_held false a b p q = q

  -- ---- rows

  at_row_short : (id : Text) (change : Row → List Row) (missing rows : List Row) → ((r : Row) → AreShort r.values → Rows (change r)) → Rows missing → Rows rows
      → Rows (at_row id change missing rows)
  at_row_short id change missing [] f m h = m
  at_row_short id change missing (r ∷ rs) f m h =
      either_rows (bytes_eq r.id id) (change r ++ rs) (r ∷ at_row id change missing rs)
      (rows_joined (change r) rs (f r h.0) h.1) (h.0, at_row_short id change missing rs f m h.1)

  with_values_short : (id : Text) (how : Reading) (s : ValueSource) (values : List Text) (rows : List Row) → AreShort values → Rows rows → Rows (with_values id how s values rows)
  with_values_short id how s values rows v h =
      let more : (r : Row) → AreShort r.values → Rows (more_values s values r) = λ r p. (joined r.values values p v, tt) in
      at_row_short id (more_values s values) (record { id = id; values = values; count = None; source = Some s; reading = how } ∷ []) rows more (v, tt) h

  without_short : (id : Text) (rows : List Row) → Rows rows → Rows (without id rows)
  without_short id rows h = at_row_short id (λ r. []) [] rows (λ r p. tt) tt h

  used_short : (a : Rule) (values : List Text) (rows : List Row) → IsOption a → AreShort values → Rows rows → Rows (used a values rows)
  used_short a [] rows o v h = rw (o.action, o.missing) (with_values_short a.id (reading_by a) CommandLine [] (without a.id rows) tt (without_short a.id rows h))
  used_short a (x ∷ xs) rows o v h = rw o.action (with_values_short a.id (reading_by a) CommandLine (x ∷ xs) (without a.id rows) v (without_short a.id rows h))

  -- ---- one word

  module _ (c : List Rule) (each : (test : Rule → Bool) → IfSome (find test c) IsOption) where
    used_by_id_short : (o : Option Rule) (values : List Text) (rows : List Row) → IfSome o IsOption → AreShort values → Rows rows → Rows (used_by_id o values rows)
    used_by_id_short None values rows o v h = h
    used_by_id_short (Some a) values rows o v h = used_short a values rows o v h

    settled_short : (h : Held) → Holds h → Holds (settled c h)
    settled_short h p = record { rows = go h.pending p.pending; pending = tt }
      where
        go : (q : Option (Text × List Text)) → Pending q → Rows (settled_rows c q h.rows)
        go None s = p.rows
        go (Some q) s = used_by_id_short (arg_by_id c q.0) q.1 h.rows (each _) s p.rows

    reacted_short : (a : Rule) (values : List Text) (h : Held) → IsOption a → AreShort values → Holds h → Holds (reacted c a values h)
    reacted_short a values h o v p = record { rows = used_short a values (settled c h).rows o v (settled_short h p).rows; pending = tt }

    option_met_short : (a : Rule) (v : Option Text) (h : Held) → IsOption a → IfSome v IsShort → Holds h → Holds (option_met c a v h).0
    option_met_short a (Some v) h o s p = reacted_short a (v ∷ []) h o (s, tt) p
    option_met_short a None h o s p = record { rows = (settled_short h p).rows; pending = tt }

    flag_met_short : (a : Rule) (v : Option Text) (h : Held) → IsOption a → Holds h → Holds (flag_met c a v h).0
    flag_met_short a (Some v) h o p = p
    flag_met_short a None h o p = reacted_short a [] h o tt p

    either_met : (t : Bool) (a b : Held × Outcome) → Holds a.0 → Holds b.0 → Holds (if t then a else b).0
    either_met true a b p q = p
    either_met false a b p q = q

    long_met_short : (a : Option Rule) (v : Option Text) (h : Held) → IfSome a IsOption → IfSome v IsShort → Holds h → Holds (long_met c a v h).0
    long_met_short None v h o s p = p
    long_met_short (Some a) v h o s p = either_met (takes_values a) (option_met c a v h) (flag_met c a v h) (option_met_short a v h o s p) (flag_met_short a v h o p)

    attached_short : (rest : Text) → IsShort rest → IfSome (attached_value rest) IsShort
    attached_short [] s = tt
    attached_short (x ∷ xs) s = go (nat_eq x 61)
      where
        go : (t : Bool) → IfSome (option_map_or (λ v. Some v) (if t then Some xs else None) (Some (x ∷ xs))) IsShort
        go true = omega arith
        go false = s

    short_met_short : (a : Option Rule) (rest : Text) (h : Held) (f : Held → Held × Outcome) → IfSome a IsOption → IsShort rest → Holds h
        → ((k : Held) → Holds k → Holds (f k).0) → Holds (short_met c a rest h f).0
    short_met_short None rest h f o s p q = p
    short_met_short (Some a) rest h f o s p q = either_met (takes_values a) (option_met c a (attached_value rest) h) (f (reacted c a [] h))
        (option_met_short a (attached_value rest) h o (attached_short rest s) p) (q (reacted c a [] h) (reacted_short a [] h o tt p))

    bundle_step_short : (x : Option ℕ) (flags : Text) (skip : ℕ) (o : Outcome) (h : Held) (f : Text → ℕ → Outcome → Held → Held × Outcome) → IsShort flags → Holds h
        → ((v : Text) (n : ℕ) (o : Outcome) (k : Held) → IsShort v → Holds k → Holds (f v n o k).0) → Holds (bundle_step c x flags skip o h f).0
    bundle_step_short None flags skip o h f s p q = p
    bundle_step_short (Some x) flags zero o h f s p q =
        let rest = cut (length (encode_utf8 x)) flags s in
        short_met_short (arg_by_short c x) _ h _ (each _) rest p (λ k r. q _ 0 done k rest r)
    bundle_step_short (Some x) flags (suc skip) o h f s p q = q _ skip o h (cut (length (encode_utf8 x)) flags s) p

    bundle_met_short : (k : ℕ) (flags : Text) (skip : ℕ) (o : Outcome) (h : Held) → IsShort flags → Holds h → Holds (bundle_met c k flags skip o h).0
    unfolding bundle_met
    bundle_met_short zero flags skip o h s p = p
    bundle_met_short (suc k) flags skip o h s p =
        bundle_step_short (slice_get (chars flags) 0) flags skip o h (bundle_met c k) s p (λ v n o i r q. bundle_met_short k v n o i r q)

    pushed_short : (id word : Text) (h : Held) → IsShort word → Holds h → Holds (pushed id word h)
    pushed_short id word h s p = record { rows = p.rows; pending = go h.pending p.pending }
      where
        go : (q : Option (Text × List Text)) → Pending q → AreShort ((started id q).1 ++ word ∷ [])
        go None r = (s, tt)
        go (Some q) r = joined q.1 (word ∷ []) r (s, tt)

    plain_word_short : (w : Waiting) (word : Text) (h : Held) → IsShort word → Holds h → Holds (plain_word c w word h).0
    plain_word_short idle word h s p = p
    plain_word_short positional word h s p = p
    plain_word_short (option id) word h s p = go (arg_by_id c id)
      where
        go : (a : Option Rule) → Holds (option_word a id word h).0
        go None = p
        go (Some a) = pushed_short id word h s p

    after_flag_short : (w : Waiting) (word : Text) (h : Held) (o : Outcome) → IsShort word → Holds h → Holds (after_flag c w word h o).0
    after_flag_short w word h done s p = p
    after_flag_short w word h (waits id) s p = p
    after_flag_short w word h plain s p = plain_word_short w word h s p
    after_flag_short w word h refused s p = plain_word_short w word h s p

    short_or_plain_short : (w : Waiting) (word : Text) (flags : Option Text) (h : Held) → IsShort word → IfSome flags IsShort → Holds h → Holds (short_or_plain c w word flags h).0
    short_or_plain_short w word None h s r p = plain_word_short w word h s p
    short_or_plain_short w word (Some flags) h s r p = after_flag_short w word _ _ s
        (bundle_met_short (length flags) flags h.skip plain (record h { skip = 0 }) r (record { rows = p.rows; pending = p.pending }))

    short_of_short : (word : Text) → IsShort word → IfSome (short_of word) IsShort
    short_of_short [] s = tt
    short_of_short (x ∷ xs) s = go (nat_eq x 45) xs (omega arith)
      where
        rest : (t : Bool) (y : ℕ) (ys : Text) → IsShort (y ∷ ys) → IfSome (if t then None else Some (y ∷ ys)) IsShort
        rest true y ys r = tt
        rest false y ys r = r

        go : (t : Bool) (ys : Text) → IsShort ys → IfSome (option_and_then short_of_rest (if t then Some ys else None)) IsShort
        go false ys r = tt
        go true [] r = tt
        go true (y ∷ ys) r = rest (nat_eq y 45) y ys r

    abbrev Long : Option (Text × Option Text) → Type 0
    Long o = IfSome o (λ p. IfSome p.1 IsShort)

    long_of_short : (word : Text) → IsShort word → Long (long_of word)
    long_of_short [] s = tt
    long_of_short (x ∷ xs) s = go (nat_eq x 45) xs (omega arith)
      where
        named : (t : Bool) (v : Text) → IsShort v → IfSome (if t then Some (after_first (λ x. x == 61) v) else None) IsShort
        named true v r = cut (position_or_len (λ x. x == 61) v + 1) v r
        named false v r = tt

        rest : (v : Text) → IsShort v → Long (long_of_rest v)
        rest [] r = tt
        rest (y ∷ ys) r = named (has_byte 61 (y ∷ ys)) (y ∷ ys) r

        second : (t : Bool) (ys : Text) → IsShort ys → Long (option_and_then long_of_rest (if t then Some ys else None))
        second false ys r = tt
        second true ys r = rest ys r

        go : (t : Bool) (ys : Text) → IsShort ys → Long (option_and_then long_of_rest (option_and_then (strip_byte 45) (if t then Some ys else None)))
        go false ys r = tt
        go true [] r = tt
        go true (y ∷ ys) r = second (nat_eq y 45) ys (omega arith)

    long_or_other_short : (w : Waiting) (word : Text) (l : Option (Text × Option Text)) (h : Held) → IsShort word → Long l → Holds h → Holds (long_or_other c w word l h).0
    long_or_other_short w word None h s r p = short_or_plain_short w word (short_of word) h s (short_of_short word s) p
    long_or_other_short w word (Some l) h s r p = after_flag_short w word _ _ s (long_met_short (arg_by_long c l.0) l.1 h (each _) r p)

    either_step : (t : Bool) (a b : Held × Step) → Holds a.0 → Holds b.0 → Holds (if t then a else b).0
    either_step true a b p q = p
    either_step false a b p q = q

    subcommand_or_other_short : (name : Option Text) (w : Waiting) (n : ℕ) (word : Text) (h : Held) → IsShort word → Holds h → Holds (subcommand_or_other c name w n word h).0
    subcommand_or_other_short (Some name) w n word h s p = p
    subcommand_or_other_short None w n word h s p =
        either_step (bytes_eq word (45 ∷ 45 ∷ [])) (h, trailing n) (long_or_other c w word (long_of word) h) p (long_or_other_short w word (long_of word) h s (long_of_short word s) p)

    word_met_short : (names : Names) (t : Bool) (w : Waiting) (n : ℕ) (word : Text) (h : Held) → IsShort word → Holds h → Holds (word_met c names t w n word h).0
    word_met_short names t w n word h s p =
        either_step t (h, value) (subcommand_or_other c (subcommand_met names w word) w n word h) p (subcommand_or_other_short (subcommand_met names w word) w n word h s p)

    -- ---- all words

    after_step_short : (word : Text) (w : Walk) (h : Held) (s : Step) → IsShort word → Holds h → Holds (after_step c word w h s).held
    after_step_short word w h (next x) r p = p
    after_step_short word w h (trailing n) r p = p
    after_step_short word w h (subcommand name) r p = p
    after_step_short word w h value r p = go (arg_by_index c w.position)
      where
        go : (a : Option Rule) → Holds (to_positional c a word w h).held
        go None = p
        go (Some a) = pushed_short a.id word _ r (either_held (is_pending a h.pending && takes_several a) h (settled c h) p (settled_short h p))

    walked_short : (names : Names) (w : Walk) (word : Text) → IsShort word → Holds w.held → Holds (walked c names w word).held
    unfolding walked
    walked_short names w word s p = go w.stopped
      where
        go : (stop : Option (Text × List Text)) → Holds (walked_from c names stop w word).held
        go (Some q) = p
        go None = after_step_short word w (word_met c names w.is_trailing w.waiting w.position word w.held).0 (word_met c names w.is_trailing w.waiting w.position word w.held).1 s
            (word_met_short names w.is_trailing w.waiting w.position word w.held s p)

    walk_short : (names : Names) (w : Walk) (words : List Text) → AreShort words → Holds w.held → Holds (fold (walked c names) w words).held
    walk_short names w [] s p = p
    walk_short names w (word ∷ words) s p = walk_short names (walked c names w word) words s.1 (walked_short names w word s.0 p)

  -- ---- what is found

  find_option : (c : List Rule) → AllByRecursion IsOption c → (test : Rule → Bool) → IfSome (find test c) IsOption
  find_option [] h test = tt
  find_option (a ∷ c) h test = go (test a) (find_option c h.1 test)
    where
      go : (t : Bool) → IfSome (find test c) IsOption → IfSome (cond t (Some a) (find test c)) IsOption
      go true rest = h.0
      go false rest = rest

  defaults_short : (rows : List Row) (c : List Rule) → AllByRecursion IsOption c → Rows rows → Rows (fold with_default rows c)
  defaults_short rows [] o h = h
  defaults_short rows (a ∷ c) o h = defaults_short (with_default rows a) c o.1 (either_rows (has_row a.id rows) rows _ h (rw o.0.defaults h))

  found_short : (c : List Rule) (names : Names) (words : List Text) → AllByRecursion IsOption c → AreShort words → Rows (rows_after c names words)
  found_short c names words o s =
      let all = walk_short c (find_option c o) names (walk_from nothing_held) words s (record { rows = tt; pending = tt }) in
      defaults_short (settled c (walk c names nothing_held words).held).rows c o (settled_short c (find_option c o) (walk c names nothing_held words).held all).rows

  first_short : (id : Text) (rows : List Row) → Rows rows → IfSome (first_of id rows) IsShort
  first_short id [] h = tt
  first_short id (r ∷ rows) h = go (bytes_eq r.id id) (first_short id rows h.1)
    where
      one : (vs : List Text) → AreShort vs → IfSome (slice_get vs 0) IsShort
      one [] v = tt
      one (v ∷ vs) s = s.0

      go : (t : Bool) → IfSome (first_of id rows) IsShort
          → IfSome (option_and_then (λ r. slice_get r.values 0) (cond t (Some r) (find (λ r. bytes_eq r.id id) rows))) IsShort
      go true rest = one r.values h.0
      go false rest = rest

  text_short : (o : Option Text) → 0 < most → IfSome o IsShort → IsShort (text_or_empty o)
  text_short None some h = some
  text_short (Some v) some h = h

-- ---- the options of jobs

options : (kind : Kind) → AllByRecursion IsOption (built (command_of (options_of kind))).top.rules
options kind.Check = tt
options other = search rules

short_words : (words : List Text) → list_any is_long words ≡ false → AllByRecursion (IsShort (2 ^ 31)) words
short_words [] h = tt
short_words (word ∷ words) h = (one (is_long word) refl, short_words words (rest (is_long word) (list_any is_long words) h))
  where
    one : (t : Bool) → nat_le (2 ^ 31) (length word) ≡ t → length word < 2 ^ 31
    one true e = absurd (false≢true (sym h ∙ rw e refl))
    one false e = leb-false (2 ^ 31) (length word) e

    rest : (a b : Bool) → (a || b) ≡ false → b ≡ false
    rest true b e = absurd (cc e)
    rest false b e = e

-- ---- the formula

taken : (kinds : Kinds) (rows found : List Row) → some_if_none kinds rows ≡ Some found → rows ≡ found
taken [] rows found h = cc h
taken (k ∷ kinds) rows found h = absurd (cc h)

matched : (app : App) (words : List Text) (found : List Row) → read_by app words ≡ Some found → matches_of app words ≡ found
unfolding read_by
matched app words found h = taken (kinds_of app words) (matches_of app words) found h

-- the formula that words have is shorter than 2^31 bytes
pub request_formula : (words : List Text) (r : Request) → words_of words ≡ Ok r → HasShortFormula r
request_formula words r h =
    let a = requested words r h in
    let app = command_of (options_of a.kind) in
    let rows : Rows (2 ^ 31) (matches_of app words) =
    found_short (2 ^ 31) (built app).top.rules (names_of (built app)) (drop 1 words) (options a.kind) (short_words (drop 1 words) a.short) in
    let formula = first_short (2 ^ 31) (codes "formula") a.found (subst (λ (rows : List Row). Rows (2 ^ 31) rows) (matched app words a.found a.read) rows) in
    subst HasShortFormula a.is (request_short a.kind a.found a.numbers a.chosen (text_short (2 ^ 31) (first_of (codes "formula") a.found) (lit< tt) formula))
