-- From the clauses of `csv`'s reader to the records that are left.
use Rattle.std.proofs.Common.{◌≡◌, ◌∙◌, ℕ, Bool, true, false, List, [], ◌∷◌, Option, Some, None, ap, refl, inl, inr, unwrap_or, ◌≤◌, length, arith, if◌then◌else◌}
use Rattle.std.proofs.lemmas.Bool.{cases_Bool, and_parts}
use Rattle.std.proofs.lemmas.Str.{IsUtf8-from_is_utf8, is_utf8-from_IsUtf8}
use Rattle.std.specs.Str.{is_utf8}
use Rattle.std.specs.List.{list_all}
use Rattle.csv.specs.Machine.{Read, next_record}
use Rattle.csv.specs.Reading.{ExplainsRead, NextIs, ReadRecord, ReadsNext, default_config, is_bom, is_flexible, pending_of, reader_state, source_of, strip_bom, took_first}
use Rattle.csv.specs.declared.error.ErrorKind.{ErrorKind}
use Rattle.csv.specs.declared.error.ErrorKind.TheVariants as kind
use Rattle.csv.specs.Records.{AllText}
use Rattle.csv.specs.declared.parser.Config.{Config}
use Rattle.csv.specs.declared.parser.State.{State}
use Rattle.csv.specs.declared.parser.State.TheVariants as st
use Rattle.data_frame.specs.Reading.{IsReading, Records, TakesRow, left_from, left_of, remaining, unread}
use Rattle.data_frame.specs.Records.{Row, are_text, records_of}
use Rattle.data_frame.proofs.NextRecord.{Next, next_is, none_left}

found_next : (s s2 : State) (xs rest : List ℕ) (f : Row) (o : Option Read) → next_record default_config s [] [] xs ≡ o → NextIs o true f s2 rest
    → Next s s2 xs rest f
found_next s s2 xs rest f None e n = absurd (cc n)
found_next s s2 xs rest f (Some p) e n = rw (n.1, n.2, n.3) (next_is s xs p e)

none_next : (s s2 : State) (xs rest : List ℕ) (f : Row) (o : Option Read) → next_record default_config s [] [] xs ≡ o → NextIs o false f s2 rest
    → left_from s xs ≡ []
none_next s s2 xs rest f None e n = none_left s xs e
none_next s s2 xs rest f (Some p) e n = absurd (cc n.0)

found_go : (cfg : Config) (s s2 : State) (xs : List ℕ) (src after : Option (List ℕ)) (f : Row) → cfg ≡ default_config → src ≡ Some xs
    → ReadsNext cfg s src after true f s2 → (rest : List ℕ) × (after ≡ Some rest) × Next s s2 xs rest f
found_go cfg s s2 xs src None f e es r = absurd (rw es at r)
found_go cfg s s2 xs src (Some rest) f e es r = (rest, refl, found_next s s2 xs rest f _ refl (rw (e, es) at r))

none_go : (cfg : Config) (s s2 : State) (xs : List ℕ) (src after : Option (List ℕ)) (f : Row) → cfg ≡ default_config → src ≡ Some xs
    → ReadsNext cfg s src after false f s2 → left_from s xs ≡ []
none_go cfg s s2 xs src None f e es r = absurd (rw es at r)
none_go cfg s s2 xs src (Some rest) f e es r = none_next s s2 xs rest f _ refl (rw (e, es) at r)

source_is : (b : Records) (rest : List ℕ) → b.bom_checked ≡ true → pending_of (remaining b.rdr) b ≡ Some rest → source_of remaining b ≡ Some rest
source_is b rest begun e = rw begun e

text_all : (row : Row) → AllText row → are_text row ≡ true
unfolding AllText are_text
text_all [] h = refl
text_all (f ∷ fs) h = rw (is_utf8-from_IsUtf8 f h.0, text_all fs h.1) refl

all_text : (row : Row) → are_text row ≡ true → AllText row
unfolding AllText are_text
all_text [] h = tt
all_text (f ∷ fs) h = (IsUtf8-from_is_utf8 f (and_parts (is_utf8 f) (list_all is_utf8 fs) h).0, all_text fs (and_parts (is_utf8 f) (list_all is_utf8 fs) h).1)

not_text : (row : Row) → ¬ (AllText row) → are_text row ≡ false
not_text row refuses = elim (cases_Bool (are_text row)) [ inl whole ↦ absurd (refuses (all_text row whole)) | inr bad ↦ bad ]

pub opened : (r : Records) (bytes : List ℕ) → reader_state r ≡ st.StartRecord → source_of remaining r ≡ Some (strip_bom bytes)
    → left_of r ≡ records_of bytes
unfolding left_from records_of
opened r bytes s e = rw (s, e) refl

strip_shorter : (bytes : List ℕ) → length (strip_bom bytes) ≤ length bytes
unfolding strip_bom
strip_shorter [] = omega arith
strip_shorter (a ∷ []) = omega arith
strip_shorter (a ∷ b ∷ []) = omega arith
strip_shorter (a ∷ b ∷ c ∷ rest) = go (is_bom a b c)
  where
    go : (t : Bool) → length (if t then rest else a ∷ b ∷ c ∷ rest) ≤ length (a ∷ b ∷ c ∷ rest)
    go true = omega arith
    go false = omega arith

pub opened_short : (r : Records) (bytes : List ℕ) → source_of remaining r ≡ Some (strip_bom bytes) → length (unread r) ≤ length bytes
opened_short r bytes e = rw e (strip_shorter bytes)

-- a record was read
pub row_taken : (a b : Records) (found : Bool) (f : Row) → IsReading a → found ≡ true → ReadRecord remaining a b found f
    → AllText f → took_first b ≡ true → is_flexible b ≡ is_flexible a → TakesRow a b f
row_taken a b found f h e r0 text took flexible =
    let r = rw e at r0 in
    let g = found_go a.config a.state b.state (unread a) (source_of remaining a) (pending_of (remaining b.rdr) b) f h.config h.source r.0 in
    let source : source_of remaining b ≡ Some g.0 = source_is b g.0 r.1 g.1 in
    let left : unread b ≡ g.0 = ap (λ (o : Option (List ℕ)). unwrap_or o []) source in
    record {
      next = rw left g.2.next;
      text = text_all f text;
      reading = record {
        trim = r.3 ∙ h.trim;
        ready = inl took;
        config = r.2 ∙ h.config;
        flexible = flexible ∙ h.flexible;
        source = rw left source;
      };
      few = g.2.few;
      shorter = rw left g.2.shorter;
    }

pub none_taken : (a b : Records) (found : Bool) (f : Row) → IsReading a → found ≡ false → ReadRecord remaining a b found f → left_of a ≡ []
none_taken a b found f h e r0 =
    let r = rw e at r0 in
    none_go a.config a.state b.state (unread a) (source_of remaining a) (pending_of (remaining b.rdr) b) f h.config h.source r.0

-- a record was taken that is no text
pub not_text_taken : (a b : Records) (k : ErrorKind) (pos : _) (err : _) → IsReading a → k ≡ kind.Utf8 pos err → ExplainsRead remaining a b true k
    → (row : Row) × (rest : List Row) × (left_of a ≡ row ∷ rest) × (are_text row ≡ false)
not_text_taken a b k pos err h e why0 =
    let why = rw e at why0 in
    let g = found_go a.config a.state b.state (unread a) (source_of remaining a) (pending_of (remaining b.rdr) b) why.1 h.config h.source why.2 in
    (why.1, left_from b.state g.0, g.2.next, not_text why.1 why.3)
