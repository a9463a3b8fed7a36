-- On the faults of records.
use Rattle.std.proofs.Common.{◌≡◌, ◌∙◌, ◌<◌, ◌≤◌, ◌+◌, ℕ, true, false, List, [], ◌∷◌, Option, Some, None, length, refl, arith, nat_lt, inl, inr, sym, ◌⊎◌}
use Rattle.std.proofs.lemmas.Bool.{lt-ltb, ltb-true, ne_eqb, eq-eqb, false_from_ne_true, ltb-false, cases_Bool}
use Rattle.std.specs.Option.{option_or}
use Rattle.data_frame.specs.Records.{Row, are_text}
use Rattle.data_frame.specs.Faults.{row_fault, rows_fault}
use Rattle.data_frame.specs.declared.fault.TableFault.{TableFault}
use Rattle.data_frame.specs.declared.fault.TableFault.TheVariants.{NotUtf8, Ragged, TooManyRows}

few : (rec : ℕ) → rec ≤ 16384 → nat_lt 16384 rec ≡ false
few rec h = false_from_ne_true (nat_lt 16384 rec) (λ e. let more = ltb-true 16384 rec e in absurd (omega arith))

pub too_many : (wanted rec : ℕ) (row : Row) → 16384 < rec → row_fault wanted rec row ≡ Some TooManyRows
unfolding row_fault
too_many wanted rec row h = rw (lt-ltb 16384 rec h) refl

pub not_utf8 : (wanted rec : ℕ) (row : Row) → rec ≤ 16384 → are_text row ≡ false → row_fault wanted rec row ≡ Some (NotUtf8 rec)
unfolding row_fault
not_utf8 wanted rec row h e = rw (few rec h, e) refl

pub ragged : (wanted rec : ℕ) (row : Row) → rec ≤ 16384 → are_text row ≡ true → (length row ≡ wanted → ⊥)
    → row_fault wanted rec row ≡ Some (Ragged rec (length row) wanted)
unfolding row_fault
ragged wanted rec row h e other = rw (few rec h, e, ne_eqb (length row) wanted other) refl

pub whole : (wanted rec : ℕ) (row : Row) → rec ≤ 16384 → are_text row ≡ true → length row ≡ wanted → row_fault wanted rec row ≡ None
unfolding row_fault
whole wanted rec row h e same = rw (few rec h, e, eq-eqb (length row) wanted same) refl

-- the fault of the record that stands first
pub first_bad : (wanted rec : ℕ) (left : List Row) (row : Row) (rest : List Row) (fault : TableFault) → left ≡ row ∷ rest
    → row_fault wanted rec row ≡ Some fault → rows_fault wanted rec left ≡ Some fault
unfolding rows_fault
first_bad wanted rec left row rest fault e bad = rw (e, bad) refl

pub first_good : (wanted rec : ℕ) (left : List Row) (row : Row) (rest : List Row) → left ≡ row ∷ rest
    → row_fault wanted rec row ≡ None → rows_fault wanted rec left ≡ rows_fault wanted (rec + 1) rest
unfolding rows_fault
first_good wanted rec left row rest e good = rw (e, good) refl

pub none_bad : (wanted rec : ℕ) (left : List Row) → left ≡ [] → rows_fault wanted rec left ≡ None
unfolding rows_fault
none_bad wanted rec left e = rw e refl

pub good_is_early : (wanted rec : ℕ) (row : Row) → row_fault wanted rec row ≡ None → rec ≤ 16384
good_is_early wanted rec row e = go (cases_Bool (nat_lt 16384 rec))
  where
    go : (nat_lt 16384 rec ≡ true) ⊎ (nat_lt 16384 rec ≡ false) → rec ≤ 16384
    go (inl h) = let bad : Some TooManyRows ≡ None = sym (too_many wanted rec row (ltb-true 16384 rec h)) ∙ e in absurd (cc bad)
    go (inr h) = ltb-false 16384 rec h

pub none_first : (a b : Option TableFault) → option_or a b ≡ None → a ≡ None
none_first None b h = refl
none_first (Some f) b h = absurd (cc h)

pub none_second : (a b : Option TableFault) → option_or a b ≡ None → b ≡ None
none_second None b h = h
none_second (Some f) b h = absurd (cc h)
