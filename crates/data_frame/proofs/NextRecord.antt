-- On `csv`'s definition of the next record: how much it takes, and that what is left of a text is well defined.
use Rattle.std.proofs.Common.{◌≡◌, ◌∙◌, ◌⊎◌, ◌<◌, ◌≤◌, ◌+◌, ◌-◌, ℕ, zero, suc, Bool, true, false, List, [], ◌∷◌, ◌++◌, Option, Some, None, length, length-append, ap, refl, sym, inl, inr, arith, add-one, if◌then◌else◌}
use Rattle.csv.specs.Machine.{Read, ends_at_end, field_after, fields_after, is_end, next_record, step}
use Rattle.csv.specs.Reading.{default_config, records_from, records_next}
use Rattle.csv.specs.declared.parser.Action.{Action}
use Rattle.csv.specs.declared.parser.Action.TheVariants as act
use Rattle.csv.specs.declared.parser.Config.{Config}
use Rattle.csv.specs.declared.parser.State.{State}
use Rattle.csv.specs.declared.parser.State.TheVariants as st
use Rattle.data_frame.specs.Reading.{left_from}
use Rattle.data_frame.specs.Records.{Row}

-- a read takes at least one byte, or ends the text
abbrev pub TakesByte : List ℕ → Option Read → Type 0
TakesByte xs None = Unit {0}
TakesByte xs (Some p) = (length p.2 < length xs) ⊎ ((p.1 ≡ st.StartRecord) × (p.2 ≡ []))

nil_case : (b : Bool) (f : List (List ℕ)) → TakesByte [] (if b then Some (f, st.StartRecord, []) else None)
nil_case true f = inr (refl, refl)
nil_case false f = tt

one_more : (xs : List ℕ) (c : ℕ) (more : Option Read) → TakesByte xs more → TakesByte (c ∷ xs) more
one_more xs c None h = tt
one_more xs c (Some p) (inl h) = inl (omega arith)
one_more xs c (Some p) (inr h) = inr h

cons_case : (b : Bool) (c : ℕ) (xs : List ℕ) (f : List (List ℕ)) (s : State) (more : Option Read) → TakesByte xs more
    → TakesByte (c ∷ xs) (if b then Some (f, s, xs) else more)
cons_case true c xs f s more h = inl (omega arith)
cons_case false c xs f s more h = one_more xs c more h

takes_byte : (cfg : Config) (s : State) (f : List (List ℕ)) (d xs : List ℕ) → TakesByte xs (next_record cfg s f d xs)
unfolding next_record
takes_byte cfg s f d [] = nil_case (ends_at_end s) (f ++ d ∷ [])
takes_byte cfg s f d (c ∷ rest) = cons_case (is_end (step cfg s c).1) c rest _ _ _
    (takes_byte cfg (step cfg s c).0 (fields_after (step cfg s c).1 f d) (field_after (step cfg s c).1 c d) rest)

-- a record has no more fields than there were before, one for each byte, and one more
abbrev pub FewFields : ℕ → Option Read → Type 0
FewFields most None = Unit {0}
FewFields most (Some p) = length p.0 ≤ most

one_field : (a : Action) (f : List (List ℕ)) (d : List ℕ) → length (fields_after a f d) ≤ length f + 1
one_field act.EndField f d = omega (arith, length-append f (d ∷ []))
one_field act.EndRecord f d = omega (arith, length-append f (d ∷ []))
one_field act.Skip f d = omega arith
one_field act.Copy f d = omega arith

few_at_end : (b : Bool) (f : List (List ℕ)) (d : List ℕ) → FewFields (length f + 0 + 1) (if b then Some (f ++ d ∷ [], st.StartRecord, []) else None)
few_at_end true f d = omega (arith, length-append f (d ∷ []))
few_at_end false f d = tt

few_more : (low high : ℕ) (o : Option Read) → low ≤ high → FewFields low o → FewFields high o
few_more low high None le h = tt
few_more low high (Some p) le h = omega arith

few_after : (b : Bool) (f g : List (List ℕ)) (s : State) (xs : List ℕ) (more : Option Read) → length g ≤ length f + 1
    → FewFields (length g + length xs + 1) more → FewFields (length f + suc (length xs) + 1) (if b then Some (g, s, xs) else more)
few_after true f g s xs more le h = omega arith
few_after false f g s xs more le h = few_more (length g + length xs + 1) (length f + suc (length xs) + 1) more (omega arith) h

few_fields : (cfg : Config) (s : State) (f : List (List ℕ)) (d xs : List ℕ) → FewFields (length f + length xs + 1) (next_record cfg s f d xs)
unfolding next_record
few_fields cfg s f d [] = few_at_end (ends_at_end s) f d
few_fields cfg s f d (c ∷ rest) = few_after (is_end (step cfg s c).1) f _ _ rest _ (one_field (step cfg s c).1 f d)
    (few_fields cfg (step cfg s c).0 (fields_after (step cfg s c).1 f d) (field_after (step cfg s c).1 c d) rest)

-- nothing comes after the end of a text
at_end : (n : ℕ) → records_from default_config n st.StartRecord [] ≡ []
unfolding records_from next_record
at_end zero = refl
at_end (suc n) = refl

next_same : (n m : ℕ) (xs : List ℕ) (o : Option Read) → TakesByte xs o → length xs ≤ n
    → ((s : State) (ys : List ℕ) → length ys < n → records_from default_config n s ys ≡ records_from default_config m s ys)
    → records_next (records_from default_config n) o ≡ records_next (records_from default_config m) o
next_same n m xs None h le same = refl
next_same n m xs (Some p) (inl h) le same = ap (λ (rows : List Row). p.0 ∷ rows) (same p.1 p.2 (omega arith))
next_same n m xs (Some p) (inr h) le same = ap (λ (rows : List Row). p.0 ∷ rows) (rw (h.0, h.1) (at_end n ∙ sym (at_end m)))

-- more turns than bytes read the same records
stable : (n m : ℕ) (s : State) (xs : List ℕ) → length xs < n → n ≤ m
    → records_from default_config n s xs ≡ records_from default_config m s xs
unfolding records_from
stable zero m s xs lt le = absurd (omega arith)
stable (suc n) zero s xs lt le = absurd (omega arith)
stable (suc n) (suc m) s xs lt le = next_same n m xs (next_record default_config s [] [] xs) (takes_byte default_config s [] [] xs) (omega arith)
    (λ t ys short. stable n m t ys short (omega arith))

rest_same : (xs : List ℕ) (p : Read) → TakesByte xs (Some p)
    → records_from default_config (length xs) p.1 p.2 ≡ records_from default_config (length p.2 + 1) p.1 p.2
rest_same xs p (inl h) = sym (stable (length p.2 + 1) (length xs) p.1 p.2 (omega arith) (omega arith))
rest_same xs p (inr h) = rw (h.0, h.1) (at_end (length xs) ∙ sym (at_end 1))

after_next : (xs : List ℕ) (o : Option Read) (p : Read) → o ≡ Some p → TakesByte xs o
    → records_next (records_from default_config (length xs)) o ≡ p.0 ∷ records_from default_config (length p.2 + 1) p.1 p.2
after_next xs o p e h = rw e (ap (λ (rows : List Row). p.0 ∷ rows) (rest_same xs p (rw e at h)))

shorter_rest : (xs : List ℕ) (p : Read) → TakesByte xs (Some p) → length p.2 ≤ length xs - 1
shorter_rest xs p (inl h) = omega arith
shorter_rest xs p (inr h) = omega (arith, ap length h.1)

-- the record that stands next, and what is left behind it
pub record Next (s s2 : State) (xs rest : List ℕ) (fields : Row) : Type 0 where
  pub next : left_from s xs ≡ fields ∷ left_from s2 rest
  pub few : length fields ≤ length xs + 1
  pub shorter : length rest ≤ length xs - 1

pub next_is : (s : State) (xs : List ℕ) (p : Read) → next_record default_config s [] [] xs ≡ Some p → Next s p.1 xs p.2 p.0
unfolding left_from records_from
next_is s xs p e = record {
  next = rw add-one (after_next xs (next_record default_config s [] [] xs) p e (takes_byte default_config s [] [] xs));
  few = omega (arith, rw e at (few_fields default_config s [] [] xs));
  shorter = shorter_rest xs p (rw e at (takes_byte default_config s [] [] xs));
}

pub none_left : (s : State) (xs : List ℕ) → next_record default_config s [] [] xs ≡ None → left_from s xs ≡ []
unfolding left_from records_from
none_left s xs e = rw (add-one, e) refl
