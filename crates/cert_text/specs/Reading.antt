-- Stated. What JSON is read as, or the first fault that is met: the keys of an object in the order of their bytes, the
-- items of a list in order, and what a key has before the next key.
use Rattle.std.specs.Prelude.{ℕ, ◌+◌, ◌^◌, ◌-◌, List, [], ◌∷◌, ◌++◌, Option, Some, None, Result, Ok, Err, nat_lt, option_and_then, ⊤, if◌then◌else◌}
use Rattle.std.specs.Ordering.{nat_cmp, match_ordering}
use Rattle.std.specs.Cmp.Lexicographic.{slice_cmp}
use Rattle.rational_laws.specs.Rational.{ℚ}
use Rattle.frac_core.specs.NumberText.{number_of}
use Rattle.frac_core.specs.declared.number_reader.NumberFault.{NumberFault}
use Rattle.serde_json.specs.Data.{Data, Items, no_items, item, Members, no_members, member}
use Rattle.serde_json.specs.Find.{as_number, as_u64, as_str, as_array, as_object}
use Rattle.cert_text.specs.Paths.{key_step, item_step}
use Rattle.cert_text.specs.declared.fault.CertFault.{CertFault}
use Rattle.cert_text.specs.declared.fault.CertFault.TheVariants.{OutOfMemory, NotJson, Shape, Number, Version, TooLarge}

-- what was read, or the first fault, whose path begins at the value that is read
abbrev pub Reading : Type 0 → Type 0
Reading A = Result A CertFault

-- how a value is read
abbrev pub Reader : Type 0 → Type 0
Reader A = Data → Reading A

-- what is read next, unless there is a fault already
abbrev pub on_read : {A B : Type 0} → Reading A → (A → Reading B) → Reading B
on_read (Ok a) f = f a
on_read (Err e) f = Err e

-- the same fault, with a step before its path
abbrev pub further : List ℕ → CertFault → CertFault
further step OutOfMemory = OutOfMemory
further step NotJson = NotJson
further step (Shape path) = Shape (step ++ path)
further step (Number path) = Number (step ++ path)
further step Version = Version
further step TooLarge = TooLarge

-- a reading a step below
abbrev pub under : {A : Type 0} → List ℕ → Reading A → Reading A
under step (Ok a) = Ok a
under step (Err e) = Err (further step e)

-- what is there, or the fault of a value of another kind
abbrev pub or_shape : {A : Type 0} → Option A → Reading A
or_shape (Some a) = Ok a
or_shape None = Err (Shape [])

abbrev pub or_number : Result ℚ NumberFault → Reading ℚ
or_number (Ok x) = Ok x
or_number (Err e) = Err (Number [])

-- a string that is a number text, neither of whose written numbers is above 2^127 - 1
unfoldable pub fraction : Reader ℚ
fraction d = on_read (or_shape (as_str d)) (λ s. or_number (number_of (2 ^ 127 - 1) s))

abbrev pub below_32 : ℕ → Option ℕ
below_32 n = if nat_lt n (2 ^ 32) then Some n else None

-- an unsigned number below 2^32
unfoldable pub count : Reader ℕ
count d = or_shape (option_and_then below_32 (option_and_then as_u64 (as_number d)))

-- the items of a list, from place i on, each of which is read beside the one before it
unfoldable pub items_from : {A : Type 0} → (Option A → Reader A) → Option A → ℕ → Items → Reading (List A)
items_from read before i no_items = Ok []
items_from read before i (item d ds) =
    on_read (under (item_step i) (read before d)) (λ a. on_read (items_from read (Some a) (i + 1) ds) (λ more. Ok (a ∷ more)))

-- a list, item by item, each of which is read beside the one before it
unfoldable pub linked_list : {A : Type 0} → (Option A → Reader A) → Reader (List A)
linked_list read d = on_read (or_shape (as_array d)) (items_from read None 0)

-- a list whose items are all read alike
abbrev pub list : {A : Type 0} → Reader A → Reader (List A)
list read = linked_list (λ before. read)

-- the value of the next key, which must be this one, and the members behind it: what stands before it is unknown, and it
-- is missing where none or a later one stands there
unfoldable pub next : List ℕ → Members → Reading (Data × Members)
next key no_members = Err (Shape (key_step key))
next key (member k d ms) =
    match_ordering (slice_cmp nat_cmp key k) (Err (Shape (key_step key))) (Ok (d, ms)) (Err (Shape (key_step k)))

-- the same, read
unfoldable pub field : {A : Type 0} → List ℕ → Reader A → Members → Reading (A × Members)
field key read ms = on_read (next key ms) (λ p. on_read (under (key_step key) (read p.0)) (λ a. Ok (a, p.1)))

-- what is there, or the fault of a key whose value doesn't go with what was read before
abbrev pub fitting : {A : Type 0} → List ℕ → Option A → Reading A
fitting key o = under (key_step key) (or_shape o)

-- no key is left
unfoldable pub no_more_keys : Members → Reading ⊤
no_more_keys no_members = Ok tt
no_more_keys (member k d ms) = Err (Shape (key_step k))

-- an object, key by key
abbrev pub object_of : {A : Type 0} → (Members → Reading A) → Reader A
object_of read d = on_read (or_shape (as_object d)) read
