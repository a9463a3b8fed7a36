-- Stated. What calls do to the bytes that a source has left and that a sink holds, where these are told.
use Rattle.std.specs.Prelude.{◌≡◌, ℕ, ◌<◌, ◌≤◌, ◌^◌, List, [], Option, Some, None, ⊤, length, take, drop}
use Rattle.std.specs.Io.KnownBytes.{Appends, IsAtEnd}

-- the bytes that were left are exactly these, and now none is
abbrev pub TakesAll : Option (List ℕ) → Option (List ℕ) → List ℕ → Type 0
TakesAll None now bytes = IsAtEnd now
TakesAll (Some left) now bytes = (bytes ≡ left) × (now ≡ Some [])

-- the most bytes that are read from a source
abbrev pub most_bytes : ℕ
most_bytes = 2 ^ 26

-- the first n bytes that were left are gone
abbrev pub TakesFirst : Option (List ℕ) → Option (List ℕ) → ℕ → Type 0
TakesFirst None now n = ⊤
TakesFirst (Some left) now n = (n ≤ length left) × (now ≡ Some (drop n left))

-- some bytes at the front are gone
abbrev pub TakesSome : Option (List ℕ) → Option (List ℕ) → Type 0
TakesSome before now = (n : ℕ) × TakesFirst before now n

-- some of the bytes, but not all, were added: a prefix of them
abbrev pub AppendsPart : Option (List ℕ) → Option (List ℕ) → List ℕ → Type 0
AppendsPart before now bytes = (n : ℕ) × (n < length bytes) × Appends before now (take n bytes)
