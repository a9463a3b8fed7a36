-- Stated. JSON pointers (RFC 6901), step by step.
use Rattle.std.specs.Prelude.{ℕ, List, [], ◌∷◌, ◌==◌, codes, decimal, flat_map, if◌then◌else◌}

-- `~0` for a tilde, `~1` for a slash, and every other byte as it is
abbrev pub escaped_byte : ℕ → List ℕ
escaped_byte b = if b == 126 then codes "~0" else (if b == 47 then codes "~1" else b ∷ [])

-- the step from an object to the value of a key
unfoldable pub key_step : List ℕ → List ℕ
key_step key = 47 ∷ flat_map escaped_byte key

-- the step from a list to the item at a place, counted from 0
unfoldable pub item_step : ℕ → List ℕ
item_step i = 47 ∷ decimal i
