-- Stated. How a name is printed.
use Rattle.std.specs.Prelude.{ℕ, ◌/◌, ◌%◌, Bool, List, [], ◌∷◌, ◌++◌, nat_lt, ◌==◌, ◌||◌, codes, slice_index, if◌then◌else◌}
use Rattle.std.specs.List.{flat_map}

-- whether a byte is written as an escape: below 32, 127 or the backslash
abbrev pub is_escaped : ℕ → Bool
is_escaped b = nat_lt b 32 || b == 127 || b == 92

-- the byte of a hexadecimal digit
abbrev pub hexadecimal : ℕ → ℕ
hexadecimal d = slice_index (codes "0123456789abcdef") d

-- \x and two digits
abbrev pub escape : ℕ → List ℕ
escape b = codes "\\x" ++ hexadecimal (b / 16) ∷ hexadecimal (b % 16) ∷ []

-- a byte of a name as it is printed
unfoldable pub name_byte : ℕ → List ℕ
name_byte b = if is_escaped b then escape b else b ∷ []

-- a name as it is printed
abbrev pub name_bytes : List ℕ → List ℕ
name_bytes name = flat_map name_byte name
