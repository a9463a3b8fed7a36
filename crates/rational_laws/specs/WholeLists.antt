-- Inner. Lists of whole numbers as fractions.
use Rattle.std.specs.Prelude.{ℕ, ℤ, List, pos, slice_get}
use Rattle.std.specs.Option.{option_map_or}
use Rattle.rational_laws.specs.Rational.{ℚ, whole}

-- item k of a list, or 0 beyond its end
abbrev pub whole_at : List ℤ → ℕ → ℚ
whole_at xs k = option_map_or whole (slice_get xs k) (whole (pos 0))
