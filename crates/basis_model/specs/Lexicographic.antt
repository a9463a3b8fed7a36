-- Stated. Lists of fractions, compared at the first entry that differs. A list is a function of the index,
-- from 0, and a number of entries.
use Rattle.std.specs.Prelude.{◌≡◌, ℕ, zero, suc, ◌<◌}
use Rattle.std.specs.Ordering.{ordering_then}
use Rattle.std.specs.declared.cmp.Ordering.{Ordering}
use Rattle.std.specs.declared.cmp.Ordering.TheVariants.{Equal}
use Rattle.rational_laws.specs.Rational.{ℚ, ◌≤ℚ◌}
use Rattle.rational_laws.specs.Order.{cmp_ℚ}

-- how u compares with v at the first of n entries that differs
abbrev pub lex_cmp : ℕ → (ℕ → ℚ) → (ℕ → ℚ) → Ordering
lex_cmp zero u v = Equal
lex_cmp (suc n) u v = ordering_then (lex_cmp n u v) (cmp_ℚ (u n) (v n))

-- u and v are equal before this place, and there u is less
pub record IsLessAt (u v : ℕ → ℚ) (place : ℕ) : Type 0 where
  pub same : (i : ℕ) → i < place → u i ≡ v i
  pub less : ¬ (v place ≤ℚ u place)
