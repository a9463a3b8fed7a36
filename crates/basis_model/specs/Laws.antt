-- Law. What the laws of the order say; each is a clause of a function.
use Rattle.std.specs.Prelude.{◌≡◌, ◌≢◌, ◌↔◌, ◌⊎◌, ℕ, suc, ◌<◌, pos}
use Rattle.std.specs.declared.cmp.Ordering.TheVariants.{Less, Equal}
use Rattle.rational_laws.specs.Rational.{ℚ, whole}
use Rattle.basis_model.specs.Lexicographic.{lex_cmp, IsLessAt}
use Rattle.basis_model.specs.Perturbed.{Nonbasic, IsOutside, perturbed, zeros, ratio}

-- a list is less than another where it is at the first entry that differs
abbrev pub LessAtFirstDifference : Type 0
LessAtFirstDifference =
    (n : ℕ) (u v : ℕ → ℚ) → (lex_cmp n u v ≡ Less) ↔ ((place : ℕ) × (place < n) × IsLessAt u v place)

-- a list that is less than one that is less than a third is less than that
abbrev pub LessIsTransitive : Type 0
LessIsTransitive =
    (n : ℕ) (u v w : ℕ → ℚ) → lex_cmp n u v ≡ Less → lex_cmp n v w ≡ Less → lex_cmp n u w ≡ Less

-- no two lists are each less than the other
abbrev pub LessIsOneWay : Type 0
LessIsOneWay = (n : ℕ) (u v : ℕ → ℚ) → lex_cmp n u v ≡ Less → lex_cmp n v u ≢ Less

-- the perturbed residual of a row outside the basis is never 0
abbrev pub PerturbedIsNotZero : Type 0
PerturbedIsNotZero = (rows n : ℕ) (at : ℕ → ℕ) (u : Nonbasic) → u.row < rows → lex_cmp (suc rows) (perturbed n at u) zeros ≢ Equal

-- of two rows, of which one is outside the basis and has a coordinate at position j, one has the
-- lesser perturbed ratio there
abbrev pub RatiosAreOrdered : Type 0
RatiosAreOrdered =
    (rows n : ℕ) (at : ℕ → ℕ) (j : ℕ) (u v : Nonbasic) → IsOutside n at u.row → u.row ≢ v.row → u.row < rows
    → u.coord j ≢ whole (pos 0)
    → (lex_cmp (suc rows) (ratio rows n at j u) (ratio rows n at j v) ≡ Less)
    ⊎ (lex_cmp (suc rows) (ratio rows n at j v) (ratio rows n at j u) ≡ Less)
