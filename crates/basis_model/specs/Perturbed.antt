-- Stated. The perturbation by which ties are broken: every response is raised by an infinitely small amount
-- of its own, each infinitely larger than those of all later rows. What was a number becomes a list:
-- the number, and its factor of each amount, in the order of the rows (Charnes 1952; Dantzig, Orden
-- and Wolfe 1955, for linear programs).
--
-- A basis is its rows by position: n positions, of which j holds row `at j`.
use Rattle.std.specs.Prelude.{◌≢◌, ℕ, zero, suc, ◌<◌, ◌==◌, if◌then◌else◌, List, pos}
use Rattle.std.specs.declared.cmp.Ordering.{Ordering}
use Rattle.std.specs.declared.cmp.Ordering.TheVariants.{Greater}
use Rattle.rational_laws.specs.Fraction.{Fraction, rational}
use Rattle.rational_laws.specs.Rational.{ℚ, ◌*ℚ◌, neg_ℚ, inverse, whole}
use Rattle.loss_model.specs.declared.vertex.Side.{Side}
use Rattle.loss_model.specs.declared.vertex.Side.TheVariants.{Up, Down}
use Rattle.loss_model.specs.Problem.{value_at}
use Rattle.loss_model.specs.Spill.{abs_ℚ}
use Rattle.basis_model.specs.Lexicographic.{lex_cmp}

-- a row outside a basis: its number, its residual, and its coordinates by position
pub record Nonbasic : Type 0 where
  pub row : ℕ
  pub residual : ℚ
  pub coord : ℕ → ℚ

-- the rows of the basis differ, and row i is none of them
pub record IsOutside (n : ℕ) (at : ℕ → ℕ) (i : ℕ) : Type 0 where
  pub apart : (j k : ℕ) → j < k → k < n → at j ≢ at k
  pub outside : (j : ℕ) → j < n → at j ≢ i

-- the coordinate at the position that holds row m, or 0 where none does
abbrev pub held_coordinate : ℕ → (ℕ → ℕ) → (ℕ → ℚ) → ℕ → ℚ
held_coordinate zero at c m = whole (pos 0)
held_coordinate (suc n) at c m = if m == at n then c n else held_coordinate n at c m

-- the perturbed residual: the residual, and then an entry for each row m, which is 1 at the row
-- itself, and the negated coordinate at a row of the basis
abbrev pub perturbed : ℕ → (ℕ → ℕ) → Nonbasic → ℕ → ℚ
perturbed n at u zero = u.residual
perturbed n at u (suc m) = if m == u.row then whole (pos 1) else neg_ℚ (held_coordinate n at u.coord m)

-- the list of zeros
abbrev pub zeros : ℕ → ℚ
zeros m = whole (pos 0)

-- above the fit where the list is greater than the list of zeros, else below it
abbrev pub side_of : Ordering → Side
side_of Greater = Up
side_of _ = Down

-- the side of a row by its perturbed residual, over all rows of a problem
abbrev pub perturbed_side : ℕ → ℕ → (ℕ → ℕ) → Nonbasic → Side
perturbed_side rows n at u = side_of (lex_cmp (suc rows) (perturbed n at u) zeros)

-- x, which is negated on the side below the fit
abbrev pub turned : Side → ℚ → ℚ
turned Down x = neg_ℚ x
turned _ x = x

-- the entries of the perturbed residual over the absolute coordinate at position j, on a side
abbrev pub ratio_on : Side → ℕ → (ℕ → ℕ) → ℕ → Nonbasic → ℕ → ℚ
ratio_on side n at j u m = turned side (perturbed n at u m *ℚ inverse (abs_ℚ (u.coord j)))

-- the perturbed ratio at position j: the same, negated where the perturbed residual is negative
abbrev pub ratio : ℕ → ℕ → (ℕ → ℕ) → ℕ → Nonbasic → ℕ → ℚ
ratio rows n at j u = ratio_on (perturbed_side rows n at u) n at j u

-- the row, its residual and its coordinates as values of a type of fractions
abbrev pub nonbasic : {F : Type 0} → (F → Fraction) → ℕ → F → List F → Nonbasic
nonbasic value row residual coords =
    record { row = row; residual = rational (value residual); coord = value_at value coords }
