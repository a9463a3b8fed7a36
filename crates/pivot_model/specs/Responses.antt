-- Stated. Residuals for responses other than those of the problem. Each entry of a perturbed residual is one:
-- the first for the problem's responses, and the one of row m for a response of 1 at row m alone.
use Rattle.std.specs.Prelude.{ℕ, zero, suc, ◌==◌, if◌then◌else◌}
use Rattle.rational_laws.specs.Rational.{ℚ, ◌-ℚ◌, ◌*ℚ◌}
use Rattle.rational_laws.specs.RationalSums.{sum_ℚ}
use Rattle.rational_laws.specs.Terms.{delta}
use Rattle.loss_model.specs.Sample.{Sample}
use Rattle.basis_model.specs.Basis.{coord}

-- the residual of row i where the basis fits the responses v
abbrev pub residual_for : Sample → (ℕ → ℕ) → (ℕ → ℕ → ℚ) → (ℕ → ℚ) → ℕ → ℚ
residual_for p at a v i = v i -ℚ sum_ℚ p.columns (λ j. coord p a i j *ℚ v (at j))

-- the responses of entry m: those of the problem for entry 0, and for entry m + 1 a response of 1 at row m alone
abbrev pub response : Sample → ℕ → ℕ → ℚ
response p zero = p.y
response p (suc m) = delta m

-- the rows by position after row r has taken position j
abbrev pub exchanged_rows : (ℕ → ℕ) → ℕ → ℕ → ℕ → ℕ
exchanged_rows at j r k = if k == j then r else at k
