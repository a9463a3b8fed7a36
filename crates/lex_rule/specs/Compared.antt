-- Inner. The rows whose perturbed ratios are compared.
use Rattle.std.specs.Prelude.{◌≡◌, ◌≢◌, ℕ, ◌<◌, List, length, slice_index, pos}
use Rattle.rational_laws.specs.Fraction.{Fraction, rational}
use Rattle.rational_laws.specs.Rational.{whole}
use Rattle.loss_model.specs.Spill.{abs_ℚ}
use Rattle.basis_model.specs.Perturbed.{Nonbasic, nonbasic, IsOutside}
use Rattle.lex_rule.specs.declared.less.Ratio.{Ratio}
use Rattle.lex_rule.specs.declared.quotient.Divisor.{Divisor}

-- the row in ℚ
abbrev pub of_ratio : {F : Type 0} → (F → Fraction) → Ratio F → Nonbasic
of_ratio value r = nonbasic value r.row r.residual r.coords.now

-- the row is outside the basis, which has different rows; it has a coordinate for each position, and
-- at this one it isn't 0
pub record IsRatioAt {F : Type 0} (value : F → Fraction) (basis : List ℕ) (position : ℕ) (r : Ratio F) : Type 0 where
  pub outside : IsOutside (length basis) (slice_index basis) r.row
  pub same : length r.coords.now ≡ length basis
  pub within : position < length basis
  pub some : (of_ratio value r).coord position ≢ whole (pos 0)

-- the entries of the ratio of row u at position j are divided by this
pub record IsDivisorOf {F : Type 0} (value : F → Fraction) (j : ℕ) (u : Nonbasic) (by : Divisor F) : Type 0 where
  pub row : by.row ≡ u.row
  pub position : by.position ≡ j
  pub size : rational (value by.size) ≡ abs_ℚ (u.coord j)
  pub some : rational (value by.size) ≢ whole (pos 0)
