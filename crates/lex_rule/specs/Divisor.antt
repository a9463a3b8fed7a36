-- Inner. An entry of a perturbed ratio by what all its entries share.
use Rattle.std.specs.Prelude.{ℕ}
use Rattle.rational_laws.specs.Fraction.{Fraction, rational}
use Rattle.rational_laws.specs.Rational.{ℚ, ◌*ℚ◌, inverse}
use Rattle.loss_model.specs.declared.spill.Spill.{Spill}
use Rattle.loss_model.specs.Spill.{IsOperation}
use Rattle.basis_model.specs.Perturbed.{turned}
use Rattle.basis_model.specs.RatioSpill.{ratio_site}
use Rattle.lex_rule.specs.declared.quotient.Divisor.{Divisor}

-- the entry of the perturbed residual over the size, negated on the side below
abbrev pub entry_over : {F : Type 0} → (F → Fraction) → Divisor F → F → ℚ
entry_over value by x = turned by.side (rational (value x) *ℚ inverse (rational (value by.size)))

-- that division overflows
abbrev pub IsDivisorSpill : {F : Type 0} → (F → Fraction) → ℕ → Divisor F → ℕ → F → Spill F → Type 0
IsDivisorSpill value range by entry x s =
    IsOperation value range (ratio_site by.row by.position entry) (rational (value x)) (rational (value by.size)) s
