-- What stands after the first row that moves has entered is a basis, with the inverse of the exchange.
use Rattle.std.specs.Prelude.{ℕ, ◌<◌}
use Rattle.rational_laws.specs.Rational.{ℚ}
use Rattle.rational_laws.specs.Exchange.{exchanged}
use Rattle.loss_model.specs.Sample.{Sample}
use Rattle.pivot_model.specs.declared.direction.Direction.{Direction}
use Rattle.pivot_model.specs.Basis.{IsBasis}
use Rattle.pivot_model.specs.Trails.{EndsAt}
use Rattle.walk_model.specs.Walks.{IsFirstMover, AreExchanged}
use Rattle.walk_model.proofs.NextRows as any

module _ (p : Sample) (at next : ℕ → ℕ) (a : ℕ → ℕ → ℚ) (j r : ℕ) (d : Direction) (basis : IsBasis p at a) (lj : j < p.columns)
    (first : IsFirstMover p at a j d r) (ex : AreExchanged p.columns at next j r) where
  pub next_basis : IsBasis p next (exchanged p.columns a j (p.x r))
  next_basis = any.next_basis p at next a j r d basis lj first.row first.mover ex

  -- the inverse stays 0 outside its columns and positions
  pub next_ends : EndsAt p.columns a → EndsAt p.columns (exchanged p.columns a j (p.x r))
  next_ends = any.next_ends p at next a j r d basis lj first.row first.mover ex
