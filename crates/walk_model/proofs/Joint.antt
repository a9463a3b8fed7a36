-- The sides of the rows after the first row that moves has entered: no other row changes its side.
use Rattle.std.specs.Prelude.{◌≡◌, ◌≢◌, ℕ, suc, ◌<◌, true, false, pos}
use Rattle.std.specs.declared.cmp.Ordering.TheVariants.{Greater}
use Rattle.rational_laws.specs.Rational.{ℚ, ◌*ℚ◌, neg_ℚ, inverse, whole}
use Rattle.loss_model.specs.Sample.{Sample}
use Rattle.pivot_model.specs.Lexicographic.{lex_cmp}
use Rattle.pivot_model.specs.Perturbed.{perturbed, zeros}
use Rattle.pivot_model.specs.declared.direction.Direction.{Direction}
use Rattle.pivot_model.specs.Basis.{IsBasis, coord, outside_row, side_at}
use Rattle.pivot_model.specs.Steps.{change}
use Rattle.pivot_model.proofs.Bounds.{is_basic}
use Rattle.walk_model.specs.Walks.{IsFirstMover, side_towards, AreExchanged}
use Rattle.walk_model.proofs.Moved as any
use Rattle.walk_model.proofs.Moved.{ratios}

module _ (p : Sample) (at : ℕ → ℕ) (a : ℕ → ℕ → ℚ) (basis : IsBasis p at a) (j : ℕ) (d : Direction) (r : ℕ) (first : IsFirstMover p at a j d r) where
  pub out_r : is_basic p at a r ≡ false
  out_r = any.out_r p at a basis j d r first.row first.mover

  pub some : coord p a r j ≢ whole (pos 0)
  some = any.some p at a basis j d r first.row first.mover

  -- its perturbed ratio is positive
  pub ratio_positive : lex_cmp (suc p.rows) (ratios p at a basis j d r) zeros ≡ Greater
  ratio_positive = any.ratio_positive p at a basis j d r first.row first.mover

  -- its perturbed residual over its change is the negated ratio
  pub ratio_is : (m : ℕ) → ratios p at a basis j d r m ≡ neg_ℚ (perturbed p.columns at (outside_row p at a r) m *ℚ inverse (change p at a j d r))
  ratio_is = any.ratio_is p at a basis j d r first.row first.mover

  module _ (next : ℕ → ℕ) (b : ℕ → ℕ → ℚ) (after : IsBasis p next b) (ex : AreExchanged p.columns at next j r) (lj : j < p.columns) where
    pub next_same : next j ≡ r
    next_same = any.next_same p at a basis j d r first.row first.mover next b after ex lj

    pub side_left : side_at p next b (at j) ≡ side_towards d
    side_left = any.side_left p at a basis j d r first.row first.mover next b after ex lj

    -- a row that stays in the basis is in it
    pub stays_in : (i : ℕ) → is_basic p at a i ≡ true → i ≢ at j → is_basic p next b i ≡ true
    stays_in = any.stays_in p at a basis j d r first.row first.mover next b after ex lj

    pub sides_stay : (i : ℕ) → i < p.rows → i ≢ r → i ≢ at j → side_at p next b i ≡ side_at p at a i
    sides_stay i li other left = any.sides_stay p at a basis j d r first.row first.mover next b after ex lj i li other left (λ mover. first.least i li mover other)
