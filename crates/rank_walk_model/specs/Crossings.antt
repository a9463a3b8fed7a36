-- Stated. Breakpoints of the walks of an interval by what the column is to weigh, s, as they are computed.
use Rattle.std.specs.Prelude.{◌≡◌, ◌↔◌, ℕ, ◌<◌, pos}
use Rattle.rational_laws.specs.Rational.{ℚ, ◌-ℚ◌, ◌*ℚ◌, neg_ℚ, inverse, whole}
use Rattle.loss_model.specs.Sample.{Sample, up_cost, down_cost}
use Rattle.pivot_model.specs.declared.direction.Direction.{Direction}
use Rattle.pivot_model.specs.declared.direction.Direction.TheVariants.{Upward, Downward}
use Rattle.basis_model.specs.Basis.{dual_value}
use Rattle.walk_model.specs.Walks.{Crosses}
use Rattle.loss_model.specs.Strict.{◌<ℚ◌}
use Rattle.rank_walk_model.specs.RankWalks.{Way, rise, fall, tested}

-- the parameter of the walk at s, which falls from 0 as the tested value rises, and rises from 0 as it falls
abbrev pub parameter_of : Way → ℚ → ℚ
parameter_of rise s = neg_ℚ s
parameter_of fall s = s

-- the bound of the dual value of row i in a direction
abbrev pub bound_towards : Sample → ℚ → ℕ → Direction → ℚ
bound_towards p tau i Upward = up_cost p tau i
bound_towards p tau i Downward = neg_ℚ (down_cost p tau i)

-- by this entry of the inverse a dual value moves in a direction
abbrev pub IsMoving : Way → Direction → ℚ → Type 0
IsMoving rise Upward entry = entry <ℚ whole (pos 0)
IsMoving rise Downward entry = whole (pos 0) <ℚ entry
IsMoving fall Upward entry = whole (pos 0) <ℚ entry
IsMoving fall Downward entry = entry <ℚ whole (pos 0)

-- the dual value at position k meets its bound where s is the bound less the dual value at tau, over
-- the inverse's entry of the column
abbrev pub CrossingByEntry : Type 0
CrossingByEntry =
    (way : Way) (p : Sample) (j : ℕ) (tau : ℚ) (at : ℕ → ℕ) (a : ℕ → ℕ → ℚ) (s : ℚ) (k : ℕ) (d : Direction) → j < p.columns
    → Crosses (tested way p tau j) at a (parameter_of way s) k d
    ↔ (IsMoving way d (a j k) × (s ≡ (bound_towards p tau (at k) d -ℚ dual_value p at a tau k) *ℚ inverse (a j k)))
