-- Stated. The steps of a walk (Koenker and d'Orey 1987, AS 229): where the next breakpoint is, which row
-- leaves there, and which row takes its place.
use Rattle.std.specs.Prelude.{◌≡◌, ◌≢◌, ℕ, ◌⊎◌, ◌<◌, Bool, true, false, pos}
use Rattle.rational_laws.specs.Rational.{ℚ, neg_ℚ, whole, ◌≤ℚ◌}
use Rattle.loss_model.specs.declared.vertex.Side.{Side}
use Rattle.loss_model.specs.declared.vertex.Side.TheVariants.{Up, Down}
use Rattle.loss_model.specs.Sample.{Sample}
use Rattle.pivot_model.specs.declared.direction.Direction.{Direction}
use Rattle.pivot_model.specs.declared.direction.Direction.TheVariants.{Upward, Downward}
use Rattle.pivot_model.specs.Basis.{IsBasis}
use Rattle.pivot_model.specs.Duals.{◌<ℚ◌}
use Rattle.pivot_model.specs.Steps.{moves, is_before}
use Rattle.pivot_model.specs.Responses.{exchanged_rows}
use Rattle.walk_model.specs.Families.{Family, slope_in}

-- row r is the first to enter where position j leaves in direction d: of the rows that move towards 0
-- it has the least perturbed ratio
pub record IsFirstMover (p : Sample) (at : ℕ → ℕ) (a : ℕ → ℕ → ℚ) (j : ℕ) (d : Direction) (r : ℕ) : Type 0 where
  pub row : r < p.rows
  pub mover : moves p at a j d r ≡ true
  pub least : (i : ℕ) → i < p.rows → moves p at a j d i ≡ true → i ≢ r → is_before p at a j r i ≡ true

-- the side to which the row that leaves goes
abbrev pub side_towards : Direction → Side
side_towards Upward = Up
side_towards Downward = Down

-- what a gain on the bound in a direction adds to the slope
abbrev pub slope_change : Direction → ℚ → ℚ
slope_change Upward gain = neg_ℚ gain
slope_change Downward gain = gain

-- the rows at the n positions, after row r has taken position j
abbrev pub AreExchanged : ℕ → (ℕ → ℕ) → (ℕ → ℕ) → ℕ → ℕ → Type 0
AreExchanged n at next j r = (k : ℕ) → k < n → next k ≡ exchanged_rows at j r k

-- two bases of a walk meet: row r, the first that moves, takes position j, which leaves in direction d
pub record IsJoint (p : Sample) (at next : ℕ → ℕ) (a b : ℕ → ℕ → ℚ) (j r : ℕ) (d : Direction) : Type 0 where
  pub before : IsBasis p at a
  pub after : IsBasis p next b
  pub exchanged : AreExchanged p.columns at next j r
  pub position : j < p.columns
  pub first : IsFirstMover p at a j d r

module _ (f : Family) (at : ℕ → ℕ) (a : ℕ → ℕ → ℚ) where
  -- the dual value at position j meets its bound in direction d at t, and is beyond it at every later
  -- value of the parameter
  pub record Crosses (t : ℚ) (j : ℕ) (d : Direction) : Type 0 where
    pub meets : slope_in f at a t j d ≡ whole (pos 0)
    pub beyond : (later : ℚ) → t <ℚ later → slope_in f at a later j d <ℚ whole (pos 0)

  -- no dual value meets a bound that it passes beyond, from one value of the parameter on and before another
  abbrev pub HasNoBreak : ℚ → ℚ → Type 0
  HasNoBreak from to = (t : ℚ) (j : ℕ) (d : Direction) → j < f.sample.columns → from ≤ℚ t → t <ℚ to → ¬ Crosses t j d

  -- from `from` on the next breakpoint is t, where position j leaves in direction d: the least value
  -- at which one crosses, and the least position that does so there
  pub record IsNextBreak (from t : ℚ) (j : ℕ) (d : Direction) : Type 0 where
    pub position : j < f.sample.columns
    pub after : from ≤ℚ t
    pub crosses : Crosses t j d
    pub least : (u : ℚ) (k : ℕ) (e : Direction) → k < f.sample.columns → from ≤ℚ u → Crosses u k e → t ≤ℚ u
    pub first : (k : ℕ) (e : Direction) → k < j → ¬ Crosses t k e

  -- at t position j leaves and row r enters; `reach` tests whether the walk goes that far
  pub record IsWalkingStep (reach : ℚ → Bool) (from t : ℚ) (j r : ℕ) : Type 0 where
    pub direction : Direction
    pub break : IsNextBreak from t j direction
    pub within : reach t ≡ true
    pub entering : IsFirstMover f.sample at a j direction r

  -- the walk ends before the next breakpoint: it is out of reach, or no row moves towards 0 there
  abbrev pub IsEndOf : (ℚ → Bool) → ℚ → Type 0
  IsEndOf reach from =
      (t : ℚ) × (j : ℕ) × (d : Direction) × IsNextBreak from t j d
      × ((reach t ≡ false) ⊎ ((i : ℕ) → i < f.sample.rows → moves f.sample at a j d i ≡ false))
