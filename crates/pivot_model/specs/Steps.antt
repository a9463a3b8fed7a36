-- Stated. The pivot at one quantile: the row that leaves and the row that enters, by the quantities at a basis
-- (Barrodale and Roberts 1973; Koenker and d'Orey 1987).
use Rattle.std.specs.Prelude.{◌≡◌, ℕ, suc, ◌<◌, Bool, true, false, ◌&&◌, if◌then◌else◌, pos}
use Rattle.std.specs.Ordering.{is_lt, is_gt}
use Rattle.rational_laws.specs.Rational.{ℚ, ◌+ℚ◌, ◌-ℚ◌, ◌*ℚ◌, neg_ℚ, whole, ◌≤ℚ◌}
use Rattle.rational_laws.specs.RationalSums.{sum_ℚ}
use Rattle.rational_laws.specs.Order.{cmp_ℚ}
use Rattle.loss_model.specs.declared.vertex.Side.{Side}
use Rattle.loss_model.specs.declared.vertex.Side.TheVariants.{Up, Down, Basic}
use Rattle.loss_model.specs.Sample.{Sample, up_cost, down_cost}
use Rattle.loss_model.specs.Spill.{abs_ℚ}
use Rattle.basis_model.specs.Lexicographic.{lex_cmp}
use Rattle.basis_model.specs.Perturbed.{ratio}
use Rattle.pivot_model.specs.declared.direction.Direction.{Direction}
use Rattle.pivot_model.specs.declared.direction.Direction.TheVariants.{Upward, Downward}
use Rattle.basis_model.specs.Basis.{coord, outside_row, side_at, dual_value}
use Rattle.pivot_model.specs.Duals.{◌<ℚ◌}

-- a change takes a residual on this side towards 0
abbrev pub is_towards : Side → ℚ → Bool
is_towards Up change = is_lt (cmp_ℚ change (whole (pos 0)))
is_towards Down change = is_gt (cmp_ℚ change (whole (pos 0)))
is_towards Basic change = false

module _ (p : Sample) (at : ℕ → ℕ) (a : ℕ → ℕ → ℚ) where
  -- how the loss changes as the residual of the row at position j moves away from 0
  abbrev pub slope : ℚ → ℕ → Direction → ℚ
  slope theta j Upward = up_cost p theta (at j) -ℚ dual_value p at a theta j
  slope theta j Downward = down_cost p theta (at j) +ℚ dual_value p at a theta j

  -- the loss falls in no direction
  abbrev pub HasNoNegativeSlope : ℚ → Type 0
  HasNoNegativeSlope theta =
      (j : ℕ) (d : Direction) → j < p.columns → whole (pos 0) ≤ℚ slope theta j d

  -- how the residual of row i changes as that of the row at position j moves by 1
  abbrev pub change : ℕ → Direction → ℕ → ℚ
  change j Upward i = coord p a i j
  change j Downward i = neg_ℚ (coord p a i j)

  -- the residual of row i moves towards 0
  abbrev pub moves : ℕ → Direction → ℕ → Bool
  moves j d i = is_towards (side_at p at a i) (change j d i)

  -- the perturbed ratio of row i at position j is less than that of row r
  abbrev pub is_before : ℕ → ℕ → ℕ → Bool
  is_before j i r =
      is_lt (lex_cmp (suc p.rows) (ratio p.rows p.columns at j (outside_row p at a i))
      (ratio p.rows p.columns at j (outside_row p at a r)))

  -- what passing row i adds to the slope at position j
  abbrev pub passing : ℚ → ℕ → ℕ → ℚ
  passing theta j i = abs_ℚ (coord p a i j) *ℚ (up_cost p theta i +ℚ down_cost p theta i)

  -- the slope at position j after all rows of lesser perturbed ratio than row r are passed
  abbrev pub slope_before : ℚ → ℕ → Direction → ℕ → ℚ
  slope_before theta j d r =
      slope theta j d
      +ℚ sum_ℚ p.rows (λ i. if moves j d i && is_before j i r then passing theta j i else whole (pos 0))

  -- position j leaves in direction d: its slope is negative, and is the least of all, the first of
  -- its kind
  pub record IsLeaving (theta : ℚ) (j : ℕ) (d : Direction) : Type 0 where
    pub position : j < p.columns
    pub negative : slope theta j d <ℚ whole (pos 0)
    pub least : (k : ℕ) (e : Direction) → k < p.columns → slope theta j d ≤ℚ slope theta k e
    pub first : (k : ℕ) (e : Direction) → k < j → slope theta j d <ℚ slope theta k e

  -- row r enters: its residual moves towards 0, and passing it takes the slope from below 0
  pub record IsEntering (theta : ℚ) (j : ℕ) (d : Direction) (r : ℕ) : Type 0 where
    pub row : r < p.rows
    pub mover : moves j d r ≡ true
    pub still : slope_before theta j d r <ℚ whole (pos 0)
    pub turned : whole (pos 0) ≤ℚ (slope_before theta j d r +ℚ passing theta j r)

  -- position j leaves and row r enters
  pub record IsSolvingStep (theta : ℚ) (j r : ℕ) : Type 0 where
    pub direction : Direction
    pub leaving : IsLeaving theta j direction
    pub entering : IsEntering theta j direction r
