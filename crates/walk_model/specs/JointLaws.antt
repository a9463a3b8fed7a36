-- Law. The joint of two bases in a walk: what an exchange leaves, and what it keeps where the first row that
-- moves has entered.
use Rattle.std.specs.Prelude.{◌≡◌, ◌≢◌, ℕ, ◌<◌, List, length, slice_index, slice_set, pos}
use Rattle.rational_laws.specs.Rational.{ℚ, ◌+ℚ◌, ◌-ℚ◌, ◌*ℚ◌, inverse, whole}
use Rattle.rational_laws.specs.Exchange.{exchanged}
use Rattle.loss_model.specs.Sample.{Sample, residual}
use Rattle.loss_model.specs.Complements.{IsComplementary}
use Rattle.pivot_model.specs.Part.{Part}
use Rattle.pivot_model.specs.Basis.{IsBasis, coord, coefficient, bound_part, nonbasic_total, side_at}
use Rattle.pivot_model.specs.declared.direction.Direction.{Direction}
use Rattle.pivot_model.specs.Duals.{HasCosts}
use Rattle.pivot_model.specs.Trails.{EndsAt}
use Rattle.walk_model.specs.Families.{Family, theta_of, IsFeasibleIn, dual_in, slope_in, IsOptimalIn}
use Rattle.walk_model.specs.Walks.{IsFirstMover, side_towards, AreExchanged, IsJoint}

-- in a list of rows by position an exchange is a new item
abbrev pub ListIsExchanged : Type 0
ListIsExchanged =
    (basis : List ℕ) (j r : ℕ) → AreExchanged (length basis) (slice_index basis) (slice_index (slice_set basis j r)) j r

-- where the first row that moves has entered there is a basis, with the inverse of the exchange
abbrev pub NextIsBasis : Type 0
NextIsBasis =
    (p : Sample) (at next : ℕ → ℕ) (a : ℕ → ℕ → ℚ) (j r : ℕ) (d : Direction) → IsBasis p at a → j < p.columns
    → IsFirstMover p at a j d r → AreExchanged p.columns at next j r
    → IsBasis p next (exchanged p.columns a j (p.x r)) × (EndsAt p.columns a → EndsAt p.columns (exchanged p.columns a j (p.x r)))

-- the rows that stay outside keep their sides, and the row that leaves has the side of its direction
abbrev pub SidesStay : Type 0
SidesStay =
    (p : Sample) (at next : ℕ → ℕ) (a b : ℕ → ℕ → ℚ) (j r : ℕ) (d : Direction) → IsJoint p at next a b j r d
    → ((i : ℕ) → i < p.rows → i ≢ r → i ≢ at j → side_at p next b i ≡ side_at p at a i)
    × (side_at p next b (at j) ≡ side_towards d)

-- where the slope of the position is 0, every dual value stays
abbrev pub DualsStay : Type 0
DualsStay =
    (f : Family) (at next : ℕ → ℕ) (a b : ℕ → ℕ → ℚ) (t : ℚ) (j r : ℕ) (d : Direction) → IsJoint f.sample at next a b j r d
    → slope_in f at a t j d ≡ whole (pos 0)
    → (i : ℕ) → i < f.sample.rows → dual_in f next b t i ≡ dual_in f at a t i

-- so the new basis is optimal there where the old one is
abbrev pub OptimalStays : Type 0
OptimalStays =
    (f : Family) (at next : ℕ → ℕ) (a b : ℕ → ℕ → ℚ) (t : ℚ) (j r : ℕ) (d : Direction) → IsJoint f.sample at next a b j r d
    → slope_in f at a t j d ≡ whole (pos 0) → HasCosts f.sample (theta_of f t) → IsOptimalIn f at a t → IsOptimalIn f next b t

-- the dual values of an optimal basis are feasible, and complement its coefficients
abbrev pub BasisComplements : Type 0
BasisComplements =
    (f : Family) (at : ℕ → ℕ) (a : ℕ → ℕ → ℚ) (t : ℚ) → IsBasis f.sample at a → HasCosts f.sample (theta_of f t) → IsOptimalIn f at a t
    → IsFeasibleIn f t (dual_in f at a t) × IsComplementary f.sample (theta_of f t) (residual f.sample (coefficient f.sample at a)) (dual_in f at a t)

-- those of a joint complement the coefficients before and after
abbrev pub JointComplementsBoth : Type 0
JointComplementsBoth =
    (f : Family) (at next : ℕ → ℕ) (a b : ℕ → ℕ → ℚ) (t : ℚ) (j r : ℕ) (d : Direction) → IsJoint f.sample at next a b j r d
    → slope_in f at a t j d ≡ whole (pos 0)
    → IsComplementary f.sample (theta_of f t) (residual f.sample (coefficient f.sample at a)) (dual_in f at a t)
    × IsComplementary f.sample (theta_of f t) (residual f.sample (coefficient f.sample next b)) (dual_in f at a t)

-- coefficients change by a multiple of the residual of the row that enters
abbrev pub CoefficientsChange : Type 0
CoefficientsChange =
    (p : Sample) (at next : ℕ → ℕ) (a b : ℕ → ℕ → ℚ) (j r k : ℕ) → IsBasis p at a → IsBasis p next b
    → AreExchanged p.columns at next j r → j < p.columns → coord p a r j ≢ whole (pos 0) → k < p.columns
    → coefficient p next b k ≡ coefficient p at a k +ℚ ((a k j *ℚ inverse (coord p a r j)) *ℚ residual p (coefficient p at a) r)

-- residuals too, by the coordinates at the position
abbrev pub ResidualsChange : Type 0
ResidualsChange =
    (p : Sample) (at next : ℕ → ℕ) (a b : ℕ → ℕ → ℚ) (j r i : ℕ) → IsBasis p at a → IsBasis p next b
    → AreExchanged p.columns at next j r → j < p.columns → coord p a r j ≢ whole (pos 0)
    → residual p (coefficient p next b) i
    ≡ residual p (coefficient p at a) i -ℚ ((coord p a i j *ℚ inverse (coord p a r j)) *ℚ residual p (coefficient p at a) r)

-- the totals of the rows outside lose the row that enters, and gain the one that leaves
abbrev pub TotalsChange : Type 0
TotalsChange =
    (p : Sample) (at next : ℕ → ℕ) (a b : ℕ → ℕ → ℚ) (j r : ℕ) (d : Direction) (part : Part) (k : ℕ) → IsJoint p at next a b j r d
    → nonbasic_total p (side_at p next b) part k
    ≡ (nonbasic_total p (side_at p at a) part k -ℚ (p.x r k *ℚ bound_part p part r (side_at p at a r)))
    +ℚ (p.x (at j) k *ℚ bound_part p part (at j) (side_towards d))
