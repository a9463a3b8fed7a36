-- Law. What the laws of the pivot rule say; each is a clause of a function (Barrodale and Roberts 1973).
use Rattle.std.specs.Prelude.{◌≡◌, ◌≢◌, ℕ, suc, ◌<◌, ◌≤◌, true, List, length, map, slice_index, if◌then◌else◌, pos}
use Rattle.rational_laws.specs.Fraction.{Fraction, rational}
use Rattle.rational_laws.specs.Rational.{ℚ, ◌+ℚ◌, ◌-ℚ◌, ◌*ℚ◌, inverse, whole, ◌≤ℚ◌}
use Rattle.rational_laws.specs.RationalSums.{sum_ℚ}
use Rattle.rational_laws.specs.Exchange.{exchanged}
use Rattle.rational_laws.specs.Selections.{is_among, AreDistinct}
use Rattle.loss_model.specs.declared.problem.Problem.{Problem}
use Rattle.loss_model.specs.declared.process.Exchange.{Exchange}
use Rattle.loss_model.specs.declared.process.Trail.{Trail}
use Rattle.loss_model.specs.declared.vertex.Vertex.{Vertex}
use Rattle.loss_model.specs.Sample.{Sample, loss}
use Rattle.loss_model.specs.Dual.{IsDual}
use Rattle.loss_model.specs.FullRank.{HasFullRank}
use Rattle.loss_model.specs.Problem.{number_at, sample}
use Rattle.loss_model.specs.Vertex.{dual_value}
use Rattle.basis_model.specs.Perturbed.{IsOutside, perturbed}
use Rattle.pivot_model.specs.declared.direction.Direction.{Direction}
use Rattle.basis_model.specs.Basis.{IsBasis, coord, coefficient, outside_row}
use Rattle.basis_model.specs.PerturbedLoss.{perturbed_loss, change_list, perturbed_coefficient}
use Rattle.pivot_model.specs.Duals.{HasCosts, dual}
use Rattle.pivot_model.specs.Responses.{residual_for, response, exchanged_rows}
use Rattle.pivot_model.specs.Steps.{slope, HasNoNegativeSlope, moves, is_before, passing, slope_before, IsSolvingStep}
use Rattle.pivot_model.specs.Results.{IsVertexAt, AreBasicDuals}
use Rattle.pivot_model.specs.Trails.{EndsAt, IsSolvingTrail, IsOptimalBasis, ReachesLimit}

-- the dual values of a basis without a negative slope are feasible and of equal cost
abbrev pub StopIsOptimal : Type 0
StopIsOptimal =
    (p : Sample) (at : ℕ → ℕ) (a : ℕ → ℕ → ℚ) (theta : ℚ) → IsBasis p at a → HasCosts p theta
    → HasNoNegativeSlope p at a theta → IsDual p theta (coefficient p at a) (dual p at a theta)

-- after all rows that move towards 0 the slope is not negative, so one of them enters
abbrev pub SomeRowEnters : Type 0
SomeRowEnters =
    (p : Sample) (at : ℕ → ℕ) (a : ℕ → ℕ → ℚ) (theta : ℚ) (j : ℕ) (d : Direction) → IsBasis p at a
    → HasCosts p theta → j < p.columns
    → whole (pos 0) ≤ℚ (slope p at a theta j d
    +ℚ sum_ℚ p.rows (λ i. if moves p at a j d i then passing p at a theta j i else whole (pos 0)))

-- where the first k rows of an order are those that move and come before row r, the slope before r
-- has their terms, in that order
abbrev pub RowsPassInOrder : Type 0
RowsPassInOrder =
    (p : Sample) (at : ℕ → ℕ) (a : ℕ → ℕ → ℚ) (theta : ℚ) (j : ℕ) (d : Direction) (order : ℕ → ℕ) (k r : ℕ)
    → AreDistinct order k p.rows
    → ((t : ℕ) → t < k → (moves p at a j d (order t) ≡ true) × (is_before p at a j (order t) r ≡ true))
    → ((i : ℕ) → i < p.rows → moves p at a j d i ≡ true → is_before p at a j i r ≡ true → is_among order k i ≡ true)
    → slope_before p at a theta j d r ≡ slope p at a theta j d +ℚ sum_ℚ k (λ t. passing p at a theta j (order t))

-- at a basis there is one solving step at most
abbrev pub StepIsUnique : Type 0
StepIsUnique =
    (p : Sample) (at : ℕ → ℕ) (a b : ℕ → ℕ → ℚ) (theta : ℚ) (j r k s : ℕ) → IsBasis p at a → IsBasis p at b
    → EndsAt p.columns a → EndsAt p.columns b → HasCosts p theta → IsSolvingStep p at a theta j r → IsSolvingStep p at b theta k s → (j ≡ k) × (r ≡ s)

-- and none where no slope is negative
abbrev pub StopHasNoStep : Type 0
StopHasNoStep =
    (p : Sample) (at : ℕ → ℕ) (a b : ℕ → ℕ → ℚ) (theta : ℚ) (j r : ℕ) → IsBasis p at a → IsBasis p at b
    → EndsAt p.columns a → EndsAt p.columns b → HasNoNegativeSlope p at a theta → ¬ IsSolvingStep p at b theta j r

-- so a lawful trail that has come to an optimal basis within a limit excludes one that goes on
abbrev pub TrailIsUnique : Type 0
TrailIsUnique =
    (p : Sample) (theta : ℚ) (trail other : Trail) (basis : List ℕ) (limit : ℕ) → HasCosts p theta
    → IsSolvingTrail p theta trail basis → IsOptimalBasis p theta basis → length trail.steps ≤ limit
    → ¬ ReachesLimit p theta limit other

-- the numbers of a list
abbrev pub numbers : List Fraction → List ℚ
numbers xs = map rational xs

-- a step by its numbers
abbrev pub step_of : Exchange → ℚ × ℕ × ℕ
step_of s = (rational s.theta, s.position, s.row)

-- two trails have the same rows and numbers
pub record IsSameTrail (trail other : Trail) : Type 0 where
  pub start : trail.start ≡ other.start
  pub steps : map step_of trail.steps ≡ map step_of other.steps
  pub rise : map step_of trail.rise ≡ map step_of other.rise
  pub fall : map step_of trail.fall ≡ map step_of other.fall

-- two vertices have the same rows, sides and numbers
pub record IsSameVertex (v w : Vertex) : Type 0 where
  pub basis : v.basis ≡ w.basis
  pub sides : v.sides ≡ w.sides
  pub coef : numbers v.coef ≡ numbers w.coef

-- and two lawful trails that have each come to an optimal basis are one, and so are their bases
abbrev pub EndedTrailIsUnique : Type 0
EndedTrailIsUnique =
    (p : Sample) (theta : ℚ) (trail other : Trail) (basis last : List ℕ) → HasCosts p theta
    → IsSolvingTrail p theta trail basis → IsOptimalBasis p theta basis
    → IsSolvingTrail p theta other last → IsOptimalBasis p theta last
    → IsSameTrail trail other × (basis ≡ last)

-- in an exchange every residual, for any responses, changes by a multiple of that of the row that enters
abbrev pub ExchangeChangesResiduals : Type 0
ExchangeChangesResiduals =
    (p : Sample) (at : ℕ → ℕ) (a : ℕ → ℕ → ℚ) (j r : ℕ) (v : ℕ → ℚ) (i : ℕ) → j < p.columns
    → coord p a r j ≢ whole (pos 0)
    → residual_for p (exchanged_rows at j r) (exchanged p.columns a j (p.x r)) v i
    ≡ residual_for p at a v i -ℚ ((coord p a i j *ℚ inverse (coord p a r j)) *ℚ residual_for p at a v r)

-- and the entries of a perturbed residual are such residuals
abbrev pub PerturbedIsResiduals : Type 0
PerturbedIsResiduals =
    (p : Sample) (at : ℕ → ℕ) (a : ℕ → ℕ → ℚ) (i m : ℕ) → IsOutside p.columns at i
    → perturbed p.columns at (outside_row p at a i) m ≡ residual_for p at a (response p m) i

-- a basis shows full rank
abbrev pub BasisHasFullRank : Type 0
BasisHasFullRank = (p : Sample) (at : ℕ → ℕ) (a : ℕ → ℕ → ℚ) → IsBasis p at a → HasFullRank p

-- the vertex of a basis without a negative slope, with the dual values of its basic rows, is optimal
abbrev pub VertexIsOptimal : {F : Type 0} → (F → Fraction) → Problem F → Type 0
VertexIsOptimal {F} value p =
    (theta : ℚ) (basis : List ℕ) (a : ℕ → ℕ → ℚ) (v : Vertex) (basic : List Fraction) → length basis ≡ p.columns
    → IsBasis (sample value p) (slice_index basis) a → IsVertexAt value p basis a v
    → AreBasicDuals value p theta basis a v basic → HasCosts (sample value p) theta
    → HasNoNegativeSlope (sample value p) (slice_index basis) a theta
    → IsDual (sample value p) theta (number_at v.coef) (dual_value value p v basic theta)

-- at a basis stands one vertex, and one list of the dual values of its rows
abbrev pub VertexIsUnique : {F : Type 0} → (F → Fraction) → Problem F → Type 0
VertexIsUnique {F} value p =
    (theta : ℚ) (basis : List ℕ) (a b : ℕ → ℕ → ℚ) (v w : Vertex) (basic other : List Fraction)
    → IsBasis (sample value p) (slice_index basis) a → IsBasis (sample value p) (slice_index basis) b
    → EndsAt p.columns a → EndsAt p.columns b
    → IsVertexAt value p basis a v → IsVertexAt value p basis b w
    → AreBasicDuals value p theta basis a v basic → AreBasicDuals value p theta basis b w other
    → IsSameVertex v w × (numbers basic ≡ numbers other)

-- the perturbed loss begins with the loss of the coefficients
abbrev pub PerturbedLossBegins : Type 0
PerturbedLossBegins =
    (p : Sample) (at : ℕ → ℕ) (a : ℕ → ℕ → ℚ) (theta : ℚ) → IsBasis p at a
    → perturbed_loss p at a theta 0 ≡ loss p theta (coefficient p at a)

-- and changes with theta by its change list, entry by entry
abbrev pub ChangeListIsChange : Type 0
ChangeListIsChange =
    (p : Sample) (at : ℕ → ℕ) (a : ℕ → ℕ → ℚ) (theta step : ℚ) (m : ℕ)
    → perturbed_loss p at a (theta +ℚ step) m ≡ perturbed_loss p at a theta m +ℚ (step *ℚ change_list p at a m)

-- the perturbed coefficient begins with the coefficient, and in the entry of a row that stands at a position has the inverse's entry there
abbrev pub PerturbedCoefficientIsInverse : Type 0
PerturbedCoefficientIsInverse =
    (p : Sample) (at : ℕ → ℕ) (a : ℕ → ℕ → ℚ) (k j : ℕ) → IsBasis p at a → j < p.columns
    → (perturbed_coefficient p at a k 0 ≡ coefficient p at a k)
    × (perturbed_coefficient p at a k (suc (at j)) ≡ a k j)
