-- Inner. A solve over a tableau: in its midst, at its end, and why it halts.
use Rattle.std.specs.Prelude.{◌≡◌, ◌+◌, ◌≤◌, ℕ, Bool, true, false, length, Option, Some, None}
use Rattle.rational_laws.specs.Fraction.{Fraction}
use Rattle.rational_laws.specs.Rational.{ℚ}
use Rattle.loss_model.specs.declared.process.Exchange.{Exchange}
use Rattle.loss_model.specs.declared.process.Trail.{Trail}
use Rattle.loss_model.specs.declared.stop.Stop.{Stop}
use Rattle.loss_model.specs.declared.stop.Stop.TheVariants.{OutOfMemory as StopForMemory, PivotLimit as StopAtLimit, Overflow as StopByOverflow}
use Rattle.loss_model.specs.Problem.{sample}
use Rattle.pivot_model.specs.Trails.{IsSolvingTrail, ReachesLimit}
use Rattle.tableau_model.specs.declared.answer.Step.{Step}
use Rattle.tableau_model.specs.declared.refusal.Refusal.{Refusal}
use Rattle.tableau_model.specs.declared.refusal.Refusal.TheVariants.{Overflow, TooWide}
use Rattle.tableau_model.specs.declared.refusal.Failure.{Failure}
use Rattle.tableau_model.specs.declared.refusal.Failure.TheVariants.{OutOfMemory as NoMemory, Of}
use Rattle.tableau_model.specs.Places.{Place, Task, IsPlace, sample_of}
use Rattle.tableau_model.specs.Questions.{Question, solving}
use Rattle.tableau_model.specs.Refusals.{IsRefusalAt}
use Rattle.tableau_model.specs.Answers.{IsOptimalAt, IsFitted}
use Rattle.tableau.specs.declared.solving.Progress.{Progress}
use Rattle.tableau.specs.declared.solving.Solution.{Solution}
use Rattle.tableau.specs.declared.solving.Halt.{Halt}
use Rattle.tableau.specs.declared.solving.Halt.TheVariants.{OutOfMemory, PivotLimit, Refused as Halted}
use Rattle.tableau.specs.Bodies.{place_of}

-- the step at theta as a trail has it
abbrev pub exchange_at : Fraction → Step → Exchange
exchange_at theta s = record { theta = theta; position = s.position; row = s.row }

-- the halt that a refusal makes of a trail
abbrev pub IsHaltOf : {F : Type 0} → Failure F → Trail → Halt F → Type 0
IsHaltOf NoMemory trail halt = halt ≡ OutOfMemory
IsHaltOf (Of r) trail halt = halt ≡ Halted trail r

-- the stop of a job with this limit that a halt makes, where whole numbers aren't too wide
abbrev pub stop_of : {F : Type 0} → ℕ → Halt F → Option (Stop F)
stop_of limit OutOfMemory = Some StopForMemory
stop_of limit (PivotLimit trail) = Some (StopAtLimit limit trail)
stop_of limit (Halted trail (Overflow spill)) = Some (StopByOverflow trail spill)
stop_of limit (Halted trail TooWide) = None

module _ {F : Type 0} (value : F → Fraction) where
  -- a refusal of the question at the place, after which the trail is as before
  pub record IsRefusal (range : ℕ) (h : Place F) (asked : Question) (before after : Trail) (r : Refusal F) : Type 0 where
    pub kept : after ≡ before
    pub refusal : IsRefusalAt value range h asked r

  -- the trail is lawful at theta, and leads to the basis of the tableau
  pub record IsUnderway (theta : ℚ) (u : Progress F) : Type 0 where
    pub is_place : IsPlace value (place_of value u.tableau)
    pub lawful : IsSolvingTrail (sample_of value (place_of value u.tableau)) theta u.trail (place_of value u.tableau).rows

  -- the start of the task, before any step
  pub record IsBegun (task : Task F) (u : Progress F) : Type 0 where
    pub same : (place_of value u.tableau).task ≡ task
    pub underway : (theta : ℚ) → IsUnderway theta u
    pub none : length u.trail.steps ≡ 0

  -- one more step is made
  pub record IsAdvance (theta : ℚ) (before after : Progress F) : Type 0 where
    pub underway : IsUnderway theta after
    pub same : (place_of value after.tableau).task ≡ (place_of value before.tableau).task
    pub one_more : length after.trail.steps ≡ length before.trail.steps + 1

  -- one more is made, or none is left
  abbrev pub IsAdvanceOrEnd : ℚ → Progress F → Progress F → Bool → Type 0
  IsAdvanceOrEnd theta before after true = IsAdvance theta before after
  IsAdvanceOrEnd theta before after false = (after ≡ before) × IsOptimalAt value (place_of value before.tableau) theta

  -- the trail is lawful, within the limit, and leads to a basis of the task at which no slope is negative
  pub record IsSolved (task : Task F) (theta : ℚ) (limit : ℕ) (u : Progress F) : Type 0 where
    pub same : (place_of value u.tableau).task ≡ task
    pub underway : IsUnderway theta u
    pub stop : IsOptimalAt value (place_of value u.tableau) theta
    pub short : length u.trail.steps ≤ limit

  -- with the vertex of this basis
  pub record IsSolution (task : Task F) (theta : ℚ) (limit : ℕ) (s : Solution F) : Type 0 where
    pub solved : IsSolved task theta limit s.reached
    pub fitted : IsFitted value (place_of value s.reached.tableau) theta s.fitted

  -- a lawful trail within the limit leads to a place of the task at which the question is refused
  pub record IsRefusedAfter (range : ℕ) (task : Task F) (theta : ℚ) (limit : ℕ) (trail : Trail) (r : Refusal F) : Type 0 where
    pub here : Place F
    pub same : here.task ≡ task
    pub is_place : IsPlace value here
    pub lawful : IsSolvingTrail (sample_of value here) theta trail here.rows
    pub short : length trail.steps ≤ limit
    pub refusal : IsRefusalAt value range here (solving theta) r

  -- why a solve halts: want of memory is free of a cause
  abbrev pub IsHalted : ℕ → Task F → ℚ → ℕ → Halt F → Type 0
  IsHalted range task theta limit OutOfMemory = Unit {0}
  IsHalted range task theta limit (PivotLimit trail) = ReachesLimit (sample value task.problem) theta limit trail
  IsHalted range task theta limit (Halted trail r) = IsRefusedAfter range task theta limit trail r
