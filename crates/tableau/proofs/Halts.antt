-- What a refused step, and a step at the limit, say of a solve; and what a halt says of its stop.
use Rattle.std.specs.Prelude.{◌≡◌, ℕ, ◌≤◌, length, Some}
use Rattle.std.proofs.Common.{refl, sym, subst}
use Rattle.rational_laws.specs.Fraction.{Fraction}
use Rattle.rational_laws.specs.Rational.{ℚ}
use Rattle.loss_model.specs.declared.process.Trail.{Trail}
use Rattle.loss_model.specs.declared.spill.Spill.{Spill}
use Rattle.loss_model.specs.declared.stop.Stop.{Stop}
use Rattle.loss_model.specs.declared.stop.Stop.TheVariants.{OutOfMemory as StopForMemory, PivotLimit as StopAtLimit, Overflow as StopByOverflow}
use Rattle.loss_model.specs.Problem.{sample}
use Rattle.pivot_model.specs.Spills.{IsStepSpill}
use Rattle.pivot_model.specs.Steps.{IsSolvingStep}
use Rattle.pivot_model.specs.Trails.{AtBasis, IsSolvingTrail, ReachesLimit}
use Rattle.tableau_model.specs.declared.refusal.Refusal.{Refusal}
use Rattle.tableau_model.specs.declared.refusal.Refusal.TheVariants.{Overflow, TooWide}
use Rattle.tableau_model.specs.declared.refusal.Failure.{Failure}
use Rattle.tableau_model.specs.declared.refusal.Failure.TheVariants.{OutOfMemory, Of}
use Rattle.tableau_model.specs.Places.{Place, Task, IsPlace, at_of, sample_of}
use Rattle.tableau_model.specs.Questions.{Question, solving}
use Rattle.tableau_model.specs.Refusals.{IsRefusalAt, IsRefusedOf}
use Rattle.tableau.specs.declared.solving.Halt.{Halt}
use Rattle.tableau.specs.declared.solving.Halt.TheVariants.{OutOfMemory as NoMemory, PivotLimit, Refused}
use Rattle.tableau.specs.Solves.{IsSolveSpill}
use Rattle.tableau.specs.Solving.{IsRefusal, IsHaltOf, IsHalted, IsRefusedAfter, stop_of}

-- what holds of the inverse of a place holds at its basis
pub at_place : {F : Type 0} (value : F → Fraction) (h : Place F) → IsPlace value h → (Q : (ℕ → ℕ → ℚ) → Type 0) → Q h.inverse → AtBasis (sample_of value h) h.rows Q
at_place value h is_place Q holds = record { size = is_place.size; a = h.inverse; is_basis = is_place.is_basis; ends = is_place.ends; holds = holds }

-- what follows from what a body refuses follows from a refusal
pub refused_weaker : {F : Type 0} (P Q : Refusal F → Type 0) → ((r : Refusal F) → P r → Q r) → (e : Failure F) → IsRefusedOf P e → IsRefusedOf Q e
refused_weaker P Q h OutOfMemory k = tt
refused_weaker P Q h (Of r) k = h r k

-- what is refused before the trail has changed
pub refusal_kept : {F : Type 0} (value : F → Fraction) (range : ℕ) (h : Place F) (asked : Question) (trail : Trail) (e : Failure F)
    → IsRefusedOf (IsRefusalAt value range h asked) e → IsRefusedOf (IsRefusal value range h asked trail trail) e
refusal_kept value range h asked trail e k =
    refused_weaker (IsRefusalAt value range h asked) (IsRefusal value range h asked trail trail) (λ r is. record { kept = refl; refusal = is }) e k

module _ {F : Type 0} (value : F → Fraction) (range : ℕ) (task : Task F) (theta : ℚ) (limit : ℕ) (h : Place F)
    (same : h.task ≡ task) (is_place : IsPlace value h) where
  -- a refusal halts the solve
  pub refusal_halts : (before after : Trail) (e : Failure F) (halt : Halt F) → IsSolvingTrail (sample_of value h) theta before h.rows → length before.steps ≤ limit
      → IsRefusedOf (IsRefusal value range h (solving theta) before after) e → IsHaltOf e after halt → IsHalted value range task theta limit halt
  refusal_halts before after OutOfMemory halt lawful short k is = subst (IsHalted value range task theta limit) (sym is) tt
  refusal_halts before after (Of r) halt lawful short k is =
      subst (IsHalted value range task theta limit) (sym is)
      (record {
        here = h;
        same = same;
        is_place = is_place;
        lawful = subst (λ t. IsSolvingTrail (sample_of value h) theta t h.rows) (sym k.kept) lawful;
        short = subst (λ (t : Trail). length t.steps ≤ limit) (sym k.kept) short;
        refusal = k.refusal;
      })

  -- and so does a step that is left at the limit
  pub limit_reached : (trail : Trail) (j r : ℕ) → IsSolvingTrail (sample_of value h) theta trail h.rows → length trail.steps ≡ limit
      → IsSolvingStep (sample_of value h) (at_of h) h.inverse theta j r → ReachesLimit (sample value task.problem) theta limit trail
  limit_reached trail j r lawful counted step =
      subst (λ (t : Task F). ReachesLimit (sample value t.problem) theta limit trail) same
      (record {
        basis = h.rows;
        lawful = lawful;
        count = counted;
        more = at_place value h is_place (λ a. (j : ℕ) × (r : ℕ) × IsSolvingStep (sample_of value h) (at_of h) a theta j r) (j, r, step);
      })

module _ {F : Type 0} (limit : ℕ) (D : Halt F → Type 0) where
  -- what holds of the stop of a halt, by the halt's cause
  pub by_halt : (Q : Stop F → Type 0) → Q StopForMemory → ((trail : Trail) → D (PivotLimit trail) → Q (StopAtLimit limit trail))
      → ((trail : Trail) (spill : Spill F) → D (Refused trail (Overflow spill)) → Q (StopByOverflow trail spill))
      → (h : Halt F) (s : Stop F) → stop_of limit h ≡ Some s → D h → Q s
  by_halt Q memory reached spilled NoMemory s e h = let same : StopForMemory ≡ s = cc e in subst Q same memory
  by_halt Q memory reached spilled (PivotLimit trail) s e h = let same : StopAtLimit limit trail ≡ s = cc e in subst Q same (reached trail h)
  by_halt Q memory reached spilled (Refused trail (Overflow spill)) s e h = let same : StopByOverflow trail spill ≡ s = cc e in subst Q same (spilled trail spill h)
  by_halt Q memory reached spilled (Refused trail TooWide) s e h = absurd (cc e)

-- an overflow that halts a solve stops it
pub overflow_stops : {F : Type 0} (value : F → Fraction) (range : ℕ) (task : Task F) (theta : ℚ) (limit : ℕ) (trail : Trail) (s : Spill F) → IsRefusedAfter value range task theta limit trail (Overflow s)
    → IsSolveSpill value range task.problem theta limit trail s
overflow_stops {F = F} value range task theta limit trail s h =
    subst (λ (x : Task F). IsSolveSpill value range x.problem theta limit trail s) h.same
    (record {
      basis = h.here.rows;
      lawful = h.lawful;
      short = h.short;
      here = at_place value h.here h.is_place (λ a. IsStepSpill value range (sample_of value h.here) (at_of h.here) a theta s) h.refusal.1;
    })
