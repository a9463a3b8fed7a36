-- What halts a solve is the cause of its stop.
use Rattle.std.specs.Prelude.{◌≡◌, ℕ, Some}
use Rattle.std.proofs.Common.{Err, refl, inr}
use Rattle.rational_laws.specs.Fraction.{Fraction}
use Rattle.rational_laws.specs.Rational.{ℚ}
use Rattle.loss_model.specs.declared.stop.Stop.{Stop}
use Rattle.tableau_model.specs.Places.{Task}
use Rattle.tableau.specs.declared.solving.Halt.{Halt}
use Rattle.tableau.specs.Solving.{IsHalted, stop_of}
use Rattle.tableau.proofs.Halts.{by_halt, overflow_stops}
use Rattle.br_pivot.specs.Answers.{IsAnswer}

module _ {F : Type 0} (value : F → Fraction) (range : ℕ) (task : Task F) (theta : ℚ) (limit : ℕ) where
  -- the stop of a halt is an answer
  pub halt_answers : (h : Halt F) (s : Stop F) → stop_of limit h ≡ Some s → IsHalted value range task theta limit h → IsAnswer value range task.problem theta limit (Err s)
  halt_answers =
      by_halt limit (IsHalted value range task theta limit) (λ s. IsAnswer value range task.problem theta limit (Err s))
      (record { optimum = tt; stopped = tt; limited = λ reached. tt })
      (λ trail h. record { optimum = tt; stopped = (refl, h); limited = λ reached. tt })
      (λ trail spill h. record { optimum = tt; stopped = inr (overflow_stops value range task theta limit trail spill h); limited = λ reached. tt })
