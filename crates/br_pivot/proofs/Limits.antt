-- Where a trail reaches the limit, the answer is neither a solution nor a dependence.
use Rattle.std.specs.Prelude.{ℕ, ◌≤◌, length, slice_index}
use Rattle.std.proofs.Common.{Ok, Err, inl}
use Rattle.rational_laws.specs.Fraction.{Fraction}
use Rattle.rational_laws.specs.Rational.{ℚ}
use Rattle.loss_model.specs.declared.problem.Problem.{Problem}
use Rattle.loss_model.specs.declared.stop.Stop.{Stop}
use Rattle.loss_model.specs.declared.stop.Stop.TheVariants.{OutOfMemory, PivotLimit, Overflow, Dependent}
use Rattle.loss_model.specs.Problem.{number_at, sample}
use Rattle.loss_model.specs.StartStop.{IsStartStop}
use Rattle.basis_inverse.specs.Square.{inverse_entry}
use Rattle.pivot_model.specs.Duals.{HasCosts}
use Rattle.pivot_model.proofs.Solved.{full_rank}
use Rattle.pivot_model.proofs.Unique.{one_trail}
use Rattle.br_pivot.specs.declared.solve.Solved.{Solved}
use Rattle.br_pivot.specs.Answers.{IsOptimum, IsAnswer}
use Rattle.br_pivot.specs.Solutions.{IsSolution}
use Rattle.br_pivot.specs.Solves.{IsLimited}
use Rattle.fraction_tableau.proofs.Inverses.{basis_of, ends_of}

module _ {F : Type 0} (value : F → Fraction) (range : ℕ) (p : Problem F) (theta : ℚ) (limit : ℕ) where
  solution_limited : (s : Solved F) → HasCosts (sample value p) theta → IsSolution value p theta s → length s.trail.steps ≤ limit → ¬ IsLimited (sample value p) theta limit
  solution_limited s costs h short (trail, reached) =
      one_trail (sample value p) theta costs s.trail trail s.basis.rows limit h.lawful
      (record { size = h.inverse.size; a = inverse_entry value s.inverse; is_basis = basis_of value p s.basis.rows s.inverse h.inverse; ends = ends_of value p s.basis.rows s.inverse h.inverse; holds = h.stop })
      short reached

  -- a solution within the limit is an answer
  pub optimum_answers : HasCosts (sample value p) theta → (s : Solved F) → IsOptimum value p theta limit s → IsAnswer value range p theta limit (Ok s)
  optimum_answers costs s h = record { optimum = h; stopped = tt; limited = solution_limited s costs h.solution h.short }

  -- and so is the stop of a start
  pub start_answers : (e : Stop F) → IsStartStop value range p e → IsAnswer value range p theta limit (Err e)
  start_answers OutOfMemory h = record { optimum = tt; stopped = tt; limited = λ reached. tt }
  start_answers (PivotLimit shown trail) h = absurd h
  start_answers (Overflow trail spill) h = record { optimum = tt; stopped = inl h; limited = λ reached. tt }
  start_answers (Dependent combination) h =
      record {
        optimum = tt;
        stopped = h;
        limited = λ reached.
            let more = reached.1.more in
            h.dependence.some (full_rank (sample value p) (slice_index reached.1.basis) more.a more.is_basis (number_at combination) h.dependence.zero h.dependence.column h.dependence.within);
      }
