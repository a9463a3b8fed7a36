-- What a solve over a tableau has found, with the inverse of its basis.
use Rattle.std.specs.Prelude.{ℕ, List, slice_index}
use Rattle.std.proofs.Common.{sym, subst}
use Rattle.rational_laws.specs.Fraction.{Fraction}
use Rattle.rational_laws.specs.Rational.{ℚ}
use Rattle.loss_model.specs.declared.problem.Problem.{Problem}
use Rattle.loss_model.specs.declared.vertex.Basis.{Basis}
use Rattle.loss_model.specs.Problem.{number_at, sample}
use Rattle.loss_model.proofs.Duality.{minimum}
use Rattle.basis_inverse.specs.Square.{Square, inverse_entry}
use Rattle.pivot_model.specs.Duals.{HasCosts}
use Rattle.pivot_model.specs.Steps.{HasNoNegativeSlope}
use Rattle.pivot_model.specs.Trails.{IsSolvingTrail}
use Rattle.pivot_model.specs.Results.{IsVertexAt, AreBasicDuals}
use Rattle.pivot_model.proofs.Solved.{vertex_is_optimal}
use Rattle.tableau.specs.declared.solving.Solution.{Solution}
use Rattle.tableau.specs.Bodies.{place_of, IsTaken}
use Rattle.tableau.specs.Solving.{IsSolution as IsFound}
use Rattle.br_pivot.specs.declared.solve.Solved.{Solved}
use Rattle.br_pivot.specs.Answers.{IsOptimum}

module _ {F : Type 0} (value : F → Fraction) (theta : ℚ) (limit : ℕ) (s : Solution F) (basis : Basis) (square : Square F) where
  abbrev p : Problem F
  p = (place_of value s.reached.tableau).task.problem

  abbrev made : Solved F
  made = record { vertex = s.fitted.vertex; basic = s.fitted.basic; inverse = square; basis = basis; trail = s.reached.trail }

  -- what holds of the rows and the inverse of the place holds of those that were taken
  at_taken : IsTaken value (place_of value s.reached.tableau) basis.rows square → (Q : List ℕ → (ℕ → ℕ → ℚ) → Type 0)
      → Q (place_of value s.reached.tableau).rows (place_of value s.reached.tableau).inverse → Q basis.rows (inverse_entry value square)
  at_taken t Q holds =
      subst (λ rows. Q rows (inverse_entry value square)) (sym t.same) (subst (λ a. Q (place_of value s.reached.tableau).rows a) (sym t.entries) holds)

  -- the solution with them is one within the limit
  pub found : HasCosts (sample value p) theta → IsFound value (place_of value s.reached.tableau).task theta limit s → IsTaken value (place_of value s.reached.tableau) basis.rows square → IsOptimum value p theta limit made
  found costs h t =
      let under = h.solved.underway in
      let optimal = vertex_is_optimal value p theta (place_of value s.reached.tableau).rows (place_of value s.reached.tableau).inverse s.fitted.vertex s.fitted.basic under.is_place.size under.is_place.is_basis
      h.fitted.vertex h.fitted.basic costs h.solved.stop in
      record {
        solution = record {
          minimises = minimum (sample value p) theta (number_at s.fitted.vertex.coef) _ optimal;
          dual = optimal;
          lawful = at_taken t (λ rows a. IsSolvingTrail (sample value p) theta s.reached.trail rows) under.lawful;
          inverse = t.inverse;
          stop = at_taken t (λ rows a. HasNoNegativeSlope (sample value p) (slice_index rows) a theta) h.solved.stop;
          vertex = at_taken t (λ rows a. IsVertexAt value p rows a s.fitted.vertex) h.fitted.vertex;
          basic = at_taken t (λ rows a. AreBasicDuals value p theta rows a s.fitted.vertex s.fitted.basic) h.fitted.basic;
        };
        short = h.solved.short;
      }
