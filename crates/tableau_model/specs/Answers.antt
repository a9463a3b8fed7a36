-- Inner. What the answers for a solve say at a basis.
use Rattle.std.specs.Prelude.{Option, Some, None}
use Rattle.rational_laws.specs.Fraction.{Fraction}
use Rattle.rational_laws.specs.Rational.{ℚ}
use Rattle.walk_model.specs.Steps.{HasNoNegativeSlope, IsSolvingStep}
use Rattle.walk_model.specs.Results.{IsVertexAt, AreBasicDuals}
use Rattle.tableau_model.specs.declared.answer.Step.{Step}
use Rattle.tableau_model.specs.declared.answer.Fitted.{Fitted}
use Rattle.tableau_model.specs.Places.{Place, at_of, sample_of}

module _ {F : Type 0} (value : F → Fraction) where
  -- no solving step is left
  abbrev pub IsOptimalAt : Place F → ℚ → Type 0
  IsOptimalAt h theta = HasNoNegativeSlope (sample_of value h) (at_of h) h.inverse theta

  -- none is left, or this one
  abbrev pub IsSolvingAnswer : Place F → ℚ → Option Step → Type 0
  IsSolvingAnswer h theta None = IsOptimalAt h theta
  IsSolvingAnswer h theta (Some s) = IsSolvingStep (sample_of value h) (at_of h) h.inverse theta s.position s.row

  -- the vertex of the basis, and the dual values of its rows at theta
  pub record IsFitted (h : Place F) (theta : ℚ) (f : Fitted) : Type 0 where
    pub vertex : IsVertexAt value h.task.problem h.rows h.inverse f.vertex
    pub basic : AreBasicDuals value h.task.problem theta h.rows h.inverse f.vertex f.basic
