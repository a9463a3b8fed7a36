-- Inner. What rank intervals in whole numbers begin with, and both walks from there.
use Rattle.std.specs.Prelude.{◌-◌, ℕ, length}
use Rattle.rational_laws.specs.Fraction.{Fraction}
use Rattle.rational_laws.specs.Rational.{ℚ}
use Rattle.loss_model.specs.declared.problem.Problem.{Problem}
use Rattle.br_pivot.specs.Reached.{IsReached}
use Rattle.whole_tableau.specs.Kept.{wholes_of}
use Rattle.gram_check.specs.Equations.{HasGram}
use Rattle.gram_check.specs.Sizes.{IsSquare}
use Rattle.rank_tableau.specs.declared.sides.BothSides.{BothSides}
use Rattle.rank_tableau.specs.declared.sides.Question.{Question}
use Rattle.rank_tableau.specs.Sides.{AreBothSides}
use Rattle.rank_inversion.specs.declared.column_test.Asked.{Asked}
use Rattle.rank_inversion.specs.declared.wholes.Started.{Started}

-- what is asked of a column, as the walks in whole numbers are asked
abbrev pub question_of : {F : Type 0} → Asked F → Question F
question_of asked = record { column = asked.column; tau = asked.tau; crit = asked.crit }

module _ {F : Type 0} (value : F → Fraction) where
  -- the solve is one at the quantile and within the limit, and the matrix is that of its whole rows
  pub record IsStarted (p : Problem F) (tau : ℚ) (limit : ℕ) (s : Started F) : Type 0 where
    pub reached : IsReached value p tau limit s.reached
    pub square : IsSquare (length s.gram) s.gram
    pub gram : HasGram (wholes_of s.reached.tableau) s.gram

  -- both walks of the column, within what the solve leaves of the limit
  abbrev pub AreSidesOf : Started F → Asked F → ℕ → BothSides → Type 0
  AreSidesOf s asked limit = AreBothSides value s.reached.tableau (question_of asked) (limit - length s.reached.trail.steps)
