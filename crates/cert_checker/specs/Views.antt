-- Inner. What the code looks at, as the conditions have it.
use Rattle.std.specs.Prelude.{ℕ, ◌≤◌, ◌+◌, ◌++◌, List, length, Option, Some, None, ⊤}
use Rattle.rational_laws.specs.Fraction.{rational}
use Rattle.frac_core.specs.declared.frac128.Frac128.{Frac128}
use Rattle.frac_core.specs.Values.{value as value128}
use Rattle.loss_model.specs.declared.problem.Problem.{Problem}
use Rattle.loss_model.specs.Problem.{sample}
use Rattle.cert_checker.specs.Formulas.{times}
use Rattle.cert_checker.specs.Tests.{Test, part, test, one}
use Rattle.cert_checker.specs.Conditions.{End, zero_formula}
use Rattle.cert_checker.specs.Intervals.{Question, question_of, first_of, sign_of, others, orthogonal_formula}
use Rattle.cert_checker.specs.Intervals.{square_formula, within_parts, balance_parts, statistic, rank_bound_formula}
use Rattle.cert_checker.specs.declared.relation.Relation.TheVariants.{Above, AtMost, Equal}
use Rattle.cert_checker.specs.declared.way.Way.{Way}
use Rattle.cert_checker.specs.declared.leaves.EndView.{EndView}
use Rattle.cert_checker.specs.declared.projection.IntervalView.{IntervalView}
use Rattle.cert_checker.specs.declared.quick.Quick.{Quick}
use Rattle.cert_sums.specs.declared.table.Table.{Table}
use Rattle.cert_sums.specs.Tables.{IsTable}

-- a problem is small enough for the tests of its rows and columns to be numbered
abbrev pub IsSmall : Problem Frac128 → Type 0
IsSmall p = (length p.rows ≤ 16384) × (p.columns ≤ 128)

abbrev pub end_of : EndView → End
end_of e = record { theta = rational e.theta.now; vertex = e.vertex.now; basic = e.basic.now }

-- what an interval asks of its problem
abbrev pub question : IntervalView → Question
question v = question_of (sample value128 v.problem.now) v.interval.now

-- a table, if there is one, is the problem in whole numbers
abbrev pub IsTableOf : Problem Frac128 → Option Table → Type 0
IsTableOf p None = ⊤
IsTableOf p (Some t) = IsTable p t

abbrev pub IsTabled : Quick → Type 0
IsTabled q = IsTableOf q.problem.now q.table.now

-- an interval's problem is in whole numbers where there is a table
abbrev pub IsAsked : IntervalView → Type 0
IsAsked v = IsTableOf v.problem.now v.table.now

module _ (a : Question) where
  -- the tests of a projection: what it leaves is orthogonal to the other columns, and isn't 0
  abbrev pub projection_tests : ℕ → List Test
  projection_tests m =
      test 9 m 4 (others a.column a.problem.columns (λ k. part (orthogonal_formula a.problem a.column a.factors k) Equal zero_formula))
      ++ one 9 m 5 (square_formula a.problem a.column a.factors) Above zero_formula

  -- the tests of the dual values inside an end, behind those of its vertex
  abbrev pub value_tests : ℕ → ℕ → End → List Test
  value_tests m n e =
      test 9 m (n + 2) (within_parts a e)
      ++ (test 9 m (n + 3) (balance_parts a e)
      ++ one 9 m (n + 4) (times (statistic a e) (statistic a e)) AtMost (rank_bound_formula a))

  -- the tests of dual values outside of a finite end
  abbrev pub outside_tests : Way → ℕ → End → List Test
  outside_tests way m f =
      test 9 m (first_of way + 6) (within_parts a f ++ balance_parts a f)
      ++ test 9 m (first_of way + 7)
      (part (statistic a f) (sign_of way) zero_formula ++ part (times (statistic a f) (statistic a f)) Above (rank_bound_formula a))
