-- Inner. A problem of which rank intervals are asked for, and what is known before the first of them is made.
use Rattle.std.specs.Prelude.{ℕ, ◌<◌, length, pos, Option, IfSome}
use Rattle.rational_laws.specs.Fraction.{Fraction, rational}
use Rattle.rational_laws.specs.Rational.{ℚ, whole, ◌≤ℚ◌}
use Rattle.loss_model.specs.declared.problem.Problem.{Problem}
use Rattle.loss_model.specs.Dual.{IsDataRow}
use Rattle.loss_model.specs.Problem.{sample, IsWellShaped}
use Rattle.loss_model.specs.Strict.{◌<ℚ◌}
use Rattle.whole_tableau.specs.Kept.{IsSetting}
use Rattle.rank_inversion.specs.declared.wholes.Started.{Started}
use Rattle.rank_inversion.specs.Wholes.{IsStarted}
use Rattle.rank_inversion.specs.Inversions.{IsAskable}
use Rattle.rank_inversion.specs.declared.column_test.Asked.{Asked}
use Rattle.rank_inversion.specs.declared.asks.RankProblem.{RankProblem}

-- strictly between 0 and 1
abbrev pub IsInner : ℚ → Type 0
IsInner tau = (whole (pos 0) <ℚ tau) × (tau <ℚ whole (pos 1))

module _ {F : Type 0} (value : F → Fraction) where
  -- the problem has data rows alone, and the critical value is at least 0
  pub record IsRankable (p : Problem F) (crit : F) : Type 0 where
    pub shaped : IsWellShaped p
    pub data_rows : (i : ℕ) → i < length p.rows → IsDataRow (sample value p) i
    pub crit_sign : whole (pos 0) ≤ℚ rational (value crit)

  -- so it is, and what it is in whole numbers is this problem
  pub record IsRankProblem (v : RankProblem F) : Type 0 where
    pub rankable : IsRankable v.problem.now v.crit
    pub setting : IfSome v.setting.now (IsSetting value v.problem.now)

  -- what a solve at a quantile needs
  pub record IsSolvable (v : RankProblem F) (tau : F) : Type 0 where
    pub ready : IsRankProblem v
    pub inner : IsInner (rational (value tau))

  -- what the walks of a column need
  pub record IsWalkable (v : RankProblem F) (asked : Asked F) (start : Option (Started F)) : Type 0 where
    pub askable : IsAskable value v.problem.now asked
    pub started : IfSome start (IsStarted value v.problem.now (rational (value asked.tau)) v.limit)
