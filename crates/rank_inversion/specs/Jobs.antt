-- Inner. What a job of a rank interval is asked.
use Rattle.std.specs.Prelude.{ℕ, ◌-◌, ◌^◌}
use Rattle.loss_model.specs.declared.problem.Problem.{Problem}
use Rattle.rank_inversion.specs.declared.column_test.Asked.{Asked}

-- the greatest size of the parts of a value of 128 bits
abbrev pub range : ℕ
range = 2 ^ 127 - 1

-- an interval of a problem that is asked for, and the limit of its pivots
pub record Ask (F : Type 0) : Type 0 where
  pub problem : Problem F
  pub asked : Asked F
  pub limit : ℕ

abbrev pub asked_by : {F : Type 0} → Problem F → ℕ → F → F → ℕ → Ask F
asked_by p column tau crit limit = record { problem = p; asked = record { column = column; tau = tau; crit = crit }; limit = limit }
