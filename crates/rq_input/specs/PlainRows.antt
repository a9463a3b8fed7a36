-- Law. What whoever goes on with an input without smooths knows of its first row.
use Rattle.std.specs.Prelude.{◌≡◌, ◌≢◌, ◌<◌, Bool, true, length, pos}
use Rattle.rational_laws.specs.Rational.{whole}
use Rattle.frac_core.specs.Values.{value}
use Rattle.loss_model.specs.Problem.{sample}
use Rattle.rq_input.specs.declared.input.Input.{Input}

-- there is a first row; and where there is an intercept, the entry of its first column isn't 0
pub record HasIntercept (intercept : Bool) (input : Input) : Type 0 where
  pub some : 0 < length input.problem.rows
  pub entry : intercept ≡ true → (sample value input.problem).x 0 0 ≢ whole (pos 0)
