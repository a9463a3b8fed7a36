-- Inner. Conditions 6 to 8 as tests of one segment after the other.
use Rattle.std.specs.Prelude.{◌≡◌, ℕ, ◌+◌, ◌++◌, List, slice_get, Some}
use Rattle.frac_core.specs.declared.frac128.Frac128.{Frac128}
use Rattle.frac_core.specs.Values.{value as value128}
use Rattle.loss_model.specs.declared.problem.Problem.{Problem}
use Rattle.loss_model.specs.declared.process.Segment.{Segment}
use Rattle.loss_model.specs.Problem.{sample}
use Rattle.cert_checker.specs.Tests.{Test}
use Rattle.cert_checker.specs.Conditions.{each, balances, losses, joints}
use Rattle.cert_checker.specs.Views.{IsSmall, IsTabled}
use Rattle.cert_checker.specs.declared.quick.Quick.{Quick}

module _ (p : Problem Frac128) (segments : List Segment) where
  -- those of a segment
  abbrev pub sum_tests : ℕ → Segment → List Test
  sum_tests j s =
      balances (sample value128 p) j s ++ (losses (sample value128 p) j s ++ joints (sample value128 p) segments j s)

  -- the same tests condition by condition
  abbrev pub all_sum_tests : List Test
  all_sum_tests =
      each segments (balances (sample value128 p))
      ++ (each segments (losses (sample value128 p)) ++ each segments (joints (sample value128 p) segments))

-- what is known where they are decided: the segment is the one of its index, which counts from 1
abbrev pub IsSumGiven : Quick → List Segment → ℕ → Segment → Type 0
IsSumGiven q segments j s = IsSmall q.problem.now × IsTabled q × ((k : ℕ) → j ≡ k + 1 → slice_get segments k ≡ Some s)
