-- Stated. Steps in lowest terms.
use Rattle.ratio.specs.Lowest.{IsLowest}
use Rattle.predict_steps.specs.declared.step.Step.{Step}

-- both ends of a step and its value are in lowest terms
pub record IsLowestStep (s : Step) : Type 0 where
  pub lo : IsLowest s.lo
  pub hi : IsLowest s.hi
  pub value : IsLowest s.value
