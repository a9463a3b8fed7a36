-- Stated. Exit statuses.
use Rattle.std.specs.Prelude.{◌≡◌, ℕ, List}
use Rattle.rq_cli.specs.Outcomes.{Stream, IsRun}
use Rattle.rq_cli.specs.declared.outcome.Outcome.{Outcome}
use Rattle.rq_cli.specs.declared.outcome.Outcome.TheVariants.{Done, Refused, Usage, SourceFault, SinkFault, OutOfMemory, PivotLimit, Overflow, Rejected}

-- the status of an outcome
abbrev pub code_of : Outcome → ℕ
code_of (Done _) = 0
code_of (Refused _) = 1
code_of (Usage _) = 2
code_of SourceFault = 3
code_of SinkFault = 4
code_of OutOfMemory = 5
code_of (PivotLimit _ _ _) = 6
code_of (Overflow _ _ _) = 7
code_of (Rejected _) = 8

-- a run of the words that did this to its three streams ended with the status
pub record IsStatus (words : List (List ℕ)) (source source' out out' err err' : Stream) (status : ℕ) : Type 0 where
  pub outcome : Outcome
  pub ran : IsRun words source source' out out' err err' outcome
  pub code : status ≡ code_of outcome
