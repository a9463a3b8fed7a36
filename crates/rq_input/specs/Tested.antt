-- Stated. Which columns bytes ask to be tested, and why none are.
use Rattle.std.specs.Prelude.{◌≡◌, ◌<◌, ℕ, true, List, [], ◌∷◌, Option, None, Some, All, if◌then◌else◌, length, nat_le}
use Rattle.std.specs.List.Sorted.{IsStrictlyIncreasing}
use Rattle.rq_words.specs.Requests.{given_number}
use Rattle.rq_words.specs.declared.job.TestJob.{TestJob}
use Rattle.report_text.specs.declared.report.Refusal.TheVariants as refusals
use Rattle.report_text.specs.declared.report.Halt.{Halt}
use Rattle.report_text.specs.declared.report.Halt.TheVariants.{Refused}
use Rattle.rq_input.specs.Inputs.{HasInputCause, IsInput}
use Rattle.rq_input.specs.declared.input.Input.{Input}

-- the tested columns are columns of so many, ascend, and leave one
pub record AreColumns (columns : ℕ) (tested : List ℕ) : Type 0 where
  pub ascending : IsStrictlyIncreasing tested
  pub within : All (λ k. k < columns) tested
  pub left : length tested < columns

-- the input of the bytes, which has no smooths, has the tested columns, and others
pub record IsTested (job : TestJob) (bytes : List ℕ) (input : Input) : Type 0 where
  pub is : IsInput job.fit true bytes input
  pub columns : AreColumns input.problem.columns job.tested

-- ---- why there is none

-- the number, as it was given, of the first tested column that is none of so many; the number 0 stands for one beyond all
abbrev pub first_missing : ℕ → List ℕ → Option ℕ
first_missing columns [] = None
first_missing columns (k ∷ ks) = if nat_le columns k then Some (given_number k) else first_missing columns ks

-- none is missing, and there are as many of them, which ascend, as there are columns
pub record AreAll (columns : ℕ) (tested : List ℕ) : Type 0 where
  pub there : first_missing columns tested ≡ None
  pub all : length tested ≡ columns

-- the bytes have an input, and this is so of its columns
pub record LacksTested (job : TestJob) (bytes : List ℕ) (P : ℕ → Type 0) : Type 0 where
  pub input : Input
  pub is : IsInput job.fit true bytes input
  pub cause : P input.problem.columns

-- why bytes have no columns to be tested: they have no input, a tested column is missing, or all are tested
abbrev pub HasTestedCause : TestJob → List ℕ → Halt → Type 0
HasTestedCause job bytes (Refused (refusals.NoSuchColumn number)) = LacksTested job bytes (λ columns. first_missing columns job.tested ≡ Some number)
HasTestedCause job bytes (Refused refusals.AllTested) = LacksTested job bytes (λ columns. AreAll columns job.tested)
HasTestedCause job bytes halt = HasInputCause job.fit true bytes halt
