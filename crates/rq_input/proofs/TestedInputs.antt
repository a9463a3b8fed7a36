-- The tested columns that there are, and why bytes have none.
use Rattle.std.proofs.Common.{◌≡◌, ◌≢◌, ◌<◌, ◌≤◌, ◌+◌, ◌^◌, ℕ, zero, suc, Bool, true, false, if◌then◌else◌, List, [], ◌∷◌, Option, None, Some, All, length, map, nat_le, arith, refl}
use Rattle.std.specs.List.{AllByRecursion, slice_index}
use Rattle.std.specs.List.Sorted.{IsStrictlyIncreasing}
use Rattle.std.proofs.lemmas.Bool.{leb-false}
use Rattle.std.proofs.lemmas.List.Elements.{All-cons, All-nil}
use Rattle.rq_words.specs.Requests.{given_number}
use Rattle.rq_words.specs.Words.{ascends}
use Rattle.rq_words.specs.declared.job.FitJob.{FitJob}
use Rattle.rq_words.specs.declared.job.TestJob.{TestJob}
use Rattle.rq_words.proofs.TestedColumns.{ascending_columns}
use Rattle.report_text.specs.declared.report.Refusal.TheVariants as refusals
use Rattle.report_text.specs.declared.report.Halt.{Halt}
use Rattle.report_text.specs.declared.report.Halt.TheVariants.{Refused}
use Rattle.rq_input.specs.Inputs.{HasInputCause, IsInput}
use Rattle.rq_input.specs.declared.input.Input.{Input}
use Rattle.rq_input.proofs.Inputs.{no_rows}
use Rattle.rq_input.specs.Tested.{AreColumns, HasTestedCause, first_missing}

-- ---- columns

-- a test that finds nothing fails, and so do those behind it
untold : (b : Bool) (n : ℕ) (rest : Option ℕ) → (if b then Some n else rest) ≡ None → (b ≡ false) × (rest ≡ None)
untold true n rest h = absurd (cc h)
untold false n rest h = (refl, h)

module _ (columns : ℕ) where
  each_within : (tested : List ℕ) → first_missing columns tested ≡ None → AllByRecursion (λ k. k < columns) tested
  each_within [] h = tt
  each_within (k ∷ ks) h =
      let parts = untold (nat_le columns k) (given_number k) (first_missing columns ks) h in
      (leb-false columns k parts.0, each_within ks parts.1)

  all_within : (tested : List ℕ) → AllByRecursion (λ k. k < columns) tested → All (λ k. k < columns) tested
  all_within [] h = All-nil (λ k. k < columns)
  all_within (k ∷ ks) h = All-cons (λ k. k < columns) k ks h.0 (all_within ks h.1)

-- the k-th of numbers that ascend is at least k
at_least : (xs : List ℕ) → IsStrictlyIncreasing xs → (k : ℕ) → k < length xs → k ≤ slice_index xs k
at_least xs up zero l = omega arith
at_least xs up (suc k) l =
    let e : k + 1 ≡ suc k = omega arith in
    let step : slice_index xs k < slice_index xs (suc k) = rw e at (up k (omega (arith, l))) in
    let here = at_least xs up k (omega (arith, l)) in
    omega (arith, step, here)

-- there are no more of them than columns
few : (columns n : ℕ) (tested : List ℕ) → length tested ≡ n → IsStrictlyIncreasing tested → All (λ k. k < columns) tested → length tested ≤ columns
few columns zero tested e up all = omega (arith, e)
few columns (suc n) tested e up all = let last = at_least tested up n (omega (arith, e)) in let within = all n 0 (omega (arith, e)) in omega (arith, e, last, within)

pub are_columns : (columns : ℕ) (tested : List ℕ) → columns < 2 ^ 32 → ascends (map given_number tested) ≡ true → first_missing columns tested ≡ None → length tested ≢ columns → AreColumns columns tested
are_columns columns tested small up none other =
    let each = each_within columns tested none in
    let ascending = ascending_columns columns small tested each up in
    let within = all_within columns tested each in
    record { ascending = ascending; within = within; left = below (length tested) columns (few columns (length tested) tested refl ascending within) other }
  where
    below : (m n : ℕ) → m ≤ n → m ≢ n → m < n
    below m n l d = grind (arith, l, d)

-- ---- the bytes

-- bytes without an input have no columns to be tested
pub tested_input : (job : TestJob) (bytes : List ℕ) (halt : Halt) → HasInputCause job.fit true bytes halt → HasTestedCause job bytes halt
tested_input job bytes (Refused (refusals.NoSuchColumn number)) h = absurd h.2.cause
tested_input job bytes (Refused refusals.AllTested) h = absurd h.2.cause
tested_input job bytes halt h = h

-- an input of a formula without smooths has no penalty rows
pub ranked_rows : (job : FitJob) (bytes : List ℕ) (input : Input) → IsInput job true bytes input → length input.smoothing.rows ≡ 0
ranked_rows job bytes input is = no_rows is.0 input.design is.2.model input.smoothing is.2.is.smoothed.added (is.2.stated.taken refl)
