-- What each check says of words that none of them refuses.
use Rattle.std.proofs.Common.{◌≡◌, ◌^◌, ◌-◌, Bool, true, false, List, [], ◌∷◌, Option, Some, None, Result, Ok, Err, refl, subst, codes, drop, if◌then◌else◌}
use Rattle.std.specs.List.{list_any}
use Rattle.std.specs.Option.{option_map_or}
use Rattle.clap.specs.Words.{Row, Text}
use Rattle.frac_core.specs.Limits.{most_rows}
use Rattle.contrasts.specs.declared.Coding.{Coding}
use Rattle.contrasts.specs.declared.Coding.TheVariants.{Treatment}
use Rattle.rq_words.specs.Commands.{command_of, kind_of, options_of, read_by}
use Rattle.rq_words.specs.Requests.{OptionNumbers, Request}
use Rattle.rq_words.specs.Words.{◌>>=◌, zero, one, option, number_option, number_text, quantiles, given, count, column_numbers, coding, numbers_of, fault_of, request_for, checked, is_long, words_of_job, words_of}
use Rattle.rq_words.specs.declared.command.Kind.{Kind}
use Rattle.rq_words.specs.declared.job.WordFault.{WordFault}
use Rattle.rq_words.specs.declared.job.WordFault.TheVariants.{BadContrasts, BadOption, UnknownJob}

-- a step that is passed has an answer, and what it hands on is that of the next one
step : {A B : Type 0} (r : Result A WordFault) (next : A → Result B WordFault) (x : B) → (r >>= next) ≡ Ok x → (a : A) × (r ≡ Ok a) × (next a ≡ Ok x)
step (Ok a) next x h = (a, refl, h)
step (Err fault) next x h = absurd (cc h)

found_some : {A B : Type 0} (o : Option A) (next : A → Result B WordFault) (fault : WordFault) (x : B) → option_map_or next o (Err fault) ≡ Ok x → (a : A) × (o ≡ Some a) × (next a ≡ Ok x)
found_some (Some a) next fault x h = (a, refl, h)
found_some None next fault x h = absurd (cc h)

not_refused : {B : Type 0} (b : Bool) (r : Result B WordFault) (fault : WordFault) (x : B) → (if b then Err fault else r) ≡ Ok x → (b ≡ false) × (r ≡ Ok x)
not_refused true r fault x h = absurd (cc h)
not_refused false r fault x h = (refl, h)

no_fault : {B : Type 0} (o : Option WordFault) (y x : B) → option_map_or (λ fault. Err fault) o (Ok y) ≡ Ok x → (o ≡ None) × (y ≡ x)
no_fault (Some fault) y x h = absurd (cc h)
no_fault None y x h = (refl, cc h)

-- ---- the request

pub record IsRequested (words : List Text) (r : Request) : Type 0 where
  pub kind : Kind
  pub found : List Row
  pub numbers : OptionNumbers
  pub chosen : Coding
  pub short : list_any is_long (drop 1 words) ≡ false
  pub read : read_by (command_of (options_of kind)) words ≡ Some found
  pub counted : numbers_of found ≡ Ok numbers
  pub sound : fault_of kind numbers ≡ None
  pub is : request_for kind found numbers chosen ≡ r

pub requested : (words : List Text) (r : Request) → words_of words ≡ Ok r → IsRequested words r
unfolding words_of words_of_job checked
requested [] r h = absurd (cc h)
requested (job ∷ rest) r h =
    let words = job ∷ rest in
    let kind = found_some (kind_of job) (λ kind. words_of_job kind words) UnknownJob _ h in
    let short = not_refused (list_any is_long (drop 1 words)) _ BadOption _ kind.2 in
    let found = found_some (read_by (command_of (options_of kind.0)) words) (checked kind.0) BadOption _ short.1 in
    let numbers = step (numbers_of found.0) _ _ found.2 in
    let chosen = step (option BadContrasts found.0 (codes "contrasts") Treatment coding) _ _ numbers.2 in
    let sound = no_fault (fault_of kind.0 numbers.0) (request_for kind.0 found.0 numbers.0 chosen.0) _ chosen.2 in
    record {
      kind = kind.0;
      found = found.0;
      numbers = numbers.0;
      chosen = chosen.0;
      short = short.0;
      read = found.1;
      counted = numbers.1;
      sound = sound.0;
      is = sound.1;
    }

-- ---- the numbers of its options, each as its text reads

pub record AreRead (found : List Row) (n : OptionNumbers) : Type 0 where
  pub taus : number_option found (codes "rank-at") None (given quantiles) ≡ Ok n.taus
  pub rows : number_option found (codes "rows") 0 (count 5 1 most_rows) ≡ Ok n.rows
  pub columns : number_option found (codes "columns") 0 (count 3 1 100) ≡ Ok n.columns
  pub tested : number_option found (codes "tested") [] column_numbers ≡ Ok n.tested

same_numbers : (m n : OptionNumbers) → ◌≡◌ {A = Result OptionNumbers WordFault} (Ok m) (Ok n) → m ≡ n
same_numbers m n h = cc h

pub numbers_read : (found : List Row) (n : OptionNumbers) → numbers_of found ≡ Ok n → AreRead found n
unfolding numbers_of
numbers_read found n h =
    let lo = step (number_option found (codes "lo") zero number_text) _ _ h in
    let hi = step (number_option found (codes "hi") one number_text) _ _ lo.2 in
    let crit = step (number_option found (codes "crit") None (given number_text)) _ _ hi.2 in
    let taus = step (number_option found (codes "rank-at") None (given quantiles)) _ _ crit.2 in
    let limit = step (number_option found (codes "pivots") 100000 (count 8 0 10000000)) _ _ taus.2 in
    let number = step (number_option found (codes "number") 0 (count 10 0 (2 ^ 32 - 1))) _ _ limit.2 in
    let rows = step (number_option found (codes "rows") 0 (count 5 1 most_rows)) _ _ number.2 in
    let columns = step (number_option found (codes "columns") 0 (count 3 1 100)) _ _ rows.2 in
    let tested = step (number_option found (codes "tested") [] column_numbers) _ _ columns.2 in
    let tau = step (number_option found (codes "tau") zero number_text) _ _ tested.2 in
    subst (AreRead found) (same_numbers _ n tau.2) (record { taus = taus.1; rows = rows.1; columns = columns.1; tested = tested.1 })
