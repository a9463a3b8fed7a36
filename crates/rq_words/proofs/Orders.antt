-- The range of a job that the words give lies in 0 to 1, and in order.
use Rattle.std.proofs.Common.{◌≡◌, Bool, true, false, not, ◌&&◌, List, Option, Some, None, Ok, refl, subst, if◌then◌else◌}
use Rattle.std.proofs.lemmas.Bool.{and_parts}
use Rattle.clap.specs.Words.{Text}
use Rattle.rational_laws.specs.Rational.{ℚ, le_ℚ, ◌≤ℚ◌}
use Rattle.rq_words.specs.Requests.{OptionNumbers, PathRequest, Request}
use Rattle.rq_words.specs.Words.{zero, one, is_in_order, is_lambda_range, has_range, fault_of, words_of}
use Rattle.rq_words.specs.declared.command.Kind.{Kind}
use Rattle.rq_words.specs.declared.job.WordFault.{WordFault}
use Rattle.rq_words.specs.declared.job.WordFault.TheVariants.{BadRange}
use Rattle.rq_words.proofs.Requested.{requested}
use Rattle.rq_words.proofs.Parts.{IsOrdered, IsOverAll, request_in_order, request_over_all}

in_order : (kind : Kind) (n : OptionNumbers) → fault_of kind n ≡ None → has_range kind n ≡ true
unfolding fault_of
in_order kind n h = by (has_range kind n) _ h
  where
    by : (b : Bool) (rest : Option WordFault) → (if not b then Some BadRange else rest) ≡ None → b ≡ true
    by true rest h = refl
    by false rest h = absurd (cc h)

pub words_in_order : (words : List Text) (r : Request) → words_of words ≡ Ok r → IsOrdered r
words_in_order words r h =
    let a = requested words r h in
    subst IsOrdered a.is (request_in_order a.kind a.found a.numbers a.chosen (in_order a.kind a.numbers a.sound))

abbrev pub IsRange : ℚ → ℚ → Type 0
IsRange lo hi = (zero ≤ℚ lo) × (lo ≤ℚ hi) × (hi ≤ℚ one)

pub range_of : (lo hi : ℚ) → is_in_order lo hi ≡ true → IsRange lo hi
range_of lo hi order =
    let high = and_parts (le_ℚ zero lo && le_ℚ lo hi) (le_ℚ hi one) order in
    let within = and_parts (le_ℚ zero lo) (le_ℚ lo hi) high.0 in
    (record { le = within.0 }, record { le = within.1 }, record { le = high.1 })

-- the range of lambda of a path lies above 0 and in order, and its quantile in 0 to 1
pub record IsPathRange (p : PathRequest) : Type 0 where
  pub tau_low : zero ≤ℚ p.tau
  pub tau_high : p.tau ≤ℚ one
  pub low : ¬ (p.fit.lo ≤ℚ zero)
  pub ordered : p.fit.lo ≤ℚ p.fit.hi

pub path_range_of : (p : PathRequest) → is_lambda_range p.tau p.fit.lo p.fit.hi ≡ true → IsPathRange p
path_range_of p h =
    let ordered = and_parts (le_ℚ zero p.tau && le_ℚ p.tau one && not (le_ℚ p.fit.lo zero)) (le_ℚ p.fit.lo p.fit.hi) h in
    let low = and_parts (le_ℚ zero p.tau && le_ℚ p.tau one) (not (le_ℚ p.fit.lo zero)) ordered.0 in
    let tau = and_parts (le_ℚ zero p.tau) (le_ℚ p.tau one) low.0 in
    record { tau_low = record { le = tau.0 }; tau_high = record { le = tau.1 }; low = λ l. denied (le_ℚ p.fit.lo zero) low.1 l.le; ordered = record { le = ordered.1 } }
  where
    denied : (b : Bool) → not b ≡ true → b ≡ true → ⊥
    denied true h k = absurd (cc h)
    denied false h k = absurd (cc k)

pub words_over_all : (words : List Text) (r : Request) → words_of words ≡ Ok r → IsOverAll r
words_over_all words r h =
    let a = requested words r h in
    subst IsOverAll a.is (request_over_all a.kind a.found a.numbers a.chosen)
