-- The certificate of a right fit, and why there is none.
use Rattle.std.proofs.Common.{◌≡◌, ◌<◌, ◌≤◌, ℕ, suc, List, [], ◌∷◌, ◌++◌, All, Contains, get_or, length, map, Some, slice_index, arith, refl, sym, ap, subst, ◌∙◌}
use Rattle.std.specs.List.{AllZip}
use Rattle.std.proofs.lemmas.List.Elements.{All-cons, All-nil}
use Rattle.rational_laws.specs.Fraction.{Fraction, rational}
use Rattle.rational_laws.specs.Rational.{ℚ}
use Rattle.frac_core.specs.Values.{value}
use Rattle.loss_model.specs.declared.interval.Bound.{Bound}
use Rattle.loss_model.specs.declared.interval.Bound.TheVariants.{Finite, Infinite}
use Rattle.loss_model.specs.declared.interval.Beyond.{Beyond}
use Rattle.loss_model.specs.declared.interval.Beyond.TheVariants.{Outside, Ray}
use Rattle.loss_model.specs.declared.interval.End.{End}
use Rattle.loss_model.specs.declared.interval.Interval.{Interval}
use Rattle.loss_model.specs.declared.interval.IntervalProof.{IntervalProof}
use Rattle.loss_model.specs.declared.problem.Problem.{Problem}
use Rattle.loss_model.specs.declared.vertex.Vertex.{Vertex}
use Rattle.loss_model.specs.Problem.{sample}
use Rattle.pivot_model.specs.declared.direction.Direction.{Direction}
use Rattle.pivot_model.specs.Results.{IsVertexAt}
use Rattle.pivot_model.specs.Trails.{AtBasis}
use Rattle.pivot_model.proofs.Solved.{any_default}
use Rattle.rank_walk_model.specs.Ends.{IsEndAt, IsHandedOut}
use Rattle.rank_walk_model.specs.Intervals.{stated, statement, bound_by, IsIntervalOf}
use Rattle.rank_walk_model.proofs.Intervals.{stated_each}
use Rattle.rank_walk_model.specs.RankWalks.{Way, rise, fall}
use Rattle.rank_inversion.specs.declared.column_test.Asked.{Asked}
use Rattle.cert_text.specs.Kept.{is_finite, is_outside, IsKeptEnd, IsKeptInterval, IsKeptSegment}
use Rattle.cert_text.specs.declared.cert.Cert.{Cert}
use Rattle.rq_words.specs.declared.job.FitJob.{FitJob}
use Rattle.report_text.specs.declared.report.Fit.{Fit}
use Rattle.report_text.specs.declared.report.Refusal.TheVariants as refusals
use Rattle.report_text.specs.declared.report.Halt.{Halt}
use Rattle.report_text.specs.declared.report.Halt.TheVariants.{Refused, OutOfMemory}
use Rattle.rq_input.specs.declared.input.Input.{Input}
use Rattle.rq_engine.specs.Fit.{IsRightFit}
use Rattle.rq_engine.specs.Intervals.{AreRightIntervals, asked_by}
use Rattle.rq_engine.specs.Stops.{HasProblemCause}
use Rattle.rq_engine.proofs.Fits.{process_scorable}
use Rattle.rq_engine.specs.Answers.{HasCertifiedCause, IsCertified}
use Rattle.rq_engine.specs.Certifying.{IsKept, IsLengthHalt}
use Rattle.rq_engine.proofs.Listed.{listed_vertex}

-- ---- what a certificate keeps

-- the bases of a right fit list the basic rows of their vertices
pub fit_listed : (job : FitJob) (fit : Fit) → IsRightFit value job fit → All IsKeptSegment fit.process.segments
fit_listed job fit right =
    let scorable = process_scorable value fit.problem (rational (value job.lo)) (rational (value job.hi)) fit.process right.process.results in
    λ k d l. let at = scorable k d l in listed_vertex fit.problem (get_or fit.process.segments k d).vertex at.vertex at.inside

module _ {F : Type 0} (value : F → Fraction) (p : Problem F) where
  -- the basic rows of a vertex at a basis are rows of the problem
  rows_inside : (basis : List ℕ) (Q : (ℕ → ℕ → ℚ) → Type 0) (at : AtBasis (sample value p) basis Q) (v : Vertex) → IsVertexAt value p basis at.a v → All (λ i. i < length p.rows) v.basis.rows
  rows_inside basis Q at v vertex k d l =
      let i = get_or v.basis.rows k d in
      let there : Contains basis i = (vertex.rows i).0 (k, l, any_default v.basis.rows k i d l) in
      subst (λ n. n < length p.rows) (any_default basis there.0 0 i there.1 ∙ there.2) (at.is_basis.distinct.within there.0 (omega (arith, there.1, at.size)))

  -- an end that a walk hands out is finite where dual values lie beyond it
  same_kind : (way : Way) (j : ℕ) (tau bound : ℚ) (at : ℕ → ℕ) (a : ℕ → ℕ → ℚ) (t u : ℚ) (k : ℕ) (d : Direction) (v : Vertex) (inside : List Fraction) (b : Bound Fraction) (e : Beyond)
      → IsHandedOut value p way j tau bound at a t u k d v inside b e → is_finite b ≡ is_outside e
  same_kind way j tau bound at a t u k d v inside (Finite x) (Outside f) h = refl
  same_kind way j tau bound at a t u k d v inside Infinite (Ray r) h = refl
  same_kind way j tau bound at a t u k d v inside (Finite x) (Ray r) h = absurd h
  same_kind way j tau bound at a t u k d v inside Infinite (Outside f) h = absurd h

  kept_end : (way : Way) (j : ℕ) (tau bound : ℚ) (basis : List ℕ) (t : ℚ) (end : End)
      → AtBasis (sample value p) basis (λ a. IsEndAt value p way j tau bound basis a t end) → IsKeptEnd end
  kept_end way j tau bound basis t end at =
      let h = at.holds in (
        listed_vertex p end.vertex h.vertex.shape (rows_inside basis (λ a. IsEndAt value p way j tau bound basis a t end) at end.vertex h.vertex),
        same_kind way j tau bound (slice_index basis) at.a t h.u h.k h.d end.vertex end.inside end.bound end.beyond h.handed,
      )

  kept_interval : (interval : Interval) → p.columns ≤ 128 → interval.column < p.columns → IsIntervalOf value p interval → (factors : List Fraction) → IsKeptInterval (stated interval factors)
  kept_interval interval few column h factors =
      let tau = rational interval.tau in
      let bound = bound_by value p interval h.factors in (
        omega (arith, few, column),
        (kept_end fall interval.column tau bound _ _ interval.low h.right.low, kept_end rise interval.column tau bound _ _ interval.high h.right.high),
      )

  -- so do the bases of right intervals
  intervals_kept : (limit : ℕ) → p.columns ≤ 128 → (asked : List (Asked F)) (intervals : List Interval) → AreRightIntervals value p limit asked intervals
      → All (λ (interval : Interval). (factors : List Fraction) → IsKeptInterval (stated interval factors)) intervals
  intervals_kept limit few [] [] h = All-nil (λ (interval : Interval). (factors : List Fraction) → IsKeptInterval (stated interval factors))
  intervals_kept limit few [] (x ∷ xs) h = absurd h
  intervals_kept limit few (a ∷ others) [] h = absurd h
  intervals_kept limit few (a ∷ others) (x ∷ xs) h =
      All-cons (λ (interval : Interval). (factors : List Fraction) → IsKeptInterval (stated interval factors)) x xs
      (kept_interval x few h.0.lawful.conditions.column h.0.lawful.lawful) (intervals_kept limit few others xs h.1)

-- a list of no length is empty
pub nothing_left : {A : Type 0} (xs : List A) → length xs ≡ 0 → xs ≡ []
nothing_left [] h = refl
nothing_left (x ∷ xs) h = absurd (omega (arith, h))

-- what is stated of one interval more
pub stated_more : (made : List IntervalProof) (r : Interval) (x : IntervalProof) (left : List Interval) → Some x ≡ statement r
    → map Some (made ++ x ∷ []) ++ map statement left ≡ map Some made ++ map statement (r ∷ left)
stated_more [] r x left e = ap (λ o. o ∷ map statement left) e
stated_more (m ∷ made) r x left e = ap (λ l. Some m ∷ l) (stated_more made r x left e)

-- what is stated of intervals keeps what they keep
pub proofs_kept : (intervals : List Interval) (proofs : List IntervalProof) → map Some proofs ≡ map statement intervals → All IsKept intervals → All IsKeptInterval proofs
proofs_kept intervals proofs e h = by intervals proofs (stated_each intervals proofs e) h
  where
    by : (rs : List Interval) (xs : List IntervalProof)
        → AllZip (λ r x. (factors : List Fraction) × (r.projection ≡ Some factors) × (x ≡ stated r factors)) rs xs → All IsKept rs → All IsKeptInterval xs
    by [] [] is h = All-nil IsKeptInterval
    by [] (x ∷ xs) is h = absurd is
    by (r ∷ rs) [] is h = absurd is
    by (r ∷ rs) (x ∷ xs) ((factors, there, same), is) h =
        All-cons IsKeptInterval x xs (subst IsKeptInterval (sym same) (h 0 r (omega arith) factors)) (by rs xs is (λ k d l. h (suc k) d (omega (arith, l))))

pub fit_ended : (job : FitJob) (fit : Fit) → IsRightFit value job fit → All IsKept fit.intervals
fit_ended job fit right = intervals_kept value fit.problem job.limit right.shaped.columns (asked_by job.rank fit.problem.columns) fit.intervals right.intervals

-- ---- causes

-- why a problem has no fit is why its input has no certificate
pub problem_certified : (job : FitJob) (input : Input) (halt : Halt) → HasProblemCause job (length input.design.rows) input.problem halt → HasCertifiedCause job input halt
problem_certified job input (Refused (refusals.CertTooLong n)) h = absurd h
problem_certified job input halt h = h

-- so is a certificate that is too long
pub length_certified : (job : FitJob) (input : Input) (cert : Cert) → IsCertified job input cert → (halt : Halt) → IsLengthHalt cert halt → HasCertifiedCause job input halt
length_certified job input cert is (Refused (refusals.CertTooLong n)) h = (cert, is, h)
length_certified job input cert is OutOfMemory h = tt
length_certified job input cert is halt h = absurd h
