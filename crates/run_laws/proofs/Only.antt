-- Where no other coefficients of an ordered ring lose as little as those of a printed fit.
use Rattle.std.specs.Prelude.{◌≡◌, ◌<◌, ℕ, List, [], ◌∷◌, All, Contains, length, map, get_or, cond, slice_index}
use Rattle.std.specs.List.{AllZip}
use Rattle.std.proofs.Common.{arith, ap, subst, ◌∙◌}
use Rattle.std.proofs.lemmas.Bool.{lt-ltb}
use Rattle.std.proofs.lemmas.List.Elements.{All-head, All-tail, All-cons, All-nil, All-contains}
use Rattle.frac_core.specs.declared.frac128.Frac128.{Frac128}
use Rattle.frac_core.specs.Values.{value}
use Rattle.loss_model.specs.declared.problem.Problem.{Problem}
use Rattle.loss_model.specs.declared.process.Segment.{Segment}
use Rattle.loss_model.specs.Dual.{IsDataRow, rankscore}
use Rattle.loss_model.specs.Problem.{sample, number_at}
use Rattle.loss_model.specs.Segment.{dual_at}
use Rattle.pivot_model.proofs.Solved.{any_default}
use Rattle.walk_model.specs.Stays.{Stay, IsSegmentOf, AreSegmentsOf}
use Rattle.rankscores.specs.declared.pair.ScorePair.{ScorePair}
use Rattle.rankscores.specs.Scores.{IsScored, row_score}
use Rattle.quantile_laws.specs.Uniqueness.{IsInside, IsInsideBetween, ScoreIsInside, ScoresAreInside}
use Rattle.real_laws.specs.OrderedRings.{OrderedRing}
use Rattle.real_laws.specs.Laws.{MinimumIsUniqueIn, UniqueBetweenIn}
use Rattle.report_text.specs.declared.report.Fit.{Fit}
use Rattle.rq_engine.specs.Fit.{IsRightSegment}
use Rattle.rq_cli.specs.Outcomes.{Stream}
use Rattle.run_laws.specs.Reports.{printed, IsReadFit}
use Rattle.run_laws.specs.OnlyFits.{AreInside, AreInsideBetween, IsOnlyBy}
use Rattle.run_laws.proofs.Fits.{IsRightRead, records}

-- ---- the pair of a basic row

-- what holds of the row of each pair holds of each of the rows
of_row : (P : ℕ → Type 0) (pairs : List ScorePair) (rows : List ℕ) → All (λ q. P q.row) pairs → map (λ q. q.row) pairs ≡ rows
    → (i : ℕ) → Contains rows i → P i
of_row P pairs rows h same i there = All-contains P rows i (subst (λ xs. All P xs) same (each pairs h)) there
  where
    each : (qs : List ScorePair) → All (λ q. P q.row) qs → All P (map (λ q. q.row) qs)
    each [] h = All-nil P
    each (q ∷ qs) h = All-cons P q.row (map (λ q. q.row) qs) (All-head (λ q. P q.row) q qs h) (each qs (All-tail (λ q. P q.row) q qs h))

module _ (unique_score : ScoreIsInside) (unique_scores : ScoresAreInside) (n : ℕ) (p : Problem Frac128) (observed : (i : ℕ) → i < n → IsDataRow (sample value p) i)
    (s : Segment) (pairs : List ScorePair) (scored : IsScored value p n s pairs) where
  -- a score of an observation is its rankscore
  score_lo : (i : ℕ) → i < n → row_score value p n s.vertex s.basic_lo s.lo i ≡ rankscore (sample value p) (printed s.lo) (dual_at value p s.vertex s.basic_lo s.lo) i
  score_lo i l = ap (λ t. cond t (rankscore (sample value p) (printed s.lo) (dual_at value p s.vertex s.basic_lo s.lo) i) (dual_at value p s.vertex s.basic_lo s.lo i)) (lt-ltb i n l)

  score_hi : (i : ℕ) → i < n → row_score value p n s.vertex s.basic_hi s.hi i ≡ rankscore (sample value p) (printed s.hi) (dual_at value p s.vertex s.basic_hi s.hi) i
  score_hi i l = ap (λ t. cond t (rankscore (sample value p) (printed s.hi) (dual_at value p s.vertex s.basic_hi s.hi) i) (dual_at value p s.vertex s.basic_hi s.hi i)) (lt-ltb i n l)

  inside_lo : AreInside n (λ q. q.at_lo) pairs → All (λ q. IsInside (sample value p) (printed s.lo) (dual_at value p s.vertex s.basic_lo s.lo) q.row) pairs
  inside_lo h k d l =
      let q = get_or pairs k d in
      let is = scored.at_lo k d l ∙ score_lo q.row (h k d l).0 in
      unique_score (sample value p) (printed s.lo) (dual_at value p s.vertex s.basic_lo s.lo) q.row (observed q.row (h k d l).0) (λ z. (h k d l).1 (is ∙ z)) (λ z. (h k d l).2 (is ∙ z))

  inside_hi : AreInside n (λ q. q.at_hi) pairs → All (λ q. IsInside (sample value p) (printed s.hi) (dual_at value p s.vertex s.basic_hi s.hi) q.row) pairs
  inside_hi h k d l =
      let q = get_or pairs k d in
      let is = scored.at_hi k d l ∙ score_hi q.row (h k d l).0 in
      unique_score (sample value p) (printed s.hi) (dual_at value p s.vertex s.basic_hi s.hi) q.row (observed q.row (h k d l).0) (λ z. (h k d l).1 (is ∙ z)) (λ z. (h k d l).2 (is ∙ z))

  inside_between : AreInsideBetween n pairs → All (λ q. IsInsideBetween (sample value p) (printed s.lo) (printed s.hi) (dual_at value p s.vertex s.basic_lo s.lo) (dual_at value p s.vertex s.basic_hi s.hi) q.row) pairs
  inside_between h k d l =
      let q = get_or pairs k d in
      let lo = scored.at_lo k d l ∙ score_lo q.row (h k d l).0 in
      let hi = scored.at_hi k d l ∙ score_hi q.row (h k d l).0 in
      unique_scores (sample value p) (printed s.lo) (printed s.hi) (dual_at value p s.vertex s.basic_lo s.lo) (dual_at value p s.vertex s.basic_hi s.hi) q.row (observed q.row (h k d l).0)
      (λ z. (h k d l).1 (lo ∙ z.0, hi ∙ z.1)) (λ z. (h k d l).2 (lo ∙ z.0, hi ∙ z.1))

-- ---- the segments

module _ (R : OrderedRing) (unique : MinimumIsUniqueIn R) (unique_between : UniqueBetweenIn R) (unique_score : ScoreIsInside) (unique_scores : ScoresAreInside)
    (fit : Fit) (observed : (i : ℕ) → i < fit.data_rows → IsDataRow (sample value fit.problem) i) where
  module _ (stay : Stay) (s : Segment) (is : IsSegmentOf value fit.problem stay s) (right : IsRightSegment value fit.problem s) (pairs : List ScorePair) (scored : IsScored value fit.problem fit.data_rows s pairs) where
    -- what holds of the row of each pair holds of each row of the basis
    each_row : (P : ℕ → Type 0) → All (λ q. P q.row) pairs → (j : ℕ) → j < fit.problem.columns → P (slice_index stay.basis j)
    each_row P h j l =
        let i = slice_index stay.basis j in
        let here : j < length stay.basis = omega (arith, l, is.vertex.size) in
        of_row P pairs s.vertex.basis.rows h scored.rows i ((is.vertex.holds.0.rows i).1 (j, here, any_default stay.basis j i 0 here))

    only : IsOnlyBy R fit s pairs
    only =
        record {
          at_lo = λ h.
              unique (sample value fit.problem) (slice_index stay.basis) is.vertex.a (printed s.lo) (number_at s.vertex.coef) (dual_at value fit.problem s.vertex s.basic_lo s.lo) is.vertex.is_basis right.at_lo.dual
              (each_row (IsInside (sample value fit.problem) (printed s.lo) (dual_at value fit.problem s.vertex s.basic_lo s.lo)) (inside_lo unique_score unique_scores fit.data_rows fit.problem observed s pairs scored h));
          at_hi = λ h.
              unique (sample value fit.problem) (slice_index stay.basis) is.vertex.a (printed s.hi) (number_at s.vertex.coef) (dual_at value fit.problem s.vertex s.basic_hi s.hi) is.vertex.is_basis right.at_hi.dual
              (each_row (IsInside (sample value fit.problem) (printed s.hi) (dual_at value fit.problem s.vertex s.basic_hi s.hi)) (inside_hi unique_score unique_scores fit.data_rows fit.problem observed s pairs scored h));
          between = λ h theta strict.
              unique_between (sample value fit.problem) (slice_index stay.basis) is.vertex.a (printed s.lo) (printed s.hi) (number_at s.vertex.coef) (dual_at value fit.problem s.vertex s.basic_lo s.lo)
              (dual_at value fit.problem s.vertex s.basic_hi s.hi) is.vertex.is_basis right.at_lo.dual right.at_hi.dual theta strict
              (each_row (IsInsideBetween (sample value fit.problem) (printed s.lo) (printed s.hi) (dual_at value fit.problem s.vertex s.basic_lo s.lo) (dual_at value fit.problem s.vertex s.basic_hi s.hi))
              (inside_between unique_score unique_scores fit.data_rows fit.problem observed s pairs scored h));
        }

  all_only : (stays : List Stay) (segments : List Segment) (scores : List (List ScorePair)) → AreSegmentsOf value fit.problem stays segments → All (IsRightSegment value fit.problem) segments
      → AllZip (IsScored value fit.problem fit.data_rows) segments scores → AllZip (IsOnlyBy R fit) segments scores
  all_only stays [] [] of right scored = tt
  all_only stays [] (x ∷ xs) of right scored = absurd scored
  all_only stays (s ∷ ss) [] of right scored = absurd scored
  all_only [] (s ∷ ss) (x ∷ xs) of right scored = absurd of
  all_only (stay ∷ stays) (s ∷ ss) (x ∷ xs) of right scored = (
    only stay s of.0 (All-head (IsRightSegment value fit.problem) s ss right) x scored.0,
    all_only stays ss xs of.1 (All-tail (IsRightSegment value fit.problem) s ss right) scored.1,
  )

-- ---- a report

module _ (R : OrderedRing) (unique : MinimumIsUniqueIn R) (unique_between : UniqueBetweenIn R) (unique_score : ScoreIsInside) (unique_scores : ScoresAreInside) where
  pub only_fit : (words : List (List ℕ)) (source source' : Stream) (fit : Fit) → IsRightRead words source source' fit
      → IsReadFit words source source' fit × AllZip (IsOnlyBy R fit) fit.process.segments fit.scores
  only_fit words source source' fit read =
      let right = read.right in (
        read.of,
        all_only R unique unique_between unique_score unique_scores fit (records words source source' fit read.of).observed _ fit.process.segments fit.scores
            right.process.results.segments right.process.segments right.scores,
      )
