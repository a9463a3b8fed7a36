-- The records of a printed fit, the fit at their centroid, and its losses.
use Rattle.std.specs.Prelude.{◌≡◌, ◌⊎◌, ◌≤◌, ◌<◌, ◌+◌, ◌-◌, ℕ, true, List, [], ◌∷◌, Option, None, length, get_or, pos}
use Rattle.std.specs.Option.{option_map_or}
use Rattle.std.specs.declared.cmp.Ordering.TheVariants.{Less}
use Rattle.std.proofs.Common.{arith, refl, sym, ap, ap₂, subst, ◌∙◌, inl, inr}
use Rattle.rational_laws.specs.Fraction.{Fraction, rational}
use Rattle.rational_laws.specs.Solver.{◌⊞◌, ◌⊟◌, ◌⊠◌, v0, v1, v2}
use Rattle.rational_laws.specs.Order.{cmp_ℚ}
use Rattle.rational_laws.specs.Rational.{ℚ, ◌-ℚ◌, ◌*ℚ◌, whole, ◌≤ℚ◌}
use Rattle.rational_laws.proofs.RationalLaws.{ring_ℚ, ≤ℚ_refl, ≤ℚ_mul}
use Rattle.rational_laws.proofs.OrderLaws.{≤ℚ-minus, le_from_not, cmp_ℚ-Less}
use Rattle.rational_laws.proofs.Signs.{product_not_negative}
use Rattle.rational_laws.specs.Terms.{delta}
use Rattle.frac_core.specs.declared.frac128.Frac128.{Frac128}
use Rattle.frac_core.specs.Values.{value}
use Rattle.loss_model.specs.declared.problem.Problem.{Problem}
use Rattle.loss_model.specs.declared.process.Segment.{Segment}
use Rattle.loss_model.specs.Sample.{loss, Minimises}
use Rattle.loss_model.specs.Problem.{sample, number_at}
use Rattle.loss_model.specs.Segment.{Segments, of_segment, segments_of}
use Rattle.quantile_laws.specs.Counts.{HasIntercept, MinimumSplitsWeights, SidesSplitWeights, SidesSplitCounts}
use Rattle.quantile_laws.specs.Monotonicity.{AreObservations, MinimiseAlong, CentroidNeverFallsAlong}
use Rattle.quantile_laws.specs.Monotonicity.{LeastLossIsContinuous, LossIsLine, SlopeFallsAlong, loss_slope}
use Rattle.rq_words.specs.declared.job.FitJob.{FitJob}
use Rattle.report_text.specs.declared.report.Fit.{Fit}
use Rattle.rq_engine.specs.Fit.{IsRightSegment, IsRightFit, mixed_dual}
use Rattle.rq_cli.specs.Outcomes.{Stream}
use Rattle.run_laws.specs.Reports.{printed, IsReadFit}
use Rattle.run_laws.specs.ReadFits.{IsSplitSegment, CentroidRises, AreConcaveLosses, IsReadOff, lo_at, hi_at, loss_lo_at, loss_hi_at}
use Rattle.run_laws.proofs.Rows.{has_intercept, units}
use Rattle.run_laws.proofs.Fits.{IsRightRead, records}
use Rattle.run_laws.proofs.LeastPaths.{at_place}

-- ---- the marks

module _ (minimum : MinimumSplitsWeights) (weights : SidesSplitWeights {F = Frac128} value) (counts : SidesSplitCounts {F = Frac128} value) (fit : Fit) (given : Option (List ℕ))
    (intercept : HasIntercept (sample value fit.problem) fit.data_rows (λ k. delta k 0)) (ones : given ≡ None → (i : ℕ) → i < fit.data_rows → (sample value fit.problem).up1 i ≡ whole (pos 1)) where
  split : (s : Segment) → IsRightSegment value fit.problem s → IsSplitSegment fit given s
  split s right =
      record {
        marks_lo = weights fit.problem s.vertex fit.data_rows (λ k. delta k 0) (printed s.lo) s.basic_lo intercept right.vertex.sides right.at_lo.dual.feasible;
        marks_hi = weights fit.problem s.vertex fit.data_rows (λ k. delta k 0) (printed s.hi) s.basic_hi intercept right.vertex.sides right.at_hi.dual.feasible;
        counts_lo = λ unweighted. counts fit.problem s.vertex fit.data_rows (λ k. delta k 0) (printed s.lo) s.basic_lo intercept (ones unweighted) right.vertex.sides right.at_lo.dual.feasible;
        counts_hi = λ unweighted. counts fit.problem s.vertex fit.data_rows (λ k. delta k 0) (printed s.hi) s.basic_hi intercept (ones unweighted) right.vertex.sides right.at_hi.dual.feasible;
        minimum = λ theta some above below c least.
            let within = right.within theta some above below in
            minimum (sample value fit.problem) fit.data_rows (λ k. delta k 0) (rational theta) (number_at s.vertex.coef) (mixed_dual value fit.problem s within.m within.n) c intercept within.dual least;
      }

-- ---- the centroid

module _ (fit : Fit) (job : FitJob) (right : IsRightFit value job fit) where
  abbrev coefficients : ℕ → ℕ → ℚ
  coefficients j k = of_segment fit.process.segments (λ s. number_at s.vertex.coef k) j

  -- what holds at an end of the segment at j
  module _ (end : Segment → Fraction) (least : (s : Segment) → IsRightSegment value fit.problem s → Minimises (sample value fit.problem) (printed (end s)) (number_at s.vertex.coef)) where
    abbrev MinimisesOf : Option Segment → Type 0
    MinimisesOf o = Minimises (sample value fit.problem) (option_map_or (λ s. printed (end s)) o (whole (pos 0))) (λ k. option_map_or (λ s. number_at s.vertex.coef k) o (whole (pos 0)))

    at_end : (j : ℕ) → j < length fit.process.segments → Minimises (sample value fit.problem) (of_segment fit.process.segments (λ s. printed (end s)) j) (coefficients j)
    at_end j l = at_place (IsRightSegment value fit.problem) MinimisesOf least fit.process.segments right.process.segments j l

  along : MinimiseAlong (sample value fit.problem) (segments_of value fit.problem fit.process.segments) coefficients
  along = record { at_lo = at_end (λ s. s.lo) (λ s right. right.at_lo.minimises); at_hi = at_end (λ s. s.hi) (λ s right. right.at_hi.minimises) }

  rises : CentroidNeverFallsAlong → AreObservations (sample value fit.problem) fit.data_rows → CentroidRises fit
  rises never observed j k h l =
      never (sample value fit.problem) fit.data_rows (length fit.problem.rows) (rational (value job.lo)) (rational (value job.hi)) (segments_of value fit.problem fit.process.segments) coefficients observed right.process.covers along j k h l

-- ---- the losses

module _ (continuous : LeastLossIsContinuous) (line : LossIsLine) (falls : SlopeFallsAlong) (fit : Fit) (job : FitJob) (right : IsRightFit value job fit) where
  abbrev s : Segments
  s = segments_of value fit.problem fit.process.segments

  abbrev b : ℕ → ℕ → ℚ
  b j k = of_segment fit.process.segments (λ s. number_at s.vertex.coef k) j

  least : MinimiseAlong (sample value fit.problem) s b
  least = along fit job right

  -- what is printed as a loss is the loss
  module _ (end cost : Segment → Fraction) (lost : (s : Segment) → IsRightSegment value fit.problem s → printed (cost s) ≡ loss (sample value fit.problem) (printed (end s)) (number_at s.vertex.coef)) where
    abbrev LostOf : Option Segment → Type 0
    LostOf o =
        option_map_or (λ s. printed (cost s)) o (whole (pos 0))
        ≡ loss (sample value fit.problem) (option_map_or (λ s. printed (end s)) o (whole (pos 0))) (λ k. option_map_or (λ s. number_at s.vertex.coef k) o (whole (pos 0)))

    lost_at : (j : ℕ) → j < length fit.process.segments → of_segment fit.process.segments (λ s. printed (cost s)) j ≡ loss (sample value fit.problem) (of_segment fit.process.segments (λ s. printed (end s)) j) (b j)
    lost_at j l = at_place (IsRightSegment value fit.problem) LostOf lost fit.process.segments right.process.segments j l

  lost_lo : (j : ℕ) → j < length fit.process.segments → loss_lo_at fit j ≡ loss (sample value fit.problem) (lo_at fit j) (b j)
  lost_lo = lost_at (λ s. s.lo) (λ s. s.loss_lo) (λ s right. right.at_lo.lost)

  lost_hi : (j : ℕ) → j < length fit.process.segments → loss_hi_at fit j ≡ loss (sample value fit.problem) (hi_at fit j) (b j)
  lost_hi = lost_at (λ s. s.hi) (λ s. s.loss_hi) (λ s right. right.at_hi.lost)

  joined : (j : ℕ) → j + 1 < length fit.process.segments → loss_hi_at fit j ≡ loss_lo_at fit (j + 1)
  joined j l =
      lost_hi j (omega (arith, l))
      ∙ continuous (sample value fit.problem) (length fit.problem.rows) (rational (value job.lo)) (rational (value job.hi)) s b right.process.covers least j l
      ∙ sym (lost_lo (j + 1) l)

  -- the slope of a segment
  change : (j : ℕ) → j < length fit.process.segments → loss_hi_at fit j -ℚ loss_lo_at fit j ≡ (hi_at fit j -ℚ lo_at fit j) *ℚ loss_slope (sample value fit.problem) (b j)
  change j l =
      ap₂ (λ x y. x -ℚ y) (lost_hi j l ∙ line (sample value fit.problem) (lo_at fit j) (hi_at fit j) (b j)) (lost_lo j l)
      ∙ ring_ℚ (loss (sample value fit.problem) (lo_at fit j) (b j) ∷ ((hi_at fit j -ℚ lo_at fit j) *ℚ loss_slope (sample value fit.problem) (b j)) ∷ []) ((v0 ⊞ v1) ⊟ v0) v1 refl

  -- the width of a segment isn't negative
  wide : (j : ℕ) → j < length fit.process.segments → whole (pos 0) ≤ℚ (hi_at fit j -ℚ lo_at fit j)
  wide j l = (≤ℚ-minus (lo_at fit j) (hi_at fit j)).0 (by (right.process.covers.proper j l))
    where
      only : (count : length fit.process.segments ≡ 1) → j ≡ 0
      only count = omega (arith, l, count)

      by : (cmp_ℚ (s.lo j) (s.hi j) ≡ Less) ⊎ ((s.count ≡ 1) × (rational (value job.lo) ≡ rational (value job.hi))) → lo_at fit j ≤ℚ hi_at fit j
      by (inl h) = le_from_not (lo_at fit j) (hi_at fit j) ((cmp_ℚ-Less (lo_at fit j) (hi_at fit j)).0 h)
      by (inr h) =
          let first : j ≡ 0 = only h.0 in
          let last : s.count - 1 ≡ j = omega (arith, h.0, first) in
          let low : lo_at fit j ≡ rational (value job.lo) = ap s.lo first ∙ right.process.covers.first in
          let high : hi_at fit j ≡ rational (value job.hi) = ap s.hi (sym last) ∙ right.process.covers.last in
          subst (λ z. lo_at fit j ≤ℚ z) (low ∙ h.1 ∙ sym high) (≤ℚ_refl (lo_at fit j))

  concave : AreConcaveLosses fit
  concave =
      record {
        joined = joined;
        falls = λ j k h l.
            let m : j < length fit.process.segments = omega (arith, h, l) in
            let u = hi_at fit j -ℚ lo_at fit j in
            let v = hi_at fit k -ℚ lo_at fit k in
            let x = loss_slope (sample value fit.problem) (b k) in
            let y = loss_slope (sample value fit.problem) (b j) in
            subst (λ z. z ≤ℚ ((loss_hi_at fit j -ℚ loss_lo_at fit j) *ℚ v)) (ring_ℚ (u ∷ v ∷ x ∷ []) ((v0 ⊠ v1) ⊠ v2) ((v1 ⊠ v2) ⊠ v0) refl ∙ ap (λ z. z *ℚ u) (sym (change k l)))
            (subst (λ z. ((u *ℚ v) *ℚ x) ≤ℚ z) (ring_ℚ (u ∷ v ∷ y ∷ []) ((v0 ⊠ v1) ⊠ v2) ((v0 ⊠ v2) ⊠ v1) refl ∙ ap (λ z. z *ℚ v) (sym (change j m)))
            (≤ℚ_mul x y (u *ℚ v) (product_not_negative u v (wide j m) (wide k l))
            (falls (sample value fit.problem) (length fit.problem.rows) (rational (value job.lo)) (rational (value job.hi)) s b right.process.covers least j k h l)));
      }

-- ---- a report

module _ (words : List (List ℕ)) (source source' : Stream) (fit : Fit) (read : IsRightRead words source source' fit) where
  abbrev of : IsReadFit words source source' fit
  of = read.of

  some : 1 ≤ of.input.problem.columns
  some = subst (λ (p : Problem Frac128). 1 ≤ p.columns) of.problem_is read.right.shaped.some

  first_column : of.is.2.model.intercept ≡ true → HasIntercept (sample value fit.problem) fit.data_rows (λ k. delta k 0)
  first_column intercept =
      subst (λ n. HasIntercept (sample value fit.problem) n (λ k. delta k 0)) (sym of.data_rows)
      (subst (λ (p : Problem Frac128). HasIntercept (sample value p) (length of.input.design.rows) (λ k. delta k 0)) (sym of.problem_is)
      (has_intercept of.asked.job of.is.0 of.is.2.model of.input of.is.2.is intercept some))

  unit_rows : of.asked.job.weights ≡ None → (i : ℕ) → i < fit.data_rows → (sample value fit.problem).up1 i ≡ whole (pos 1)
  unit_rows unweighted =
      subst (λ n. (i : ℕ) → i < n → (sample value fit.problem).up1 i ≡ whole (pos 1)) (sym of.data_rows)
      (subst (λ (p : Problem Frac128). (i : ℕ) → i < length of.input.design.rows → (sample value p).up1 i ≡ whole (pos 1)) (sym of.problem_is)
      (units of.asked.job of.is.0 of.is.2.model of.input of.is.2.is unweighted))

module _ (minimum : MinimumSplitsWeights) (weights : SidesSplitWeights {F = Frac128} value) (counts : SidesSplitCounts {F = Frac128} value)
    (never : CentroidNeverFallsAlong) (continuous : LeastLossIsContinuous) (line : LossIsLine) (falls : SlopeFallsAlong) where
  pub read_fit : (words : List (List ℕ)) (source source' : Stream) (fit : Fit) → IsRightRead words source source' fit → IsReadOff words source source' fit
  read_fit words source source' fit read =
      let job = read.of.asked.job in
      record {
        of = read.of;
        split = λ intercept k d l.
            split minimum weights counts fit job.weights (first_column words source source' fit read intercept) (unit_rows words source source' fit read)
            (get_or fit.process.segments k d) (read.right.process.segments k d l);
        centroid = rises fit job read.right never (records words source source' fit read.of);
        losses = concave continuous line falls fit job read.right;
      }
