-- The rank test of an input: the process without the tested columns, the scores by it, and why there is none.
use Rattle.std.proofs.Common.{◌≡◌, ◌<◌, ◌≤◌, ℕ, zero, suc, List, [], ◌∷◌, All, length, map, pos, arith, refl, sym, ap, subst, ◌∙◌}
use Rattle.std.proofs.lemmas.List.{length-map}
use Rattle.rational_laws.specs.Fraction.{Fraction, rational}
use Rattle.rational_laws.specs.Rational.{ℚ, neg_ℚ, whole, ◌≤ℚ◌}
use Rattle.std.specs.declared.cmp.Ordering.TheVariants.{Less}
use Rattle.rational_laws.specs.Order.{cmp_ℚ}
use Rattle.rational_laws.proofs.RationalLaws.{≤ℚ_trans}
use Rattle.frac_core.specs.declared.frac128.Frac128.{Frac128}
use Rattle.frac_core.specs.Values.{value}
use Rattle.loss_model.specs.declared.problem.Problem.{Problem}
use Rattle.loss_model.specs.declared.process.Process.{Process}
use Rattle.loss_model.specs.declared.stop.Stop.{Stop}
use Rattle.loss_model.specs.declared.stop.Stop.TheVariants as stops
use Rattle.loss_model.specs.Dual.{IsDataRow}
use Rattle.loss_model.specs.FullRank.{HasFullRank}
use Rattle.loss_model.specs.declared.problem.Row.{Row}
use Rattle.loss_model.specs.Problem.{IsWellShaped, of_row, sample}
use Rattle.loss_model.specs.Segment.{Covers, segments_of}
use Rattle.pivot_model.specs.Duals.{HasCosts}
use Rattle.pivot_model.proofs.DataRows.{data_costs}
use Rattle.tau_process.specs.Processes.{IsProcess}
use Rattle.tau_process.specs.Stops.{IsProcessStop}
use Rattle.rankscores.specs.Scores.{IsScorable}
use Rattle.nested_test.specs.Laws.{RestrictedHasDataRows, RestrictedHasFullRank}
use Rattle.nested_test.specs.Restricted.{AreTested, restricted_problem, restricted_row}
use Rattle.rq_words.specs.declared.job.FitJob.{FitJob}
use Rattle.rq_words.specs.declared.job.TestJob.{TestJob}
use Rattle.report_text.specs.declared.report.Halt.{Halt}
use Rattle.report_text.specs.declared.report.Halt.TheVariants.{Refused, PivotLimit, Overflow}
use Rattle.report_text.specs.declared.report.Refusal.TheVariants.{Dependent}
use Rattle.report_text.specs.declared.report.Place.TheVariants as places
use Rattle.rq_input.specs.Rows.{HasRows}
use Rattle.rq_input.specs.Tested.{AreColumns}
use Rattle.rq_input.specs.declared.input.Input.{Input}
use Rattle.rq_engine.specs.Asks.{IsFitAsk, IsUnitAsk}
use Rattle.rq_engine.specs.Halts.{stop_halt}
use Rattle.rq_engine.specs.Stops.{most}
use Rattle.rq_engine.specs.Tested.{AreScoredBy, HasScoredCause, HasTestCause}
use Rattle.rq_engine.proofs.Fits.{process_scorable}
use Rattle.rq_engine.proofs.Scoring.{unit_ask}

pub are_tested : (columns : ℕ) (tested : List ℕ) → AreColumns columns tested → AreTested columns tested
are_tested columns tested are = record { ascending = are.ascending; within = are.within }

-- ---- the problem without the tested columns

module _ (p : Problem Frac128) (tested : List ℕ) (q : Problem Frac128) (is : q ≡ restricted_problem tested p) where
  pub same_rows : length q.rows ≡ length p.rows
  same_rows = ap (λ (q : Problem Frac128). length q.rows) is ∙ length-map p.rows (restricted_row tested)

  module _ (are_data : (i : ℕ) → i < length p.rows → IsDataRow (sample value p) i) (stay : RestrictedHasDataRows value p) where
    -- all rows are data rows
    pub restricted_data : (i : ℕ) → i < length q.rows → IsDataRow (sample value q) i
    restricted_data i l = subst (λ (q : Problem Frac128). IsDataRow (sample value q) i) (sym is) (stay tested i (are_data i (omega (arith, same_rows, l))))

    module _ (theta : ℚ) (low : whole (pos 0) ≤ℚ theta) (high : theta ≤ℚ whole (pos 1)) where
      pub restricted_costs : HasCosts (sample value q) theta
      restricted_costs = data_costs (sample value q) theta low high restricted_data

-- so at both ends of the range of a job over 0 to 1
module _ (job : FitJob) (ask : IsUnitAsk job) (p : Problem Frac128) (tested : List ℕ) (q : Problem Frac128) (is : q ≡ restricted_problem tested p) (are_data : (i : ℕ) → i < length p.rows → IsDataRow (sample value p) i)
    (stay : RestrictedHasDataRows value p) where
  abbrev fit_ask : IsFitAsk job
  fit_ask = unit_ask job ask

  pub restricted_low : HasCosts (sample value q) (rational (value job.lo))
  restricted_low =
      restricted_costs p tested q is are_data stay (rational (value job.lo)) fit_ask.low (≤ℚ_trans (rational (value job.lo)) (rational (value job.hi)) (whole (pos 1)) fit_ask.ordered fit_ask.high)

  pub restricted_high : HasCosts (sample value q) (rational (value job.hi))
  restricted_high =
      restricted_costs p tested q is are_data stay (rational (value job.hi)) (≤ℚ_trans (whole (pos 0)) (rational (value job.lo)) (rational (value job.hi)) fit_ask.low fit_ask.ordered) fit_ask.high

-- what a row without entries has of its costs it has with them
of_rows : (f : Row Frac128 → ℚ) (g : Row Frac128 → Row Frac128) (rows : List (Row Frac128)) (i : ℕ) → of_row (map g rows) f i ≡ of_row rows (λ r. f (g r)) i
of_rows f g [] i = refl
of_rows f g (r ∷ rows) zero = refl
of_rows f g (r ∷ rows) (suc i) = of_rows f g rows i

-- the data rows of any problem stay data rows
pub data_stays : (p : Problem Frac128) → RestrictedHasDataRows value p
data_stays p tested i row =
    let g = restricted_row tested in
    let up1 = of_rows (λ r. rational (value r.up1)) g p.rows i in
    let up0 = of_rows (λ r. rational (value r.up0)) g p.rows i in
    let down0 = of_rows (λ r. rational (value r.down0)) g p.rows i in
    let down1 = of_rows (λ r. rational (value r.down1)) g p.rows i in
    record {
      weighted = subst (λ z. cmp_ℚ (whole (pos 0)) z ≡ Less) (sym up1) row.weighted;
      up0 = up0 ∙ row.up0;
      down0 = down0 ∙ row.down0 ∙ sym up1;
      down1 = down1 ∙ row.down1 ∙ ap neg_ℚ (sym up1);
    }

-- ---- the process without them

module _ (job : FitJob) (ask : IsUnitAsk job) (q : Problem Frac128) (walked : Process) (made : IsProcess value q (rational (value job.lo)) (rational (value job.hi)) walked) (short : length walked.trail.steps ≤ job.limit) where
  pub process_covers : Covers (length q.rows) (whole (pos 0)) (whole (pos 1)) (segments_of value q walked.segments)
  process_covers =
      subst (λ z. Covers (length q.rows) z (whole (pos 1)) (segments_of value q walked.segments)) (sym ask.low)
      (subst (λ z. Covers (length q.rows) (rational (value job.lo)) z (segments_of value q walked.segments)) (sym ask.high) made.covers)

  pub scorable : All (IsScorable q) walked.segments
  scorable = process_scorable value q (rational (value job.lo)) (rational (value job.hi)) walked made.results

-- why there is no process: its columns are independent
pub scored_stop : (job : FitJob) (q : Problem Frac128) → HasFullRank (sample value q) → (stop : Stop Frac128) → IsProcessStop value most q (rational (value job.lo)) (rational (value job.hi)) job.limit stop
    → HasScoredCause job q (stop_halt places.Process stop)
scored_stop job q rank stops.OutOfMemory h = tt
scored_stop job q rank (stops.PivotLimit limit trail) h = h
scored_stop job q rank (stops.Overflow trail spill) h = h
scored_stop job q rank (stops.Dependent combination) h = absurd (h.dependence.some (rank _ h.dependence.zero h.dependence.column h.dependence.within))

-- so it is of the problem that was made without the tested columns
module _ (job : FitJob) (p : Problem Frac128) (tested : List ℕ) (q : Problem Frac128) (is : q ≡ restricted_problem tested p) where
  pub stop_there : RestrictedHasFullRank value p → IsWellShaped p → AreColumns p.columns tested → HasFullRank (sample value p) → (stop : Stop Frac128)
      → IsProcessStop value most q (rational (value job.lo)) (rational (value job.hi)) job.limit stop → HasScoredCause job (restricted_problem tested p) (stop_halt places.Process stop)
  stop_there stays shaped are rank stop h =
      let full = stays tested shaped (are_tested p.columns tested are) rank in
      subst (λ (q : Problem Frac128). HasScoredCause job q (stop_halt places.Process stop)) is
      (scored_stop job q (subst (λ (q : Problem Frac128). HasFullRank (sample value q)) (sym is) full) stop h)

  pub scored_there : (walked : Process) (wilcoxon : List Fraction) → AreScoredBy job q walked wilcoxon → AreScoredBy job (restricted_problem tested p) walked wilcoxon
  scored_there walked wilcoxon by = subst (λ (q : Problem Frac128). AreScoredBy job q walked wilcoxon) is by

-- ---- the input

pub input_data : (input : Input) → HasRows input → length input.smoothing.rows ≡ 0 → (i : ℕ) → i < length input.problem.rows → IsDataRow (sample value input.problem) i
input_data input rows none i l = rows.are_data i (omega (arith, rows.size, none, l))

module _ (job : TestJob) (input : Input) where
  -- the problem without the tested columns has no scores
  pub scored_cause : HasFullRank (sample value input.problem) → (halt : Halt) → HasScoredCause job.fit (restricted_problem job.tested input.problem) halt → HasTestCause job input halt
  scored_cause rank (Refused (Dependent combination)) h = absurd h
  scored_cause rank (PivotLimit place limit trail) h = (rank, h)
  scored_cause rank (Overflow places.Full trail spill) h = absurd h
  scored_cause rank halt h = h
