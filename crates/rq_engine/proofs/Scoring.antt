-- The fit of an input without penalty rows over 0 to 1, whose rows can be scored.
use Rattle.std.proofs.Common.{◌≡◌, ◌<◌, ◌≤◌, ℕ, All, length, pos, arith, sym, subst}
use Rattle.std.proofs.lemmas.Int.{ints}
use Rattle.rational_laws.specs.Fraction.{rational}
use Rattle.rational_laws.specs.Rational.{ℚ, whole, ◌≤ℚ◌}
use Rattle.rational_laws.proofs.RationalLaws.{≤ℚ_refl}
use Rattle.rational_laws.proofs.WholeNumbers.{whole-le}
use Rattle.frac_core.specs.declared.frac128.Frac128.{Frac128}
use Rattle.frac_core.specs.Values.{value}
use Rattle.loss_model.specs.declared.problem.Problem.{Problem}
use Rattle.loss_model.specs.Dual.{IsDataRow}
use Rattle.loss_model.specs.Problem.{sample}
use Rattle.loss_model.specs.Segment.{Covers, segments_of}
use Rattle.rankscores.specs.Scores.{IsScorable}
use Rattle.rq_words.specs.declared.job.FitJob.{FitJob}
use Rattle.report_text.specs.declared.report.Fit.{Fit}
use Rattle.rq_input.specs.Rows.{HasRows}
use Rattle.rq_input.specs.declared.input.Input.{Input}
use Rattle.rq_engine.specs.Asks.{IsFitAsk, IsUnitAsk}
use Rattle.rq_engine.specs.Fit.{IsFitOf, IsRightFit}
use Rattle.rq_engine.proofs.Fits.{process_scorable}

-- ---- a job over 0 to 1

module _ (job : FitJob) (ask : IsUnitAsk job) where
  -- its range lies in 0 to 1
  pub unit_ask : IsFitAsk job
  unit_ask =
      record {
        low = subst (λ z. whole (pos 0) ≤ℚ z) ask.low (≤ℚ_refl (whole (pos 0)));
        ordered = subst (λ z. z ≤ℚ rational (value job.hi)) ask.low (subst (λ z. whole (pos 0) ≤ℚ z) ask.high (whole-le (pos 0) (pos 1) (omega (arith, ints))));
        high = subst (λ z. z ≤ℚ whole (pos 1)) ask.high (≤ℚ_refl (whole (pos 1)));
        rank = ask.rank;
      }

  pub covers_unit : (fit : Fit) → IsRightFit value job fit → Covers (length fit.problem.rows) (whole (pos 0)) (whole (pos 1)) (segments_of value fit.problem fit.process.segments)
  covers_unit fit right =
      subst (λ z. Covers (length fit.problem.rows) z (whole (pos 1)) (segments_of value fit.problem fit.process.segments)) (sym ask.low)
      (subst (λ z. Covers (length fit.problem.rows) (rational (value job.lo)) z (segments_of value fit.problem fit.process.segments)) (sym ask.high) right.process.covers)

-- ---- its fit

module _ (job : FitJob) (input : Input) (rows : HasRows input) (none : length input.smoothing.rows ≡ 0) (fit : Fit) (is : IsFitOf job input fit) where
  abbrev lo : ℚ
  lo = rational (value job.lo)

  abbrev hi : ℚ
  hi = rational (value job.hi)

  -- all rows are data rows
  pub all_data : (i : ℕ) → i < length fit.problem.rows → IsDataRow (sample value fit.problem) i
  all_data = subst (λ (p : Problem Frac128). (i : ℕ) → i < length p.rows → IsDataRow (sample value p) i) (sym is.under.problem_is) (λ i l. rows.are_data i (omega (arith, rows.size, none, l)))

  pub few_rows : length fit.problem.rows ≤ 16384
  few_rows = is.right.shaped.rows

  pub scorable_fit : All (IsScorable fit.problem) fit.process.segments
  scorable_fit = process_scorable value fit.problem lo hi fit.process is.right.process.results
