-- Why an input has a path in lambda: its costs are lawful at every lambda above 0, and its columns are independent.
use Rattle.std.proofs.Common.{◌≡◌, ◌≤◌, ◌+◌, ◌-◌, Bool, true, false, List, length, pos, arith, ap, inl, inr, refl}
use Rattle.rational_laws.specs.Fraction.{Fraction, rational}
use Rattle.rational_laws.specs.Rational.{ℚ, whole}
use Rattle.rational_laws.proofs.OrderLaws.{cmp_ℚ-Less}
use Rattle.rational_laws.proofs.RationalLaws.{≤ℚ_trans}
use Rattle.frac_core.specs.declared.frac128.Frac128.{Frac128}
use Rattle.frac_core.specs.Values.{exact, value}
use Rattle.loss_model.specs.declared.problem.Problem.{Problem}
use Rattle.loss_model.specs.declared.stop.Stop.{Stop}
use Rattle.loss_model.specs.declared.stop.Stop.TheVariants as stops
use Rattle.loss_model.specs.FullRank.{HasFullRank}
use Rattle.loss_model.specs.Problem.{sample, IsWellShaped}
use Rattle.loss_model.specs.StartStop.{IsDependent}
use Rattle.loss_model.specs.Strict.{◌<ℚ◌}
use Rattle.pivot_model.specs.Duals.{HasCosts}
use Rattle.tau_process.specs.Stops.{IsProcessStop}
use Rattle.lambda_path.specs.Faults.{HasCause}
use Rattle.lambda_path.specs.declared.fault.PathFault.{PathFault}
use Rattle.lambda_path.specs.declared.fault.PathFault.TheVariants as faults
use Rattle.lambda_path.specs.Laws.{PathHasCosts, PathHasFullRank}
use Rattle.rq_words.specs.declared.job.PathJob.{PathJob}
use Rattle.report_text.specs.declared.report.Place.TheVariants as places
use Rattle.report_text.specs.declared.report.PathFit.{PathFit}
use Rattle.report_text.specs.declared.report.Report.TheVariants as reports
use Rattle.report_text.specs.ReportText.{IsPrintable}
use Rattle.rq_input.specs.PlainRows.{HasIntercept}
use Rattle.rq_input.specs.Rows.{HasRows}
use Rattle.rq_input.specs.declared.plain.PlainInput.{PlainInput}
use Rattle.rq_engine.specs.Asks.{IsPathAsk}
use Rattle.rq_engine.specs.Halts.{stop_halt}
use Rattle.rq_engine.specs.PathHalts.{path_halt}
use Rattle.rq_engine.specs.Paths.{HasPathCause, IsPathFitOf, IsPathProblem, first_penalised}
use Rattle.rq_engine.specs.Stops.{most}

-- the first penalised column is one of them, or the end
pub first_within : (plain : PlainInput) → HasRows plain.input → first_penalised plain.intercept ≤ plain.input.problem.columns
first_within plain rows = by plain.intercept
  where
    by : (intercept : Bool) → first_penalised intercept ≤ plain.input.problem.columns
    by true = rows.shaped.some
    by false = omega arith

module _ (job : PathJob) (ask : IsPathAsk job) (plain : PlainInput) (rows : HasRows plain.input) (unpenalised : length plain.input.smoothing.rows ≡ 0) (q : Problem Frac128) (path : IsPathProblem job plain q) where
  -- so at both ends of the range that a job asks for
  costs : PathHasCosts → (lambda : ℚ) → whole (pos 0) <ℚ lambda → HasCosts (sample value q) lambda
  costs lawful lambda above =
      lawful (sample value plain.input.problem) (first_penalised plain.intercept) (rational (value job.tau)) (sample value q) path lambda
      (λ i l. (cmp_ℚ-Less (whole (pos 0)) ((sample value plain.input.problem).up1 i)).0 (rows.are_data i (omega (arith, rows.size, unpenalised, l))).weighted)
      ask.tau_low ask.tau_high above

  pub low_costs : PathHasCosts → HasCosts (sample value q) (rational (value job.fit.lo))
  low_costs lawful = costs lawful (rational (value job.fit.lo)) ask.low

  pub high_costs : PathHasCosts → HasCosts (sample value q) (rational (value job.fit.hi))
  high_costs lawful = costs lawful (rational (value job.fit.hi)) (λ h. ask.low (≤ℚ_trans (rational (value job.fit.lo)) (rational (value job.fit.hi)) (whole (pos 0)) ask.ordered h))

module _ (job : PathJob) (plain : PlainInput) (first : HasIntercept plain.intercept plain.input) (independent : PathHasFullRank) (q : Problem Frac128) (shaped : IsWellShaped q) (path : IsPathProblem job plain q) where
  -- the columns other than an intercept are penalised, and that isn't 0 in the first row
  full_rank : HasFullRank (sample value q)
  full_rank = by plain.intercept refl
    where
      by : (intercept : Bool) → plain.intercept ≡ intercept → HasFullRank (sample value q)
      by true e = independent (sample value plain.input.problem) (first_penalised plain.intercept) (rational (value job.tau)) (sample value q) path (inr (ap first_penalised e, first.some, first.entry e))
      by false e = independent (sample value plain.input.problem) (first_penalised plain.intercept) (rational (value job.tau)) (sample value q) path (inl (ap first_penalised e))

  pub not_dependent : (combination : List Fraction) → ¬ IsDependent value q combination
  not_dependent combination d = d.dependence.some (full_rank _ d.dependence.zero d.dependence.column d.dependence.within)

  pub path_stop : (stop : Stop Frac128) → IsProcessStop value most q (rational (value job.fit.lo)) (rational (value job.fit.hi)) job.fit.limit stop → HasPathCause job plain (stop_halt places.Process stop)
  path_stop stops.OutOfMemory h = tt
  path_stop (stops.PivotLimit limit trail) h = (h.0, record { problem = q; shaped = shaped; path = path; cause = h.1 })
  path_stop (stops.Overflow trail spill) h = record { problem = q; shaped = shaped; path = path; cause = h }
  path_stop (stops.Dependent combination) h = absurd (not_dependent combination h)

-- why the path problem isn't made is why there is no path
pub path_cause : (job : PathJob) (plain : PlainInput) (fault : PathFault) → HasCause plain.input.problem (first_penalised plain.intercept) (exact job.tau) fault → HasPathCause job plain (path_halt fault)
path_cause job plain faults.OutOfMemory h = tt
path_cause job plain faults.TooManyRows h = h
path_cause job plain (faults.Overflow spill) h = (refl, h.0, h.1)

-- a path has no more data rows than rows, and each segment has the values of its basic rows
pub path_printable : (job : PathJob) (plain : PlainInput) (fit : PathFit) → HasRows plain.input → IsPathFitOf job plain fit → IsPrintable (reports.Path fit)
path_printable job plain fit rows of =
    let size : length fit.problem.rows ≡ length plain.input.problem.rows + (plain.input.problem.columns - first_penalised plain.intercept) = of.path.rows in
    (omega (arith, of.data_rows, size, rows.size), λ k d l. record { lo = (of.process.segments k d l).at_lo.basic; hi = (of.process.segments k d l).at_hi.basic })
