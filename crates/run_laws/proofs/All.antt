-- All conditions on a sound certificate are true.
use Rattle.std.proofs.Common.{◌++◌, ◌+◌}
use Rattle.rational_laws.specs.Fraction.{rational}
use Rattle.frac_core.specs.Values.{value as value128}
use Rattle.loss_model.specs.Problem.{sample}
use Rattle.cert_text.specs.declared.cert.Cert.{Cert}
use Rattle.cert_checker.specs.Certificates.{first_tests, later_tests, tests}
use Rattle.cert_checker.specs.Conditions.{each, row_form, segment_form, low_of, high_of, costs, ends, bounds, balances, losses, joints}
use Rattle.cert_checker.specs.Intervals.{interval_form, interval_tests}
use Rattle.cert_checker.specs.Tests.{AreTrue}
use Rattle.run_laws.specs.Sound.{IsSound, IsSoundInterval}
use Rattle.cert_checker.proofs.Decided.{joined}
use Rattle.run_laws.proofs.Made.{item_at, all_each}
use Rattle.run_laws.proofs.Passing.{are_rows, are_formed, are_costs, are_ends, are_bounds_lo, are_bounds_hi, are_balances, are_losses, are_joints}
use Rattle.run_laws.proofs.Ranked.{interval_formed, interval_true}

module _ (c : Cert) (h : IsSound c) where
  intervals_formed : AreTrue (each c.intervals (interval_form c.problem))
  intervals_formed =
      all_each c.intervals (interval_form c.problem) (λ m t e. interval_formed c.problem (m + 1) t (item_at (IsSoundInterval c.problem) c.intervals h.intervals m t e))

  intervals_true : AreTrue (each c.intervals (interval_tests (sample value128 c.problem)))
  intervals_true =
      all_each c.intervals (interval_tests (sample value128 c.problem))
      (λ m t e. interval_true c.problem t (item_at (IsSoundInterval c.problem) c.intervals h.intervals m t e).meets (m + 1))

  first_true : AreTrue (first_tests c)
  unfolding first_tests
  first_true =
      let ordered = costs (sample value128 c.problem) (rational (value128 c.lo)) (rational (value128 c.hi)) in
      let beside = ends c.segments (rational (value128 c.lo)) (rational (value128 c.hi)) in
      joined (each c.problem.rows (row_form c.problem)) _ (are_rows c.problem c.lo c.hi c.segments h.segments)
      (joined (each c.segments (segment_form c.problem)) _ (are_formed c.problem c.lo c.hi c.segments h.segments)
      (joined (each c.intervals (interval_form c.problem)) (ordered ++ beside) intervals_formed
      (joined ordered beside (are_costs c.problem c.lo c.hi c.segments h.segments) (are_ends c.problem c.lo c.hi c.segments h.segments))))

  later_true : AreTrue (later_tests c)
  unfolding later_tests
  later_true =
      joined (each c.segments (λ j s. bounds 4 (sample value128 c.problem) j (low_of s))) _ (are_bounds_lo c.problem c.lo c.hi c.segments h.segments)
      (joined (each c.segments (λ j s. bounds 5 (sample value128 c.problem) j (high_of s))) _ (are_bounds_hi c.problem c.lo c.hi c.segments h.segments)
      (joined (each c.segments (balances (sample value128 c.problem))) _ (are_balances c.problem c.lo c.hi c.segments h.segments)
      (joined (each c.segments (losses (sample value128 c.problem))) _ (are_losses c.problem c.lo c.hi c.segments h.segments)
      (joined (each c.segments (joints (sample value128 c.problem) c.segments)) (each c.intervals (interval_tests (sample value128 c.problem)))
      (are_joints c.problem c.lo c.hi c.segments h.segments) intervals_true))))

  pub all_true : AreTrue (tests c)
  all_true = joined (first_tests c) (later_tests c) first_true later_true
