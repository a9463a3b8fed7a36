use Rattle.std.proofs.Common.{map}
use Rattle.std.proofs.lemmas.Result.{IfOk-weaker}
use Rattle.frac_core.specs.Values.{value}
use Rattle.rank_inversion.specs.Jobs.{range}
use Rattle.rank_inversion.specs.Answers.{IsIntervalAnswer}
use Rattle.rank_inversion.specs.AllIntervals.{asked_over}
use Rattle.rank_inversion.proofs.Untils.{answered_until, zip_of}
use Rattle.rank_inversion.proofs.intervals.RankProblem+Frac128.intervals.Goals as goal

pub returns : goal.returns
returns g c =
    let self = c.args.self.now in
    let answers = c.in_ok-answers.answers.items in
    IfOk-weaker c.until_stop.result _ _ (λ until h.
    answered_until (IsIntervalAnswer value range self) (asked_over self.crit self.problem.now.columns (map (λ at. at.tau) c.args.starts.now)) answers until.done.items until.stop
    (zip_of (λ asked. (self, asked)) (λ job answer. IsIntervalAnswer value range job.0 job.1 answer)
    (asked_over self.crit self.problem.now.columns (map (λ at. at.tau) c.args.starts.now)) c.in_ok-jobs.jobs.items answers c.in_ok-jobs.ensures c.in_ok-answers.ensures) h) c.until_stop.ensures
