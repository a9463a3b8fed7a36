use Rattle.frac_core.specs.Values.{value}
use Rattle.rank_inversion.specs.Answers.{IsStartedAt}
use Rattle.rank_inversion.proofs.Untils.{zip_of}
use Rattle.rank_inversion.proofs.intervals.RankProblem+Frac128.starts.Goals as goal

pub returns : goal.returns
returns g c =
    let self = c.args.self.now in
    zip_of (λ tau. (self, tau)) (λ job answer. IsStartedAt value job.0 job.1 answer) c.args.taus.now c.in_ok-jobs.jobs.items c.in_ok-answers.answers.items c.in_ok-jobs.ensures c.in_ok-answers.ensures
