use Rattle.rank_inversion.proofs.job.IntervalJobFrac128Work.work.Goals as goal

pub returns : goal.returns
returns g c = rw (← c.self.view_is) c.interval.ensures
