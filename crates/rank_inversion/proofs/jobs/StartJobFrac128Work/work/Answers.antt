use Rattle.rank_inversion.proofs.jobs.StartJobFrac128Work.work.Goals as goal

pub returns : goal.returns
returns c = rw (← c.self.view_is) c.start.ensures
