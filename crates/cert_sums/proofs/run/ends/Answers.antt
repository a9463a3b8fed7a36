use Rattle.cert_sums.proofs.run.ends.Goals as goal

pub returns : goal.returns
returns c = λ h. let sums = c.is_summed_at.ensures h in record { balanced = sums.balanced; objective = sums.objective }
