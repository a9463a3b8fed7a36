use Rattle.loss_model.proofs.laws.dependence_refutes_full_rank.Goals as goal

pub returns : goal.returns
returns c = λ p b h full. h.some (full b h.zero h.column h.within)
