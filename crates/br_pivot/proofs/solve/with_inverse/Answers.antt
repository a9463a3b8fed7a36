use Rattle.std.proofs.Common.{refl}
use Rattle.rational_laws.specs.Fraction.{rational}
use Rattle.tableau_model.specs.Questions.{solving}
use Rattle.tableau.specs.Bodies.{place_of}
use Rattle.tableau.proofs.Halts.{refusal_kept, refusal_halts}
use Rattle.br_pivot.proofs.Found.{found}
use Rattle.br_pivot.proofs.solve.with_inverse.Goals as goal

pub returns-in-Ok-clause-optimum : goal.returns-in-Ok-clause-optimum
returns-in-Ok-clause-optimum g c =
    found g.F.Exact.value (rational (g.F.Exact.value c.args.theta)) c.args.limit c.args.solution c.in-Ok.basis c.in-Ok.inverse
    c.requires.costs c.requires.solution (c.in-Ok.ensures {u = tt}).taken

pub returns-in-Err-clause-halted : goal.returns-in-Err-clause-halted
returns-in-Err-clause-halted g c =
    let value = g.F.Exact.value in
    let theta = rational (value c.args.theta) in
    let at = c.args.solution.reached in
    let h = place_of value at.tableau in
    let under = c.requires.solution.solved.underway in
    refusal_halts value g.F.Exact.range h.task theta c.args.limit h refl under.is_place at.trail at.trail c.in-Err.refused c.halt_of.result under.lawful c.requires.solution.solved.short
    (refusal_kept value g.F.Exact.range h (solving theta) at.trail c.in-Err.refused ((c.in-Err.ensures {u = tt}).refused (solving theta))) c.halt_of.ensures
