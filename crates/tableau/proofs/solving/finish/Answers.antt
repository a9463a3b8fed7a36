use Rattle.std.proofs.Common.{refl}
use Rattle.rational_laws.specs.Fraction.{rational}
use Rattle.tableau_model.specs.Questions.{solving}
use Rattle.tableau.specs.Bodies.{place_of}
use Rattle.tableau.proofs.Halts.{refusal_kept, refusal_halts}
use Rattle.tableau.proofs.solving.finish.Goals as goal

pub returns-in-Err-clause-halted : goal.returns-in-Err-clause-halted
returns-in-Err-clause-halted g c =
    let value = g.F.Exact.value in
    let u = c.args.at in
    let h = place_of value u.tableau in
    let theta = rational (value c.args.theta) in
    let under = c.requires.solved.underway in
    refusal_halts value g.F.Exact.range h.task theta c.args.limit h refl under.is_place u.trail u.trail c.in-Err.refused c.halt.result
    under.lawful c.requires.solved.short (refusal_kept value g.F.Exact.range h (solving theta) u.trail c.in-Err.refused (c.in-Err.ensures {u = tt}).refused) c.halt.ensures
