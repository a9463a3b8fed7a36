use Rattle.std.proofs.Common.{length, refl, sym, ap, subst, ◌∙◌}
use Rattle.std.proofs.lemmas.List.{length_push}
use Rattle.rational_laws.specs.Fraction.{rational}
use Rattle.pivot_model.proofs.Passing.{mover_some}
use Rattle.loss_model.specs.Problem.{sample}
use Rattle.pivot_model.specs.Steps.{IsSolvingStep}
use Rattle.pivot_model.specs.Trails.{IsSolvingTrail}
use Rattle.tableau_model.specs.Places.{Task, at_of, sample_of}
use Rattle.tableau_model.specs.Questions.{solving}
use Rattle.tableau.specs.Bodies.{place_of}
use Rattle.tableau.specs.Solving.{exchange_at}
use Rattle.tableau.proofs.Trails.{trail_more}
use Rattle.tableau.proofs.Halts.{at_place, refusal_kept}
use Rattle.tableau.proofs.solving.Progress.make_step.Goals as goal

pub exchange-requires-clause-some : goal.exchange-requires-clause-some
exchange-requires-clause-some g c κs within =
    let h = place_of g.F.Exact.value c.args.self.now.tableau in
    mover_some (sample_of g.F.Exact.value h) (at_of h) h.inverse c.args.step.position c.requires.step.direction c.args.step.row c.requires.step.entering.mover

pub returns-in-Err-clause-refused : goal.returns-in-Err-clause-refused
returns-in-Err-clause-refused g c =
    let h = place_of g.F.Exact.value c.args.self.now.tableau in
    let asked = solving (rational (g.F.Exact.value c.args.theta)) in
    refusal_kept g.F.Exact.value g.F.Exact.range h asked c.args.self.now.trail c.in-Err.refused ((c.in-Err.ensures {u = tt}).refused asked c.requires.step)

pub returns-in-Ok-add_step-clause-made : goal.returns-in-Ok-add_step-clause-made
returns-in-Ok-add_step-clause-made g c =
    let value = g.F.Exact.value in
    let before = c.args.self.now in
    let h = place_of value before.tableau in
    let exchanged = c.in-Ok.ensures {u = tt} in
    let added = c.in-Ok-add_step.ensures {u = tt} in
    let theta = rational (value c.args.theta) in
    let made = exchange_at (value c.args.theta) c.args.step in
    let after = record before.trail { steps = c.add_step.new.steps } in
    record {
      underway = record {
        is_place = exchanged.place;
        lawful = subst (λ (t : Task _). IsSolvingTrail (sample value t.problem) theta after (place_of value c.exchange.new.self).rows) (sym exchanged.same)
            (trail_more (sample_of value h) theta before.trail after h.rows (place_of value c.exchange.new.self).rows made c.requires.underway.lawful refl
            (at_place value h c.requires.underway.is_place (λ a. IsSolvingStep (sample_of value h) (at_of h) a theta made.position made.row) c.requires.step)
            refl added refl refl exchanged.rows);
      };
      same = exchanged.same;
      one_more = ap length added ∙ length_push before.trail.steps made;
    }
