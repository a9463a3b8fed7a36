use Rattle.std.proofs.Common.{rules, ◌≡◌, ◌++◌, ◌∷◌, [], refl, ap, ◌∙◌}
use Rattle.rank_tableau.specs.Walks.{exchange_of}
use Rattle.rank_inversion.proofs.StepLaws.{step_some, exchange_short}
use Rattle.rank_inversion.proofs.walking.Walk.make_step.Goals as goal

pub enter-requires-clause-some : goal.enter-requires-clause-some
enter-requires-clause-some g c κs within =
    let before = c.args.self.now in
    step_some g.F.Exact.value before.tableau c.args.course.now before.now c.args.step c.requires.step

pub returns-in-Err-clause-refused : goal.returns-in-Err-clause-refused
returns-in-Err-clause-refused g c =
    let before = c.args.self.now in
    record {
      kept = refl;
      spill = exchange_short g.F.Exact.value before.tableau c.args.course.now before.now c.args.step c.requires.step g.F.Exact.range _ (c.in-Err.ensures {u = tt}).spill;
    }

pub returns-clause-made : goal.returns-clause-made
returns-clause-made g c =
    let x = c.args.step in
    let before = c.args.self.now in
    let taken = c.in-Ok-exchange.exchange in
    let same : taken ≡ exchange_of g.F.Exact.value x = search rules in
    let pushed : c.push.new.self ≡ before.steps ++ taken ∷ [] = search rules in
    record {
      step = x;
      is_step = c.requires.step;
      kept = search rules;
      problem = search rules;
      rows = search rules;
      steps = pushed ∙ ap (λ e. before.steps ++ e ∷ []) same;
      now = refl;
    }
