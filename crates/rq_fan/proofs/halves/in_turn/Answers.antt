use Rattle.std.proofs.Common.{◌≡◌, ◌∷◌, [], ◌++◌, ◌∙◌, append_assoc, subst, sym}
use Rattle.std.specs.List.{AllZip}
use Rattle.std.specs.Vec.Iter.{into_iter_items}
use Rattle.std.proofs.lemmas.Slice.Zip.{all_zipped_more}
use Rattle.rq_fan.proofs.halves.in_turn.Goals as goal

pub loop-job-preserved : goal.loop-job-preserved
loop-job-preserved g c =
    let at = c.loop-job in
    let job = c.in-Some.job in
    let steps : into_iter_items at.job-iterator ≡ job ∷ into_iter_items c.next.new.self = c.in-Some.ensures.steps.0 in (
      append_assoc at.yielded (job ∷ []) _ ∙ rw (← steps) at.invariant.0,
      subst (AllZip g.J.Work.answers (at.yielded ++ job ∷ [])) (sym c.in-Ok.ensures.items) (all_zipped_more g.J.Work.answers at.yielded at.answers.items job c.work.result at.invariant.1 c.work.ensures),
    )
