-- The row that enters has a coordinate, and the joint is that of the step.
use Rattle.std.proofs.Common.{List, ℕ, slice_index, refl, ap, ◌∙◌}
use Rattle.loss_model.specs.Problem.{sample}
use Rattle.pivot_model.proofs.Passing.{mover_some}
use Rattle.whole_tableau.specs.Kept.{place}
use Rattle.whole_tableau.proofs.body.WholeTableau.next_past.Goals as goal

pub next-requires-clause-row : goal.next-requires-clause-row
next-requires-clause-row g c κs within = c.requires.first.1.row

pub next-requires-clause-some : goal.next-requires-clause-some
next-requires-clause-some g c κs within =
    let k = c.args.self.now in
    mover_some (sample g.F.Exact.value k.problem) (slice_index k.rows) (place g.F.Exact.value k).inverse c.args.step.position c.requires.first.0 c.args.step.row c.requires.first.1.mover

pub next-requires-clause-joint : goal.next-requires-clause-joint
next-requires-clause-joint g c κs within =
    record {
      entered = refl;
      left = ap (λ (xs : List ℕ). slice_index xs c.args.step.position) (c.as_slice-basis.ensures ∙ c.basis.ensures.rows);
      first = c.requires.first;
    }
