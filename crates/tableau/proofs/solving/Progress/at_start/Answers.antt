use Rattle.std.proofs.Common.{refl, ap, length}
use Rattle.loss_model.specs.declared.process.Trail.{Trail}
use Rattle.tableau_model.specs.Places.{sample_of}
use Rattle.tableau.specs.Bodies.{place_of}
use Rattle.tableau.proofs.Trails.{trail_of_start}
use Rattle.tableau.proofs.solving.Progress.at_start.Goals as goal

pub returns : goal.returns
returns g c =
    let value = g.F.Exact.value in
    let h = place_of value c.args.tableau in
    let start = rw (c.as_slice.ensures, c.basis.ensures.rows) at (c.in-Ok.ensures {u = tt}) in
    let trail : Trail = record { start = c.in-Ok.start; steps = c.new.result; rise = c.new-2.result; fall = c.new-3.result } in
    record {
      begun = record {
        same = refl;
        underway = λ theta. record {
          is_place = c.basis.ensures.place;
          lawful = trail_of_start (sample_of value h) theta trail h.rows start c.new.ensures c.new-2.ensures c.new-3.ensures c.requires.greedy;
        };
        none = ap length c.new.ensures;
      };
    }
