use Rattle.fraction_tableau.specs.Views.{sample_at, rows_at, entries_at}
use Rattle.fraction_tableau.proofs.EndSpills.{residual_read}
use Rattle.fraction_tableau.proofs.view.BasisView.residual.Goals as goal

pub returns : goal.returns
returns g c =
    let value = g.F.Exact.value in
    let view = c.args.self.now in
    residual_read value (sample_at value view) (rows_at value view) (entries_at value view) view.solution.now c.args.row c.index-as_slice-row.result c.requires.view.solution c.requires.row (rw c.as_slice.ensures at c.index-as_slice-row.is)
