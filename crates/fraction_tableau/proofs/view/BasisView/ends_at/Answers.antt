use Rattle.std.proofs.lemmas.Result.{err_from_is_err_and}
use Rattle.rational_laws.specs.Fraction.{rational}
use Rattle.walk_model.specs.WalkSpills.{IsStaySpill}
use Rattle.fraction_tableau.specs.declared.ends.End.TheVariants.{Low, High}
use Rattle.fraction_tableau.specs.Ends.{IsEndedSpill}
use Rattle.fraction_tableau.specs.Views.{sample_at, rows_at, entries_at}
use Rattle.fraction_tableau.proofs.EndSpills.{low_spill, high_spill}
use Rattle.fraction_tableau.proofs.Refusals.{short_weaker}
use Rattle.fraction_tableau.proofs.view.BasisView.ends_at.Goals as goal

pub returns-in_err-low-clause-refused : goal.returns-in_err-low-clause-refused
returns-in_err-low-clause-refused g c = λ hi stay.
    let value = g.F.Exact.value in
    let view = c.args.self.now in
    let from = rational (value c.args.from) in
    let to = rational (value c.args.to) in
    let returned = err_from_is_err_and c.from_residual.result c.from_residual.ensures.1 in
    rw (returned.1, returned.2)
    (short_weaker (IsEndedSpill value g.F.Exact.range view (rational (value c.args.from)) Low) (IsStaySpill value g.F.Exact.range (sample_at value view) (rows_at value view) (entries_at value view) from hi)
    (λ s k. low_spill value g.F.Exact.range (sample_at value view) (rows_at value view) (entries_at value view) from hi to s stay k) _ (c.in_err-low.ensures {u = tt}).spill)

pub returns-in_err-high-clause-refused : goal.returns-in_err-high-clause-refused
returns-in_err-high-clause-refused g c = λ hi stay.
    let value = g.F.Exact.value in
    let view = c.args.self.now in
    let from = rational (value c.args.from) in
    let to = rational (value c.args.to) in
    let returned = err_from_is_err_and c.from_residual-in_err-high.result c.from_residual-in_err-high.ensures.1 in
    rw (returned.1, returned.2)
    (short_weaker (IsEndedSpill value g.F.Exact.range view (rational (value c.args.to)) High) (IsStaySpill value g.F.Exact.range (sample_at value view) (rows_at value view) (entries_at value view) from hi)
    (λ s k. high_spill value g.F.Exact.range (sample_at value view) (rows_at value view) (entries_at value view) from hi to s stay k) _ (c.in_err-high.ensures {u = tt}).spill)
