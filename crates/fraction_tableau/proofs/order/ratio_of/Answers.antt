use Rattle.std.proofs.Common.{◌<◌, ℕ, length, refl, sym, subst}
use Rattle.lex_rule.specs.declared.less.Ratio.{Ratio}
use Rattle.tableau_model.proofs.Lists.{value_read}
use Rattle.fraction_tableau.proofs.Ties.{same_row, ratio_at}
use Rattle.fraction_tableau.proofs.order.ratio_of.Goals as goal

pub returns : goal.returns
returns g c =
    let value = g.F.Exact.value in
    let l = c.args.line.now in
    let inside : c.args.row < length l.residuals.now = subst (λ (n : ℕ). c.args.row < n) (sym c.requires.line.size) c.requires.row.row in
    let read = value_read value l.residuals.now c.args.row c.index-line-row.result inside c.index-line-row.is in
    let u : Ratio _ = record { row = c.args.row; residual = c.index-line-row.result; coords = c.args.coords } in
    rw (← c.index-line-row.is)
    (record {
      same = same_row value l c.requires.line c.args.row c.index-line-row.result c.args.coords.now c.requires.row read u refl refl refl;
      at = ratio_at value l c.requires.line c.args.row c.index-line-row.result c.args.coords.now c.requires.row read u refl refl refl;
    })
