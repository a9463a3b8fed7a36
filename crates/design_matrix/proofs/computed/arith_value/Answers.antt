use Rattle.std.proofs.Common.{◌∙◌, ap, map}
use Rattle.frac_core.specs.Values.{exact}
use Rattle.design_matrix.specs.Cells.{column_of, number_at}
use Rattle.design_matrix.proofs.Evaluable.{caused_by, evaluated, fitted}
use Rattle.design_matrix.proofs.computed.arith_value.Goals as goal

pub returns-in-Ok-clause-value : goal.returns-in-Ok-clause-value
returns-in-Ok-clause-value c =
    let same = ap (map exact) c.deref.ensures.value ∙ c.in-Ok.ensures ∙ ap (map (λ name. number_at (column_of c.args.frame.now name) c.args.index)) c.as_slice.ensures in
    evaluated c.args.frame.now c.args.arith.now c.args.index c.requires c.deref.result.now same c.evaluate.result c.evaluate.ensures.value

pub returns-in-Ok-clause-fits : goal.returns-in-Ok-clause-fits
returns-in-Ok-clause-fits c =
    let same = ap (map exact) c.deref.ensures.value ∙ c.in-Ok.ensures ∙ ap (map (λ name. number_at (column_of c.args.frame.now name) c.args.index)) c.as_slice.ensures in
    fitted c.args.frame.now c.args.arith.now c.args.index c.requires c.deref.result.now same c.evaluate.result c.evaluate.ensures.value

pub returns-in-Ok-clause-fault : goal.returns-in-Ok-clause-fault
returns-in-Ok-clause-fault c =
    let same = ap (map exact) c.deref.ensures.value ∙ c.in-Ok.ensures ∙ ap (map (λ name. number_at (column_of c.args.frame.now name) c.args.index)) c.as_slice.ensures in
    caused_by c.args.frame.now c.args.arith.now c.args.index c.requires c.deref.result.now same c.evaluate.result c.evaluate.ensures.cause
