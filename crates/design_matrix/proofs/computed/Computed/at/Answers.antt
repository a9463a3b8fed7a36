use Rattle.std.proofs.Common.{◌∙◌, ap, pos}
use Rattle.std.specs.Prelude.{slice_get}
use Rattle.rational_laws.specs.Rational.{whole}
use Rattle.design_matrix.specs.Computed.{arith_at}
use Rattle.design_matrix.proofs.Responses.{value_kept}
use Rattle.design_matrix.proofs.computed.Computed.at.Goals as goal

pub returns-in-Some : goal.returns-in-Some
returns-in-Some c =
    let self = c.args.self.now in
    value_kept (arith_at self.frame.now self.arith.now) self.values.items self.records.now c.args.place c.in-Some.value (whole (pos 0)) self.right
    (c.in-Some.ensures ∙ ap (λ l. slice_get l c.args.place) c.deref.ensures.value)
