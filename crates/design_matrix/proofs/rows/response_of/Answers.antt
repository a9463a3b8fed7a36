use Rattle.std.proofs.Common.{◌∙◌, ◌+◌, ap, inr, map, refl}
use Rattle.frac_core.specs.Values.{exact}
use Rattle.design_matrix.specs.Computed.{offsets_at}
use Rattle.design_matrix.proofs.Responses.{fits_of, spill_of}
use Rattle.design_matrix.proofs.rows.response_of.Goals as goal

pub returns-in-Ok-clause-fits : goal.returns-in-Ok-clause-fits
returns-in-Ok-clause-fits c =
    let offsets = ap (map exact) c.deref.ensures.value ∙ c.in_ok-values.ensures ∙ ap (λ l. offsets_at c.args.coder.now.frame.now l c.args.index) c.as_slice-offsets.ensures in
    fits_of c.number_of.ensures offsets c.in-Ok.ensures.fits

pub returns-clause-fault : goal.returns-clause-fault
returns-clause-fault c =
    let offsets = ap (map exact) c.deref.ensures.value ∙ c.in_ok-values.ensures ∙ ap (λ l. offsets_at c.args.coder.now.frame.now l c.args.index) c.as_slice-offsets.ensures in
    inr (c.in-Err.spill, refl, spill_of (c.args.index + 1) c.in-Err.spill c.number_of.ensures offsets c.in-Err.ensures.spill)
