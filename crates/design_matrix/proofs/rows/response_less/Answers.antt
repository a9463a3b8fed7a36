use Rattle.std.proofs.Common.{arith, map, refl, subst}
use Rattle.std.proofs.lemmas.List.{length-map, take_all}
use Rattle.frac_core.specs.Values.{exact}
use Rattle.design_matrix.specs.Designs.{ResponseFits}
use Rattle.design_matrix.proofs.Responses.{less_fits, less_more}
use Rattle.design_matrix.proofs.rows.response_less.Goals as goal

pub loop-place-init : goal.loop-place-init
loop-place-init c = record { value = refl; fits = tt }

pub loop-place-preserved : goal.loop-place-preserved
loop-place-preserved c = record {
  value = less_more (exact c.args.response) c.args.offsets.now _ c.index-offsets-place.result _ _ c.loop-place-test.true c.index-offsets-place.is c.loop-place.invariant.value c.in-Ok.ensures.exact;
  fits = less_fits (exact c.args.response) c.args.offsets.now c.loop-place.place c.loop-place.left c.index-offsets-place.result c.loop-place-test.true c.index-offsets-place.is c.loop-place.invariant.value c.loop-place.invariant.fits
      (λ o. absurd (cc (c.in-Ok.ensures.refused.1 o)));
}

pub returns-clause-fits : goal.returns-clause-fits
returns-clause-fits c =
    let xs = map exact c.args.offsets.now in
    subst (ResponseFits (exact c.args.response)) (take_all c.loop-place.place xs (omega (arith, length-map c.args.offsets.now exact, c.loop-place-test.false))) c.loop-place.invariant.fits
