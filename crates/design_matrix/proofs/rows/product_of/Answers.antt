use Rattle.std.proofs.Common.{◌≡◌, arith, inl, inr, length, map, pos, refl, slice_index_or}
use Rattle.std.proofs.lemmas.Result.{err_from_is_err_and}
use Rattle.rational_laws.specs.Rational.{whole}
use Rattle.design_matrix.specs.Parts.{factors}
use Rattle.design_matrix.specs.Views.{part_seen}
use Rattle.design_matrix.proofs.Products.{fits_more, fits_none, length_maps, product_step, spilt}
use Rattle.design_matrix.proofs.rows.product_of.Goals as goal

pub loop-term-init : goal.loop-term-init
loop-term-init c = record {
  value = c.one-product.ensures;
  fits = fits_none (factors (map part_seen c.args.parts.now) c.args.place) c.one-product.result c.one-product.ensures;
}

pub loop-term-preserved : goal.loop-term-preserved
loop-term-preserved c =
    let value = product_step part_seen (λ p. slice_index_or p.entries c.args.place (whole (pos 0))) c.args.parts.now _ _ _ _ _
    c.loop-term-test.true c.index-parts-term.is c.loop-term.invariant.value c.in_ok-factor.ensures c.in-Ok.ensures.exact in
    record {
      value = value;
      fits = fits_more (factors (map part_seen c.args.parts.now) c.args.place) _ c.in-Ok.next value c.loop-term.invariant.fits;
    }

pub returns-in_err-factor-clause-fault : goal.returns-in_err-factor-clause-fault
returns-in_err-factor-clause-fault c =
    let p = err_from_is_err_and c.from_residual.result c.from_residual.ensures.1 in
    rw p.1 (inl p.2)

pub returns-in-Err-clause-fault : goal.returns-in-Err-clause-fault
returns-in-Err-clause-fault c =
    let spilled = c.in-Err.ensures.spill in
    let n : length (factors (map part_seen c.args.parts.now) c.args.place) ≡ length c.args.parts.now = length_maps part_seen (λ p. slice_index_or p.entries c.args.place (whole (pos 0))) c.args.parts.now in
    inr (
      c.in-Err.spill,
      refl,
      record {
        term = c.loop-term.term;
        some = spilled.0;
        more = omega (arith, n, c.loop-term-test.true);
        first = c.loop-term.invariant.fits;
        operation = spilt part_seen (λ p. slice_index_or p.entries c.args.place (whole (pos 0))) c.args.parts.now _ _ _ _ _ _ c.loop-term-test.true c.index-parts-term.is c.loop-term.invariant.value c.in_ok-factor.ensures spilled.1;
      },
    )

pub returns-clause-fits : goal.returns-clause-fits
returns-clause-fits c t h =
    let n : length (factors (map part_seen c.args.parts.now) c.args.place) ≡ length c.args.parts.now =
    length_maps part_seen (λ p. slice_index_or p.entries c.args.place (whole (pos 0))) c.args.parts.now in
    c.loop-term.invariant.fits t (omega arith)
