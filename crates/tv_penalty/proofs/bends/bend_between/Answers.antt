use Rattle.std.proofs.Common.{inl, inr, ap, refl, ◌∙◌}
use Rattle.std.proofs.lemmas.Result.{err_from_is_err_and}
use Rattle.rational_laws.specs.Rational.{neg_ℚ, inverse}
use Rattle.frac_core.specs.declared.exact.OpKind.TheVariants.{Add, Sub, Div}
use Rattle.tv_penalty.proofs.Overflowing.{fits_at, gap_nonzero, made, spilt_at}
use Rattle.tv_penalty.proofs.bends.bend_between.Goals as goal

pub returns-in_err-gap_below-clause-spill : goal.returns-in_err-gap_below-clause-spill
returns-in_err-gap_below-clause-spill c =
    let q = err_from_is_err_and c.from_residual.result c.from_residual.ensures.1 in
    rw (q.1, q.2) (inl (spilt_at c.knot_site.result c.args.smooth c.args.knot 1 Sub c.knot_site.ensures _ _ _ _ refl refl _ c.in_err-gap_below.ensures.spill))

pub returns-in_err-gap_above-clause-spill : goal.returns-in_err-gap_above-clause-spill
returns-in_err-gap_above-clause-spill c =
    let q = err_from_is_err_and c.from_residual-in_err-gap_above.result c.from_residual-in_err-gap_above.ensures.1 in
    rw (q.1, q.2) (inr (
      fits_at c.knot_site.result c.args.smooth c.args.knot 1 Sub c.knot_site.ensures _ _ _ _ refl refl c.in_ok-gap_below.ensures.fits,
      inl (spilt_at c.knot_site-2.result c.args.smooth c.args.knot 2 Sub c.knot_site-2.ensures _ _ _ _ refl refl _ c.in_err-gap_above.ensures.spill),
    ))

pub returns-in_err-slope_below-clause-spill : goal.returns-in_err-slope_below-clause-spill
returns-in_err-slope_below-clause-spill c =
    let q = err_from_is_err_and c.from_residual-in_err-slope_below.result c.from_residual-in_err-slope_below.ensures.1 in
    rw (q.1, q.2) (inr (
      fits_at c.knot_site.result c.args.smooth c.args.knot 1 Sub c.knot_site.ensures _ _ _ _ refl refl c.in_ok-gap_below.ensures.fits,
      inr (
        fits_at c.knot_site-2.result c.args.smooth c.args.knot 2 Sub c.knot_site-2.ensures _ _ _ _ refl refl c.in_ok-gap_above.ensures.fits,
        inl (spilt_at c.knot_site-3.result c.args.smooth c.args.knot 3 Div c.knot_site-3.ensures _ _ _ _ refl c.in_ok-gap_below.ensures.exact _ c.in_err-slope_below.ensures.spill),
      ),
    ))

pub returns-in_err-slope_above-clause-spill : goal.returns-in_err-slope_above-clause-spill
returns-in_err-slope_above-clause-spill c =
    let q = err_from_is_err_and c.from_residual-in_err-slope_above.result c.from_residual-in_err-slope_above.ensures.1 in
    rw (q.1, q.2) (inr (
      fits_at c.knot_site.result c.args.smooth c.args.knot 1 Sub c.knot_site.ensures _ _ _ _ refl refl c.in_ok-gap_below.ensures.fits,
      inr (
        fits_at c.knot_site-2.result c.args.smooth c.args.knot 2 Sub c.knot_site-2.ensures _ _ _ _ refl refl c.in_ok-gap_above.ensures.fits,
        inr (
          fits_at c.knot_site-3.result c.args.smooth c.args.knot 3 Div c.knot_site-3.ensures _ _ _ _ refl c.in_ok-gap_below.ensures.exact c.in_ok-slope_below.ensures.fits,
          inl (spilt_at c.knot_site-4.result c.args.smooth c.args.knot 4 Div c.knot_site-4.ensures _ _ _ _ refl c.in_ok-gap_above.ensures.exact _ c.in_err-slope_above.ensures.spill),
        ),
      ),
    ))

pub returns-in_err-both-clause-spill : goal.returns-in_err-both-clause-spill
returns-in_err-both-clause-spill c =
    let q = err_from_is_err_and c.from_residual-in_err-both.result c.from_residual-in_err-both.ensures.1 in
    rw (q.1, q.2) (inr (
      fits_at c.knot_site.result c.args.smooth c.args.knot 1 Sub c.knot_site.ensures _ _ _ _ refl refl c.in_ok-gap_below.ensures.fits,
      inr (
        fits_at c.knot_site-2.result c.args.smooth c.args.knot 2 Sub c.knot_site-2.ensures _ _ _ _ refl refl c.in_ok-gap_above.ensures.fits,
        inr (
          fits_at c.knot_site-3.result c.args.smooth c.args.knot 3 Div c.knot_site-3.ensures _ _ _ _ refl c.in_ok-gap_below.ensures.exact c.in_ok-slope_below.ensures.fits,
          inr (
            fits_at c.knot_site-4.result c.args.smooth c.args.knot 4 Div c.knot_site-4.ensures _ _ _ _ refl c.in_ok-gap_above.ensures.exact c.in_ok-slope_above.ensures.fits,
            inl (spilt_at c.knot_site-5.result c.args.smooth c.args.knot 5 Add c.knot_site-5.ensures _ _ _ _ (c.in_ok-slope_below.ensures.exact ∙ ap inverse c.in_ok-gap_below.ensures.exact) (c.in_ok-slope_above.ensures.exact
                ∙ ap inverse c.in_ok-gap_above.ensures.exact) _ c.in_err-both.ensures.spill),
          ),
        ),
      ),
    ))

pub reciprocal-requires : goal.reciprocal-requires
reciprocal-requires c = gap_nonzero c.args.below c.args.at c.in_ok-gap_below.gap_below c.requires.rising c.in_ok-gap_below.ensures.exact

pub reciprocal-requires-2 : goal.reciprocal-requires-2
reciprocal-requires-2 c = gap_nonzero c.args.at c.args.above c.in_ok-gap_above.gap_above c.requires.rising_on c.in_ok-gap_above.ensures.exact

pub returns-clause-fits : goal.returns-clause-fits
returns-clause-fits c = (
  fits_at c.knot_site.result c.args.smooth c.args.knot 1 Sub c.knot_site.ensures _ _ _ _ refl refl c.in_ok-gap_below.ensures.fits,
  (
    fits_at c.knot_site-2.result c.args.smooth c.args.knot 2 Sub c.knot_site-2.ensures _ _ _ _ refl refl c.in_ok-gap_above.ensures.fits,
    (
      fits_at c.knot_site-3.result c.args.smooth c.args.knot 3 Div c.knot_site-3.ensures _ _ _ _ refl c.in_ok-gap_below.ensures.exact c.in_ok-slope_below.ensures.fits,
      (
        fits_at c.knot_site-4.result c.args.smooth c.args.knot 4 Div c.knot_site-4.ensures _ _ _ _ refl c.in_ok-gap_above.ensures.exact c.in_ok-slope_above.ensures.fits,
        (
          fits_at c.knot_site-5.result c.args.smooth c.args.knot 5 Add c.knot_site-5.ensures _ _ _ _ (c.in_ok-slope_below.ensures.exact ∙ ap inverse c.in_ok-gap_below.ensures.exact) (c.in_ok-slope_above.ensures.exact
              ∙ ap inverse c.in_ok-gap_above.ensures.exact) c.in_ok-both.ensures.fits,
          tt,
        ),
      ),
    ),
  ),
)

pub returns-clause-exact : goal.returns-clause-exact
returns-clause-exact c =
    made c.args.below c.args.at c.args.above c.in_ok-slope_below.slope_below c.neg.result c.in_ok-slope_above.slope_above (c.in_ok-slope_below.ensures.exact ∙ ap inverse c.in_ok-gap_below.ensures.exact) (c.in_ok-slope_above.ensures.exact
    ∙ ap inverse c.in_ok-gap_above.ensures.exact) (c.neg.ensures ∙ ap neg_ℚ c.in_ok-both.ensures.exact)
