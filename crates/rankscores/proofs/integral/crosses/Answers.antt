use Rattle.std.proofs.Common.{◌≡◌, Some, [], length, slice_get, refl, ap, sym, ◌∙◌, arith}
use Rattle.std.proofs.lemmas.Option.{slice_get-get_or}
use Rattle.ratio.specs.Sums.{total}
use Rattle.ratio.proofs.Totals.{total-none}
use Rattle.rankscores.proofs.Areas.{cross_more, crossed_all, crossed_none}
use Rattle.rankscores.proofs.integral.crosses.Goals as goal

pub loop-number-init : goal.loop-number-init
loop-number-init g c =
    crossed_none g.F.Exact.value c.args.problem.now c.args.segments.now c.args.row (total c.new-terms.result) (ap total c.new-terms.ensures ∙ total-none [] refl)

pub loop-number-preserved : goal.loop-number-preserved
loop-number-preserved g c =
    let s = c.index-segments-number.result in
    let there : slice_get c.args.segments.now c.loop-number.number ≡ Some s = slice_get-get_or c.args.segments.now c.loop-number.number s c.loop-number-test.true ∙ ap (λ x. Some x) (sym c.index-segments-number.is) in
    cross_more g.F.Exact.value c.args.problem.now c.args.segments.now c.args.row c.requires c.loop-number.number s c.loop-number-test.true there (total c.loop-number.terms) (total c.plus_cross.new.terms) c.loop-number.is_open c.in_ok-is_open.is_open
    c.loop-number.invariant (c.in_ok-is_open.ensures {u = tt})

pub returns : goal.returns
returns g c =
    let end : c.loop-number.number ≡ length c.args.segments.now = omega (arith, c.loop-number-test.false, c.loop-number.auto.number-end) in
    crossed_all g.F.Exact.value c.args.problem.now c.args.segments.now c.args.row c.requires c.loop-number.number c.index-segments-segments.result (total c.loop-number.terms) (total c.close.new.terms) c.loop-number.is_open end c.index-segments-segments.is
    c.loop-number.invariant (c.in_ok-close.ensures {u = tt})
