use Rattle.std.proofs.Common.{◌≡◌, ◌<◌, ◌+◌, ◌-◌, ℕ, length, map, refl, arith, subst, inr}
use Rattle.std.specs.List.{flat_map, range_with_len}
use Rattle.tv_penalty.specs.Operations.{NoneOverflows, OverflowsFirst, knot_operations, operations_after}
use Rattle.tv_penalty.specs.Smoothings.{bend_after, bend_of}
use Rattle.tv_penalty.specs.Views.{bend_seen}
use Rattle.tv_penalty.proofs.Lists.{at_knots, read_ascending, counted_more}
use Rattle.tv_penalty.proofs.Overflowing.{first_at, fits_more}
use Rattle.tv_penalty.proofs.bends.bends.Goals as goal

pub bend_between-requires-clause-rising : goal.bend_between-requires-clause-rising
bend_between-requires-clause-rising c =
    let k = c.loop-lower.lower in
    let l : k + 1 < length c.args.knots.now = omega (arith, c.saturating_sub-lower-end.ensures, c.loop-lower-test.true) in
    read_ascending c.args.knots.now k (k + 1) c.index-knots-lower.result c.index-knots-lower-in-loop-lower.result c.requires.ascending refl l c.index-knots-lower.is c.index-knots-lower-in-loop-lower.is

pub bend_between-requires-clause-rising_on : goal.bend_between-requires-clause-rising_on
bend_between-requires-clause-rising_on c =
    let k = c.loop-lower.lower in
    let l : k + 2 < length c.args.knots.now = omega (arith, c.saturating_sub-lower-end.ensures, c.loop-lower-test.true) in
    let next : k + 2 ≡ (k + 1) + 1 = omega arith in
    read_ascending c.args.knots.now (k + 1) (k + 2) c.index-knots-lower-in-loop-lower.result c.index-knots-lower-in-loop-lower-2.result c.requires.ascending next l c.index-knots-lower-in-loop-lower.is c.index-knots-lower-in-loop-lower-2.is

pub returns-in-Err-clause-fault : goal.returns-in-Err-clause-fault
returns-in-Err-clause-fault c =
    let k = c.loop-lower.lower in
    let l : k + 2 < length c.args.knots.now = omega (arith, c.saturating_sub-lower-end.ensures, c.loop-lower-test.true) in
    inr (
      c.in-Err.spill,
      refl,
      first_at (operations_after c.args.smooth c.args.knots.now) k _ c.in-Err.spill (omega (arith, l)) c.loop-lower.invariant.fits
          (at_knots (λ x y z. OverflowsFirst (knot_operations c.args.smooth (k + 1) x y z) c.in-Err.spill) c.args.knots.now k c.index-knots-lower.result c.index-knots-lower-in-loop-lower.result c.index-knots-lower-in-loop-lower-2.result l
          c.index-knots-lower.is c.index-knots-lower-in-loop-lower.is c.index-knots-lower-in-loop-lower-2.is c.in-Err.ensures.spill),
    )

pub loop-lower-preserved : goal.loop-lower-preserved
loop-lower-preserved c =
    let k = c.loop-lower.lower in
    let l : k + 2 < length c.args.knots.now = omega (arith, c.saturating_sub-lower-end.ensures, c.loop-lower-test.true) in
    record {
      made = counted_more bend_seen (bend_after c.args.knots.now) 0 k k c.loop-lower.bends.items c.push.new.self.items c.in-Ok.bend (omega arith) c.loop-lower.invariant.made c.in_ok-push-in-Ok.ensures.items
          (at_knots (λ x y z. bend_seen c.in-Ok.bend ≡ bend_of x y z) c.args.knots.now k c.index-knots-lower.result c.index-knots-lower-in-loop-lower.result c.index-knots-lower-in-loop-lower-2.result l
          c.index-knots-lower.is c.index-knots-lower-in-loop-lower.is c.index-knots-lower-in-loop-lower-2.is c.in-Ok.ensures.exact);
      fits = fits_more (operations_after c.args.smooth c.args.knots.now) k c.loop-lower.invariant.fits
          (at_knots (λ x y z. NoneOverflows (knot_operations c.args.smooth (k + 1) x y z)) c.args.knots.now k c.index-knots-lower.result c.index-knots-lower-in-loop-lower.result c.index-knots-lower-in-loop-lower-2.result l
          c.index-knots-lower.is c.index-knots-lower-in-loop-lower.is c.index-knots-lower-in-loop-lower-2.is c.in-Ok.ensures.fits);
    }

pub returns-clause-exact : goal.returns-clause-exact
returns-clause-exact c =
    let end : c.loop-lower.lower ≡ length c.args.knots.now - 2 = omega (arith, c.saturating_sub-lower-end.ensures, c.loop-lower-test.false, c.loop-lower.auto.lower-end) in
    subst (λ (n : ℕ). map bend_seen c.loop-lower.bends.items ≡ map (bend_after c.args.knots.now) (range_with_len 0 n)) end c.loop-lower.invariant.made

pub returns-clause-fits : goal.returns-clause-fits
returns-clause-fits c =
    let end : c.loop-lower.lower ≡ length c.args.knots.now - 2 = omega (arith, c.saturating_sub-lower-end.ensures, c.loop-lower-test.false, c.loop-lower.auto.lower-end) in
    subst (λ (n : ℕ). NoneOverflows (flat_map (operations_after c.args.smooth c.args.knots.now) (range_with_len 0 n))) end c.loop-lower.invariant.fits
