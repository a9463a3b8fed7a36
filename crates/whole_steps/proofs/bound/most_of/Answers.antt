-- One product more, and both sums together.
use Rattle.std.proofs.Common.{rules, ◌≡◌, ◌+◌, ◌*◌, ◌+ℤ◌, ◌*ℤ◌, get_or, length, pos, unsigned_abs, to_z, of_z, subst, arith}
use Rattle.std.specs.Prelude.{slice_index}
use mir.Syntax.{w128}
use Rattle.rational_laws.specs.Rational.{whole}
use Rattle.whole_solution.specs.Ranges.{most_of_products}
use Rattle.whole_solution.proofs.Within.{halves_more, middles_more, most_is}
use Rattle.whole_steps.proofs.bound.most_of.Goals as goal

pub loop-k-preserved : goal.loop-k-preserved
loop-k-preserved c =
    let ranges = c.args.ranges.now in
    let column = c.args.column.now in
    let k = c.loop-k.k in
    let middle = c.loop-k.middle in
    let em : to_z w128 c.loop-k.middle-bits ≡ middle = search rules in
    let before = rw (em) at c.loop-k.invariant in
    let sum : c.in_ok-middle.middle ≡ middle +ℤ get_or column k (pos 0) *ℤ get_or ranges.middles k (pos 0) = search rules in
    let more : c.in_ok-rest.rest ≡ c.loop-k.rest + unsigned_abs (get_or column k (pos 0)) * slice_index ranges.halves k = search rules in
    let en : to_z w128 (of_z w128 c.in_ok-middle.middle) ≡ c.in_ok-middle.middle = search rules in
    rw (en) (record {
      middle = middles_more ranges (λ k. get_or column k (pos 0)) k middle c.in_ok-middle.middle (omega (arith, c.requires.middles, c.loop-k-test.true)) before.middle sum;
      rest = halves_more ranges (λ k. get_or column k (pos 0)) k c.loop-k.rest c.in_ok-rest.rest before.rest more;
    })

pub returns : goal.returns
returns c =
    let ranges = c.args.ranges.now in
    let column = c.args.column.now in
    let middle = c.loop-k.middle in
    let em : to_z w128 c.loop-k.middle-bits ≡ middle = search rules in
    let at_end = rw (em) at c.loop-k.invariant in
    let all : c.loop-k.k ≡ length column = omega (arith, c.loop-k-test.false, c.loop-k.auto.k-end) in
    let both : c.in_ok-sum.sum ≡ c.loop-k.rest + unsigned_abs middle = search rules in
    subst (λ k. whole (pos c.in_ok-sum.sum) ≡ most_of_products k ranges (λ k. whole (get_or column k (pos 0)))) all
    (most_is ranges (λ k. get_or column k (pos 0)) c.loop-k.k c.loop-k.rest c.in_ok-sum.sum middle at_end.rest at_end.middle both)
