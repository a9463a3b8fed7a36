use Rattle.std.proofs.Common.{◌≡◌, [], length, arith, refl, ap, ◌∙◌}
use Rattle.rational_laws.specs.RationalSums.{sum_ℚ}
use Rattle.ratio.specs.Sums.{total}
use Rattle.ratio.proofs.Totals.{total-none}
use Rattle.nested_test.specs.Pairs.{pair_of}
use Rattle.nested_test.proofs.Pairs.{sum_more}
use Rattle.nested_test.proofs.statistic.Pairs.row.Goals as goal

pub loop-m-init : goal.loop-m-init
loop-m-init c = ap total c.new-terms.ensures ∙ total-none [] refl

pub loop-m-preserved : goal.loop-m-preserved
loop-m-preserved c =
    sum_more (pair_of c.args.self.now c.args.j) c.loop-m.m c.loop-m.terms c.add.new.self c.in_ok-term.term c.loop-m.invariant (c.in_ok-term.ensures {u = tt}) (c.in_ok-add.ensures {u = tt}).added

pub returns : goal.returns
returns c =
    let end : c.loop-m.m ≡ length c.args.self.now.tested.now = omega (arith, c.loop-m-test.false, c.loop-m.auto.m-end) in
    c.in_ok-row.ensures ∙ ap total c.as_slice.ensures ∙ c.loop-m.invariant ∙ ap (λ n. sum_ℚ n (pair_of c.args.self.now c.args.j)) end
