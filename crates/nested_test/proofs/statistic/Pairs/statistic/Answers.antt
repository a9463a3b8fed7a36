use Rattle.std.proofs.Common.{◌≡◌, [], length, arith, refl, ap, ap₂, ◌∙◌}
use Rattle.rational_laws.specs.Rational.{◌*ℚ◌}
use Rattle.rational_laws.specs.RationalSums.{sum_ℚ}
use Rattle.ratio.specs.Sums.{total}
use Rattle.ratio.proofs.Totals.{total-none}
use Rattle.nested_test.specs.Pairs.{sum_of_row}
use Rattle.nested_test.proofs.Pairs.{sum_more}
use Rattle.nested_test.proofs.statistic.Pairs.statistic.Goals as goal

pub loop-j-init : goal.loop-j-init
loop-j-init c = ap total c.new-sums.ensures ∙ total-none [] refl

pub loop-j-preserved : goal.loop-j-preserved
loop-j-preserved c =
    sum_more (sum_of_row c.args.self.now) c.loop-j.j c.loop-j.sums c.add.new.self c.in_ok-row.row c.loop-j.invariant (c.in_ok-row.ensures {u = tt}) (c.in_ok-add.ensures {u = tt}).added

pub returns : goal.returns
returns c =
    let end : c.loop-j.j ≡ length c.args.self.now.tested.now = omega (arith, c.loop-j-test.false, c.loop-j.auto.j-end) in
    let all = c.in_ok-all.ensures ∙ ap total c.as_slice.ensures ∙ c.loop-j.invariant ∙ ap (λ n. sum_ℚ n (sum_of_row c.args.self.now)) end in
    c.in_ok-statistic.ensures ∙ ap₂ (λ x y. x *ℚ y) c.in_ok-twelve.ensures all
