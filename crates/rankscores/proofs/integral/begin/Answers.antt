use Rattle.std.proofs.Common.{ap, ◌∙◌}
use Rattle.rational_laws.specs.Fraction.{rational}
use Rattle.rational_laws.specs.Rational.{◌+ℚ◌, neg_ℚ}
use Rattle.ratio.specs.Sums.{total}
use Rattle.rankscores.proofs.Runs.{begin_new, begin_open}
use Rattle.rankscores.proofs.integral.begin.Goals as goal

pub returns-then-is_open : goal.returns-then-is_open
returns-then-is_open c = begin_open c.args.is_open (total c.args.terms.now) (rational c.args.lo.now) c.if-is_open.true

pub returns : goal.returns
returns c =
    let t = total c.args.terms.now in
    begin_new c.args.is_open t (total c.put.new.terms) (rational c.args.lo.now) c.if-is_open.false
    ((c.in_ok-put.ensures {u = tt}) ∙ ap (λ z. t +ℚ z) (c.neg.ensures ∙ ap (λ x. neg_ℚ (rational x)) (c.in_ok-start.ensures {u = tt})))
