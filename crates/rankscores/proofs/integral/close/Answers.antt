use Rattle.std.proofs.Common.{ap, ◌∙◌}
use Rattle.rational_laws.specs.Fraction.{rational}
use Rattle.rational_laws.specs.Rational.{◌+ℚ◌}
use Rattle.ratio.specs.Sums.{total}
use Rattle.rankscores.proofs.Runs.{close_none, close_open}
use Rattle.rankscores.proofs.integral.close.Goals as goal

pub returns-then-is_open : goal.returns-then-is_open
returns-then-is_open c =
    let t = total c.args.terms.now in
    close_open c.args.is_open t (total c.put.new.terms) (rational c.args.end.now) c.if-is_open.true
    ((c.in_ok-put.ensures {u = tt}) ∙ ap (λ x. t +ℚ rational x) (c.in_ok-end.ensures {u = tt}))

pub returns : goal.returns
returns c = close_none c.args.is_open (total c.args.terms.now) (rational c.args.end.now) c.if-is_open.false
