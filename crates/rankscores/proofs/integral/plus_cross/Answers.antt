use Rattle.std.proofs.Common.{Some, ap, ◌∙◌}
use Rattle.rational_laws.specs.Fraction.{rational}
use Rattle.rational_laws.specs.Rational.{◌+ℚ◌}
use Rattle.ratio.specs.Sums.{total}
use Rattle.rankscores.specs.Rows.{open_end, segment_cross}
use Rattle.rankscores.proofs.Runs.{up_on, down_on, basic_on}
use Rattle.rankscores.proofs.integral.plus_cross.Goals as goal

pub returns-in_ok-begin-in-Up : goal.returns-in_ok-begin-in-Up
returns-in_ok-begin-in-Up g c =
    let s = c.args.segment.now in
    up_on g.F.Exact.value c.args.problem.now s c.rankscores_outside.ensures.vertex c.args.row (c.requires.data c.args.row c.requires.inside)
    (total c.args.terms.now +ℚ open_end c.args.is_open (rational s.lo)) (total c.begin.new.terms) (c.side_of.ensures ∙ ap (λ side. Some side) c.in-Up.is) (c.in_ok-begin-in-Up.ensures {u = tt})

pub returns-in_ok-close-in-Down : goal.returns-in_ok-close-in-Down
returns-in_ok-close-in-Down g c =
    let s = c.args.segment.now in
    down_on g.F.Exact.value c.args.problem.now s c.rankscores_outside.ensures.vertex c.args.row (c.requires.data c.args.row c.requires.inside)
    (total c.args.terms.now +ℚ open_end c.args.is_open (rational s.lo)) (total c.close.new.terms) (c.side_of.ensures ∙ ap (λ side. Some side) c.in-Down.is) (c.in_ok-close-in-Down.ensures {u = tt})

pub returns-in_ok-put-in-Basic : goal.returns-in_ok-put-in-Basic
returns-in_ok-put-in-Basic g c =
    let s = c.args.segment.now in
    basic_on (total c.args.terms.now +ℚ open_end c.args.is_open (rational s.lo)) (total c.close-in-Basic.new.terms) (total c.put.new.terms)
    (segment_cross g.F.Exact.value c.args.problem.now s c.args.row) (c.in_ok-close-in-Basic.ensures {u = tt})
    ((c.in_ok-put-in-Basic.ensures {u = tt}) ∙ ap (λ a. total c.close-in-Basic.new.terms +ℚ a) (c.in_ok-cross-in-Basic.ensures {u = tt}))
