use Rattle.std.proofs.Common.{Some, sym, ap, ◌∙◌}
use Rattle.rational_laws.specs.Fraction.{rational}
use Rattle.rankscores.proofs.integral.high_score.Goals as goal

pub returns-in_ok-one-in-Up : goal.returns-in_ok-one-in-Up
returns-in_ok-one-in-Up g c =
    let s = c.args.segment.now in
    let law = c.rankscores_outside.ensures.vertex (rational s.hi) s.basic_hi c.args.row (c.requires.data c.args.row c.requires.inside) in
    (c.in_ok-one-in-Up.ensures {u = tt}) ∙ sym (law.0 (c.side_of.ensures ∙ ap (λ side. Some side) c.in-Up.is))

pub returns-in_ok-zero-in-Down : goal.returns-in_ok-zero-in-Down
returns-in_ok-zero-in-Down g c =
    let s = c.args.segment.now in
    let law = c.rankscores_outside.ensures.vertex (rational s.hi) s.basic_hi c.args.row (c.requires.data c.args.row c.requires.inside) in
    (c.in_ok-zero-in-Down.ensures {u = tt}) ∙ sym (law.1 (c.side_of.ensures ∙ ap (λ side. Some side) c.in-Down.is))
