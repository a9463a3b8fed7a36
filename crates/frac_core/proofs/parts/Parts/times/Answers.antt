use Rattle.std.proofs.Common.{rules, SFits, to_z-of_z}
use mir.Syntax.{w128}
use Rattle.frac_core.specs.Parts.{fraction}
use Rattle.frac_core.proofs.Products.{cancelled_exact}
use Rattle.frac_core.proofs.parts.Parts.times.Goals as goal

pub returns-clause-exact : goal.returns-clause-exact
returns-clause-exact c =
    let x = fraction c.args.self in
    let y = fraction c.args.other in
    let fl : SFits w128 c.cancelled.result.0.num = search rules in
    let fr : SFits w128 c.cancelled.result.1.num = search rules in
    let fn : SFits w128 c.in_ok-num.num = search rules in
    let num = simp to_z-of_z at (c.in_ok-num.ensures {u = tt}) in
    let den = c.in_ok-den.ensures {u = tt} in
    rw (to_z-of_z fn)
    (cancelled_exact c.args.limit x y _ _ _ _ c.cancelled.ensures c.requires.left.positive c.requires.right.positive c.in_ok-num.num c.in_ok-den.den num.1 den.1 num.0 den.0)
