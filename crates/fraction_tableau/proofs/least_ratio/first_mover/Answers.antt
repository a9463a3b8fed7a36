use Rattle.std.proofs.Common.{◌≡◌, ◌<◌, length, arith, subst}
use Rattle.fraction_tableau.specs.declared.line.Mover.{Mover}
use Rattle.fraction_tableau.specs.LeastRatio.{IsFirstOn}
use Rattle.fraction_tableau.proofs.LeastItem.{mover_more, first_here}
use Rattle.fraction_tableau.proofs.least_ratio.first_mover.Goals as goal

pub loop-k-preserved : goal.loop-k-preserved
loop-k-preserved g c =
    let within : c.loop-k.k < length c.args.movers.now = omega (arith, c.loop-k-test.true) in
    mover_more g.F.Exact.value c.args.line.now c.requires.line c.args.movers.now c.requires.movers c.loop-k.k c.loop-k.least c.in-Ok.next within c.loop-k.invariant (c.in-Ok.ensures {u = tt}).earlier

pub returns-clause-first : goal.returns-clause-first
returns-clause-first g c =
    let all : c.loop-k.k ≡ length c.args.movers.now = omega (arith, c.loop-k-test.false, c.loop-k.auto.k-end, c.requires.some) in
    subst (λ (m : Mover _). IsFirstOn g.F.Exact.value c.args.line.now m.row) c.index-movers-least.is
    (first_here g.F.Exact.value c.args.line.now c.requires.line c.args.movers.now c.requires.movers c.loop-k.k c.loop-k.least c.index-movers-least.result all c.loop-k.invariant c.index-movers-least.is)
