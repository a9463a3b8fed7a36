use Rattle.std.proofs.Common.{◌≤◌, All, length, sym, subst, arith}
use Rattle.std.proofs.lemmas.List.Elements.{All-push}
use Rattle.cert_text.proofs.Lists.{value_read, value_fails, values_read}
use Rattle.cert_text.proofs.parts.items.Goals as goal

pub loop-i-preserved : goal.loop-i-preserved
loop-i-preserved g c =
    let part = g.T.FromJson in
    let old = c.loop-i.found.items in (
      value_read part.content (λ before. part.reader c.args.width) c.args.values.now c.loop-i.i _ old _ c.in-Ok.part
          c.loop-i-test.true c.index-values-i.is c.loop-i.invariant.0 c.in-Ok.ensures.ok c.in_ok-push-in-Ok.ensures.items,
      subst (λ l. All part.IsKept l) (sym c.in_ok-push-in-Ok.ensures.items) (All-push part.IsKept old c.in-Ok.part c.loop-i.invariant.1 c.in-Ok.ensures.kept),
    )

pub returns-in-Err-clause-err : goal.returns-in-Err-clause-err
returns-in-Err-clause-err g c = λ other.
    let seen = c.under_item.ensures other in
    value_fails g.T.FromJson.content (λ before. g.T.FromJson.reader c.args.width) c.args.values.now c.loop-i.i _ c.loop-i.found.items c.in-Err.fault _
    c.loop-i-test.true c.index-values-i.is c.loop-i.invariant.0 (c.in-Err.ensures.err seen.1) seen.0

pub returns-clause-ok : goal.returns-clause-ok
returns-clause-ok g c =
    let over : length c.args.values.now ≤ c.loop-i.i = omega (arith, c.loop-i-test.false) in
    values_read g.T.FromJson.content (λ before. g.T.FromJson.reader c.args.width) c.args.values.now c.loop-i.i c.loop-i.found.items over c.loop-i.invariant.0
