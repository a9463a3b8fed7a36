use Rattle.std.proofs.Common.{◌≤◌, All, None, Ok, length, sym, ap, subst, ◌∙◌, arith}
use Rattle.std.proofs.lemmas.List.{map-id}
use Rattle.std.proofs.lemmas.List.Elements.{All-push}
use Rattle.std.specs.List.{last_or}
use Rattle.serde_json.specs.View.{view}
use Rattle.cert_text.specs.Certificates.{linked_segment}
use Rattle.cert_text.specs.Kept.{IsKeptSegment}
use Rattle.cert_text.proofs.Lists.{value_read, value_fails, values_read}
use Rattle.cert_text.proofs.chain.linked_items.Goals as goal

pub loop-i-preserved : goal.loop-i-preserved
loop-i-preserved c =
    let read = linked_segment c.args.width c.args.rows in
    let old = c.loop-i.found.items in
    let before = c.last.ensures ∙ ap (last_or None) c.as_slice.ensures.value ∙ ap (last_or None) (sym (map-id old)) in
    let pushed = c.in_ok-push-in-Ok.ensures.items in (
      value_read (λ s. s) read c.args.values.now c.loop-i.i c.index-values-i.result old c.push.new.self.items c.in-Ok.segment
          c.loop-i-test.true c.index-values-i.is c.loop-i.invariant.0
          (ap (λ o. read o (view c.index-values-i.result)) (sym before) ∙ c.in-Ok.ensures.ok) pushed,
      subst (λ l. All IsKeptSegment l) (sym pushed) (All-push IsKeptSegment old c.in-Ok.segment c.loop-i.invariant.1 c.in-Ok.ensures.kept),
    )

pub returns-in-Err-clause-err : goal.returns-in-Err-clause-err
returns-in-Err-clause-err c = λ other.
    let read = linked_segment c.args.width c.args.rows in
    let old = c.loop-i.found.items in
    let before = c.last.ensures ∙ ap (last_or None) c.as_slice.ensures.value ∙ ap (last_or None) (sym (map-id old)) in
    let seen = c.under_item.ensures other in
    value_fails (λ s. s) read c.args.values.now c.loop-i.i c.index-values-i.result old c.in-Err.fault _
    c.loop-i-test.true c.index-values-i.is c.loop-i.invariant.0
    (ap (λ o. read o (view c.index-values-i.result)) (sym before) ∙ c.in-Err.ensures.err seen.1) seen.0

pub returns-clause-ok : goal.returns-clause-ok
returns-clause-ok c =
    let over : length c.args.values.now ≤ c.loop-i.i = omega (arith, c.loop-i-test.false) in
    values_read (λ s. s) (linked_segment c.args.width c.args.rows) c.args.values.now c.loop-i.i c.loop-i.found.items over c.loop-i.invariant.0 ∙ ap Ok (map-id c.loop-i.found.items)
