use Rattle.std.proofs.Common.{◌++◌, ap, ap₂, map, take_all, ◌∙◌}
use Rattle.rational_laws.proofs.Lists.{mapped_more}
use Rattle.frac_core.specs.Values.{exact}
use Rattle.tv_penalty.specs.Smoothings.{knot_entry, with_columns}
use Rattle.tv_penalty.proofs.parts.Part.put_entries.Goals as goal

pub loop-knot-preserved : goal.loop-knot-preserved
loop-knot-preserved c =
    mapped_more exact (knot_entry (exact c.number_or_zero-number.result)) _ _ c.knot-item.result _ _ _ _ c.loop-knot-test.true c.knot-item.is c.loop-knot.invariant c.in_ok-push.ensures.items c.knot_entry.ensures

pub returns : goal.returns
returns c =
    c.loop-knot.invariant
    ∙ ap₂ (λ x xs. map exact c.args.entries.now.items ++ map (knot_entry x) xs) c.number_or_zero-number.ensures
    (take_all _ _ c.loop-knot-test.false ∙ c.with_columns-knot-items.ensures ∙ ap (with_columns c.args.intercept) c.deref.ensures.value)
