use Rattle.std.proofs.Common.{◌++◌, ap, map, take_all, ◌∙◌}
use Rattle.tv_penalty.specs.Smoothings.{knot_name, with_columns}
use Rattle.tv_penalty.proofs.Lists.{pushed_more}
use Rattle.tv_penalty.proofs.parts.Part.put_names.Goals as goal

pub loop-knot-preserved : goal.loop-knot-preserved
loop-knot-preserved c =
    pushed_more (λ x. x) (knot_name c.args.self.now.smooth.now.name) _ _ c.knot-item.result _ _ _ _ c.loop-knot-test.true c.knot-item.is c.loop-knot.invariant c.in_ok-push.ensures.items
    (c.in_ok-knot_name.ensures ∙ ap (λ name. knot_name name c.knot-item.result) c.as_str.ensures)

pub returns : goal.returns
returns c =
    c.loop-knot.invariant
    ∙ ap (λ xs. c.args.names.now.items ++ map (knot_name c.args.self.now.smooth.now.name) xs)
    (take_all _ _ c.loop-knot-test.false ∙ c.with_columns-knot-items.ensures ∙ ap (with_columns c.args.intercept) c.deref.ensures.value)
