use Rattle.std.proofs.Common.{◌≤◌, ◌/◌, arith, ap, refl, map, sym, take_all, append-nil, [], ◌∙◌}
use Rattle.std.proofs.Math.Nat.{div-le_self}
use Rattle.design_matrix.specs.Parts.{chosen}
use Rattle.design_matrix.specs.Views.{coded_seen, part_seen}
use Rattle.design_matrix.proofs.Chosen.{chosen_more}
use Rattle.design_matrix.proofs.Lengths.{chosen_length}
use Rattle.design_matrix.proofs.parts.chosen_parts.Goals as goal

pub returns-clause-parts : goal.returns-clause-parts
returns-clause-parts c =
    sym (append-nil (map part_seen c.loop-variable.parts.items))
    ∙ c.loop-variable.invariant.goes_on []
    ∙ ap (λ l. chosen l c.args.number) (append-nil _)
    ∙ ap (λ l. chosen (map coded_seen l) c.args.number) (take_all _ _ c.loop-variable-test.false)

pub returns-clause-counted : goal.returns-clause-counted
returns-clause-counted c =
    chosen_length part_seen coded_seen _ _ c.args.number
    (sym (append-nil (map part_seen c.loop-variable.parts.items))
    ∙ c.loop-variable.invariant.goes_on []
    ∙ ap (λ l. chosen l c.args.number) (append-nil _)
    ∙ ap (λ l. chosen (map coded_seen l) c.args.number) (take_all _ _ c.loop-variable-test.false))

pub loop-variable-preserved : goal.loop-variable-preserved
loop-variable-preserved c =
    let less : c.loop-variable.rest / c.width-width.result ≤ c.loop-variable.rest = div-le_self c.loop-variable.rest c.width-width.result in
    record {
      small = omega (arith, c.loop-variable.invariant.small);
      goes_on = chosen_more part_seen coded_seen c.args.term.now _ c.args.number c.loop-variable.rest c.width-width.result c.variable-item.result _ _ _
          c.loop-variable-test.true c.variable-item.is c.width-width.ensures refl c.in_ok-push.ensures.items c.loop-variable.invariant.goes_on;
    }
