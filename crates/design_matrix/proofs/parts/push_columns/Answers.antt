use Rattle.std.proofs.Common.{◌≡◌, ◌++◌, ap, arith, map, ◌∙◌}
use Rattle.std.specs.List.{range_with_len}
use Rattle.design_matrix.specs.Parts.{chosen, count}
use Rattle.design_matrix.specs.Views.{coded_seen, columns_seen, part_seen}
use Rattle.design_matrix.proofs.Lengths.{short_push}
use Rattle.design_matrix.proofs.Steps.{range_told}
use Rattle.design_matrix.proofs.parts.push_columns.Goals as goal

pub loop-number-preserved : goal.loop-number-preserved
loop-number-preserved c = record {
  made = range_told (λ parts. map part_seen parts.items) (chosen (map coded_seen c.args.term.now)) (columns_seen c.args.columns.now.items) _ _ _ _
      c.loop-number.invariant.made c.in_ok-push.ensures.items c.in_ok-chosen_parts.ensures.parts;
  short = short_push _ _ _ c.loop-number.invariant.short c.in_ok-push.ensures.items (omega (arith, c.in_ok-chosen_parts.ensures.counted, c.requires.counted));
}

pub returns-clause-columns : goal.returns-clause-columns
returns-clause-columns c =
    let all : c.loop-number.number ≡ count (map coded_seen c.args.term.now) = omega (arith, c.requires.few) in
    c.loop-number.invariant.made
    ∙ ap (λ n. columns_seen c.args.columns.now.items ++ map (chosen (map coded_seen c.args.term.now)) (range_with_len 0 n)) all
