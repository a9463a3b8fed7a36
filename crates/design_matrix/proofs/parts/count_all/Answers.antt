use Rattle.std.proofs.Common.{ap, length, map, min, take_all, ◌∙◌}
use Rattle.std.specs.List.{flat_map}
use Rattle.design_matrix.specs.Parts.{count, term_columns}
use Rattle.design_matrix.specs.Views.{coded_seen, terms_seen}
use Rattle.design_matrix.proofs.Counts.{columns_more}
use Rattle.design_matrix.proofs.parts.count_all.Goals as goal

pub loop-term-preserved : goal.loop-term-preserved
loop-term-preserved c =
    columns_more (λ vs. map coded_seen vs.items) _ _ _ _ _ _ c.loop-term-test.true c.term-item.is c.loop-term.invariant
    (c.count_of.ensures ∙ ap (λ l. min (count (map coded_seen l)) 129) c.deref.ensures.value) c.capped-columns.ensures

pub returns : goal.returns
returns c =
    c.loop-term.invariant ∙ ap (λ l. min (length (flat_map term_columns (terms_seen l))) 129) (take_all _ _ c.loop-term-test.false)
