use Rattle.std.proofs.Common.{ap, append-nil, map, sym, take_all, ◌++◌, ◌∙◌, []}
use Rattle.std.specs.List.{flat_map}
use Rattle.design_matrix.specs.Parts.{columns_in, term_columns}
use Rattle.design_matrix.specs.Views.{coded_seen, columns_seen, terms_seen}
use Rattle.design_matrix.proofs.Counts.{columns_split}
use Rattle.design_matrix.proofs.Steps.{flat_told}
use Rattle.design_matrix.proofs.parts.design_columns.Goals as goal

pub loop-term-preserved : goal.loop-term-preserved
loop-term-preserved c = record {
  made = flat_told (λ vs. map coded_seen vs.items) term_columns (columns_in c.args.intercept []) _ _ _ _ _ c.loop-term-test.true c.term-item.is c.loop-term.invariant.made
      (c.in_ok-push_columns.ensures.columns ∙ ap (λ l. columns_seen c.loop-term.columns.items ++ term_columns (map coded_seen l)) c.deref.ensures.value);
  short = c.in_ok-push_columns.ensures.short;
}

pub returns-clause-columns : goal.returns-clause-columns
returns-clause-columns c =
    c.loop-term.invariant.made
    ∙ ap (λ l. columns_in c.args.intercept [] ++ flat_map term_columns (terms_seen l)) (take_all _ _ c.loop-term-test.false)
    ∙ columns_split c.args.intercept (terms_seen c.args.terms.now)

pub loop-term-init : goal.loop-term-init
loop-term-init c = record { made = c.in_ok-push_intercept.ensures.columns ∙ sym (append-nil _); short = c.in_ok-push_intercept.ensures.short }

pub push_columns-requires-clause-short : goal.push_columns-requires-clause-short
push_columns-requires-clause-short c = c.loop-term.invariant.short

pub returns-clause-short : goal.returns-clause-short
returns-clause-short c = c.loop-term.invariant.short
