use Rattle.rq_engine.proofs.Scoring.{all_data, covers_unit, few_rows, scorable_fit, unit_ask}
use Rattle.rq_engine.proofs.ranks.ranks_input.Goals as goal

pub fit_input-requires-clause-ask : goal.fit_input-requires-clause-ask
fit_input-requires-clause-ask g c κs within = unit_ask c.args.job.now c.requires.ask

pub wilcoxon-requires-clause-rows : goal.wilcoxon-requires-clause-rows
wilcoxon-requires-clause-rows g c κs = few_rows c.args.job.now c.args.input c.requires.rows c.requires.unpenalised c.in-Ok.fit c.in-Ok.ensures.right

pub wilcoxon-requires-clause-data : goal.wilcoxon-requires-clause-data
wilcoxon-requires-clause-data g c κs = all_data c.args.job.now c.args.input c.requires.rows c.requires.unpenalised c.in-Ok.fit c.in-Ok.ensures.right

pub wilcoxon-requires-clause-scorable : goal.wilcoxon-requires-clause-scorable
wilcoxon-requires-clause-scorable g c κs = scorable_fit c.args.job.now c.args.input c.requires.rows c.requires.unpenalised c.in-Ok.fit c.in-Ok.ensures.right

pub wilcoxon-requires-clause-covers : goal.wilcoxon-requires-clause-covers
wilcoxon-requires-clause-covers g c κs = covers_unit c.args.job.now c.requires.ask c.in-Ok.fit c.in-Ok.ensures.right.right

pub returns-in-Ok-wilcoxon-clause-right : goal.returns-in-Ok-wilcoxon-clause-right
returns-in-Ok-wilcoxon-clause-right g c =
    record {
      fit = c.in-Ok.ensures.right;
      covers = covers_unit c.args.job.now c.requires.ask c.in-Ok.fit c.in-Ok.ensures.right.right;
      wilcoxon = c.in-Ok-wilcoxon.ensures;
      lowest = rw c.as_slice.ensures at c.all_lowest.ensures;
    }
