-- One more name of a column.
use Rattle.std.proofs.Common.{◌+◌, codes, arith}
use Rattle.std.proofs.lemmas.Result.{on_ok_weaker}
use Rattle.table_maker.specs.Tables.{column_name}
use Rattle.table_maker.proofs.Steps.{one_more, line_made}
use Rattle.table_maker.proofs.table.put_header.Goals as goal

pub loop-column-preserved : goal.loop-column-preserved
loop-column-preserved c =
    one_more column_name 1 c.loop-column.column (c.loop-column.column + 1) _ _ _ (omega arith) c.loop-column.invariant c.in_ok-put_name.ensures

pub returns : goal.returns
returns c =
    on_ok_weaker c.put-2.result (λ e.
    line_made column_name 1 c.loop-column.column c.args.columns _ _ _ _ (codes "y") (codes "\n")
    c.loop-column-test.false c.loop-column.auto.column-end c.in_ok-put.ensures c.loop-column.invariant e) c.put-2.ensures
