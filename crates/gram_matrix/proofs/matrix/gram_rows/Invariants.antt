use Rattle.std.specs.Prelude.{◌≡◌, length}
use Rattle.gram_matrix.specs.GramRows.{AreGramRows}
use Rattle.gram_matrix.proofs.matrix.gram_rows.Given as goal

abbrev pub invariant-loop : goal.invariant-loop
invariant-loop g l = record {
  rows : AreGramRows g.F.Exact.value l.problem l.rows;
  size : length l.rows ≡ l.counter;
}
