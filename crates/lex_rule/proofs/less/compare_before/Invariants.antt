use Rattle.std.specs.Prelude.{◌≤◌, ◌-◌, suc, length, slice_index}
use Rattle.lex_rule.specs.Compared.{of_ratio}
use Rattle.lex_rule.proofs.Comparisons.{AgreeBefore}
use Rattle.lex_rule.proofs.less.compare_before.Given as goal

abbrev pub invariant-rows : goal.invariant-rows
invariant-rows g l = record {
  low : l.from ≤ l.end;
  agree : AgreeBefore l.by.0.side l.by.1.side (length l.basis.rows) (slice_index l.basis.rows) l.by.0.position (of_ratio g.F.Exact.value l.ratios.0.now) (of_ratio g.F.Exact.value l.ratios.1.now) (suc l.from);
}

abbrev pub decreases-rows : goal.decreases-rows
decreases-rows g l = l.end - l.from
