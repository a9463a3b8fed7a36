use Rattle.std.specs.Prelude.{slice_index}
use Rattle.loss_model.specs.Problem.{value_at}
use Rattle.lex_rule.proofs.Scanned.{IsScanned}
use Rattle.lex_rule.proofs.scan.next_position.Given as goal

abbrev pub invariant-loop-k : goal.invariant-loop-k
invariant-loop-k g l = IsScanned l.k (slice_index l.basis) (value_at g.F.Exact.value l.left) (value_at g.F.Exact.value l.right) l.from l.to l.end l.next
