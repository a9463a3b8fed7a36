use Rattle.std.proofs.Common.{◌≡◌, ◌++◌, ◌+◌, map, drop, length}
use Rattle.std.specs.List.{flat_map}
use Rattle.tv_penalty.specs.Smoothings.{exact_penalty, part_names, rows_from}
use Rattle.tv_penalty.specs.Views.{part_seen}
use Rattle.tv_penalty.proofs.rows.penalty_rows.Given as goal

abbrev pub invariant-loop-part : goal.invariant-loop-part
invariant-loop-part l = record {
  made : map exact_penalty l.rows.items ++ rows_from l.intercept l.all l.before (map part_seen (drop l.part-index l.parts)) ≡ rows_from l.intercept l.all 0 (map part_seen l.parts);
  left : l.before + length (flat_map (part_names l.intercept) (map part_seen (drop l.part-index l.parts))) ≡ l.all;
}
