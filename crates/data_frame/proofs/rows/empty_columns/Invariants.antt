use Rattle.std.proofs.Common.{◌≡◌, ◌-◌, ◌≤◌, [], map, replicate, vec_len}
use Rattle.csv.specs.Records.{fields_of}
use Rattle.data_frame.proofs.rows.empty_columns.Given as goal

abbrev pub invariant-loop-alloc : goal.invariant-loop-alloc
invariant-loop-alloc l = record {
  empty : map fields_of l.columns.items ≡ replicate (vec_len l.columns) [];
  many : vec_len l.columns ≤ l.count;
}

abbrev pub decreases-loop-alloc : goal.decreases-loop-alloc
decreases-loop-alloc l = l.count - vec_len l.columns
