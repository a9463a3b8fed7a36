use Rattle.std.proofs.Common.{◌+◌, ◌-◌, ◌≡◌, ◌^◌, ◌≤◌, take, vec_len}
use Rattle.std.specs.Io.KnownBytes.{Consumes}
use Rattle.port_io.proofs.reading.read_all.Given as goal

-- so far the filled part was taken, and no fault came
abbrev pub invariant-loop-filled : goal.invariant-loop-filled
invariant-loop-filled g l = record {
  within : l.filled ≤ vec_len l.bytes;
  limit : vec_len l.bytes ≤ 2 ^ 26 + 1;
  taken : Consumes (g.S.Source.left l.fn.source) (g.S.Source.left l.source) (take l.filled l.bytes.items);
  kept : g.S.Source.faults l.source ≡ g.S.Source.faults l.fn.source;
}

abbrev pub decreases-loop-filled : goal.decreases-loop-filled
decreases-loop-filled g l = 67108864 + 1 - l.filled
