use Rattle.std.proofs.Common.{arith, ◌∙◌, length-drop}
use Rattle.std.proofs.lemmas.List.{length-take-le}
use Rattle.port_io.proofs.Pieces.{more_taken, taken_first}
use Rattle.port_io.proofs.reading.read_all.Goals as goal

pub loop-filled-preserved : goal.loop-filled-preserved
loop-filled-preserved g c = record {
  within = omega (arith, c.in-Ok.ensures.bound, length-drop c.loop-filled.filled c.read_behind.new.bytes.items, c.read_behind.new.bytes.ok.0);
  limit = omega arith;
  taken = more_taken _ _ _ _ _ _ _ (c.in-Ok.ensures.kept ∙ c.make_room.ensures.kept) c.loop-filled.invariant.taken c.in-Ok.ensures.bytes.0;
  kept = c.in-Ok.ensures.counted.kept ∙ c.loop-filled.invariant.kept;
}

pub returns-clause-too_long : goal.returns-clause-too_long
returns-clause-too_long g c _ =
    taken_first _ _ _ _ (length-take-le c.loop-filled.filled c.loop-filled.bytes.items (omega (arith, c.loop-filled.bytes.ok.0)) ∙ omega arith) c.loop-filled.invariant.taken
