use Rattle.std.proofs.Common.{arith}
use Rattle.port_io.proofs.Pieces.{copied_front, length-tail}
use Rattle.port_io.proofs.mem_source.copy_from.Goals as goal

pub returns-clause-taken : goal.returns-clause-taken
returns-clause-taken c =
    copied_front c.args.at c.min-count.result c.args.bytes.now _ _ (omega (arith, length-tail c.args.at c.args.bytes.now, c.min.ensures, c.min-count.ensures)) c.copy_from_slice.ensures.after
