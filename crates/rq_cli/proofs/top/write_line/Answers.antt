use Rattle.std.proofs.Common.{inr, refl}
use Rattle.rq_cli.proofs.top.write_line.Goals as goal

pub returns-in-Err : goal.returns-in-Err
returns-in-Err g c = inr (record { is = refl; part = rw c.requires at c.in-Err.ensures.err; rose = c.in-Err.ensures.counted.rose })
