use Rattle.cases.proofs.certificates.read.Goals as goal

pub returns-in-Ok : goal.returns-in-Ok
returns-in-Ok c = c.read_is_within.ensures c.args.bytes.now c.in-Ok.cert c.in-Ok.ensures.ok
