use Rattle.std.proofs.Common.{subst}
use Rattle.cert_checker.specs.Certificates.{IsVerdict}
use Rattle.rq_engine.proofs.check.check_bytes.Goals as goal

pub check-requires : goal.check-requires
check-requires g c = (c.type_bounds.sync-R, (c.type_bounds.sync-G, c.read_is_within.ensures c.args.bytes.now c.in-Ok.cert c.in-Ok.ensures.ok))

pub returns-in-Rejected-clause-cause : goal.returns-in-Rejected-clause-cause
returns-in-Rejected-clause-cause g c =
    record { cert = c.in-Ok.cert; is = c.in-Ok.ensures.ok; first = subst (IsVerdict c.in-Ok.cert) c.in-Rejected.is c.in-Ok-check.ensures }
