use Rattle.rq_engine.proofs.Certifying.{proofs_kept}
use Rattle.rq_engine.proofs.certify.cert_of_fit.Goals as goal

pub invariant_of-result : goal.invariant_of-result
invariant_of-result c =
    record {
      listed = c.requires.listed;
      ended = proofs_kept c.args.fit.intervals c.in_ok-intervals.intervals (c.in_ok-intervals.ensures {u = tt}) c.requires.ended;
    }
