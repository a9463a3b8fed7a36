use Rattle.cert_text.specs.Certificates.{cert_of, cert_of_data}
use Rattle.cert_text.proofs.Back.{back}
use Rattle.cert_text.proofs.Lines.{certified}
use Rattle.cert_text.proofs.write.write_cert.Goals as goal

pub returns-in-Ok-clause-back : goal.returns-in-Ok-clause-back
unfolding cert_of
returns-in-Ok-clause-back c = λ within.
    certified c.in-Ok.bytes.items _ cert_of_data _ (c.in-Ok.ensures.back within) (back c.args.cert.now c.in-Ok.ensures.lowest within)
