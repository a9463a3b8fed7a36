use Rattle.cert_text.proofs.Lines.{line_back}
use Rattle.cert_text.proofs.write.line_of.Goals as goal

pub returns-clause-back : goal.returns-clause-back
returns-clause-back c = λ plain numbers shallow.
    line_back _ _ _ c.in_ok-push.ensures.items c.in_ok-bytes.ensures.utf8 c.in_ok-bytes.ensures.compact c.in_ok-bytes.ensures.order (c.in_ok-bytes.ensures.reads_back shallow) plain numbers
