use Rattle.cert_text.proofs.chain.segments.Goals as goal

pub returns-in-Chained-clause-ok : goal.returns-in-Chained-clause-ok
returns-in-Chained-clause-ok c = rw c.in-Chained.is c.linked_list.ensures.ok

pub returns-in-Chained-clause-err : goal.returns-in-Chained-clause-err
returns-in-Chained-clause-err c = rw c.in-Chained.is c.linked_list.ensures.err
