use Rattle.std.specs.List.{AllZip}
use Rattle.std.proofs.lemmas.Result.{IfOk-at_ok, IfOk-weaker}
use Rattle.rq_fan.proofs.Orders.{zip_halves}
use Rattle.rq_fan.proofs.halves.+halves.Goals as goal

pub returns : goal.returns
returns g t c =
    let R = g.J.Work.answers in
    let cut = c.in-Ok.ensures in
    IfOk-weaker c.appended.result _ _ (λ all is. zip_halves R c.args.low.items _ _ _ _ _ all.items cut.items cut.tail is
    (IfOk-at_ok (λ v. AllZip R _ v.items) c.in_ok-answers.was c.join-answers.ensures.first)
    (IfOk-at_ok (λ v. AllZip R _ v.items) c.in_ok-rest.was c.join-answers.ensures.second)) c.appended.ensures
