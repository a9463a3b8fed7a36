use Rattle.std.proofs.Common.{◌≡◌, None, rules, arith}
use Rattle.serde_json.specs.View.{items_view}
use Rattle.cert_text.specs.Certificates.{second_of}
use Rattle.cert_text.proofs.Walked.{no_second}
use Rattle.cert_text.proofs.chain.is_linked.Goals as goal

pub returns-then-len-lt2 : goal.returns-then-len-lt2
returns-then-len-lt2 c =
    let none : second_of (items_view c.in-Some.values.now.items) ≡ None = no_second c.in-Some.values.now.items (omega (arith, c.if-len-lt2.true, c.len.ensures)) in
    search rules
