use Rattle.std.proofs.Common.{◌≤◌, Some, sym, ap, subst, ◌∙◌}
use Rattle.json.specs.Tree.{HasNumbers}
use Rattle.serde_json.specs.Data.{Data, depth}
use Rattle.serde_json.specs.Written.{has_float, outline}
use Rattle.cert_text.proofs.Plain.{cert_plain}
use Rattle.cert_text.proofs.Shapes.{cert_numbers, cert_shallow}
use Rattle.cert_text.proofs.write.bytes_of.Goals as goal

pub returns-in-Ok-clause-back : goal.returns-in-Ok-clause-back
returns-in-Ok-clause-back c = λ within.
    let cert = c.args.cert.now in
    let seen = c.in_ok-value.ensures.tree in
    c.in-Ok.ensures.back (ap has_float seen ∙ cert_plain cert)
    (subst (λ (d : Data). HasNumbers (outline d)) (sym seen) (cert_numbers cert within))
    (subst (λ (d : Data). depth d ≤ 127) (sym seen) (cert_shallow cert))
    ∙ ap Some seen
