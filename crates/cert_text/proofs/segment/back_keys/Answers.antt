use Rattle.std.proofs.Common.{Ok, codes, ap, ◌∙◌}
use Rattle.cert_text.specs.Certificates.{if_filled, vertex_of}
use Rattle.cert_text.specs.Keys.{behind_ends, behind_losses}
use Rattle.cert_text.specs.Reading.{fitting, no_more_keys, on_read}
use Rattle.cert_text.proofs.segment.back_keys.Goals as goal

pub returns-in-Ok-field-clause-ok : goal.returns-in-Ok-field-clause-ok
returns-in-Ok-field-clause-ok c = λ rows front.
    let ends = c.in_ok-ends.ends in
    let losses = c.in-Ok.losses in
    c.in_ok-ends.ensures.ok (behind_ends c.args.width rows front)
    ∙ c.in-Ok.ensures.ok (behind_losses rows front ends.first ends.second)
    ∙ ap (λ z. on_read z (λ signs.
    on_read (fitting (codes "sides") (if_filled rows signs.0 front.basic_lo front.basic_hi)) (λ _.
    on_read (no_more_keys signs.1) (λ _.
    Ok (record {
      lo = ends.second;
      hi = ends.first;
      vertex = vertex_of signs.0 front.coef;
      basic_lo = front.basic_lo;
      basic_hi = front.basic_hi;
      loss_lo = losses.second;
      loss_hi = losses.first;
    }))))) c.in-Ok-field.ensures.ok
