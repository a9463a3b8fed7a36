use Rattle.std.proofs.Common.{[], ◌∷◌, ◌++◌, ap, append_assoc, string_bytes, ◌∙◌}
use Rattle.std.proofs.Math.Utf8.{encode}
use Rattle.design_matrix.specs.Views.{part_seen}
use Rattle.design_matrix.proofs.Steps.{flat_told}
use Rattle.design_matrix.proofs.parts.name_of.Goals as goal

pub loop-part-preserved : goal.loop-part-preserved
unfolding encode
loop-part-preserved c =
    flat_told part_seen (λ q. 58 ∷ q.label) (string_bytes c.in_ok-name.name) c.in-Some.rest.now _ c.part-item.result (string_bytes c.loop-part.name) (string_bytes c.push_str.new.self)
    c.loop-part-test.true c.part-item.is c.loop-part.invariant
    (c.in_ok-push_str.ensures.bytes
    ∙ ap (λ l. l ++ c.as_str-in-loop-part-2.result.now) c.in_ok-push.ensures.bytes
    ∙ append_assoc (string_bytes c.loop-part.name) (58 ∷ []) c.as_str-in-loop-part-2.result.now
    ∙ ap (λ l. string_bytes c.loop-part.name ++ (58 ∷ l)) (c.as_str-in-loop-part-2.ensures ∙ c.in_ok-label-2.ensures))
