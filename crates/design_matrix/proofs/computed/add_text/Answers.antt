use Rattle.std.proofs.Common.{◌∙◌, ap, bytes_eq, refl}
use Rattle.std.specs.List.{list_any}
use Rattle.design_matrix.proofs.Responses.{text_added, text_there}
use Rattle.design_matrix.proofs.computed.add_text.Goals as goal

pub returns-then-has_text : goal.returns-then-has_text
returns-then-has_text c =
    text_there (λ a. a.now) c.args.found.items c.args.arith.now c.has_text.result
    (c.has_text.ensures ∙ ap (list_any (λ b. bytes_eq b.now.text c.args.arith.now.text)) c.deref.ensures.value) c.if-has_text.true

pub returns : goal.returns
returns c =
    text_added (λ a. a.now) c.args.found.items c.push.new.self.items c.args.arith c.args.arith.now c.has_text.result
    (c.has_text.ensures ∙ ap (list_any (λ b. bytes_eq b.now.text c.args.arith.now.text)) c.deref.ensures.value) c.if-has_text.false c.in_ok-push.ensures.items refl
