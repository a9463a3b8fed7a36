use Rattle.std.proofs.Common.{◌∙◌, [], ap, map}
use Rattle.design_matrix.specs.Computed.{expressions, texts_once}
use Rattle.design_matrix.proofs.computed.expressions_in.Goals as goal

pub returns : goal.returns
unfolding expressions
returns c = c.in_ok-found.ensures ∙ ap (texts_once []) (ap (map (λ a. a.now)) c.deref.ensures.value ∙ c.in_ok-ariths.ensures)
