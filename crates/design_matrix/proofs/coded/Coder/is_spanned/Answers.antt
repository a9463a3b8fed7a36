use Rattle.std.proofs.Common.{ap, sym, take, ◌∙◌}
use Rattle.std.specs.List.{list_any}
use Rattle.design_matrix.specs.CodedVariable.{is_in_model, is_spanned, is_whole_factor, without}
use Rattle.design_matrix.proofs.Steps.{elsewhere, spanned_later, spanned_now}
use Rattle.design_matrix.proofs.coded.Coder.is_spanned.Goals as goal

pub returns-then-variables-ne1 : goal.returns-then-variables-ne1
unfolding is_spanned
returns-then-variables-ne1 c =
    c.is_in_model.ensures
    ∙ ap (λ l. is_in_model l (without c.args.place c.args.variables.now)) c.as_slice-terms.ensures
    ∙ sym (elsewhere _ _ _ c.if-variables-ne1.true)

pub returns-then-self : goal.returns-then-self
unfolding is_spanned
returns-then-self c = spanned_now _ _ _ _ c.if-variables-ne1.false c.if-self.true

pub returns : goal.returns
unfolding is_spanned
returns c =
    spanned_later _ _ _ _ _ c.if-variables-ne1.false c.if-self.false
    (c.has_whole_factor.ensures ∙ ap (λ l. list_any (is_whole_factor c.args.self.now.frame.now) (take c.args.number l)) c.as_slice-terms.ensures)
