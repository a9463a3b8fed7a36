use Rattle.std.proofs.Common.{ap, drop, ◌∙◌, ◌+◌, take, length, ◌-◌}
use Rattle.design_matrix.specs.CodedVariable.{same_variables}
use Rattle.design_matrix.proofs.Same.{without_apart, without_no, without_yes}
use Rattle.design_matrix.proofs.Steps.{rest_is}
use Rattle.design_matrix.proofs.coded.are_without.Goals as goal

pub returns-then-whole-rest : goal.returns-then-whole-rest
returns-then-whole-rest c = without_apart _ _ _ c.requires c.if-whole-rest.true

pub returns-then-not-are_same : goal.returns-then-not-are_same
returns-then-not-are_same c = without_no _ _ _ _ c.requires c.if-whole-rest.false c.are_same.ensures c.if-not-are_same.true

pub returns : goal.returns
returns c =
    without_yes _ _ _ _ _ c.requires c.if-whole-rest.false c.are_same.ensures c.if-not-are_same.false
    (c.are_same-2.ensures
    ∙ ap (λ l. same_variables l (take (length c.args.rest.now - c.args.place) (drop c.args.place c.args.rest.now))) (rest_is c.args.whole.now (c.args.place + 1))
    ∙ ap (λ l. same_variables (drop (c.args.place + 1) c.args.whole.now) l) (rest_is c.args.rest.now c.args.place))
