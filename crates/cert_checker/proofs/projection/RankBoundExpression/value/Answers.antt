use Rattle.std.proofs.Common.{◌∙◌}
use Rattle.rational_laws.specs.Fraction.{rational}
use Rattle.cert_checker.specs.Views.{question}
use Rattle.cert_checker.proofs.Wide.{bound_is}
use Rattle.cert_checker.proofs.projection.RankBoundExpression.value.Goals as goal

pub returns : goal.returns
returns c =
    bound_is (question c.args.self.of) (rational c.in_ok-operands.operands.left) (rational c.in_ok-operands.operands.right) (rational c.in_ok-bound.bound)
    (c.in_ok-operands.ensures.left ∙ c.in_ok-spread.ensures) c.in_ok-operands.ensures.right c.in_ok-bound.ensures
