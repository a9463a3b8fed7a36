-- The relation of both values is that of the formulas.
use Rattle.std.proofs.Common.{refl}
use Rattle.cert_checker.specs.declared.verdict.Rejection.{Rejection}
use Rattle.cert_checker.proofs.Compared.{compared, refused}
use Rattle.cert_checker.proofs.formula.Operands.decide.Goals as goal

pub returns-then-holds : goal.returns-then-holds
returns-then-holds c = λ f g left right.
    compared c.args.at f c.args.relation g (record { condition = c.args.at.condition; index = c.args.at.index; inner = c.args.at.inner; left = c.args.self.left; right = c.args.self.right }) left right
    (c.in-Ok.ensures.0 c.if-holds.true)

pub returns : goal.returns
returns c = λ f g left right.
    let r : Rejection = record { condition = c.args.at.condition; index = c.args.at.index; inner = c.args.at.inner; left = c.args.self.left; right = c.args.self.right } in
    rw (c.rejection.ensures) (refused c.args.at f c.args.relation g r left right (λ h. absurd (cc (c.in-Ok.ensures.1 h, c.if-holds.false))) refl refl refl)
