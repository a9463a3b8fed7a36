use Rattle.std.proofs.Common.{◌↔◌, IsTrue, subst, sym, ◌∙◌, ap}
use Rattle.rational_laws.specs.Fraction.{rational}
use Rattle.cert_checker.specs.Relations.{agrees}
use Rattle.cert_checker.specs.Tests.{Holds}
use Rattle.cert_checker.proofs.Agrees.{agrees_holds}
use Rattle.cert_checker.proofs.relation.Relation.holds_exactly.Goals as goal

pub returns : goal.returns
returns c =
    let x = rational c.args.left.now in
    let y = rational c.args.right.now in
    subst (λ b. IsTrue b ↔ Holds c.args.self x y) (sym (c.agrees.ensures ∙ ap (agrees c.args.self) c.in_ok-order.ensures)) (agrees_holds c.args.self x y)
