use Rattle.std.proofs.Common.{ap, sym, ◌∙◌}
use Rattle.rational_laws.specs.Rational.{◌*ℚ◌}
use Rattle.rational_laws.proofs.RationalLaws.{one-*ℚ}
use Rattle.frac_core.specs.Values.{exact}
use Rattle.design_matrix.proofs.rows.next_product.Goals as goal

pub returns-then-site-eq0-clause-exact : goal.returns-then-site-eq0-clause-exact
returns-then-site-eq0-clause-exact c =
    sym (ap (λ x. x *ℚ exact c.args.factor) (c.requires c.if-site-eq0.true) ∙ one-*ℚ (exact c.args.factor))
