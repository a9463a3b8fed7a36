-- The ends are those of the range.
use Rattle.std.proofs.Common.{length, subst}
use Rattle.rational_laws.specs.Fraction.{rational}
use Rattle.frac_core.specs.Values.{value as value128}
use Rattle.loss_model.specs.Problem.{sample}
use Rattle.cert_checker.specs.Conditions.{row_costs}
use Rattle.cert_checker.specs.Tests.{upto}
use Rattle.cert_checker.specs.Verdicts.{Settles}
use Rattle.cert_checker.proofs.quick.Costs.decide_rows.Goals as goal

pub returns : goal.returns
returns c =
    let p = c.args.self.quick.problem.now in
    subst (λ hi. Settles (upto (length p.rows) (row_costs (sample value128 p) (rational (value128 c.args.self.lo)) hi)) c.decide.result) c.requires.hi
    (subst (λ lo. Settles (upto (length p.rows) (row_costs (sample value128 p) lo (rational c.args.hi.now))) c.decide.result) c.requires.lo c.decide.ensures)
