use Rattle.rational_laws.specs.Fraction.{rational}
use Rattle.loss_model.specs.declared.spill.Quantity.TheVariants.{CostValue}
use Rattle.loss_model.specs.Spill.{site_of, IsTermSpill}
use Rattle.loss_model.proofs.Residuals.{row_is, cost_exact, cost_spilled}
use Rattle.loss_model.proofs.loss.up_cost_at.Goals as goal

pub returns-clause-exact : goal.returns-clause-exact
returns-clause-exact g c =
    let value = g.F.Exact.value in
    let at = row_is c.args.problem.now.rows c.as_slice.result.now c.args.row c.index-as_slice-row.result c.as_slice.ensures c.requires c.index-as_slice-row.is in
    cost_exact value c.args.problem.now.rows c.args.row c.index-as_slice-row.result at (λ r. rational (value r.up0)) (λ r. rational (value r.up1)) (rational (value c.args.theta)) c.plus_product.result c.plus_product.ensures.exact

pub returns-clause-spilled : goal.returns-clause-spilled
returns-clause-spilled g c =
    let value = g.F.Exact.value in
    let at = row_is c.args.problem.now.rows c.as_slice.result.now c.args.row c.index-as_slice-row.result c.as_slice.ensures c.requires c.index-as_slice-row.is in
    let spilled = rw c.new-site.ensures at c.plus_product.ensures.spilled in
    cost_spilled value c.args.problem.now.rows c.args.row c.index-as_slice-row.result at (λ r. rational (value r.up0)) (λ r. rational (value r.up1)) (rational (value c.args.theta)) c.plus_product.result
    (λ constant linear. IsTermSpill value g.F.Exact.range (site_of CostValue c.args.row 0 1) constant linear (rational (value c.args.theta))) spilled
