-- Sums of whole numbers that are 0.
use Rattle.std.proofs.Common.{length, ap, ◌∙◌}
use Rattle.rational_laws.specs.WholeLists.{whole_at}
use Rattle.cert_sums.proofs.Balanced.{wide_rows, balanced_but}
use Rattle.cert_sums.proofs.totals.balances_but.Goals as goal

pub vanish-requires-clause-wide : goal.vanish-requires-clause-wide
vanish-requires-clause-wide c =
    let narrow = c.requires.table.narrow c.if-not-table.false in
    let wide = wide_rows c.args.problem.now c.args.table.now c.requires.table in
    rw (c.as_slice.ensures) (λ k d l. ap length (narrow k d l) ∙ wide k d l)

pub vanish-requires-clause-narrow : goal.vanish-requires-clause-narrow
vanish-requires-clause-narrow c = rw (c.as_slice.ensures) (c.requires.table.narrow c.if-not-table.false)

pub returns : goal.returns
returns c =
    let d = c.args.duals.now in
    let zero = rw (c.as_slice.ensures, c.as_slice-values.ensures) at c.vanish.ensures in
    λ t e k. balanced_but c.args.problem.now c.args.table.now c.requires.table e d.scale k.scale (whole_at d.values) k.each c.args.without (zero t)
