-- Without sides there is nothing to sum.
use Rattle.std.proofs.Common.{rules, ◌≡◌, []}
use Rattle.cert_sums.specs.declared.slopes.Part.TheVariants.{Start, Slope}
use Rattle.cert_sums.proofs.Unsettled.{no_lines}
use Rattle.cert_sums.proofs.slopes.tally_of.Goals as goal

pub turned-all-requires-clause-starts : goal.turned-all-requires-clause-starts
turned-all-requires-clause-starts c =
    let none : c.new.result ≡ [] = search rules in
    rw (none) (λ k l. no_lines Start c.args.rows.now k)

pub turned-all-requires-clause-slopes : goal.turned-all-requires-clause-slopes
turned-all-requires-clause-slopes c =
    let none : c.new-2.result ≡ [] = search rules in
    rw (none) (λ k l. no_lines Slope c.args.rows.now k)
