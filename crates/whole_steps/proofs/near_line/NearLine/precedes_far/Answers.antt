-- By the bound of the coordinates.
use Rattle.std.proofs.Common.{rules, ◌≡◌, length, get_or, pos, unsigned_abs}
use Rattle.rational_laws.specs.Rational.{whole}
use Rattle.whole_solution.specs.Ranges.{most_of_products}
use Rattle.whole_steps.specs.Lines.{over_of}
use Rattle.whole_steps.proofs.FarRows.{far_after}
use Rattle.whole_steps.proofs.near_line.NearLine.precedes_far.Goals as goal

pub returns : goal.returns
returns c =
    let n = c.args.self.now in
    let numbers = c.numerators-column.result.now in
    let most = c.in-Some.most in
    let bound : whole (pos most) ≡ most_of_products (length numbers) n.near.now.ranges (λ k. whole (get_or numbers k (pos 0))) = c.in-Some.ensures {u = tt} in
    let ed : c.unsigned_abs.result ≡ unsigned_abs n.near.now.determinant = search rules in
    let eo : c.unsigned_abs-2.result ≡ unsigned_abs (over_of n.line) = search rules in
    let less = rw (ed, eo) at c.is_product_less.ensures in
    λ t. far_after n c.requires.near numbers c.numerators-column.ensures c.args.first c.requires.first most bound (less t)
