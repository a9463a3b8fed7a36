-- A sum that is 0, unless the place is left out.
use Rattle.std.proofs.Common.{rules, ◌≡◌, pos, ap, sym, ◌∙◌}
use Rattle.rational_laws.specs.Rational.{whole}
use Rattle.cert_sums.proofs.totals.vanishes.Goals as goal

pub returns : goal.returns
returns c = λ t other.
    let zero : c.column_product.result ≡ pos 0 = search rules in
    sym c.column_product.ensures ∙ ap whole zero
