use Rattle.std.proofs.Common.{◌≡◌, map, take}
use Rattle.frac_core.specs.Values.{exact}
use Rattle.design_matrix.specs.Parts.{factors}
use Rattle.design_matrix.specs.Products.{FitUpTo, product}
use Rattle.design_matrix.specs.Views.{part_seen}
use Rattle.design_matrix.proofs.rows.product_of.Given as goal

abbrev pub invariant-loop-term : goal.invariant-loop-term
invariant-loop-term l = record {
  value : exact l.product ≡ product (take l.term (factors (map part_seen l.parts) l.place));
  fits : FitUpTo (factors (map part_seen l.parts) l.place) l.term;
}
