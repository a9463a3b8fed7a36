use Rattle.std.specs.Prelude.{◌≡◌}
use Rattle.rational_laws.specs.Fraction.{rational}
use Rattle.loss_model.specs.Problem.{sample}
use Rattle.loss_model.specs.Spill.{partial_sum}
use Rattle.basis_model.specs.BasisSpills.{total_products, outside_before}
use Rattle.loss_model.specs.Sides.{side_in}
use Rattle.basic_solution.proofs.columns.total.Given as goal

abbrev pub invariant-loop-i : goal.invariant-loop-i
invariant-loop-i g l = record {
  terms : l.terms ≡ outside_before (side_in l.sides) l.i;
  sum : rational (g.F.Exact.value l.sum) ≡ partial_sum (total_products (sample g.F.Exact.value l.problem) (side_in l.sides) l.part l.column) l.i;
}
