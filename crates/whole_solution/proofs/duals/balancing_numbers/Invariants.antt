use Rattle.std.proofs.Common.{◌≡◌, ℕ, ℤ, ◌<◌, length}
use Rattle.basis_model.specs.Basis.{balancing}
use Rattle.rational_laws.specs.WholeLists.{whole_at}
use Rattle.whole_inverse.specs.Shares.{share_at, shares}
use Rattle.whole_solution.proofs.duals.balancing_numbers.Given as goal

abbrev pub invariant-loop-position : goal.invariant-loop-position
invariant-loop-position l = record {
  size : length l.made ≡ l.position;
  each : (d : ℤ) (j : ℕ) → j < l.position → share_at d l.made j ≡ balancing (length l.totals) (shares l.inverse.columns d) (whole_at l.totals) j;
}
