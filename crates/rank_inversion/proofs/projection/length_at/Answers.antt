use Rattle.std.proofs.Common.{ap₂, ◌∙◌}
use Rattle.rational_laws.specs.Rational.{◌*ℚ◌, inverse}
use Rattle.rational_laws.proofs.RationalLaws.{one-*ℚ}
use Rattle.basis_inverse.specs.Square.{inverse_entry}
use Rattle.rank_inversion.proofs.projection.length_at.Goals as goal

pub returns-clause-exact : goal.returns-clause-exact
returns-clause-exact g c =
    (c.in_ok-length.ensures {u = tt}).exact ∙ ap₂ (λ x y. x *ℚ inverse y) c.one.ensures c.entry.ensures
    ∙ one-*ℚ (inverse (inverse_entry g.F.Exact.value c.args.inverse.now c.args.column c.args.column))
