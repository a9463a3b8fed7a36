use Rattle.std.proofs.Common.{sym, subst, ◌∙◌, pos}
use Rattle.rational_laws.specs.Rational.{whole}
use Rattle.loss_model.specs.Strict.{◌<ℚ◌}
use Rattle.loss_model.specs.Problem.{value_at, sample}
use Rattle.basis_inverse.specs.Square.{inverse_entry}
use Rattle.rank_inversion.proofs.Projections.{some, is_projection, length_is, positive}
use Rattle.rank_inversion.proofs.projection.project.Goals as goal

pub length_at-requires-clause-some : goal.length_at-requires-clause-some
length_at-requires-clause-some g c κs within =
    some (sample g.F.Exact.value c.args.problem.now) c.args.column (inverse_entry g.F.Exact.value c.args.inverse.now) c.requires.within c.requires.gram.inverse

pub factors-requires-clause-some : goal.factors-requires-clause-some
factors-requires-clause-some g c κs within =
    some (sample g.F.Exact.value c.args.problem.now) c.args.column (inverse_entry g.F.Exact.value c.args.inverse.now) c.requires.within c.requires.gram.inverse

pub returns-clause-projection : goal.returns-clause-projection
returns-clause-projection g c =
    is_projection (sample g.F.Exact.value c.args.problem.now) c.args.column (inverse_entry g.F.Exact.value c.args.inverse.now) c.requires.within c.requires.gram.inverse
    (value_at g.F.Exact.value c.in_ok-factors.factors) (c.in_ok-factors.ensures {u = tt}).each

pub returns-clause-length : goal.returns-clause-length
returns-clause-length g c =
    (c.in_ok-length.ensures {u = tt}).exact
    ∙ length_is (sample g.F.Exact.value c.args.problem.now) c.args.column (inverse_entry g.F.Exact.value c.args.inverse.now) c.requires.within c.requires.gram.inverse
    (value_at g.F.Exact.value c.in_ok-factors.factors) (c.in_ok-factors.ensures {u = tt}).each

pub returns-clause-positive : goal.returns-clause-positive
returns-clause-positive g c =
    subst (λ z. whole (pos 0) <ℚ z)
    (sym ((c.in_ok-length.ensures {u = tt}).exact
    ∙ length_is (sample g.F.Exact.value c.args.problem.now) c.args.column (inverse_entry g.F.Exact.value c.args.inverse.now) c.requires.within c.requires.gram.inverse
    (value_at g.F.Exact.value c.in_ok-factors.factors) (c.in_ok-factors.ensures {u = tt}).each))
    (positive (sample g.F.Exact.value c.args.problem.now) c.args.column (inverse_entry g.F.Exact.value c.args.inverse.now) c.requires.within c.requires.gram.inverse
    (value_at g.F.Exact.value c.in_ok-factors.factors) (c.in_ok-factors.ensures {u = tt}).each)
