use Rattle.std.proofs.Common.{◌<◌, All, length, slice_index, pos, sym, ap, subst, ◌∙◌}
use Rattle.rational_laws.specs.Rational.{◌*ℚ◌, whole}
use Rattle.loss_model.specs.Problem.{value_at, sample}
use Rattle.basis_inverse.specs.Square.{entries}
use Rattle.nested_test.specs.Nested.{column_score}
use Rattle.nested_test.proofs.Pairs.{same_pairs}
use Rattle.nested_test.proofs.Restrictions.{distinct_tested}
use Rattle.nested_test.proofs.Statistics.{is_statistic}
use Rattle.nested_test.proofs.statistic.nested.Goals as goal

pub statistic-requires : goal.statistic-requires
statistic-requires g c =
    let inverse = c.in_ok-inverse.ensures {u = tt} in
    let scores = c.in_ok-scores.ensures {u = tt} in
    record {
      within = subst (λ n. All (λ k. k < n) c.args.tested.now) (sym inverse.size) c.requires.tested.within;
      scored = ap length c.as_slice.ensures ∙ scores.size;
    }

pub returns-clause-statistic : goal.returns-clause-statistic
returns-clause-statistic g c =
    let value = g.F.Exact.value in
    let p = sample value c.args.full.now in
    let tested = c.args.tested.now in
    let b = value_at (λ x. x) c.args.wilcoxon.now in
    let a = entries (λ x. x) c.in_ok-inverse.inverse in
    let scores = c.in_ok-scores.ensures {u = tt} in
    is_statistic p (slice_index tested) (length tested) a (column_score p b) _ (distinct_tested tested c.args.full.now.columns c.requires.tested) (c.in_ok-inverse.ensures {u = tt}).inverse
    ((c.in_ok-statistic.ensures {u = tt})
    ∙ ap (λ z. whole (pos 12) *ℚ z)
    (same_pairs (slice_index tested) (length tested) a (value_at (λ x. x) c.as_slice.result.now) (λ j. column_score p b (slice_index tested j)) (λ j lj. ap (λ xs. value_at (λ x. x) xs j) c.as_slice.ensures ∙ scores.each j lj)))
