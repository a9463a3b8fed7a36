use Rattle.std.proofs.Common.{rules, ◌≡◌, List, ℕ, ◌<◌, length, pos, sym, subst, ◌∙◌, ℤ}
use Rattle.rational_laws.specs.Fraction.{rational}
use Rattle.rational_laws.proofs.Signs.{positive_nonzero}
use Rattle.loss_model.specs.Problem.{number_at}
use Rattle.whole_inverse.specs.Shares.{share_at}
use Rattle.whole_rows.specs.declared.factor.Factor.{Factor}
use Rattle.whole_rows.specs.Wholes.{factor_at, factor_value}
use Rattle.whole_tableau.specs.Kept.{wholes_of}
use Rattle.gram_check.specs.Laws.{unscaled_factors}
use Rattle.rank_tableau.proofs.ColumnTests.{test_is}
use Rattle.rank_tableau.proofs.testing.column_test.Goals as goal

pub factor_values-requires : goal.factor_values-requires
factor_values-requires g c =
    let scales : c.as_slice-scales.result.now ≡ c.args.tableau.now.setting.wholes.factors = search rules in
    record { some = rw (scales) (c.requires.kept.setting.factors c.args.column c.requires.column) }

pub returns : goal.returns
returns g c =
    let value = g.F.Exact.value in
    let k = c.args.tableau.now in
    let j = c.args.column in
    let setting = c.requires.kept.setting in
    let w = k.setting.wholes in
    let found = c.in_ok-found.found in
    let over = share_at (pos found.denominator) found.numerators in
    let e = c.in_ok-factors.factors in
    let scales : c.as_slice-scales.result.now ≡ w.factors = search rules in
    let wide : k.problem.columns ≡ length found.numerators = c.requires.gram.size ∙ sym c.in_ok-found.ensures.size in
    let there = c.in_ok-found.ensures.projection (wholes_of k) c.requires.gram in
    test_is value k j over c.in_ok-reach.reach (rational (value c.args.tau)) (rational (value c.args.crit))
    c.requires.column setting.scaled setting.factors (positive_nonzero (factor_value w.cost) setting.cost) there
    (c.in_ok-reach.ensures.positive (wholes_of k) c.requires.gram there) c.in_ok-reach.ensures.under (c.in_ok-reach.ensures.bound (wholes_of k) c.requires.gram there)
    e (c.in_ok-factors.ensures.size ∙ sym wide)
    (subst (λ n. (m : ℕ) → m < n → number_at e m ≡ unscaled_factors (factor_at w.factors) j over m) (sym wide)
    (subst (λ (fs : List (Factor ℤ)). (m : ℕ) → m < length found.numerators → number_at e m ≡ unscaled_factors (factor_at fs) j over m) scales c.in_ok-factors.ensures.each))
