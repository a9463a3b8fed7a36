use Rattle.std.proofs.Common.{◌≡◌, length, map, pos, ap, subst, ◌∙◌, inl, inr}
use Rattle.std.proofs.lemmas.List.{length-map}
use Rattle.std.proofs.lemmas.Result.{err_from_is_err_and}
use Rattle.fraction_tableau.proofs.Refusals.{short_weaker}
use Rattle.rational_laws.specs.Fraction.{rational}
use Rattle.rational_laws.specs.Rational.{whole}
use Rattle.loss_model.specs.Problem.{value_at, sample}
use Rattle.loss_model.specs.Strict.{◌<ℚ◌}
use Rattle.basis_inverse.specs.Square.{inverse_entry}
use Rattle.rank_model.specs.Restricted.{IsProjection, squared_length, rank_bound}
use Rattle.rank_inversion.specs.GramStops.{IsBoundSpill, IsTestSpill}
use Rattle.rank_inversion.specs.Grams.{IsProjectingSpill}
use Rattle.rank_inversion.proofs.Projections.{length_by, read_wide}
use Rattle.rank_inversion.proofs.column_test.measured.Goals as goal

pub returns-in_err-projected-clause-spill : goal.returns-in_err-projected-clause-spill
returns-in_err-projected-clause-spill g c =
    let value = g.F.Exact.value in
    let range = g.F.Exact.range in
    let p = c.args.problem.now in
    let asked = c.args.asked in
    let gram = c.requires.gram.inverse in
    let a = inverse_entry value c.args.gram.now.inverse in
    let returned = err_from_is_err_and c.from_residual.result c.from_residual.ensures.1 in
    rw (returned.1, returned.2)
    (short_weaker (IsProjectingSpill value range p.columns a asked.column) (IsTestSpill value range p asked.column (rational (value asked.tau)) (rational (value asked.crit)))
    (λ s k. (a, gram.inverse, inl k)) _ (c.in_err-projected.ensures {u = tt}).spill)

pub returns-in-Err-clause-spill : goal.returns-in-Err-clause-spill
returns-in-Err-clause-spill g c =
    let value = g.F.Exact.value in
    let p = c.args.problem.now in
    let asked = c.args.asked in
    let gram = c.requires.gram.inverse in
    let a = inverse_entry value c.args.gram.now.inverse in
    let made = c.in_ok-projected.ensures {u = tt} in (
      a,
      gram.inverse,
      inr (subst (λ q. IsBoundSpill value g.F.Exact.range (rational (value asked.tau)) (rational (value asked.crit)) q c.in-Err.spill)
          (length_by (sample value p) asked.column a c.requires.within gram.inverse (value_at value c.in_ok-projected.projected.factors) _ made.projection made.length) (c.in-Err.ensures {u = tt}).spill),
    )

pub returns-clause-tested : goal.returns-clause-tested
returns-clause-tested g c =
    let value = g.F.Exact.value in
    let s = sample value c.args.problem.now in
    let asked = c.args.asked in
    let projected = c.in_ok-projected.projected in
    let made = c.in_ok-projected.ensures {u = tt} in
    let wide : c.in_ok-factors.factors ≡ map value projected.factors = (c.in_ok-factors.ensures {u = tt}) ∙ ap (map value) c.as_slice.ensures in
    let read = read_wide value projected.factors c.in_ok-factors.factors wide in
    let length_is = made.length ∙ ap (squared_length s asked.column) read in
    record {
      size = ap length wide ∙ length-map projected.factors value ∙ made.size;
      projection = subst (IsProjection s asked.column) read made.projection;
      positive = subst (λ q. whole (pos 0) <ℚ q) length_is made.positive;
      bound = (c.in-Ok.ensures {u = tt}).exact ∙ ap (rank_bound (rational (value asked.tau)) (rational (value asked.crit))) length_is;
    }
