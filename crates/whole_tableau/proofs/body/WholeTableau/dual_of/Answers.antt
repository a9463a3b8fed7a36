-- The numerators of both parts at the row's position, read at theta.
use Rattle.std.proofs.Common.{rules, ◌≡◌, ◌<◌, length, slice_index, get_or, pos, arith, sym, ap, ap₂, ◌∙◌}
use Rattle.rational_laws.specs.Fraction.{rational}
use Rattle.rational_laws.specs.Rational.{◌+ℚ◌, ◌*ℚ◌, inverse}
use Rattle.rational_laws.proofs.Signs.{positive_nonzero}
use Rattle.loss_model.specs.Problem.{sample}
use Rattle.pivot_model.specs.Duals.{dual}
use Rattle.pivot_model.proofs.Sides.{dual_at}
use Rattle.wide_int.specs.Numbers.{number_of}
use Rattle.whole_inverse.specs.Shares.{share}
use Rattle.whole_inverse.proofs.Lists.{share_read}
use Rattle.whole_rows.specs.Wholes.{factor_value}
use Rattle.whole_tableau.specs.Kept.{place}
use Rattle.whole_tableau.proofs.Vertices.{dual_by}
use Rattle.whole_tableau.proofs.body.WholeTableau.dual_of.Goals as goal

pub value-requires-clause-factor : goal.value-requires-clause-factor
value-requires-clause-factor g c κs within =
    rw ((c.in_ok-reading.ensures {u = tt}).factor) (positive_nonzero (factor_value c.args.self.now.setting.wholes.cost) c.solution-solution.ensures.kept.setting.cost)

pub returns : goal.returns
returns g c =
    let value = g.F.Exact.value in
    let k = c.args.self.now in
    let stands = c.solution-solution.ensures in
    let sol = c.solution-solution.result.now in
    let is_place = c.basis.ensures.place in
    let r = c.in_ok-reading.reading in
    let theta = rational (value c.args.theta) in
    let d = r.denominator.number in
    let j = c.position_of-j.result in
    let rows : c.as_slice.result.now ≡ k.rows = c.as_slice.ensures ∙ c.basis.ensures.rows in
    let here = rw rows at c.position_of-j.ensures in
    let lj : j < k.problem.columns = omega (arith, here.within, is_place.size) in
    let lc : j < length sol.constant = omega (arith, lj, stands.solution.constants) in
    let ll : j < length sol.linear = omega (arith, lj, stands.solution.linears) in
    let ec : number_of c.of-constant.result ≡ get_or sol.constant j (pos 0) = search rules in
    let el : number_of c.of-linear.result ≡ get_or sol.linear j (pos 0) = search rules in
    let made : rational (value c.in_ok-number.number) ≡ (share (get_or sol.constant j (pos 0)) d +ℚ (share (get_or sol.linear j (pos 0)) d *ℚ rational (value r.theta))) *ℚ inverse (rational (value r.factor)) =
    rw (ec, el) at (c.in_ok-number.ensures {u = tt}) in
    ap rational (c.in_ok-value.ensures {u = tt})
    ∙ dual_by value k stands.kept sol stands.solution theta r (c.in_ok-reading.ensures {u = tt}) j lj (rational (value c.in_ok-number.number))
    (made ∙ ap₂ (λ x y. (x +ℚ (y *ℚ rational (value r.theta))) *ℚ inverse (rational (value r.factor))) (share_read d sol.constant j lc) (share_read d sol.linear j ll))
    ∙ sym (dual_at (sample value k.problem) (slice_index k.rows) (place value k).inverse is_place.is_basis theta j lj)
    ∙ ap (dual (sample value k.problem) (slice_index k.rows) (place value k).inverse theta) here.holds
