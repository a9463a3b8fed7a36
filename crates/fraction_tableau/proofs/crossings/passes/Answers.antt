use Rattle.std.specs.Prelude.{IsTrue, pos}
use Rattle.std.specs.Ordering.{is_lt}
use Rattle.std.proofs.Common.{◌≡◌, sym, ap, subst, ◌∙◌}
use Rattle.rational_laws.specs.Fraction.{rational}
use Rattle.rational_laws.specs.Rational.{ℚ, whole}
use Rattle.rational_laws.specs.Order.{cmp_ℚ}
use Rattle.fraction_tableau.specs.Meetings.{Gains}
use Rattle.tableau_model.proofs.Tests.{below_test}
use Rattle.fraction_tableau.proofs.crossings.passes.Goals as goal

pub returns-in-Downward : goal.returns-in-Downward
returns-in-Downward g c =
    let gain : ℚ = rational (g.F.Exact.value c.args.gain) in
    let test : c.is_lt.result ≡ is_lt (cmp_ℚ gain (whole (pos 0))) = c.is_lt.ensures ∙ ap is_lt (c.compare-in-Downward.ensures ∙ ap (cmp_ℚ gain) c.zero-in-Downward.ensures) in
    subst (λ b. (IsTrue b → Gains c.args.direction gain) × (Gains c.args.direction gain → IsTrue b)) (sym test)
    (subst (λ d. (IsTrue (is_lt (cmp_ℚ gain (whole (pos 0)))) → Gains d gain) × (Gains d gain → IsTrue (is_lt (cmp_ℚ gain (whole (pos 0)))))) (sym c.in-Downward.is) (below_test gain (whole (pos 0))))
