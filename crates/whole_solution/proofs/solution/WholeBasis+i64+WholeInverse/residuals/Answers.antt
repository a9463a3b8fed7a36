-- What is left of the responses.
use Rattle.std.proofs.Common.{rules, ◌≡◌, to_z, of_z, ap, ◌∙◌}
use mir.Syntax.{w128}
use Rattle.std.proofs.lemmas.Result.{IfOk-weaker}
use Rattle.rational_laws.specs.Rational.{◌-ℚ◌, whole}
use Rattle.whole_rows.specs.Wholes.{of_whole}
use Rattle.whole_solution.proofs.solution.WholeBasis+i64+WholeInverse.residuals.Goals as goal

pub returns-clause-each : goal.returns-clause-each
returns-clause-each c =
    let b = c.args.self.now in
    let s = b.inverse.now in
    let det : to_z w128 (of_z w128 c.determinant.result) ≡ c.determinant.result = search rules in
    let fits = rw (c.requires.size) at ((c.in_ok-fits.ensures).each s.determinant) in
    let made = rw (c.as_slice.ensures, det, c.determinant.ensures.value) at c.residuals.ensures.each in
    IfOk-weaker c.residuals.result _ _ (λ made h i li. h i li ∙ ap (λ z. of_whole b.rows.now (λ r. whole r.y) i -ℚ z) (fits i li)) made
