-- A residual more.
use Rattle.std.proofs.Common.{rules, ◌≡◌, ◌<◌, ◌++◌, ◌∷◌, [], length, get_or, pos, to_z, of_z, arith, sym, ap₂, ◌∙◌}
use mir.Syntax.{w128}
use Rattle.rational_laws.specs.Rational.{◌-ℚ◌, whole}
use Rattle.whole_inverse.specs.Shares.{share, share_at}
use Rattle.whole_inverse.proofs.Lists.{share_read, share_pushed, length_pushed}
use Rattle.whole_rows.specs.Wholes.{of_whole}
use Rattle.whole_solution.proofs.Reading.{row_read}
use Rattle.whole_solution.proofs.primal.residuals.Goals as goal

pub loop-i-preserved : goal.loop-i-preserved
loop-i-preserved c =
    let rows = c.args.rows.now in
    let fits = c.args.fits.now in
    let d = c.args.determinant in
    let i = c.loop-i.i in
    let r = c.index-rows-i.result in
    let made = c.loop-i.made in
    let x = c.in_ok-number.number in
    let grown : c.push.new.self ≡ made ++ x ∷ [] = search rules in
    let ed : to_z w128 (of_z w128 d) ≡ d = search rules in
    let ef : to_z w128 (of_z w128 (get_or fits i (pos 0))) ≡ get_or fits i (pos 0) = search rules in
    let here : i < length fits = omega (arith, c.requires.same, c.loop-i-test.true) in
    let before = rw (ed) at c.loop-i.invariant in
    let made_of : share x d ≡ whole r.y -ℚ share (get_or fits i (pos 0)) d = search rules in
    rw (grown, ed) (record {
      size = length_pushed made x i before.size;
      each = share_pushed d made x i (λ i. of_whole rows (λ r. whole r.y) i -ℚ share_at d fits i) before.size before.each
          (made_of ∙ ap₂ (λ y f. y -ℚ f) (sym (row_read rows i r (λ r. whole r.y) c.loop-i-test.true c.index-rows-i.is)) (share_read d fits i here));
    })
