-- A row more.
use Rattle.std.proofs.Common.{rules, ◌≡◌, ℕ, get_or, to_z, of_z, ap, ◌∙◌}
use mir.Syntax.{w128}
use Rattle.rational_laws.specs.Rational.{◌+ℚ◌, ◌*ℚ◌, whole}
use Rattle.rational_laws.proofs.Signs.{plus-zero}
use Rattle.rational_laws.specs.WholeLists.{whole_at}
use Rattle.cert_sums.specs.Sums.{cell_at}
use Rattle.cert_sums.proofs.Unsettled.{added_next}
use Rattle.cert_sums.proofs.slopes.with_rows.Goals as goal

pub loop-j-init : goal.loop-j-init
loop-j-init c = plus-zero _

pub loop-j-preserved : goal.loop-j-preserved
loop-j-preserved c =
    let rows = c.args.rows.now in
    let values = c.args.values.now in
    let list = c.args.list.now in
    let j = c.loop-j.j in
    let sum = c.in_ok-sum.sum in
    let s = to_z w128 c.loop-j.sum-bits in
    let term = λ (j : ℕ). cell_at rows c.args.place (get_or list j 0) *ℚ whole_at values j in
    let plain : to_z w128 (of_z w128 sum) ≡ sum = search rules in
    let value : to_z w128 (of_z w128 c.number_at.result) ≡ c.number_at.result = search rules in
    let made : whole sum ≡ whole s +ℚ (cell_at rows c.args.place (get_or list j 0) *ℚ whole c.number_at.result) = rw (value) at (c.in_ok-sum.ensures {u = tt}) in
    let grown : whole sum ≡ whole s +ℚ term j = made ∙ ap (λ z. whole s +ℚ (cell_at rows c.args.place (get_or list j 0) *ℚ z)) c.number_at.ensures in
    rw (plain) (added_next j term _ (whole s) (whole sum) c.loop-j.invariant grown)
