-- A row more.
use Rattle.std.proofs.Common.{rules, ◌≡◌, ◌<◌, ℕ, length, get_or, pos, sym, ap, ◌∙◌}
use Rattle.std.specs.Prelude.{Option, slice_get, Some}
use Rattle.std.specs.Option.{option_map_or}
use Rattle.std.proofs.lemmas.Option.{slice_get-get_or}
use Rattle.rational_laws.specs.Rational.{◌+ℚ◌, ◌*ℚ◌, whole}
use Rattle.rational_laws.specs.WholeLists.{whole_at}
use Rattle.rational_laws.proofs.Signs.{plus-zero}
use Rattle.cert_sums.specs.Sums.{cell_at}
use Rattle.cert_sums.proofs.Unsettled.{added_next}
use Rattle.cert_sums.proofs.long_sums.long_sum_at.Goals as goal

pub loop-j-init : goal.loop-j-init
loop-j-init c = (c.in_ok-sum.ensures {u = tt}) ∙ plus-zero _

pub loop-j-preserved : goal.loop-j-preserved
loop-j-preserved c =
    let view = c.args.view in
    let rows = view.rows.now in
    let values = view.values.now in
    let list = c.as_slice-list.result.now in
    let j = c.loop-j.j in
    let value = get_or values j c.index-view-j.result in
    let sum = c.in_ok-sum-2.sum in
    let term = λ (j : ℕ). cell_at rows c.args.place (get_or list j 0) *ℚ whole_at values j in
    let within : j < length values = search rules in
    let read : slice_get values j ≡ Some value = slice_get-get_or values j c.index-view-j.result within in
    let made : whole sum ≡ whole c.loop-j.sum +ℚ (cell_at rows c.args.place (get_or list j 0) *ℚ whole value) = c.in_ok-sum-2.ensures {u = tt} in
    let grown = made ∙ ap (λ (o : Option _). whole c.loop-j.sum +ℚ (cell_at rows c.args.place (get_or list j 0) *ℚ option_map_or whole o (whole (pos 0)))) (sym read) in
    added_next j term _ (whole c.loop-j.sum) (whole sum) c.loop-j.invariant grown
