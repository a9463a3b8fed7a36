-- The number times the scale of the costs.
use Rattle.std.proofs.Common.{List, ℕ, ◌≡◌, ◌==◌, ◌*ℤ◌, pos, ap, ap₂, ◌∙◌}
use Rattle.std.specs.List.{position_or_len}
use Rattle.rational_laws.specs.Rational.{◌*ℚ◌, whole}
use Rattle.loss_model.specs.Problem.{number_at}
use Rattle.loss_model.specs.Vertex.{basic_value}
use Rattle.cert_sums.proofs.Scales.{scaled_twice}
use Rattle.cert_sums.proofs.long_sums.long_basic.Goals as goal

pub returns : goal.returns
returns c =
    let scale = c.args.scale.now in
    let n = c.in_ok-number.number in
    let m = c.in_ok-made.made in
    let place = c.basis_place-place.ensures ∙ ap (λ (rows : List ℕ). position_or_len (λ (r : ℕ). r == c.args.row) rows) c.as_slice.ensures in
    let inner : whole n ≡ whole (pos scale) *ℚ basic_value c.args.end.vertex.now c.args.end.basic.now c.args.row
    = (c.in_ok-number.ensures {u = tt}) ∙ ap₂ (λ xs k. whole (pos scale) *ℚ number_at xs k) c.as_slice-2.ensures place in
    let made : m ≡ n *ℤ pos c.args.cost_scale = (c.in_ok-made.ensures {u = tt}) ∙ ap (λ t. n *ℤ pos t) c.short-times.ensures in
    scaled_twice m n scale c.args.cost_scale (basic_value c.args.end.vertex.now c.args.end.basic.now c.args.row) inner made
