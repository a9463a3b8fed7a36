-- The item at the place of the row in the basis.
use Rattle.std.proofs.Common.{List, ℕ, IfSome, ◌≡◌, ◌==◌, pos, ap, subst, ◌∙◌}
use Rattle.std.specs.List.{position_or_len}
use Rattle.rational_laws.specs.Rational.{◌*ℚ◌, whole}
use Rattle.loss_model.specs.Problem.{number_at}
use Rattle.cert_sums.proofs.vertices.basic_scaled.Goals as goal

pub returns : goal.returns
returns c =
    let place = c.basis_place-place.ensures ∙ ap (λ (rows : List ℕ). position_or_len (λ (r : ℕ). r == c.args.row) rows) c.as_slice.ensures in
    subst (λ n. IfSome c.item_scaled.result (λ m. whole m ≡ whole (pos c.args.scale) *ℚ number_at c.args.basic.now n)) place
    (subst (λ xs. IfSome c.item_scaled.result (λ m. whole m ≡ whole (pos c.args.scale) *ℚ number_at xs c.basis_place-place.result)) c.as_slice-2.ensures c.item_scaled.ensures)
