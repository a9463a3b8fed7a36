-- The item at the place of the row in the basis.
use Rattle.std.proofs.Common.{List, ℕ, ◌==◌, ap, ap₂, ◌∙◌}
use Rattle.std.specs.List.{position_or_len}
use Rattle.loss_model.specs.Problem.{number_at}
use Rattle.cert_checker.proofs.leaves.basic_number.Goals as goal

pub returns : goal.returns
returns c =
    c.in_ok-number.ensures
    ∙ ap₂ number_at c.as_slice-2.ensures (c.basis_place-place.ensures ∙ ap (λ (rows : List ℕ). position_or_len (λ (r : ℕ). r == c.args.row) rows) c.as_slice.ensures)
