-- A row more.
use Rattle.std.proofs.Common.{rules, ◌≡◌, ℤ, ◌<◌, ◌+◌, ◌++◌, ◌∷◌, [], ◌≤ℤ◌, length, get_or, pos, arith, subst}
use Rattle.std.proofs.lemmas.List.Elements.{All-weaker, All-push}
use Rattle.loss_model.specs.declared.vertex.Side.TheVariants.{Up}
use Rattle.whole_inverse.specs.Shares.{share, share_at}
use Rattle.whole_inverse.proofs.Lists.{share_read}
use Rattle.loss_model.specs.Sides.{side_in}
use Rattle.rational_laws.specs.Rational.{◌*ℚ◌}
use Rattle.whole_solution.specs.Far.{IsFarOn}
use Rattle.whole_solution.specs.Ranges.{factor_at}
use Rattle.whole_solution.proofs.Listed.{near_next, far_next}
use Rattle.loss_model.proofs.Sides.{side_read}
use Rattle.whole_solution.proofs.near.near_rows.Goals as goal
use Rattle.whole_solution.proofs.near.near_rows.Goals.{then-not-is_far_on+in_ok-add, else-not-is_far_on}

pub loop-row-preserved : goal.loop-row-preserved
loop-row-preserved c =
    let near = c.loop-row.near in
    let row = c.loop-row.row in
    let residuals = c.args.residuals.now in
    let sides = c.args.sides.now in
    let classes = c.args.classes.now in
    let far = c.args.far in
    let before = c.loop-row.invariant in
    let within = All-weaker (λ i. i < row) (λ i. i < row + 1) (λ x h. omega (arith, h)) near before.within in
    elim c.if-not-is_far_on.branch [
      | then-not-is_far_on+in_ok-add w ↦
          let grown : w.add.new.self ≡ near ++ row ∷ [] = search rules in
          rw (w.near-is, grown) (record {
            within = All-push (λ i. i < row + 1) near row within (omega arith);
            others = λ d p. near_next near row (side_in sides) (λ i. factor_at classes i *ℚ share (pos far) d) (share_at d residuals) (before.others d p);
          })
      | else-not-is_far_on w ↦
          let away : (d : ℤ) → pos 1 ≤ℤ d → IsFarOn (get_or sides row Up) (factor_at classes row *ℚ share (pos far) d) (share (get_or residuals row (pos 0)) d) = search rules in
          let here : row < length residuals = search rules in
          let own : (d : ℤ) → pos 1 ≤ℤ d → IsFarOn (side_in sides row) (factor_at classes row *ℚ share (pos far) d) (share_at d residuals row) =
          λ d p. subst (λ s. IsFarOn s (factor_at classes row *ℚ share (pos far) d) (share_at d residuals row)) (side_read sides row Up (omega (arith, here, c.requires.same)))
          (subst (λ r. IsFarOn (get_or sides row Up) (factor_at classes row *ℚ share (pos far) d) r) (share_read d residuals row here) (away d p)) in
          rw (w.near-is) (record {
            within = within;
            others = λ d p. far_next near row (side_in sides) (λ i. factor_at classes i *ℚ share (pos far) d) (share_at d residuals) (before.others d p) (own d p);
          })
    ]
