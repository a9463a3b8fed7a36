-- What rows weigh after one of them was put on a side.
use Rattle.std.specs.Prelude.{◌≡◌, ◌≢◌, ℕ, ℤ, zero, suc, ◌+◌, ◌-◌, ◌<◌, ◌≤◌, Bool, true, false, ◌==◌, List, length, slice_set}
use Rattle.std.proofs.Common.{arith, refl, sym, subst, ◌∙◌}
use borrow.Author.Tests.{eqb-true, eqb-false}
use Rattle.rational_laws.specs.Rational.{◌-ℚ◌, whole}
use Rattle.loss_model.specs.declared.vertex.Side.{Side}
use Rattle.loss_model.specs.Sample.{Sample}
use Rattle.basis_model.specs.declared.part.Part.{Part}
use Rattle.basis_model.specs.declared.part.Part.TheVariants.{Constant, Linear}
use Rattle.basis_model.specs.Basis.{bound_part}
use Rattle.rational_laws.specs.WholeLists.{whole_at}
use Rattle.whole_rows.specs.declared.rows.WholeRow.{WholeRow}
use Rattle.whole_solution.specs.declared.totals.Totals.{Totals}
use Rattle.whole_solution.specs.declared.totals.Weights.{Weights}
use Rattle.loss_model.specs.Sides.{side_in}
use Rattle.whole_solution.specs.Weighing.{bound_of, AreTotals, AreWeights, AreRaised, AreTurned}
use Rattle.whole_solution.proofs.Basics.{put_same, put_other}
use Rattle.whole_solution.proofs.Moved.{AreMoved, moved_none, moved_more, moved_same, moved_all, turned_read}
use Rattle.whole_solution.proofs.Same.{weights-same}

module _ (p : Sample) (sides : List Side) (i : ℕ) (x : Side) where
  abbrev old : ℕ → Side
  old = side_in sides

  abbrev new : ℕ → Side
  new = side_in (slice_set sides i x)

  keeps : (j : ℕ) → j ≢ i → new j ≡ old j
  keeps j apart = put_other sides i j x apart

  module _ (part : Part) (r : WholeRow ℤ) (before after : Totals ℤ) where
    -- no row before it has moved
    until : (n : ℕ) → n ≤ i → AreMoved p old new part before before n
    until zero l = moved_none p old new part before
    until (suc n) l =
        subst (λ m. AreMoved p old new part before before m) (omega arith)
        (moved_same p old new part n before before (keeps n (λ e. absurd (omega (arith, e, l)))) (until n (omega (arith, l))))

    -- nor has one after it
    past : AreMoved p old new part before after (i + 1) → (n : ℕ) → AreMoved p old new part before after (i + 1 + n)
    past here zero = subst (λ m. AreMoved p old new part before after m) (omega arith) here
    past here (suc n) =
        subst (λ m. AreMoved p old new part before after m) (omega arith)
        (moved_same p old new part (i + 1 + n) before after (keeps (i + 1 + n) (λ e. absurd (omega (arith, e)))) (past here n))

    totals_put : i < p.rows → ((k : ℕ) → whole_at r.x k ≡ p.x i k) → whole r.y ≡ p.y i → ((side : Side) → bound_of r part side ≡ bound_part p part i side)
        → AreRaised r (bound_of r part (new i) -ℚ bound_of r part (old i)) before after → AreTotals p old part before → AreTotals p new part after
    totals_put li x y bound raised are =
        let here = moved_more p old new part i before before after r x y bound (until i (omega arith)) raised in
        moved_all p old new part before after are (subst (λ m. AreMoved p old new part before after m) (omega (arith, li)) (past here (p.rows - (i + 1))))

  -- the row has changed its side
  pub weights_put : (r : WholeRow ℤ) (from : Side) (before after : Weights ℤ) → length sides ≡ p.rows → i < p.rows → from ≡ old i
      → ((k : ℕ) → whole_at r.x k ≡ p.x i k) → whole r.y ≡ p.y i → ((part : Part) (side : Side) → bound_of r part side ≡ bound_part p part i side)
      → AreTurned r from x before after → AreWeights p old before → AreWeights p new after
  weights_put r from before after size li was xs y bound turned are =
      let read = turned_read r from (old i) x (new i) before after was (sym (put_same sides i x (omega (arith, size, li)))) turned in
      record {
        constant = totals_put Constant r before.constant after.constant li xs y (bound Constant) read.constant are.constant;
        linear = totals_put Linear r before.linear after.linear li xs y (bound Linear) read.linear are.linear;
      }

  -- the row keeps its side
  pub weights_kept : (w : Weights ℤ) → length sides ≡ p.rows → i < p.rows → x ≡ old i → AreWeights p old w → AreWeights p new w
  weights_kept w size li was are = weights-same p old new w (λ j lj. by j (j == i) refl) are
    where
      by : (j : ℕ) (t : Bool) → (j == i) ≡ t → old j ≡ new j
      by j true e = subst (λ m. old m ≡ new m) (sym (eqb-true j i e)) (sym (put_same sides i x (omega (arith, size, li)) ∙ was))
      by j false e = sym (keeps j (eqb-false j i e))
