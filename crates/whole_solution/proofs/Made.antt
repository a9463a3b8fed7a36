-- The side of a row by numerators.
use Rattle.std.specs.Prelude.{◌≡◌, ◌≢◌, ℕ, ℤ, true, false, ◌<◌, ◌≤ℤ◌, List, length, pos, if◌then◌else◌}
use Rattle.std.proofs.Common.{refl, sym, ap, ◌∙◌, get_or}
use Rattle.rational_laws.specs.Rational.{ℚ, ◌*ℚ◌, neg_ℚ, whole}
use Rattle.rational_laws.proofs.RationalSumLaws.{sum_ℚ-same}
use Rattle.rational_laws.specs.Order.{cmp_ℚ}
use Rattle.rational_laws.specs.Matrices.{coordinate}
use Rattle.rational_laws.specs.Selections.{is_among}
use Rattle.loss_model.specs.declared.vertex.Side.TheVariants.{Up, Basic}
use Rattle.loss_model.specs.Sample.{Sample, residual}
use Rattle.basis_model.specs.Perturbed.{IsOutside, perturbed_side, side_of}
use Rattle.basis_model.proofs.Signs.{side-residual, perturbed_side-same}
use Rattle.basis_model.specs.Basis.{coefficient, coord, outside_row, side_at}
use Rattle.lex_rule.specs.Scan.{AreZeroBetween, IsNextAt}
use Rattle.rational_laws.specs.WholeLists.{whole_at}
use Rattle.whole_inverse.specs.Shares.{share, share_at}
use Rattle.whole_inverse.proofs.Lists.{share_read}
use Rattle.whole_rows.specs.declared.rows.WholeRow.{WholeRow}
use Rattle.whole_rows.specs.Wholes.{of_whole, sample_of_rows}
use Rattle.whole_solution.specs.Outside.{outside_of}
use Rattle.whole_solution.proofs.Numbers.{share_zero, share_back, share_some, share_none}
use Rattle.lex_rule.proofs.Signs.{at_held, at_own}
use Rattle.whole_solution.proofs.Reading.{row_read}

module _ (n : ℕ) (at : ℕ → ℕ) (row : ℕ) (r : ℤ) (coords : List ℤ) (d : ℤ) (h : pos 1 ≤ℤ d) where
  between : (from to : ℕ) → AreZeroBetween n at (whole_at coords) (whole_at coords) from to → AreZeroBetween n at (share_at d coords) (share_at d coords) from to
  between from to z j lj a b =
      let e = (z j lj a b).left in
      record { left = share_zero d coords j e; right = share_zero d coords j e }

  pub by_residual : r ≢ pos 0 → (rows : ℕ) → side_of (cmp_ℚ (share r d) (whole (pos 0))) ≡ perturbed_side rows n at (outside_of row r coords d)
  by_residual some rows = sym (side-residual n at (outside_of row r coords d) (share_some r d h some) rows)

  pub by_held : (k : ℕ) → k < length coords → IsOutside n at row → r ≡ pos 0 → IsNextAt n at (whole_at coords) (whole_at coords) 0 row k → (rows : ℕ) → row < rows
      → side_of (cmp_ℚ (neg_ℚ (share (get_or coords k (pos 0)) d)) (whole (pos 0))) ≡ perturbed_side rows n at (outside_of row r coords d)
  by_held k lk out zero next rows l =
      ap (λ z. side_of (cmp_ℚ (neg_ℚ z) (whole (pos 0)))) (share_read d coords k lk)
      ∙ at_held n at (outside_of row r coords d) k out (share_none r d zero)
      (record {
        within = next.within;
        above = next.above;
        below = next.below;
        some = λ z. next.some (record { left = share_back d h coords k z.left; right = share_back d h coords k z.left });
        least = between 0 (at k) next.least;
      }) rows l

  pub by_own : r ≡ pos 0 → AreZeroBetween n at (whole_at coords) (whole_at coords) 0 row → (rows : ℕ) → row < rows → Up ≡ perturbed_side rows n at (outside_of row r coords d)
  by_own zero z rows l = at_own n at (outside_of row r coords d) (share_none r d zero) (between 0 row z) rows l

-- the side of a row that was read, by the numerators of its residual and of its coordinates
module _ (n : ℕ) (rows : List (WholeRow ℤ)) (at : ℕ → ℕ) (a : ℕ → ℕ → ℚ) (i : ℕ) (r : WholeRow ℤ) (inside : i < length rows) (is : r ≡ get_or rows i r) where
  pub coords_made : (coords : List ℤ) (d : ℤ) → ((j : ℕ) → j < n → share_at d coords j ≡ coordinate n a (whole_at r.x) j) → (j : ℕ) → j < n → share_at d coords j ≡ coord (sample_of_rows n rows) a i j
  coords_made coords d each j lj =
      each j lj
      ∙ sum_ℚ-same n (λ k. whole_at r.x k *ℚ a k j) (λ k. of_whole rows (λ w. whole_at w.x k) i *ℚ a k j) (λ k lk. ap (λ x. x *ℚ a k j) (sym (row_read rows i r (λ w. whole_at w.x k) inside is)))

  pub side_made : (res : ℤ) (coords : List ℤ) (d : ℤ) → share res d ≡ residual (sample_of_rows n rows) (coefficient (sample_of_rows n rows) at a) i
      → ((j : ℕ) → j < n → share_at d coords j ≡ coordinate n a (whole_at r.x) j)
      → perturbed_side (length rows) n at (outside_of i res coords d) ≡ perturbed_side (length rows) n at (outside_row (sample_of_rows n rows) at a i)
  side_made res coords d here each =
      perturbed_side-same n at (outside_of i res coords d) (outside_row (sample_of_rows n rows) at a i) refl here (coords_made coords d each) (length rows)

-- whether a row is of the basis
pub basic_by : (p : Sample) (at : ℕ → ℕ) (a : ℕ → ℕ → ℚ) (i : ℕ) → is_among at p.columns i ≡ true → Basic ≡ side_at p at a i
basic_by p at a i h = sym (ap (λ t. if t then Basic else perturbed_side p.rows p.columns at (outside_row p at a i)) h)

pub outside_by : (p : Sample) (at : ℕ → ℕ) (a : ℕ → ℕ → ℚ) (i : ℕ) → is_among at p.columns i ≡ false → perturbed_side p.rows p.columns at (outside_row p at a i) ≡ side_at p at a i
outside_by p at a i h = sym (ap (λ t. if t then Basic else perturbed_side p.rows p.columns at (outside_row p at a i)) h)
