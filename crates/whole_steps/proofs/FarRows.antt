-- Rows that are far come after a mover whose ratio is small enough.
use Rattle.std.specs.Prelude.{◌≡◌, ◌≢◌, ℕ, suc, ℤ, ◌*◌, ◌^◌, ◌<◌, ◌≤◌, true, unsigned_abs, List, [], ◌∷◌, length, get_or, slice_get, slice_index, Some, pos}
use Rattle.std.specs.Ordering.{is_lt}
use Rattle.std.proofs.Common.{arith, refl, sym, ap, ap₂, subst, ◌∙◌, inl, inr}
use Rattle.std.proofs.lemmas.Int.{ints}
use Rattle.std.proofs.lemmas.Nat.{pow_pos}
use Rattle.rational_laws.specs.Solver.{number, ◌⊠◌, v0, v1, v2, v3, v4}
use Rattle.rational_laws.specs.Rational.{ℚ, ◌*ℚ◌, inverse, whole, ◌≤ℚ◌}
use Rattle.rational_laws.specs.RationalSums.{sum_ℚ}
use Rattle.rational_laws.proofs.RationalLaws.{ring_ℚ, ring_by_ℚ, whole-mul, *ℚ-inverse, ≤ℚ_refl, ≤ℚ_trans, ≤ℚ_mul}
use Rattle.rational_laws.proofs.OrderLaws.{cmp_ℚ-Less, ≤ℚ-from_mul}
use Rattle.rational_laws.proofs.WholeNumbers.{le_from_whole, whole-le}
use Rattle.loss_model.specs.declared.vertex.Side.{Side}
use Rattle.loss_model.specs.declared.vertex.Side.TheVariants.{Up, Down, Basic}
use Rattle.loss_model.specs.Spill.{abs_ℚ}
use Rattle.basis_model.proofs.LexicographicLaws.{lex_cmp-first}
use Rattle.basis_model.specs.Perturbed.{turned, perturbed_side}
use Rattle.basis_model.specs.Basis.{coord, outside_row, side_at}
use Rattle.basis_model.proofs.Ratios.{abs_not_negative}
use Rattle.pivot_model.proofs.Passing.{mover_outside}
use Rattle.pivot_model.proofs.Sides.{side_outside}
use Rattle.whole_inverse.specs.Shares.{share, share_at}
use Rattle.whole_inverse.specs.Squares.{WholeSquare}
use Rattle.walk_model.specs.Walks.{IsFirstMover}
use Rattle.whole_solution.specs.Far.{IsFarOn, IsNearOrFar}
use Rattle.whole_solution.specs.Ranges.{factor_at, most_of_products, power}
use Rattle.loss_model.specs.Sides.{side_in}
use Rattle.loss_model.proofs.Quotients.{whole_some}
use Rattle.whole_steps.specs.declared.line.Line.{Line}
use Rattle.whole_steps.specs.declared.line.Mover.{Mover}
use Rattle.whole_steps.specs.declared.near_line.NearLine.{NearLine}
use Rattle.whole_steps.specs.Lines.{model, at_of, inverse_at, over_of, residual_of, IsLine, IsMover, IsNearLine, IsBefore, IsFirstMoverOf, AreFarAfter, is_moving, comes_before, ratio_of}
use Rattle.whole_steps.proofs.Bounded.{most_share}
use Rattle.whole_steps.proofs.Coordinates.{column_size, coordinates_by}
use Rattle.whole_steps.proofs.FirstLaws.{first_of_all}
use Rattle.whole_steps.proofs.Movers.{turned-times}
use Rattle.whole_steps.proofs.Signs.{share_not_below}
use Rattle.whole_solution.proofs.Keeping.{power_some}
use Rattle.whole_solution.proofs.Numbers.{above}
use Rattle.whole_solution.proofs.Within.{products_stay_in_range}
use Rattle.whole_solution.proofs.Sizes.{none_from, scaled_up}
use Rattle.whole_steps.proofs.Ties.{moving_coord}

-- ---- quotients

times : (n d : ℕ) → 1 ≤ d → whole (pos d) *ℚ share (pos n) (pos d) ≡ whole (pos n)
times n d h = ring_by_ℚ (whole (pos n) ∷ whole (pos d) ∷ inverse (whole (pos d)) ∷ []) (v1 ⊠ (v0 ⊠ v2)) v0 v0 (v1 ⊠ v2) (number (pos 1)) refl (*ℚ-inverse (whole (pos d)) (whole_some d h))

three : (a b c : ℕ) → whole (pos a) *ℚ (whole (pos b) *ℚ whole (pos c)) ≡ whole (pos (a * (b * c)))
three a b c = ap (λ z. whole (pos a) *ℚ z) (sym (whole-mul (pos b) (pos c))) ∙ sym (whole-mul (pos a) (pos (b * c)))

-- a quotient is above the product of two others where the cross products are
apart : (r m e reach c d : ℕ) → 1 ≤ e → 1 ≤ c → 1 ≤ d → r * m * e < reach * c * d → ¬ (share (pos reach) (pos e) ≤ℚ (share (pos m) (pos d) *ℚ share (pos r) (pos c)))
apart r m e reach c d he hc hd less l =
    let z = le_from_whole (pos (reach * (d * c))) (pos (e * (m * r))) (subst (λ x. x ≤ℚ whole (pos (e * (m * r)))) left (subst (λ x. (scale *ℚ share (pos reach) (pos e)) ≤ℚ x) right
    (≤ℚ_mul (share (pos reach) (pos e)) (share (pos m) (pos d) *ℚ share (pos r) (pos c)) scale up l))) in
    omega (arith, ints, less, z)
  where
    scale : ℚ
    scale = whole (pos e) *ℚ (whole (pos d) *ℚ whole (pos c))

    up : whole (pos 0) ≤ℚ scale
    up = subst (λ z. whole (pos 0) ≤ℚ z) (sym (three e d c)) (whole-le (pos 0) (pos (e * (d * c))) (omega (arith, ints)))

    left : scale *ℚ share (pos reach) (pos e) ≡ whole (pos (reach * (d * c)))
    left =
        ring_ℚ (whole (pos e) ∷ whole (pos d) ∷ whole (pos c) ∷ share (pos reach) (pos e) ∷ []) ((v0 ⊠ (v1 ⊠ v2)) ⊠ v3) ((v0 ⊠ v3) ⊠ (v1 ⊠ v2)) refl
        ∙ ap (λ z. z *ℚ (whole (pos d) *ℚ whole (pos c))) (times reach e he) ∙ three reach d c

    right : scale *ℚ (share (pos m) (pos d) *ℚ share (pos r) (pos c)) ≡ whole (pos (e * (m * r)))
    right = right_by (whole (pos e)) (whole (pos d)) (whole (pos c)) (share (pos m) (pos d)) (share (pos r) (pos c))
        ∙ ap₂ (λ y z. whole (pos e) *ℚ (y *ℚ z)) (times m d hd) (times r c hc) ∙ three e m r
      where
        right_by : (x y z u v : ℚ) → (x *ℚ (y *ℚ z)) *ℚ (u *ℚ v) ≡ x *ℚ ((y *ℚ u) *ℚ (z *ℚ v))
        right_by x y z u v = ring_ℚ (x ∷ y ∷ z ∷ u ∷ v ∷ []) ((v0 ⊠ (v1 ⊠ v2)) ⊠ (v3 ⊠ v4)) (v0 ⊠ ((v1 ⊠ v3) ⊠ (v2 ⊠ v4))) refl

-- ---- a far row

power_above : (class : ℕ) → ¬ (power class ≤ℚ whole (pos 0))
power_above class = let some = pow_pos class in above (pos (2 ^ class)) (omega (arith, ints, some))

far_turned : (s : Side) (far r : ℚ) → IsFarOn s far r → far ≤ℚ turned s r
far_turned Up far r h = h
far_turned Down far r h = h
far_turned Basic far r h = absurd h

module _ (l : Line ℤ WholeSquare) (line : IsLine l) where
  -- the first entry of the ratio, times the size of the coordinate
  entry_times : (i : ℕ) → is_moving l i ≡ true → abs_ℚ (coord (model l) (inverse_at l) i l.position) *ℚ ratio_of l i 0
      ≡ turned (perturbed_side (model l).rows (model l).columns (at_of l) (outside_row (model l) (at_of l) (inverse_at l) i)) (residual_of l i)
  entry_times i moving =
      ap (λ z. size *ℚ z) (turned-times side (residual_of l i) (inverse size))
      ∙ ring_by_ℚ (turned side (residual_of l i) ∷ size ∷ inverse size ∷ []) (v1 ⊠ (v0 ⊠ v2)) v0 v0 (v1 ⊠ v2) (number (pos 1)) refl (*ℚ-inverse size some)
    where
      size : ℚ
      size = abs_ℚ (coord (model l) (inverse_at l) i l.position)

      side : Side
      side = perturbed_side (model l).rows (model l).columns (at_of l) (outside_row (model l) (at_of l) (inverse_at l) i)

      some : size ≢ whole (pos 0)
      some e = moving_coord l line i moving (none_from (coord (model l) (inverse_at l) i l.position) e)

  -- a row of which the first entry is greater comes later
  first_less : (m : Mover ℕ) (i : ℕ) → IsMover l m → ¬ (ratio_of l i 0 ≤ℚ ratio_of l m.row 0) → comes_before l m.row i ≡ true
  unfolding comes_before
  first_less m i h greater =
      ap is_lt (lex_cmp-first (suc (model l).rows) 0 (ratio_of l m.row) (ratio_of l i) (omega arith) (λ k lk. absurd (omega (arith, lk)))
      (λ e. greater (subst (λ z. z ≤ℚ ratio_of l m.row 0) e (≤ℚ_refl (ratio_of l m.row 0)))) ∙ (cmp_ℚ-Less (ratio_of l m.row 0) (ratio_of l i 0)).1 greater)

  side_moving : (i : ℕ) → is_moving l i ≡ true → side_at (model l) (at_of l) (inverse_at l) i ≡ perturbed_side (model l).rows (model l).columns (at_of l) (outside_row (model l) (at_of l) (inverse_at l) i)
  unfolding is_moving
  side_moving i h = side_outside (model l) (at_of l) (inverse_at l) i (mover_outside (model l) (at_of l) (inverse_at l) l.position l.direction i h)

  module _ (m : Mover ℕ) (h : IsMover l m) (reach e most : ℕ) (he : 1 ≤ e) (d : ℕ) (over : over_of l ≡ pos d) (less : m.residual * most * e < reach * m.coord * d) where
    later_by : (i class : ℕ) → i < length l.basis.now.rows.now → abs_ℚ (coord (model l) (inverse_at l) i l.position) ≤ℚ (power class *ℚ share (pos most) (over_of l))
        → IsFarOn (side_in l.sides.now i) (power class *ℚ share (pos reach) (pos e)) (residual_of l i) → is_moving l i ≡ true → comes_before l m.row i ≡ true
    later_by i class li small far moving = first_less m i h greater
      where
        some : 1 ≤ d
        some = let p = line.held.shape.positive in omega (arith, ints, over, p)

        up : whole (pos 0) ≤ℚ ratio_of l m.row 0
        up = subst (λ z. whole (pos 0) ≤ℚ z) h.ratio_is (share_not_below (pos m.residual) (pos m.coord) (let s = h.some in omega (arith, ints, s)) (omega (arith, ints)))

        -- the reach, times the factor of the row
        bound : ℚ
        bound = power class *ℚ share (pos reach) (pos e)

        on_side : bound ≤ℚ turned (perturbed_side (model l).rows (model l).columns (at_of l) (outside_row (model l) (at_of l) (inverse_at l) i)) (residual_of l i)
        on_side = subst (λ s. bound ≤ℚ turned s (residual_of l i)) (line.sides i li ∙ side_moving i moving) (far_turned (side_in l.sides.now i) bound (residual_of l i) far)

        greater : ¬ (ratio_of l i 0 ≤ℚ ratio_of l m.row 0)
        greater back =
            apart m.residual most e reach m.coord d he h.some some less
            (subst (λ z. share (pos reach) (pos e) ≤ℚ (share (pos most) (pos d) *ℚ z)) (sym h.ratio_is)
            (subst (λ z. share (pos reach) (pos e) ≤ℚ (share (pos most) z *ℚ ratio_of l m.row 0)) over
            (≤ℚ-from_mul (share (pos reach) (pos e)) (share (pos most) (over_of l) *ℚ ratio_of l m.row 0) (power class) (power_above class)
            (≤ℚ_trans bound (size *ℚ ratio_of l m.row 0) (power class *ℚ (share (pos most) (over_of l) *ℚ ratio_of l m.row 0))
            (≤ℚ_trans bound (size *ℚ ratio_of l i 0) (size *ℚ ratio_of l m.row 0)
            (subst (λ z. bound ≤ℚ z) (sym (entry_times i moving)) on_side)
            (≤ℚ_mul (ratio_of l i 0) (ratio_of l m.row 0) size (abs_not_negative (coord (model l) (inverse_at l) i l.position)) back))
            (subst (λ z. (size *ℚ ratio_of l m.row 0) ≤ℚ z)
            (ring_ℚ (power class ∷ share (pos most) (over_of l) ∷ ratio_of l m.row 0 ∷ []) ((v0 ⊠ v1) ⊠ v2) (v0 ⊠ (v1 ⊠ v2)) refl)
            (scaled_up size (power class *ℚ share (pos most) (over_of l)) (ratio_of l m.row 0) small up))))))
          where
            size : ℚ
            size = abs_ℚ (coord (model l) (inverse_at l) i l.position)

-- ---- all far rows

module _ (n : NearLine) (near : IsNearLine n) (numbers : List ℤ) (is : slice_get n.line.basis.now.inverse.now.columns n.line.position ≡ Some numbers) where
  -- the coordinates are within their bound, times the factors of the rows
  coord_small : (most : ℕ) → whole (pos most) ≡ most_of_products (length numbers) n.near.now.ranges (λ k. whole (get_or numbers k (pos 0)))
      → (i : ℕ) → i < length n.line.basis.now.rows.now → abs_ℚ (coord (model n.line) (inverse_at n.line) i n.line.position) ≤ℚ (factor_at n.near.now.ranges.classes i *ℚ share (pos most) (over_of n.line))
  coord_small most bound i li =
      subst (λ z. abs_ℚ z ≤ℚ (factor *ℚ share (pos most) (over_of n.line)))
      (coordinates_by s near.line.held.shape n.line.basis.now.rows.now i n.line.position numbers made near.line.position is refl)
      (subst (λ z. abs_ℚ made ≤ℚ (factor *ℚ z))
      (sym (most_share n.near.now.ranges numbers (length numbers) most (over_of n.line) (omega arith) near.line.held.shape.positive bound))
      (products_stay_in_range (length numbers) n.near.now.ranges factor ((model n.line).x i) (share_at (over_of n.line) numbers) (power_some (slice_index n.near.now.ranges.classes i))
      (λ k lk. near.near.ranges.each i li k (subst (λ m. k < m) (column_size s near.line.held.shape n.line.position numbers near.line.position is) lk))))
    where
      s : WholeSquare
      s = n.line.basis.now.inverse.now

      factor : ℚ
      factor = factor_at n.near.now.ranges.classes i

      made : ℚ
      made = sum_ℚ (length numbers) (λ k. (model n.line).x i k *ℚ share_at (over_of n.line) numbers k)

  pub far_after : (m : Mover ℕ) → IsMover n.line m → (most : ℕ) → whole (pos most) ≡ most_of_products (length numbers) n.near.now.ranges (λ k. whole (get_or numbers k (pos 0)))
      → m.residual * most * unsigned_abs n.near.now.determinant < n.near.now.reach * m.coord * unsigned_abs (over_of n.line) → AreFarAfter n m.row
  far_after m h most bound less i li far moving =
      let e : n.near.now.determinant ≡ pos (unsigned_abs n.near.now.determinant) = let p = near.near.some in omega (arith, ints, p) in
      let d : over_of n.line ≡ pos (unsigned_abs (over_of n.line)) = let p = near.line.held.shape.positive in omega (arith, ints, p) in
      later_by n.line near.line m h n.near.now.reach (unsigned_abs n.near.now.determinant) most (let p = near.near.some in omega (arith, ints, p)) (unsigned_abs (over_of n.line)) d less i (slice_index n.near.now.ranges.classes i) li
      (coord_small most bound i li) (subst (λ z. IsFarOn (side_in n.line.sides.now i) (factor_at n.near.now.ranges.classes i *ℚ share (pos n.near.now.reach) z) (residual_of n.line i)) e far) moving

module _ (n : NearLine) (near : IsNearLine n) where
  -- the first of the near rows that comes before the far ones is the first of all
  pub first_by_near : (m : Mover ℕ) → IsFirstMoverOf n.line (slice_index n.near.now.rows) (length n.near.now.rows) m → AreFarAfter n m.row
      → IsFirstMover (model n.line) (at_of n.line) (inverse_at n.line) n.line.position n.line.direction m.row
  first_by_near m first after =
      first_of_all n.line near.line m (record { mover = first.mover; least = λ i li moving other. by i li moving other (near.far i li) })
    where
      by : (i : ℕ) → i < length n.line.basis.now.rows.now → is_moving n.line i ≡ true → i ≢ m.row
          → IsNearOrFar n.near.now.rows (side_in n.line.sides.now i) (factor_at n.near.now.ranges.classes i *ℚ share (pos n.near.now.reach) n.near.now.determinant) i (residual_of n.line i) → comes_before n.line m.row i ≡ true
      by i li moving other (inl (k, lk, here)) =
          subst (λ z. is_moving n.line z ≡ true → IsBefore n.line m.row z) here (first.least k lk) moving other
      by i li moving other (inr far) = after i li far moving
