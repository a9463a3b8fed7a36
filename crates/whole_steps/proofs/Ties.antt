-- The order of perturbed ratios, by the first entries or by all.
use Rattle.std.specs.Prelude.{◌≡◌, ◌≢◌, ◌↔◌, ℕ, suc, ℤ, ◌*◌, ◌+◌, ◌<◌, ◌≤◌, ◌<ℤ◌, ◌≤ℤ◌, Bool, true, false, not, IsTrue, neg_ℤ, unsigned_abs, [], ◌∷◌, get_or, length, pos}
use Rattle.std.specs.Ordering.{is_lt, is_eq, is_ne, nat_cmp, ordering_reverse}
use Rattle.std.specs.declared.cmp.Ordering.{Ordering}
use Rattle.std.specs.declared.cmp.Ordering.TheVariants.{Less, Equal, Greater}
use Rattle.std.proofs.Common.{arith, refl, sym, ap, ap₂, subst, ◌∙◌}
use Rattle.std.proofs.lemmas.Int.{ints}
use Rattle.rational_laws.specs.Rational.{ℚ, ◌*ℚ◌, neg_ℚ, inverse, whole}
use Rattle.rational_laws.specs.Order.{cmp_ℚ}
use Rattle.rational_laws.specs.Solver.{negated, ◌⊠◌, v0, v1}
use Rattle.rational_laws.proofs.RationalLaws.{ring_ℚ, ≤ℚ_trans}
use Rattle.rational_laws.proofs.OrderLaws.{cmp_ℚ-Equal, cmp_ℚ-Less, cmp_ℚ-Greater}
use Rattle.loss_model.specs.declared.vertex.Side.{Side}
use Rattle.loss_model.specs.declared.vertex.Side.TheVariants.{Up, Down, Basic}
use Rattle.loss_model.specs.Spill.{abs_ℚ}
use Rattle.basis_model.specs.Lexicographic.{lex_cmp}
use Rattle.basis_model.proofs.LexicographicLaws.{lex_cmp-first, lex_cmp-Equal}
use Rattle.basis_model.specs.Perturbed.{IsOutside, perturbed, perturbed_side, turned, zeros}
use Rattle.basis_model.specs.Basis.{coord, outside_row}
use Rattle.pivot_model.proofs.Passing.{mover_some, is_outside}
use Rattle.lex_rule.proofs.Comparisons.{equal_from, side_cases, held_entry, agree_between, agree_more, less_from_first, left_decides, right_decides}
use Rattle.rational_laws.specs.WholeLists.{whole_at}
use Rattle.whole_inverse.specs.Shares.{share}
use Rattle.whole_rows.specs.declared.rows.WholeRow.{WholeRow}
use Rattle.whole_rows.specs.Wholes.{of_whole}
use Rattle.whole_solution.proofs.Reading.{row_read}
use Rattle.rational_laws.specs.Matrices.{coordinate}
use Rattle.rational_laws.proofs.RationalSumLaws.{sum_ℚ-same}
use Rattle.rational_laws.proofs.Comparisons.{not_equal, differs}
use Rattle.whole_inverse.proofs.Turned.{share-quotient}
use Rattle.whole_inverse.specs.Squares.{WholeSquare}
use Rattle.whole_solution.proofs.Numbers.{share-neg}
use Rattle.whole_steps.specs.declared.line.Line.{Line}
use Rattle.whole_steps.specs.declared.line.Mover.{Mover}
use Rattle.whole_steps.specs.declared.tie.Tied.{Tied}
use Rattle.whole_steps.specs.Lines.{model, at_of, inverse_at, over_of, IsLine, IsMover, is_moving, comes_before, ratio_of}
use Rattle.whole_steps.specs.Ties.{entry_on, IsTied, HoldsNone, IsLeastHeld}
use Rattle.whole_steps.proofs.Signs.{cross_compare, share_below, share_not_below, neg_order}

bool_is : (b : Bool) (o : Ordering) → (IsTrue b ↔ (o ≡ Less)) → b ≡ is_lt o
bool_is true o h = sym (ap is_lt (h.0 refl))
bool_is false Less h = h.1 refl
bool_is false Equal h = refl
bool_is false Greater h = refl

module _ (l : Line ℤ WholeSquare) (line : IsLine l) where
  pub moving_outside : (i : ℕ) → is_moving l i ≡ true → IsOutside (model l).columns (at_of l) i
  unfolding is_moving
  moving_outside i h = is_outside (model l) (at_of l) (inverse_at l) l.position line.basis l.direction i h

  pub moving_coord : (i : ℕ) → is_moving l i ≡ true → coord (model l) (inverse_at l) i l.position ≢ whole (pos 0)
  unfolding is_moving
  moving_coord i h = mover_some (model l) (at_of l) (inverse_at l) l.position l.direction i h

  -- where the cross products differ they decide
  pub first_decides : (m n : Mover ℕ) (o : Ordering) → IsMover l m → IsMover l n → o ≡ nat_cmp (m.residual * n.coord) (n.residual * m.coord) → is_eq o ≡ false → is_lt o ≡ comes_before l m.row n.row
  unfolding comes_before
  first_decides m n o h g is differ =
      ap is_lt (is ∙ sym (cross_compare m.residual m.coord n.residual n.coord h.some g.some) ∙ ap₂ cmp_ℚ h.ratio_is g.ratio_is
      ∙ sym (lex_cmp-first (suc (model l).rows) 0 (ratio_of l m.row) (ratio_of l n.row)
      (omega arith) (λ i li. absurd (omega (arith, li)))
      (λ e. not_equal o differ (is ∙ sym (cross_compare m.residual m.coord n.residual n.coord h.some g.some)
      ∙ (cmp_ℚ-Equal (share (pos m.residual) (pos m.coord)) (share (pos n.residual) (pos n.coord))).1 (h.ratio_is ∙ e ∙ sym g.ratio_is)))))

  -- where they agree, so do the first entries
  pub first_agrees : (m n : Mover ℕ) → IsMover l m → IsMover l n → nat_cmp (m.residual * n.coord) (n.residual * m.coord) ≡ Equal → ratio_of l m.row 0 ≡ ratio_of l n.row 0
  first_agrees m n h g e =
      sym h.ratio_is
      ∙ (cmp_ℚ-Equal (share (pos m.residual) (pos m.coord)) (share (pos n.residual) (pos n.coord))).0 (cross_compare m.residual m.coord n.residual n.coord h.some g.some ∙ e)
      ∙ g.ratio_is

  -- ---- entries at rows of the basis

  -- the entry of a row at the row that position k holds, from its coordinate there
  pub entry_is : (t : Tied) (k : ℕ) (n c : ℤ) → IsTied l t → k < (model l).columns → share c (over_of l) ≡ coord (model l) (inverse_at l) t.row k → share n (over_of l) ≡ entry_on t.side (share c (over_of l))
      → share n (pos t.size) ≡ ratio_of l t.row (suc (at_of l k))
  entry_is t k n c h lk is made =
      share-quotient n (pos t.size) (over_of l) (nonzero (over_of l) line.held.shape.positive)
      ∙ ap₂ (λ x y. x *ℚ inverse y) (made ∙ ap (entry_on t.side) is) h.size
      ∙ on_entry t.side (coord (model l) (inverse_at l) t.row k) (inverse (abs_ℚ (coord (model l) (inverse_at l) t.row l.position)))
      ∙ ap₂ (λ o x. turned o (x *ℚ inverse (abs_ℚ (coord (model l) (inverse_at l) t.row l.position)))) h.side
      (held_entry (model l).columns (at_of l) (outside_row (model l) (at_of l) (inverse_at l) t.row) k (moving_outside t.row h.moves) lk)
    where
      nonzero : (d : ℤ) → pos 1 ≤ℤ d → d ≢ pos 0
      nonzero d h e = omega (arith, ints)

      on_entry : (s : Side) (x y : ℚ) → entry_on s x *ℚ y ≡ turned s (neg_ℚ x *ℚ y)
      on_entry Up x y = refl
      on_entry Basic x y = refl
      on_entry Down x y = ring_ℚ (x ∷ y ∷ []) (v0 ⊠ v1) (negated (negated v0 ⊠ v1)) refl

  -- the coordinate of a row that was read
  pub coordinate_here : (i : ℕ) (r : WholeRow ℤ) → i < length l.basis.now.rows.now → r ≡ get_or l.basis.now.rows.now i r → (j : ℕ) → coordinate (model l).columns (inverse_at l) (whole_at r.x) j ≡ coord (model l) (inverse_at l) i j
  coordinate_here i r li is j =
      sum_ℚ-same (model l).columns (λ k. whole_at r.x k *ℚ inverse_at l k j) (λ k. of_whole l.basis.now.rows.now (λ w. whole_at w.x k) i *ℚ inverse_at l k j)
      (λ k lk. ap (λ x. x *ℚ inverse_at l k j) (sym (row_read l.basis.now.rows.now i r (λ w. whole_at w.x k) li is)))

  -- ---- the order of all entries

  module _ (left right : Tied) (h : IsTied l left) (g : IsTied l right) where
    abbrev pub AgreeTo : ℕ → Type 0
    AgreeTo m = (i : ℕ) → i < m → ratio_of l left.row i ≡ ratio_of l right.row i

    pub agree_first : ratio_of l left.row 0 ≡ ratio_of l right.row 0 → AgreeTo 1
    agree_first e i li = let none : 0 ≡ i = omega (arith, li) in subst (λ i. ratio_of l left.row i ≡ ratio_of l right.row i) none e

    between : (from to : ℕ) → to ≤ left.row → to ≤ right.row → HoldsNone (model l).columns (at_of l) from to → AgreeTo (suc from) → AgreeTo (suc to)
    between from to ll lr none agree =
        agree_between (perturbed_side (model l).rows (model l).columns (at_of l) (outside_row (model l) (at_of l) (inverse_at l) left.row))
        (perturbed_side (model l).rows (model l).columns (at_of l) (outside_row (model l) (at_of l) (inverse_at l) right.row))
        (model l).columns (at_of l) l.position (outside_row (model l) (at_of l) (inverse_at l) left.row) (outside_row (model l) (at_of l) (inverse_at l) right.row) from to ll lr
        (λ j lj a b. absurd (none j lj a b)) agree

    pub all_agree : (from end : ℕ) → end ≤ left.row → end ≤ right.row → HoldsNone (model l).columns (at_of l) from end → AgreeTo (suc from) → Equal ≡ lex_cmp (suc end) (ratio_of l left.row) (ratio_of l right.row)
    all_agree from end ll lr none agree = sym (lex_cmp-Equal (suc end) (ratio_of l left.row) (ratio_of l right.row) (between from end ll lr none agree))

    pub entry_decides : (from end k : ℕ) (o : Ordering) → end ≤ left.row → end ≤ right.row → IsLeastHeld (model l).columns (at_of l) from end k → AgreeTo (suc from)
        → o ≡ cmp_ℚ (ratio_of l left.row (suc (at_of l k))) (ratio_of l right.row (suc (at_of l k))) → is_ne o ≡ true → o ≡ lex_cmp (suc end) (ratio_of l left.row) (ratio_of l right.row)
    entry_decides from end k o ll lr next agree is ne =
        let before = between from (at_of l k) (omega (arith, next.below)) (omega (arith, next.below)) next.least agree in
        is ∙ sym (lex_cmp-first (suc end) (suc (at_of l k)) (ratio_of l left.row) (ratio_of l right.row) (omega (arith, next.below)) before
        (λ e. differs o ne (is ∙ (cmp_ℚ-Equal (ratio_of l left.row (suc (at_of l k))) (ratio_of l right.row (suc (at_of l k)))).1 e)))

    pub entry_agrees : (from end k : ℕ) (o : Ordering) → end ≤ left.row → end ≤ right.row → IsLeastHeld (model l).columns (at_of l) from end k → AgreeTo (suc from)
        → o ≡ cmp_ℚ (ratio_of l left.row (suc (at_of l k))) (ratio_of l right.row (suc (at_of l k))) → is_ne o ≡ false → AgreeTo (suc (at_of l k + 1))
    entry_agrees from end k o ll lr next agree is same i li =
        let before = between from (at_of l k) (omega (arith, next.below)) (omega (arith, next.below)) next.least agree in
        let here = (cmp_ℚ-Equal (ratio_of l left.row (suc (at_of l k))) (ratio_of l right.row (suc (at_of l k)))).0 (sym is ∙ equal_from o same) in
        agree_more (perturbed_side (model l).rows (model l).columns (at_of l) (outside_row (model l) (at_of l) (inverse_at l) left.row))
        (perturbed_side (model l).rows (model l).columns (at_of l) (outside_row (model l) (at_of l) (inverse_at l) right.row))
        (model l).columns (at_of l) l.position (outside_row (model l) (at_of l) (inverse_at l) left.row) (outside_row (model l) (at_of l) (inverse_at l) right.row) (suc (at_of l k)) before here i (omega (arith, li))

    -- an order that isn't equal is that of all entries
    pub order_decides : (end : ℕ) (o : Ordering) → end ≤ left.row → o ≡ lex_cmp (suc end) (ratio_of l left.row) (ratio_of l right.row) → is_ne o ≡ true → is_lt o ≡ comes_before l left.row right.row
    unfolding comes_before
    order_decides end o low is ne =
        let small : end ≤ (model l).rows = omega (arith, low, h.row) in
        bool_is (is_lt o) (lex_cmp (suc (model l).rows) (ratio_of l left.row) (ratio_of l right.row)) (less_from_first (model l).rows end o (ratio_of l left.row) (ratio_of l right.row) small is ne)

    pub left_first : (end : ℕ) (o : Ordering) (b : Bool) → end ≡ left.row → left.row < right.row → (IsTrue b ↔ (left.side ≡ Down)) → o ≡ lex_cmp (suc end) (ratio_of l left.row) (ratio_of l right.row) → is_ne o ≡ false
        → b ≡ comes_before l left.row right.row
    unfolding comes_before
    left_first end o b here less test is same =
        bool_is b (lex_cmp (suc (model l).rows) (ratio_of l left.row) (ratio_of l right.row))
        (left_decides (model l).rows (model l).columns (at_of l) l.position (outside_row (model l) (at_of l) (inverse_at l) left.row) (outside_row (model l) (at_of l) (inverse_at l) right.row)
        (perturbed_side (model l).rows (model l).columns (at_of l) (outside_row (model l) (at_of l) (inverse_at l) left.row))
        (perturbed_side (model l).rows (model l).columns (at_of l) (outside_row (model l) (at_of l) (inverse_at l) right.row))
        b end here less h.row (moving_outside left.row h.moves) (moving_coord left.row h.moves) (subst (λ s. IsTrue b ↔ (s ≡ Down)) h.side test)
        (side_cases (lex_cmp (suc (model l).rows) (perturbed (model l).columns (at_of l) (outside_row (model l) (at_of l) (inverse_at l) left.row)) zeros)) (sym (equal_from o same) ∙ is))

    pub right_first : (end : ℕ) (o : Ordering) (b : Bool) → end ≡ right.row → right.row < left.row → (IsTrue b ↔ (right.side ≡ Down)) → o ≡ lex_cmp (suc end) (ratio_of l left.row) (ratio_of l right.row) → is_ne o ≡ false
        → not b ≡ comes_before l left.row right.row
    unfolding comes_before
    right_first end o b here less test is same =
        bool_is (not b) (lex_cmp (suc (model l).rows) (ratio_of l left.row) (ratio_of l right.row))
        (right_decides (model l).rows (model l).columns (at_of l) l.position (outside_row (model l) (at_of l) (inverse_at l) left.row) (outside_row (model l) (at_of l) (inverse_at l) right.row)
        (perturbed_side (model l).rows (model l).columns (at_of l) (outside_row (model l) (at_of l) (inverse_at l) left.row))
        (perturbed_side (model l).rows (model l).columns (at_of l) (outside_row (model l) (at_of l) (inverse_at l) right.row))
        b end here less g.row (moving_outside right.row g.moves) (moving_coord right.row g.moves) (subst (λ s. IsTrue b ↔ (s ≡ Down)) g.side test)
        (side_cases (lex_cmp (suc (model l).rows) (perturbed (model l).columns (at_of l) (outside_row (model l) (at_of l) (inverse_at l) right.row)) zeros)) (sym (equal_from o same) ∙ is))

-- ---- two entries

-- both below, by their sizes
pub below_both : (a b : ℤ) (d e : ℕ) → 1 ≤ d → 1 ≤ e → a <ℤ pos 0 → b <ℤ pos 0 → ordering_reverse (nat_cmp (unsigned_abs a * e) (unsigned_abs b * d)) ≡ cmp_ℚ (share a (pos d)) (share b (pos e))
below_both a b d e hd he la lb =
    let ea : neg_ℤ (pos (unsigned_abs a)) ≡ a = omega (arith, ints) in
    let eb : neg_ℤ (pos (unsigned_abs b)) ≡ b = omega (arith, ints) in
    ap ordering_reverse (sym (cross_compare (unsigned_abs a) d (unsigned_abs b) e hd he))
    ∙ sym (neg_order (share (pos (unsigned_abs a)) (pos d)) (share (pos (unsigned_abs b)) (pos e)))
    ∙ ap₂ cmp_ℚ (sym (share-neg (pos (unsigned_abs a)) (pos d)) ∙ ap (λ z. share z (pos d)) ea) (sym (share-neg (pos (unsigned_abs b)) (pos e)) ∙ ap (λ z. share z (pos e)) eb)

-- one below
pub below_above : (a b : ℤ) (d e : ℕ) → 1 ≤ d → 1 ≤ e → a <ℤ pos 0 → pos 0 ≤ℤ b → Less ≡ cmp_ℚ (share a (pos d)) (share b (pos e))
below_above a b d e hd he la lb =
    sym ((cmp_ℚ-Less (share a (pos d)) (share b (pos e))).1
    (λ up. share_below a (pos d) (omega (arith, ints)) la (≤ℚ_trans (whole (pos 0)) (share b (pos e)) (share a (pos d)) (share_not_below b (pos e) (omega (arith, ints)) lb) up)))

pub above_below : (a b : ℤ) (d e : ℕ) → 1 ≤ d → 1 ≤ e → pos 0 ≤ℤ a → b <ℤ pos 0 → Greater ≡ cmp_ℚ (share a (pos d)) (share b (pos e))
above_below a b d e hd he la lb =
    sym ((cmp_ℚ-Greater (share a (pos d)) (share b (pos e))).1
    (λ up. share_below b (pos e) (omega (arith, ints)) lb (≤ℚ_trans (whole (pos 0)) (share a (pos d)) (share b (pos e)) (share_not_below a (pos d) (omega (arith, ints)) la) up)))

pub above_both : (a b : ℤ) (d e : ℕ) → 1 ≤ d → 1 ≤ e → pos 0 ≤ℤ a → pos 0 ≤ℤ b → nat_cmp (unsigned_abs a * e) (unsigned_abs b * d) ≡ cmp_ℚ (share a (pos d)) (share b (pos e))
above_both a b d e hd he la lb =
    let ea : pos (unsigned_abs a) ≡ a = omega (arith, ints) in
    let eb : pos (unsigned_abs b) ≡ b = omega (arith, ints) in
    sym (cross_compare (unsigned_abs a) d (unsigned_abs b) e hd he) ∙ ap₂ cmp_ℚ (ap (λ z. share z (pos d)) ea) (ap (λ z. share z (pos e)) eb)
