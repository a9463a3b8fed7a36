-- The first of the rows that move, row by row.
use Rattle.std.specs.Prelude.{◌≡◌, ◌≢◌, ◌⊎◌, ℕ, ℤ, ◌+◌, ◌<◌, Bool, true, false, ◌==◌, length, Option, Some, None, IfSome}
use Rattle.std.proofs.Common.{arith, refl, sym, ap, subst, ◌∙◌, inl, inr}
use borrow.Author.Tests.{eqb-true, eqb-false}
use Rattle.pivot_model.proofs.Passing.{mover_order, before_trans}
use Rattle.walk_model.specs.Walks.{IsFirstMover}
use Rattle.whole_inverse.specs.Squares.{WholeSquare}
use Rattle.whole_steps.specs.declared.line.Line.{Line}
use Rattle.whole_steps.specs.declared.line.Mover.{Mover}
use Rattle.whole_steps.specs.Lines.{model, at_of, inverse_at, IsLine, IsMover, IsBefore, IsEarlierMover, IsJoined, IsFirstMoverOf, IsFirstOf, is_moving, comes_before}

pub no : true ≡ false → ⊥
no h = cc

module _ (l : Line ℤ WholeSquare) (line : IsLine l) where
  order : (i k : ℕ) → i < length l.basis.now.rows.now → is_moving l i ≡ true → i ≢ k → (comes_before l i k ≡ true) ⊎ (comes_before l k i ≡ true)
  unfolding is_moving comes_before
  order i k li h differ = mover_order (model l) (at_of l) (inverse_at l) l.position line.basis l.direction i k li h differ

  pub trans : (i k m : ℕ) → comes_before l i k ≡ true → comes_before l k m ≡ true → comes_before l i m ≡ true
  unfolding comes_before
  trans = before_trans (model l) (at_of l) (inverse_at l) l.position

  -- of two movers one that doesn't come before the other comes after it
  pub not_before : (first second : Mover ℕ) → IsMover l first → comes_before l second.row first.row ≡ false → IsBefore l first.row second.row
  not_before first second h not_less other = by (order first.row second.row h.row h.moves (λ e. other (sym e)))
    where
      by : (comes_before l first.row second.row ≡ true) ⊎ (comes_before l second.row first.row ≡ true) → comes_before l first.row second.row ≡ true
      by (inl g) = g
      by (inr g) = absurd (no (sym g ∙ not_less))

  -- what holds of the first n and of one more holds of all n + 1
  pub at_last : (n k : ℕ) (Q : ℕ → Type 0) → k < n + 1 → Q n → (k < n → Q k) → Q k
  at_last n k Q lk own before = by (k == n) refl
    where
      by : (t : Bool) → (k == n) ≡ t → Q k
      by true e = subst Q (sym (eqb-true k n e)) own
      by false e = let other : k ≢ n = eqb-false k n e in before (omega arith)

  module _ (row : ℕ → ℕ) where
    -- one more doesn't move
    pub still : (n : ℕ) (best : Option (Mover ℕ)) → IsFirstOf l row n best → is_moving l (row n) ≡ false → IsFirstOf l row (n + 1) best
    still n None h here = λ k lk. at_last n k (λ k. is_moving l (row k) ≡ false) lk here (h k)
    still n (Some m) h here =
        record {
          mover = h.mover;
          least = λ k lk. at_last n k (λ k. is_moving l (row k) ≡ true → IsBefore l m.row (row k)) lk (λ moving. absurd (no (sym moving ∙ here))) (h.least k);
        }

    -- it comes after the first, or doesn't move
    pub stays : (n : ℕ) (m : Mover ℕ) → IsFirstMoverOf l row n m → (is_moving l (row n) ≡ true → comes_before l m.row (row n) ≡ true) → IsFirstMoverOf l row (n + 1) m
    stays n m h after =
        record {
          mover = h.mover;
          least = λ k lk. at_last n k (λ k. is_moving l (row k) ≡ true → IsBefore l m.row (row k)) lk (λ moving other. after moving) (h.least k);
        }

    -- it is the first that does
    begins : (n : ℕ) (m : Mover ℕ) → IsFirstOf l row n None → IsMover l m → m.row ≡ row n → IsFirstMoverOf l row (n + 1) m
    begins n m h mover here =
        record {
          mover = mover;
          least = λ k lk. at_last n k (λ k. is_moving l (row k) ≡ true → IsBefore l m.row (row k)) lk (λ moving other. absurd (other (sym here))) (λ lo moving. absurd (no (sym moving ∙ h k lo)));
        }

    -- it comes before the first so far, or doesn't
    one_of_two : (n : ℕ) (first second taken : Mover ℕ) → IsFirstMoverOf l row n first → IsMover l second → second.row ≡ row n → IsEarlierMover l first second taken → IsFirstMoverOf l row (n + 1) taken
    one_of_two n first second taken h mover here (inl e) =
        subst (IsFirstMoverOf l row (n + 1)) (sym e.0) (record {
          mover = mover;
          least = λ k lk. at_last n k (λ k. is_moving l (row k) ≡ true → IsBefore l second.row (row k)) lk (λ moving other. absurd (other (sym here))) (λ lo moving other. by k lo moving (row k == first.row) refl);
        })
      where
        by : (k : ℕ) → k < n → is_moving l (row k) ≡ true → (t : Bool) → (row k == first.row) ≡ t → comes_before l second.row (row k) ≡ true
        by k lo moving true d = ap (comes_before l second.row) (eqb-true (row k) first.row d) ∙ e.1
        by k lo moving false d = trans second.row first.row (row k) e.1 (h.least k lo moving (eqb-false (row k) first.row d))
    one_of_two n first second taken h mover here (inr e) =
        subst (IsFirstMoverOf l row (n + 1)) (sym e.0) (record {
          mover = h.mover;
          least = λ k lk. at_last n k (λ k. is_moving l (row k) ≡ true → IsBefore l first.row (row k)) lk (λ moving. subst (IsBefore l first.row) here e.1) (h.least k);
        })

    -- the same, of one mover more than there may be
    pub joins : (n : ℕ) (best : Option (Mover ℕ)) (second taken : Mover ℕ) → IsFirstOf l row n best → IsMover l second → second.row ≡ row n → IsJoined l best second taken → IsFirstMoverOf l row (n + 1) taken
    joins n None second taken h mover here e = subst (IsFirstMoverOf l row (n + 1)) (sym e) (begins n second h mover here)
    joins n (Some first) second taken h mover here e = one_of_two n first second taken h mover here e

    pub some_is : (n : ℕ) (best : Option (Mover ℕ)) → IsFirstOf l row n best → IfSome best (IsMover l)
    some_is n None h = tt
    some_is n (Some m) h = h.mover

  -- the first of all enters
  pub first_of_all : (m : Mover ℕ) → IsFirstMoverOf l (λ i. i) (length l.basis.now.rows.now) m → IsFirstMover (model l) (at_of l) (inverse_at l) l.position l.direction m.row
  unfolding is_moving comes_before
  first_of_all m h = record { row = h.mover.row; mover = h.mover.moves; least = h.least }
