-- The first of the rows that move, item by item.
use Rattle.std.specs.Prelude.{◌≡◌, ◌≢◌, ◌⊎◌, ℕ, ◌+◌, ◌<◌, Bool, true, false, ◌==◌, List, length, get_or}
use Rattle.std.proofs.Common.{arith, refl, sym, ap, ap₂, subst, ◌∙◌, inl, inr}
use borrow.Author.Tests.{eqb-true, eqb-false}
use Rattle.rational_laws.specs.Fraction.{Fraction}
use Rattle.loss_model.specs.declared.spill.Short.{Short}
use Rattle.loss_model.specs.Quantities.{IsShortOf}
use Rattle.rational_laws.specs.Rational.{ℚ}
use Rattle.loss_model.specs.Sample.{Sample}
use Rattle.basic_solution.specs.Bases.{IsColumnSpill}
use Rattle.pivot_model.specs.declared.direction.Direction.{Direction}
use Rattle.pivot_model.specs.Steps.{moves}
use Rattle.walk_model.specs.Walks.{IsFirstMover}
use Rattle.fraction_tableau.specs.declared.line.Line.{Line}
use Rattle.fraction_tableau.specs.declared.line.Mover.{Mover}
use Rattle.fraction_tableau.specs.Lines.{model, at_of, inverse_of, IsLine, IsOrderSpill, at_coordinates, IsLineSpill, IsMover, AreMovers, row_at, is_moving, comes_before}
use Rattle.fraction_tableau.specs.LeastRatio.{IsEarlier, IsFirstOn}
use Rattle.fraction_tableau.proofs.HeapLaws.{IsOrderOn}
use Rattle.fraction_tableau.proofs.Refusals.{short_weaker}
use Rattle.fraction_tableau.proofs.Items.{order_of, item_read}

no : true ≡ false → ⊥
no h = cc

-- item `least` comes before every other of the first k
pub record IsLeastOf (lt : ℕ → ℕ → Bool) (f : ℕ → ℕ) (k least : ℕ) : Type 0 where
  pub within : least < k
  pub before : (i : ℕ) → i < k → i ≢ least → lt (f least) (f i) ≡ true

module _ (lt : ℕ → ℕ → Bool) (f : ℕ → ℕ) where
  pub only : IsLeastOf lt f 1 0
  only = record { within = omega arith; before = λ i li other. absurd (other (omega arith)) }

  pub one_more : (n : ℕ) → IsOrderOn lt f n → ((j k : ℕ) → j < k → k < n → f j ≢ f k) → (k least next : ℕ) → k < n → IsLeastOf lt f k least → IsEarlier lt f least k next → IsLeastOf lt f (k + 1) next
  one_more n o apart k least next lk h (inl e) =
      subst (IsLeastOf lt f (k + 1)) (sym e.0) (record {
        within = omega arith;
        before = λ i li other. by i (omega (arith, li, other)) (i == least) refl;
      })
    where
      by : (i : ℕ) → i < k → (t : Bool) → (i == least) ≡ t → lt (f k) (f i) ≡ true
      by i li true d = ap (λ j. lt (f k) (f j)) (eqb-true i least d) ∙ e.1
      by i li false d = o.trans (f k) (f least) (f i) e.1 (h.before i li (eqb-false i least d))
  one_more n o apart k least next lk h (inr e) =
      subst (IsLeastOf lt f (k + 1)) (sym e.0) (record {
        within = let l : least < k = h.within in omega (arith, l);
        before = λ i li other. by i li other (i == k) refl;
      })
    where
      last : (lt (f least) (f k) ≡ true) ⊎ (lt (f k) (f least) ≡ true) → lt (f least) (f k) ≡ true
      last (inl g) = g
      last (inr g) = absurd (no (sym g ∙ e.1))

      by : (i : ℕ) → i < k + 1 → i ≢ least → (t : Bool) → (i == k) ≡ t → lt (f least) (f i) ≡ true
      by i li other true d = ap (λ j. lt (f least) (f j)) (eqb-true i k d) ∙ last (o.total least k (omega (arith, h.within, lk)) lk (apart least k h.within lk))
      by i li other false d = let differ : i ≢ k = eqb-false i k d in h.before i (omega arith) other

module _ {F : Type 0} (value : F → Fraction) (l : Line F) (line : IsLine value l) (xs : List (Mover F)) (h : AreMovers value l xs) where
  pub mover_more : (k least next : ℕ) → k < length xs → IsLeastOf (comes_before value l) (row_at xs) k least → IsEarlier (comes_before value l) (row_at xs) least k next → IsLeastOf (comes_before value l) (row_at xs) (k + 1) next
  mover_more = one_more (comes_before value l) (row_at xs) (length xs) (order_of value l xs (length xs) (omega arith) line h) (λ j k l lk. h.apart j k l lk)

  pub first_here : (k least : ℕ) (m : Mover F) → k ≡ length xs → IsLeastOf (comes_before value l) (row_at xs) k least → m ≡ get_or xs least m → IsFirstOn value l m.row
  unfolding IsFirstOn is_moving comes_before
  first_here k least m all first is =
      let within : least < length xs = omega (arith, all, first.within) in
      let read : IsMover value l m × (row_at xs least ≡ m.row) = item_read value l xs h least m within is in
      record {
        row = read.0.row;
        mover = read.0.moves;
        least = λ i li moving other.
            let found : (k : ℕ) × (k < length xs) × (row_at xs k ≡ i) = h.all i li moving in
            let differ : found.0 ≢ least = λ e. other (sym found.2 ∙ ap (row_at xs) e ∙ read.1) in
            ap₂ (comes_before value l) (sym read.1) (sym found.2) ∙ first.before found.0 (omega (arith, found.1, all)) differ;
      }

-- the line of a breakpoint
module _ {F : Type 0} (value : F → Fraction) (l : Line F) where
  pub first_on : (r : ℕ) → IsFirstOn value l r → IsFirstMover (model value l) (at_of value l) (inverse_of value l) l.position l.direction r
  unfolding IsFirstOn
  first_on r h = h

  pub order_fault : (range : ℕ) (e : Short F) → IsShortOf (IsLineSpill value range l) e → IsShortOf (IsOrderSpill value range (model value l) (at_of value l) (inverse_of value l) l.position l.direction) e
  unfolding IsLineSpill
  order_fault range e h = h

  -- where there are no movers, no row moves
  pub none_moves : (xs : List (Mover F)) → AreMovers value l xs → length xs ≡ 0 → (i : ℕ) → i < length l.tableau.now.problem.rows → moves (model value l) (at_of value l) (inverse_of value l) l.position l.direction i ≡ false
  unfolding is_moving
  none_moves xs h empty i li = by (moves (model value l) (at_of value l) (inverse_of value l) l.position l.direction i) refl
    where
      by : (t : Bool) → moves (model value l) (at_of value l) (inverse_of value l) l.position l.direction i ≡ t → t ≡ false
      by false e = refl
      by true e =
          let found : (k : ℕ) × (k < length xs) × (row_at xs k ≡ i) = h.all i li e in
          let none : ⊥ = omega (arith, found.1, empty) in
          absurd none

-- a coordinate of a row at the position overflows
pub column_fault : {F : Type 0} (value : F → Fraction) (range : ℕ) (p : Sample) (at : ℕ → ℕ) (a : ℕ → ℕ → ℚ) (j : ℕ) (d : Direction) (e : Short F) → j < p.columns → IsShortOf (IsColumnSpill value range p a j) e
    → IsShortOf (IsOrderSpill value range p at a j d) e
column_fault value range p at a j d e lj k =
    short_weaker (IsColumnSpill value range p a j) (IsOrderSpill value range p at a j d) (λ s (i, li, h). at_coordinates i li (j, lj, h)) e k
