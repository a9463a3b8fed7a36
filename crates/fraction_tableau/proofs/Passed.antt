-- The rows that are passed, and those that are left in the heap.
use Rattle.std.specs.Prelude.{◌≡◌, ◌≢◌, ◌⊎◌, ℕ, suc, ◌+◌, ◌-◌, ◌<◌, ◌≤◌, Bool, true, false, ◌==◌, if◌then◌else◌, List, length, get_or, [], ◌∷◌, pos}
use Rattle.std.proofs.Common.{arith, refl, sym, ap, ap₂, subst, ◌∙◌, inl, inr}
use Rattle.std.proofs.lemmas.Bool.{cases_lt}
use borrow.Author.Tests.{eqb-true, eqb-false}
use Rattle.rational_laws.specs.Fraction.{Fraction, rational}
use Rattle.rational_laws.specs.Solver.{number, ◌⊞◌, v0, v1, v2}
use Rattle.rational_laws.specs.Rational.{ℚ, ◌+ℚ◌, ◌*ℚ◌, whole, ◌≤ℚ◌}
use Rattle.rational_laws.proofs.RationalLaws.{ring_ℚ}
use Rattle.rational_laws.specs.RationalSums.{sum_ℚ}
use Rattle.rational_laws.proofs.RationalSumLaws.{sum_ℚ-same}
use Rattle.rational_laws.specs.Selections.{is_among, AreDistinct, among}
use Rattle.rational_laws.proofs.SelectionLaws.{sum_ℚ-among}
use Rattle.loss_model.specs.declared.spill.Spill.{Spill}
use Rattle.loss_model.specs.declared.spill.Quantity.TheVariants.{Slope}
use Rattle.loss_model.specs.Sample.{up_cost, down_cost}
use Rattle.loss_model.specs.Spill.{IsUpCostSpill, IsDownCostSpill, IsTermSpill, site_of, abs_ℚ}
use Rattle.loss_model.proofs.Products.{same_term}
use Rattle.basis_model.specs.BasisSpills.{IsCostSumSpill}
use Rattle.basis_model.specs.Basis.{coord}
use Rattle.pivot_model.specs.Steps.{slope}
use Rattle.pivot_model.specs.Spills.{direction_number, of_cost, of_search, of_cost_sum, of_passing}
use Rattle.pivot_model.proofs.Among.{among_at, among_place}
use Rattle.pivot_model.proofs.Counting.{count-same, count-among, count-at_most}
use Rattle.pivot_model.proofs.Entering.{enough}
use Rattle.pivot_model.proofs.Passing.{passed, passed_test}
use Rattle.fraction_tableau.specs.declared.line.Line.{Line}
use Rattle.fraction_tableau.specs.declared.line.Mover.{Mover}
use Rattle.fraction_tableau.specs.Heaps.{IsHeapFrom, IsPopped}
use Rattle.fraction_tableau.specs.Lines.{model, at_of, inverse_of, IsLine, IsMover, AreMovers, row_at, is_moving, comes_before}
use Rattle.fraction_tableau.specs.Descents.{IsDescent, IsDescentSpill, Enters, first_slope, slope_until, passing_of, passed_until}
use Rattle.fraction_tableau.proofs.HeapLaws.{IsOrderOn, root_first, asym}
use Rattle.fraction_tableau.proofs.Items.{line_basis, row_moves, rows_differ, order_of, item_read}

no : true ≡ false → ⊥
no h = cc

-- the rows that were passed, the first one at the end of the list
abbrev pub order_in : {F : Type 0} → List (Mover F) → ℕ → ℕ
order_in xs t = row_at xs (length xs - suc t)

module _ {F : Type 0} (value : F → Fraction) (l : Line F) where
  -- a heap up to `end`, and from there the rows that were passed, each of which comes before all in
  -- the heap
  pub record IsPassing (xs : List (Mover F)) (end : ℕ) : Type 0 where
    pub movers : AreMovers value l xs
    pub within : end ≤ length xs
    pub heap : IsHeapFrom (comes_before value l) (row_at xs) end 0
    pub ahead : (i m : ℕ) → i < end → end ≤ m → m < length xs → comes_before value l (row_at xs m) (row_at xs i) ≡ true

  -- what the passed rows have added to the first slope
  abbrev pub slope_after : List (Mover F) → ℕ → ℚ
  slope_after xs end = first_slope value l +ℚ sum_ℚ (length xs - end) (λ t. passing_of value l (order_in xs t))

  pub begun : (xs : List (Mover F)) (n : ℕ) → n ≡ length xs → AreMovers value l xs → IsHeapFrom (comes_before value l) (row_at xs) n 0 → IsPassing xs n
  begun xs n whole h heap = record { movers = h; within = omega (arith, whole); heap = heap; ahead = λ i m li lm more. absurd (omega (arith, lm, more, whole)) }

  pub slope_begun : (xs : List (Mover F)) (n : ℕ) (s : ℚ) → n ≡ length xs → s ≡ first_slope value l → s ≡ slope_after xs n
  slope_begun xs n s whole is =
      is ∙ ring_ℚ (first_slope value l ∷ []) v0 (v0 ⊞ number (pos 0)) refl
      ∙ ap (λ k. first_slope value l +ℚ sum_ℚ k (λ t. passing_of value l (order_in xs t))) none
    where
      none : 0 ≡ length xs - n
      none = omega (arith, whole)

  -- a passed row is a row of the problem that moves
  distinct : (xs : List (Mover F)) (k : ℕ) → k ≤ length xs → AreMovers value l xs → AreDistinct (order_in xs) k (length l.tableau.now.problem.rows)
  distinct xs k short h =
      record {
        within = λ t lt. (row_moves value l xs h (length xs - suc t) (omega (arith, lt, short))).0;
        apart = λ s t less lt. rows_differ value l xs h (length xs - suc s) (length xs - suc t) (omega (arith, less, lt, short)) (omega (arith, lt, short)) (λ e. omega (arith, e, less, lt, short));
      }

  module _ (line : IsLine value l) (xs : List (Mover F)) (end : ℕ) (h : IsPassing xs end) (some : 0 < end) where
    order : IsOrderOn (comes_before value l) (row_at xs) end
    order = order_of value l xs end h.within line h.movers

    -- the first item comes before all others in the heap
    pub root_ahead : (i : ℕ) → i < end → i ≢ 0 → comes_before value l (row_at xs 0) (row_at xs i) ≡ true
    root_ahead i li other =
        by (order.total 0 i some li (rows_differ value l xs h.movers 0 i (omega (arith, some, h.within)) (omega (arith, li, h.within)) (λ e. other (sym e))))
      where
        by : (comes_before value l (row_at xs 0) (row_at xs i) ≡ true) ⊎ (comes_before value l (row_at xs i) (row_at xs 0) ≡ true) → comes_before value l (row_at xs 0) (row_at xs i) ≡ true
        by (inl e) = e
        by (inr e) = absurd (no (sym e ∙ root_first (comes_before value l) (row_at xs) end order h.heap i i (omega arith) li))

    known : (t : ℕ) → t < length xs - end → (is_moving value l (order_in xs t) ≡ true) × (comes_before value l (order_in xs t) (row_at xs 0) ≡ true)
    known t lt = (
      (row_moves value l xs h.movers (length xs - suc t) (omega (arith, lt, some, h.within))).1,
      h.ahead 0 (length xs - suc t) some (omega (arith, lt, h.within)) (omega (arith, lt, some, h.within)),
    )

    all : (i : ℕ) → i < length l.tableau.now.problem.rows → is_moving value l i ≡ true → comes_before value l i (row_at xs 0) ≡ true → is_among (order_in xs) (length xs - end) i ≡ true
    all i li moves before = let found = h.movers.all i li moves in by found.0 found.1 found.2 (cases_lt found.0 end) (found.0 == 0) refl
      where
        by : (q : ℕ) → q < length xs → row_at xs q ≡ i → (q < end) ⊎ (end ≤ q) → (t : Bool) → (q == 0) ≡ t → is_among (order_in xs) (length xs - end) i ≡ true
        by q lq e (inl inside) true d =
            absurd (no (sym before ∙ ap (λ r. comes_before value l r (row_at xs 0)) (sym e ∙ ap (row_at xs) (eqb-true q 0 d)) ∙ order.not_itself (row_at xs 0)))
        by q lq e (inl inside) false d =
            absurd (no (sym (root_ahead q inside (eqb-false q 0 d)) ∙ asym (comes_before value l) (row_at xs) end order (row_at xs q) (row_at xs 0) (ap (λ r. comes_before value l r (row_at xs 0)) e ∙ before)))
        by q lq e (inr past) t d =
            let place : length xs - suc q < length xs - end = omega (arith, lq, past) in
            let back : length xs - suc (length xs - suc q) ≡ q = omega (arith, lq) in
            ap (is_among (order_in xs) (length xs - end)) (sym (ap (row_at xs) back ∙ e)) ∙ among_at (order_in xs) (length xs - end) (length xs - suc q) place

    -- the slope before the first item is what the passed rows have made of the first slope
    pub slope_here : slope_until value l (row_at xs 0) ≡ slope_after xs end
    unfolding slope_until first_slope passing_of is_moving comes_before
    slope_here =
        passed (model value l) (at_of value l) (inverse_of value l) l.position (rational (value l.theta)) l.direction (order_in xs) (length xs - end) (row_at xs 0)
        (distinct xs (length xs - end) (omega arith) h.movers) known all

    pub passed_here : length xs - end ≡ passed_until value l (row_at xs 0)
    unfolding passed_until is_moving comes_before
    passed_here =
        sym (count-same (length l.tableau.now.problem.rows) _ (is_among (order_in xs) (length xs - end))
        (passed_test (model value l) (at_of value l) (inverse_of value l) l.position (rational (value l.theta)) l.direction (order_in xs) (length xs - end) (row_at xs 0) known all)
        ∙ count-among (order_in xs) (length xs - end) (length l.tableau.now.problem.rows) (distinct xs (length xs - end) (omega arith) h.movers))

    -- the row of the first item enters where passing it turns the slope
    pub enters_here : (s next : ℚ) → s ≡ slope_after xs end → ¬ (whole (pos 0) ≤ℚ s) → next ≡ s +ℚ passing_of value l (row_at xs 0) → whole (pos 0) ≤ℚ next → Enters value l (row_at xs 0)
    unfolding Enters slope_until passing_of is_moving
    enters_here s next is negative sum above =
        let own = row_moves value l xs h.movers 0 (omega (arith, some, h.within)) in
        let here : s ≡ slope_until value l (row_at xs 0) = is ∙ sym slope_here in
        record {
          row = own.0;
          mover = own.1;
          still = λ up. negative (subst (λ z. whole (pos 0) ≤ℚ z) (sym here) up);
          turned = subst (λ z. whole (pos 0) ≤ℚ z) (sum ∙ ap (λ z. z +ℚ passing_of value l (row_at xs 0)) here) above;
        }

    module _ (ys : List (Mover F)) (last : ℕ) (size : length ys ≡ length xs) (before : suc last ≡ end) (popped : IsPopped (row_at xs) (row_at ys) last) where
      pub passing_next : AreMovers value l ys → IsHeapFrom (comes_before value l) (row_at ys) last 0 → IsPassing ys last
      passing_next movers heap = record { movers = movers; within = omega (arith, size, before, h.within); heap = heap; ahead = λ i m li lm more. ahead i m li lm more (m == last) refl }
        where
          ahead : (i m : ℕ) → i < last → last ≤ m → m < length ys → (t : Bool) → (m == last) ≡ t → comes_before value l (row_at ys m) (row_at ys i) ≡ true
          ahead i m li lm more true d =
              let from = popped.inside i li in
              ap₂ (comes_before value l) (ap (row_at ys) (eqb-true m last d) ∙ popped.least) from.3 ∙ root_ahead from.0 (omega (arith, from.1, before)) from.2
          ahead i m li lm more false d =
              let from = popped.inside i li in
              let other : m ≢ last = eqb-false m last d in
              ap₂ (comes_before value l) (popped.outside m (omega arith)) from.3 ∙ h.ahead from.0 m (omega (arith, from.1, before)) (omega (arith, before)) (omega (arith, more, size))

      pub slope_next : (s next : ℚ) → s ≡ slope_after xs end → next ≡ s +ℚ passing_of value l (row_at xs 0) → next ≡ slope_after ys last
      slope_next s next is sum =
          sum ∙ ap (λ z. z +ℚ passing_of value l (row_at xs 0)) is
          ∙ ring_ℚ (first_slope value l ∷ sum_ℚ (length xs - end) (λ t. passing_of value l (order_in xs t)) ∷ passing_of value l (row_at xs 0) ∷ []) ((v0 ⊞ v1) ⊞ v2) (v0 ⊞ (v1 ⊞ v2)) refl
          ∙ ap (λ z. first_slope value l +ℚ z)
          (ap₂ (λ y z. y +ℚ z) (sum_ℚ-same (length xs - end) (λ t. passing_of value l (order_in xs t)) (λ t. passing_of value l (order_in ys t)) (λ t lt. ap (passing_of value l) (same t lt))) (ap (passing_of value l) own)
          ∙ ap (λ n. sum_ℚ n (λ t. passing_of value l (order_in ys t))) more)
        where
          more : suc (length xs - end) ≡ length ys - last
          more = omega (arith, size, before, h.within)

          same : (t : ℕ) → t < length xs - end → order_in xs t ≡ order_in ys t
          same t lt =
              sym (popped.outside (length xs - suc t) (omega (arith, lt, before))) ∙ ap (λ n. row_at ys (n - suc t)) (sym size)

          own : row_at xs 0 ≡ order_in ys (length xs - end)
          own = let at : last ≡ length ys - suc (length xs - end) = omega (arith, size, before, h.within) in sym popped.least ∙ ap (row_at ys) at

  -- the rows that move suffice to turn the slope
  pub exhausted : IsDescent value l → (xs : List (Mover F)) (end : ℕ) (s : ℚ) → end ≡ 0 → IsPassing xs end → s ≡ slope_after xs end → whole (pos 0) ≤ℚ s
  unfolding first_slope passing_of is_moving
  exhausted descent xs end s none h is =
      subst (λ z. whole (pos 0) ≤ℚ z) (sym (is ∙ ap (λ z. first_slope value l +ℚ z) (sym total)))
      (enough (model value l) (at_of value l) (inverse_of value l) (rational (value l.theta)) descent.costs l.position l.direction ((line_basis value l descent.line).distinct.within l.position descent.leaving.position))
    where
      same : (i : ℕ) → i < length l.tableau.now.problem.rows → is_moving value l i ≡ is_among (order_in xs) (length xs - end) i
      same i li = by (is_moving value l i) refl (is_among (order_in xs) (length xs - end) i) refl
        where
          by : (m : Bool) → is_moving value l i ≡ m → (g : Bool) → is_among (order_in xs) (length xs - end) i ≡ g → m ≡ g
          by true m true g = refl
          by false m false g = refl
          by false m true g =
              let place : (t : ℕ) × (t < length xs - end) × (order_in xs t ≡ i) = among_place (order_in xs) (length xs - end) i g in
              sym m ∙ ap (is_moving value l) (sym place.2) ∙ (row_moves value l xs h.movers (length xs - suc place.0) (omega (arith, place.1))).1
          by true m false g =
              let found = h.movers.all i li m in
              let there : length xs - suc found.0 < length xs - end = omega (arith, found.1, none) in
              let back : length xs - suc (length xs - suc found.0) ≡ found.0 = omega (arith, found.1) in
              sym (sym (ap (is_among (order_in xs) (length xs - end)) (ap (row_at xs) back ∙ found.2)) ∙ among_at (order_in xs) (length xs - end) (length xs - suc found.0) there) ∙ g

      total : sum_ℚ (length l.tableau.now.problem.rows) (λ i. if is_moving value l i then passing_of value l i else whole (pos 0)) ≡ sum_ℚ (length xs - end) (λ t. passing_of value l (order_in xs t))
      total =
          sum_ℚ-same (length l.tableau.now.problem.rows) (λ i. if is_moving value l i then passing_of value l i else whole (pos 0)) (among (order_in xs) (length xs - end) (passing_of value l))
          (λ i li. ap (λ t. if t then passing_of value l i else whole (pos 0)) (same i li))
          ∙ sum_ℚ-among (order_in xs) (length xs - end) (length l.tableau.now.problem.rows) (passing_of value l) (distinct xs (length xs - end) (omega arith) h.movers)

  -- ---- one row

  pub pass_exact : (m : Mover F) (up down cost next slope : F) → IsMover value l m
      → rational (value up) ≡ up_cost (model value l) (rational (value l.theta)) m.row → rational (value down) ≡ down_cost (model value l) (rational (value l.theta)) m.row
      → rational (value cost) ≡ rational (value up) +ℚ rational (value down) → rational (value next) ≡ rational (value slope) +ℚ (rational (value m.size) *ℚ rational (value cost))
      → rational (value next) ≡ rational (value slope) +ℚ passing_of value l m.row
  unfolding passing_of
  pass_exact m up down cost next slope h u d c n =
      n ∙ ap (λ z. rational (value slope) +ℚ z) (ap₂ (λ y z. y *ℚ z) h.size_is (c ∙ ap₂ (λ y z. y +ℚ z) u d))

  pub up_spill : (range i : ℕ) (s : Spill F) → i < length l.tableau.now.problem.rows → IsUpCostSpill value range (model value l) (rational (value l.theta)) i s → IsDescentSpill value range l s
  unfolding IsDescentSpill
  up_spill range i s li h = of_cost i li (inl h)

  pub down_spill : (range i : ℕ) (s : Spill F) → i < length l.tableau.now.problem.rows → IsDownCostSpill value range (model value l) (rational (value l.theta)) i s → IsDescentSpill value range l s
  unfolding IsDescentSpill
  down_spill range i s li h = of_cost i li (inr h)

  pub sum_spill : (range : ℕ) (m : Mover F) (up down : F) (s : Spill F) → IsDescent value l → IsMover value l m
      → rational (value up) ≡ up_cost (model value l) (rational (value l.theta)) m.row → rational (value down) ≡ down_cost (model value l) (rational (value l.theta)) m.row
      → IsCostSumSpill value range m.row (rational (value up)) (rational (value down)) s → IsDescentSpill value range l s
  unfolding IsDescentSpill is_moving
  sum_spill range m up down s descent h u d k =
      of_search l.position l.direction descent.leaving (of_cost_sum m.row h.row h.moves
      (subst (λ y. IsCostSumSpill value range m.row y (down_cost (model value l) (rational (value l.theta)) m.row) s) u (subst (λ z. IsCostSumSpill value range m.row (rational (value up)) z s) d k)))

  pub pass_spill : (range : ℕ) (m : Mover F) (up down cost slope : F) (n : ℕ) (s : Spill F) → IsDescent value l → IsMover value l m
      → rational (value up) ≡ up_cost (model value l) (rational (value l.theta)) m.row → rational (value down) ≡ down_cost (model value l) (rational (value l.theta)) m.row
      → rational (value cost) ≡ rational (value up) +ℚ rational (value down) → rational (value slope) ≡ slope_until value l m.row → n ≡ passed_until value l m.row
      → IsTermSpill value range (site_of Slope l.position (direction_number l.direction) (n + 1)) (rational (value slope)) (rational (value m.size)) (rational (value cost)) s → IsDescentSpill value range l s
  unfolding IsDescentSpill is_moving slope_until passed_until comes_before
  pass_spill range m up down cost slope n s descent h u d c is counted k =
      let size = abs_ℚ (coord (model value l) (inverse_of value l) m.row l.position) in
      let costs = up_cost (model value l) (rational (value l.theta)) m.row +ℚ down_cost (model value l) (rational (value l.theta)) m.row in
      of_search l.position l.direction descent.leaving (of_passing m.row h.row h.moves
      (subst (λ y. IsTermSpill value range (site_of Slope l.position (direction_number l.direction) (y + 1)) (slope_until value l m.row) size costs s) counted
      (same_term value range (site_of Slope l.position (direction_number l.direction) (n + 1)) s (rational (value slope)) (slope_until value l m.row) (rational (value m.size)) size (rational (value cost)) costs is h.size_is (c
      ∙ ap₂ (λ y z. y +ℚ z) u d) k)))

  -- ---- the first item as it was read

  module _ (line : IsLine value l) (xs : List (Mover F)) (end : ℕ) (h : IsPassing xs end) (some : 0 < end) (m : Mover F) (is : m ≡ get_or xs 0 m) where
    first_read : IsMover value l m × (row_at xs 0 ≡ m.row)
    first_read = item_read value l xs h.movers 0 m (omega (arith, some, h.within)) is

    pub first_mover : IsMover value l m
    first_mover = first_read.0

    pub first_until : (s : ℚ) → s ≡ slope_after xs end → s ≡ slope_until value l m.row
    first_until s e = e ∙ sym (slope_here line xs end h some) ∙ ap (slope_until value l) first_read.1

    pub first_passed : length xs - end ≡ passed_until value l m.row
    first_passed = passed_here line xs end h some ∙ ap (passed_until value l) first_read.1

    pub first_enters : (s next : ℚ) → s ≡ slope_after xs end → ¬ (whole (pos 0) ≤ℚ s) → next ≡ s +ℚ passing_of value l m.row → whole (pos 0) ≤ℚ next → Enters value l m.row
    first_enters s next e negative sum above =
        subst (Enters value l) first_read.1 (enters_here line xs end h some s next e negative (sum ∙ ap (λ r. s +ℚ passing_of value l r) (sym first_read.1)) above)

    pub first_next : (ys : List (Mover F)) (last : ℕ) → length ys ≡ length xs → suc last ≡ end → IsPopped (row_at xs) (row_at ys) last → (s next : ℚ) → s ≡ slope_after xs end → next ≡ s +ℚ passing_of value l m.row
        → next ≡ slope_after ys last
    first_next ys last size before popped s next e sum =
        slope_next line xs end h some ys last size before popped s next e (sum ∙ ap (λ r. s +ℚ passing_of value l r) (sym first_read.1))

  -- no more rows move than there are
  pub few : (xs : List (Mover F)) → IsLine value l → AreMovers value l xs → length xs ≤ 16384
  few xs line h =
      let all = count-among (order_in xs) (length xs) (length l.tableau.now.problem.rows) (distinct xs (length xs) (omega arith) h) in
      let most = count-at_most (length l.tableau.now.problem.rows) (is_among (order_in xs) (length xs)) in
      omega (arith, all, most, line.kept.shaped.rows)

  pub negative_begun : (s : ℚ) → IsDescent value l → s ≡ first_slope value l → ¬ (whole (pos 0) ≤ℚ s)
  unfolding first_slope
  negative_begun s descent e up = descent.leaving.negative (subst (λ z. whole (pos 0) ≤ℚ z) e up)
