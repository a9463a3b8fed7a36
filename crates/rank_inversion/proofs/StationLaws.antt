-- What stands at a basis on a walk, and what is found and handed out there.
use Rattle.std.specs.Prelude.{◌≡◌, ◌≢◌, ◌⊎◌, ◌↔◌, ℕ, ◌<◌, Bool, true, false, List, [], ◌∷◌, length, map, slice_index, Contains, get_or, Some, None, pos}
use Rattle.std.specs.List.Sorted.{IsStrictlyIncreasing}
use Rattle.std.specs.Ordering.{is_gt}
use Rattle.std.proofs.Common.{refl, sym, ap, ap₂, subst, ◌∙◌, inl, inr, arith}
use Rattle.gram_matrix.proofs.Rows.{operation}
use Rattle.loss_model.proofs.Alike.{same_numbers}
use Rattle.rational_laws.specs.Fraction.{Fraction, rational}
use Rattle.rational_laws.specs.Solver.{negated, ◌⊠◌, v0}
use Rattle.rational_laws.specs.Rational.{ℚ, ◌-ℚ◌, ◌*ℚ◌, inverse, whole, ◌≤ℚ◌}
use Rattle.rational_laws.specs.Order.{cmp_ℚ}
use Rattle.rational_laws.proofs.RationalLaws.{ring_ℚ, ≤ℚ_refl}
use Rattle.loss_model.specs.declared.interval.Beyond.TheVariants.{Outside, Ray}
use Rattle.loss_model.specs.declared.interval.Bound.TheVariants.{Finite, Infinite}
use Rattle.loss_model.specs.declared.spill.Spill.{Spill}
use Rattle.loss_model.specs.declared.vertex.Vertex.{Vertex}
use Rattle.loss_model.specs.Sample.{Sample}
use Rattle.loss_model.specs.Problem.{number_at}
use Rattle.loss_model.specs.Spill.{IsOperation, IsTermSpill, AtSome, site_of}
use Rattle.frac_core.specs.declared.exact.OpKind.TheVariants.{Sub, Div}
use Rattle.frac_core.specs.Overflow.{Overflows}
use Rattle.loss_model.specs.declared.spill.Quantity.TheVariants.{Statistic, DualValue, Crossing}
use Rattle.basis_model.specs.Basis.{IsBasis, coefficient, dual_value}
use Rattle.pivot_model.specs.declared.direction.Direction.{Direction}
use Rattle.pivot_model.specs.Duals.{◌<ℚ◌}
use Rattle.pivot_model.specs.Results.{IsVertexAt}
use Rattle.pivot_model.specs.Spills.{direction_number}
use Rattle.walk_model.specs.Families.{IsOptimalIn, dual_in}
use Rattle.walk_model.specs.Walks.{IsFirstMover, IsNextBreak, IsWalkingStep}
use Rattle.walk_model.specs.WalkTrails.{is_within}
use Rattle.walk_model.proofs.Lines.{decide}
use Rattle.tableau_model.specs.declared.breakpoint.Breakpoint.{Breakpoint}
use Rattle.tableau_model.specs.Crossings.{IsCrossingAt, IsFirstOf}
use Rattle.tableau_model.specs.Rows.{HasValueAt}
use Rattle.fraction_tableau.specs.Kept.{place}
use Rattle.fraction_tableau.specs.LeastRatio.{IsFirstMoverOrNone}
use Rattle.fraction_tableau.specs.Lines.{IsOrderSpill}
use Rattle.tableau_model.proofs.Tests.{above_test}
use Rattle.fraction_tableau.proofs.Inverses.{basis_of}
use Rattle.tableau_model.proofs.Lists.{value_read}
use Rattle.fraction_tableau.proofs.NextSteps.{coefficients_by, sides_by}
use Rattle.fraction_tableau.proofs.Places.{kept_is_place}
use Rattle.tableau_model.proofs.Vertices.{vertex_by, coefficients_wide}
use Rattle.rank_walk_model.specs.Crossings.{parameter_of, bound_towards}
use Rattle.rank_walk_model.specs.RankWalks.{Way, rise, fall, tested, ray}
use Rattle.rank_walk_model.specs.Ends.{AreValuesOf}
use Rattle.rank_tableau.specs.declared.finding.Finding.TheVariants.{Step, Past, Stuck}
use Rattle.rank_inversion.specs.declared.station.Station.{Station}
use Rattle.rank_steps.specs.Ways.{way_of}
use Rattle.rank_inversion.specs.Courses.{tau_of, bound_of, parameter_at, family_of, Moves, crossing_at}
use Rattle.rank_inversion.specs.Looks.{IsEndHere}
use Rattle.rank_inversion.specs.Nexts.{IsBreakFrom, IsFound, IsSpillHere, IsValueOfRow, IsWeighed, IsWeighingSpill, IsRaySpill}
use Rattle.rank_inversion.specs.Stations.{IsStation, sample_at, rows_at, entries_at, IsMeetingSpill, of_cost, of_gap, of_quotient}
use Rattle.rank_inversion.specs.Stops.{of_square, of_ray}
use Rattle.rank_steps.proofs.Directions.{one_direction, moving_some}
use Rattle.rank_tableau.proofs.Breaks.{crossed, turned_twice, first_is_next, never_none}
use Rattle.rank_inversion.proofs.EndValues.{values_of}
use Rattle.rank_inversion.proofs.Spills.{cost_here, gap_here, quotient_here, entered_here, break_here, order_here}

-- the square of the parameter is that of what the column weighs
squares : (way : Way) (x : ℚ) → parameter_of way x *ℚ parameter_of way x ≡ x *ℚ x
squares rise x = ring_ℚ (x ∷ []) (negated v0 ⊠ negated v0) (v0 ⊠ v0) refl
squares fall x = refl

-- a test of the order by its result
above_by : (x y : ℚ) (b : Bool) → b ≡ is_gt (cmp_ℚ x y) → b ≡ true → y <ℚ x
above_by x y b e h = (above_test x y).0 (sym e ∙ h)

not_above_by : (x y : ℚ) (b : Bool) → b ≡ is_gt (cmp_ℚ x y) → b ≡ false → x ≤ℚ y
not_above_by x y b e h = by (decide x y)
  where
    by : (x ≤ℚ y) ⊎ ¬ (x ≤ℚ y) → x ≤ℚ y
    by (inl k) = k
    by (inr k) = absurd (cc (sym ((above_test x y).1 k) ∙ (sym e ∙ h)))

-- a breakpoint has a position, and the first row that moves there makes a step
break_within : (way : Way) (p : Sample) (j : ℕ) (tau : ℚ) (at : ℕ → ℕ) (a : ℕ → ℕ → ℚ) (from t : ℚ) (k : ℕ) (d : Direction) → IsNextBreak (tested way p tau j) at a from t k d → k < p.columns
break_within rise p j tau at a from t k d h = h.position
break_within fall p j tau at a from t k d h = h.position

walking_here : (way : Way) (p : Sample) (j : ℕ) (tau : ℚ) (at : ℕ → ℕ) (a : ℕ → ℕ → ℚ) (bound from t : ℚ) (k : ℕ) (d : Direction) (r : ℕ) → IsNextBreak (tested way p tau j) at a from t k d → (t *ℚ t) ≤ℚ bound
    → IsFirstMover p at a k d r → IsWalkingStep (tested way p tau j) at a (is_within bound) from t k r
walking_here rise p j tau at a bound from t k d r next within first = record { direction = d; break = next; within = within.le; entering = first }
walking_here fall p j tau at a bound from t k d r next within first = record { direction = d; break = next; within = within.le; entering = first }

module _ {F : Type 0} (value : F → Fraction) (v : Station F) where
  -- ---- crossings

  pub crossing_none : (k : ℕ) (entry : ℚ) → entry ≡ entries_at value v v.course.column k → entry ≡ whole (pos 0)
      → IsCrossingAt value (Moves value v.course (entries_at value v)) (crossing_at value (sample_at value v) (rows_at value v) (entries_at value v) v.course) k None
  crossing_none k entry is none d moving = moving_some (way_of v.course.way) (entries_at value v v.course.column k) d moving (sym is ∙ none)

  pub crossing_some : (k : ℕ) (d : Direction) (theta : F) → Moves value v.course (entries_at value v) k d
      → rational (value theta) ≡ crossing_at value (sample_at value v) (rows_at value v) (entries_at value v) v.course k d
      → IsCrossingAt value (Moves value v.course (entries_at value v)) (crossing_at value (sample_at value v) (rows_at value v) (entries_at value v) v.course) k (Some (record { theta = theta; position = k; direction = d }))
  crossing_some k d theta moving is = (
    refl,
    moving,
    is,
    λ e other.
        subst (λ e. rational (value theta) ≤ℚ crossing_at value (sample_at value v) (rows_at value v) (entries_at value v) v.course k e)
        (one_direction (way_of v.course.way) (entries_at value v v.course.column k) d e moving other)
        (subst (λ z. rational (value theta) ≤ℚ z) is (≤ℚ_refl (rational (value theta)))),
  )

  module _ (here : IsStation value v) where
    basis_there : IsBasis (sample_at value v) (rows_at value v) (entries_at value v)
    basis_there = basis_of value v.tableau.now.problem v.tableau.now.rows v.tableau.now.square here.kept.inverse

    -- the row at a position is one of the problem
    pub row_within : (k : ℕ) → k < v.tableau.now.problem.columns → rows_at value v k < length v.tableau.now.problem.rows
    row_within k lk = basis_there.distinct.within k lk

    -- the dual value at a position, as it is read
    pub dual_read : (k : ℕ) (x : F) → k < v.tableau.now.problem.columns → x ≡ get_or v.duals k x
        → rational (value x) ≡ dual_value (sample_at value v) (rows_at value v) (entries_at value v) (tau_of value v.course) k
    dual_read k x lk e =
        let size : length v.duals ≡ v.tableau.now.problem.columns = here.duals.size in
        let inside : k < length v.duals = omega (arith, lk, size) in
        sym (value_read value v.duals k x inside e) ∙ here.duals.each k lk

    -- the coefficient of the tested column
    pub coef_read : (x : F) → x ≡ get_or v.solution.coef v.course.column x → rational (value x) ≡ coefficient (sample_at value v) (rows_at value v) (entries_at value v) v.course.column
    coef_read x e =
        let size : length v.solution.coef ≡ v.tableau.now.problem.columns = here.solution.columns in
        let lj : v.course.column < v.tableau.now.problem.columns = here.column in
        let inside : v.course.column < length v.solution.coef = omega (arith, lj, size) in
        sym (value_read value v.solution.coef v.course.column x inside e) ∙ here.solution.coef v.course.column lj

    -- where a dual value meets its bound
    module _ (k : ℕ) (d : Direction) (bound dual entry : F)
        (bound_is : rational (value bound) ≡ bound_towards (sample_at value v) (tau_of value v.course) (rows_at value v k) d)
        (dual_is : rational (value dual) ≡ dual_value (sample_at value v) (rows_at value v) (entries_at value v) (tau_of value v.course) k)
        (entry_is : rational (value entry) ≡ entries_at value v v.course.column k) where
      gap_is : (gap : F) → rational (value gap) ≡ rational (value bound) -ℚ rational (value dual)
          → rational (value gap) ≡ bound_towards (sample_at value v) (tau_of value v.course) (rows_at value v k) d -ℚ dual_value (sample_at value v) (rows_at value v) (entries_at value v) (tau_of value v.course) k
      gap_is gap e = e ∙ ap₂ (λ x y. x -ℚ y) bound_is dual_is

      pub meeting_is : (gap weight turned : F) → rational (value gap) ≡ rational (value bound) -ℚ rational (value dual) → rational (value weight) ≡ rational (value gap) *ℚ inverse (rational (value entry))
          → rational (value turned) ≡ parameter_of (way_of v.course.way) (rational (value weight))
          → rational (value turned) ≡ crossing_at value (sample_at value v) (rows_at value v) (entries_at value v) v.course k d
      meeting_is gap weight turned e f h = h ∙ ap (parameter_of (way_of v.course.way)) (f ∙ ap₂ (λ x y. x *ℚ inverse y) (gap_is gap e) entry_is)

      pub gap_spill : (range : ℕ) (s : Spill F) → s ≡ record { site = record (site_of Crossing k (direction_number d) 1) { kind = Sub }; left = bound; right = dual }
          → Overflows range Sub (value bound) (value dual) → IsMeetingSpill value range v k s
      gap_spill range s operands over =
          of_gap d (operation value range (site_of Crossing k (direction_number d) 1) Sub bound dual _ _ s operands over bound_is dual_is)

      pub quotient_spill : (gap : F) → rational (value gap) ≡ rational (value bound) -ℚ rational (value dual) → Moves value v.course (entries_at value v) k d → (range : ℕ) (s : Spill F)
          → s ≡ record { site = record (site_of Crossing k (direction_number d) 3) { kind = Div }; left = gap; right = entry }
          → Overflows range Div (value gap) (value entry) → IsMeetingSpill value range v k s
      quotient_spill gap e moving range s operands over =
          of_quotient d moving (operation value range (site_of Crossing k (direction_number d) 3) Div gap entry _ _ s operands over (gap_is gap e) entry_is)

    module _ (from : F) where
      pub next_is : IsOptimalIn (family_of value (sample_at value v) v.course) (rows_at value v) (entries_at value v) (parameter_at value v.course from)
          → (b : Breakpoint F) → IsFirstOf value (Moves value v.course (entries_at value v)) (crossing_at value (sample_at value v) (rows_at value v) (entries_at value v) v.course) v.tableau.now.problem.columns (Some b)
          → IsBreakFrom value v from b
      next_is optimal b first =
          first_is_next value (sample_at value v) v.course.column (tau_of value v.course) (rows_at value v) (entries_at value v) here.column (way_of v.course.way) (parameter_at value v.course from) optimal b first

      pub never : IsOptimalIn (family_of value (sample_at value v) v.course) (rows_at value v) (entries_at value v) (parameter_at value v.course from)
          → ¬ IsFirstOf value (Moves value v.course (entries_at value v)) (crossing_at value (sample_at value v) (rows_at value v) (entries_at value v) v.course) v.tableau.now.problem.columns None
      never optimal =
          never_none value (sample_at value v) v.course.column (tau_of value v.course) (rows_at value v) (entries_at value v) here.column (way_of v.course.way) (parameter_at value v.course from) basis_there optimal

      -- where a breakpoint is, its position moves in its direction
      pub break_moves : (b : Breakpoint F) → IsBreakFrom value v from b → Moves value v.course (entries_at value v) b.position b.direction
      break_moves b next =
          (crossed (way_of v.course.way) (sample_at value v) v.course.column (tau_of value v.course) (rows_at value v) (entries_at value v) here.column (rational (value b.theta)) b.position b.direction next.crosses).0

      pub break_some : (b : Breakpoint F) → IsBreakFrom value v from b → entries_at value v v.course.column b.position ≢ whole (pos 0)
      break_some b next = moving_some (way_of v.course.way) (entries_at value v v.course.column b.position) b.direction (break_moves b next)

      -- ---- what overflows

      pub meeting_spill : (range k : ℕ) (s : Spill F) → k < v.tableau.now.problem.columns → IsMeetingSpill value range v k s → IsSpillHere value range v from s
      meeting_spill range k s lk (of_cost h) =
          cost_here value range (sample_at value v) v.course.column (tau_of value v.course) (bound_of value v.course) (rows_at value v) (entries_at value v) (parameter_at value v.course from) s (way_of v.course.way) (rows_at value v k)
          (row_within k lk) h
      meeting_spill range k s lk (of_gap d h) =
          gap_here value range (sample_at value v) v.course.column (tau_of value v.course) (bound_of value v.course) (rows_at value v) (entries_at value v) (parameter_at value v.course from) s (way_of v.course.way) k d lk h
      meeting_spill range k s lk (of_quotient d moving h) =
          quotient_here value range (sample_at value v) v.course.column (tau_of value v.course) (bound_of value v.course) (rows_at value v) (entries_at value v) (parameter_at value v.course from) s
          (way_of v.course.way) k d here.column lk moving h

      pub crossings_spill : (range : ℕ) (s : Spill F) → AtSome v.tableau.now.problem.columns (λ j. IsMeetingSpill value range v j s) → IsSpillHere value range v from s
      crossings_spill range s (k, lk, h) = meeting_spill range k s lk h

      -- ---- what is found

      module _ (b : Breakpoint F) (next : IsBreakFrom value v from b) (weight square : F) (turned : rational (value weight) ≡ parameter_of (way_of v.course.way) (rational (value b.theta))) where
        same_square : rational (value weight) *ℚ rational (value weight) ≡ rational (value b.theta) *ℚ rational (value b.theta)
        same_square = ap (λ z. z *ℚ z) turned ∙ squares (way_of v.course.way) (rational (value b.theta))

        same_theta : rational (value b.theta) ≡ parameter_at value v.course weight
        same_theta = sym (turned_twice (way_of v.course.way) (rational (value b.theta))) ∙ ap (parameter_of (way_of v.course.way)) (sym turned)

        pub square_spill : (range : ℕ) (s : Spill F) → IsOperation value range (site_of Statistic 0 0 1) (rational (value weight)) (rational (value weight)) s → IsSpillHere value range v from s
        square_spill range s h =
            of_square (rational (value b.theta)) b.position b.direction next
            (subst (λ z. IsOperation value range (site_of Statistic 0 0 1) z z s) turned h)

        module _ (squared : rational (value square) ≡ rational (value weight) *ℚ rational (value weight)) (test : Bool) (tested_by : test ≡ is_gt (cmp_ℚ (rational (value square)) (bound_of value v.course))) where
          pub past_here : test ≡ true → IsFound value v from (Past b)
          past_here h =
              (next, subst (λ z. bound_of value v.course <ℚ z) (squared ∙ same_square) (above_by (rational (value square)) (bound_of value v.course) test tested_by h))

          within_here : test ≡ false → (rational (value b.theta) *ℚ rational (value b.theta)) ≤ℚ bound_of value v.course
          within_here h =
              subst (λ z. z ≤ℚ bound_of value v.course) (squared ∙ same_square) (not_above_by (rational (value square)) (bound_of value v.course) test tested_by h)

          pub stuck_here : test ≡ false → IsFirstMoverOrNone (sample_at value v) (rows_at value v) (entries_at value v) b.position b.direction None → IsFound value v from (Stuck b)
          stuck_here h none = (next, within_here h, none)

          pub step_here : test ≡ false → (r : ℕ) → IsFirstMoverOrNone (sample_at value v) (rows_at value v) (entries_at value v) b.position b.direction (Some r)
              → IsFound value v from (Step (record { theta = weight; position = b.position; row = r }))
          step_here h r first =
              subst (λ t. IsWalkingStep (family_of value (sample_at value v) v.course) (rows_at value v) (entries_at value v) (is_within (bound_of value v.course)) (parameter_at value v.course from) t b.position r) same_theta
              (walking_here (way_of v.course.way) (sample_at value v) v.course.column (tau_of value v.course) (rows_at value v) (entries_at value v) (bound_of value v.course) (parameter_at value v.course from)
              (rational (value b.theta)) b.position b.direction r next (within_here h) first)

          pub order_spill : test ≡ false → (range : ℕ) (s : Spill F) → IsOrderSpill value range (sample_at value v) (rows_at value v) (entries_at value v) b.position b.direction s → IsSpillHere value range v from s
          order_spill h range s k =
              order_here value range (sample_at value v) v.course.column (tau_of value v.course) (bound_of value v.course) (rows_at value v) (entries_at value v) (parameter_at value v.course from) s (way_of v.course.way)
              (rational (value b.theta)) b.position b.direction next (within_here h).le (break_within (way_of v.course.way) (sample_at value v) v.course.column (tau_of value v.course) (rows_at value v) (entries_at value v)
              (parameter_at value v.course from) (rational (value b.theta)) b.position b.direction next) k

        -- ---- what is handed out

        pub break_spill : (range : ℕ) (s : Spill F) → AtSome v.tableau.now.problem.columns (λ j. IsWeighingSpill value range v weight j s) → IsSpillHere value range v from s
        break_spill range s (k, lk, h) =
            break_here value range (sample_at value v) v.course.column (tau_of value v.course) (bound_of value v.course) (rows_at value v) (entries_at value v) (parameter_at value v.course from) s (way_of v.course.way)
            (rational (value b.theta)) b.position b.direction next k lk
            (subst (λ z. IsTermSpill value range (site_of DualValue k 1 1) (dual_value (sample_at value v) (rows_at value v) (entries_at value v) (tau_of value v.course) k) (entries_at value v v.course.column k) z s) turned h)

        -- the values where the column weighs so much
        pub values_there : (vertex : Vertex) (list : List Fraction) → length list ≡ length vertex.basis.rows
            → ((k : ℕ) → k < length vertex.basis.rows → IsValueOfRow value v weight (slice_index vertex.basis.rows k) (number_at list k))
            → AreValuesOf vertex (dual_in (family_of value (sample_at value v) v.course) (rows_at value v) (entries_at value v) (rational (value b.theta))) list
        values_there vertex list size each =
            values_of value v basis_there here.column (rational (value b.theta)) weight turned vertex list size each

      pub entered_spill : (range : ℕ) (s : Spill F) → AtSome v.tableau.now.problem.columns (λ j. IsWeighingSpill value range v from j s) → IsSpillHere value range v from s
      entered_spill range s (k, lk, h) =
          entered_here value range (sample_at value v) v.course.column (tau_of value v.course) (bound_of value v.course) (rows_at value v) (entries_at value v) (parameter_at value v.course from) s (way_of v.course.way)
          (rational (value from)) refl k lk h

      pub values_entered : (vertex : Vertex) (list : List Fraction) → length list ≡ length vertex.basis.rows
          → ((k : ℕ) → k < length vertex.basis.rows → IsValueOfRow value v from (slice_index vertex.basis.rows k) (number_at list k))
          → AreValuesOf vertex (dual_in (family_of value (sample_at value v) v.course) (rows_at value v) (entries_at value v) (parameter_at value v.course from)) list
      values_entered vertex list size each =
          values_of value v basis_there here.column (parameter_at value v.course from) from (sym (turned_twice (way_of v.course.way) (rational (value from)))) vertex list size each

      module _ (b : Breakpoint F) where
        pub ray_spill : IsFound value v from (Stuck b) → (range : ℕ) (s : Spill F) → AtSome v.tableau.now.problem.columns (λ m. IsRaySpill value range v b.position m s) → IsSpillHere value range v from s
        ray_spill found range s (m, lm, h) =
            of_ray (rational (value b.theta)) b.position b.direction m found.0 found.1 found.2 lm h

        -- the end where the next breakpoint is past the bound
        pub finite_end_is : IsFound value v from (Past b) → (vertex : Vertex) → IsVertexAt value v.tableau.now.problem v.tableau.now.rows (entries_at value v) vertex
            → (end : Fraction) (inside outside : List Fraction) → rational end ≡ coefficient (sample_at value v) (rows_at value v) (entries_at value v) v.course.column
            → AreValuesOf vertex (dual_in (family_of value (sample_at value v) v.course) (rows_at value v) (entries_at value v) (parameter_at value v.course from)) inside
            → AreValuesOf vertex (dual_in (family_of value (sample_at value v) v.course) (rows_at value v) (entries_at value v) (rational (value b.theta))) outside
            → IsEndHere value v from (record { bound = Finite end; vertex = vertex; inside = inside; beyond = Outside outside })
        finite_end_is found vertex is end inside outside coef entered left =
            record {
              size = here.kept.inverse.size;
              vertex = is;
              u = rational (value b.theta);
              k = b.position;
              d = b.direction;
              break = found.0;
              handed = (coef, entered, left, found.1);
            }

        -- where it is within, and no row moves
        pub endless_is : IsFound value v from (Stuck b) → (vertex : Vertex) → IsVertexAt value v.tableau.now.problem v.tableau.now.rows (entries_at value v) vertex
            → (inside direction : List Fraction)
            → AreValuesOf vertex (dual_in (family_of value (sample_at value v) v.course) (rows_at value v) (entries_at value v) (rational (value b.theta))) inside
            → length direction ≡ v.tableau.now.problem.columns
            → ((m : ℕ) → m < v.tableau.now.problem.columns → number_at direction m ≡ ray (way_of v.course.way) (entries_at value v) v.course.column b.position m)
            → IsEndHere value v from (record { bound = Infinite; vertex = vertex; inside = inside; beyond = Ray direction })
        endless_is found vertex is inside direction left size each =
            record {
              size = here.kept.inverse.size;
              vertex = is;
              u = rational (value b.theta);
              k = b.position;
              d = b.direction;
              break = found.0;
              handed = (left, each, found.1, found.2, size);
            }

    -- ---- the vertex

    pub vertex_is : (sorted : List ℕ) → IsStrictlyIncreasing sorted → length sorted ≡ length v.tableau.now.rows → ((i : ℕ) → Contains sorted i ↔ Contains v.tableau.now.rows i)
        → IsVertexAt value v.tableau.now.problem v.tableau.now.rows (entries_at value v) (record { basis = record { rows = sorted }; sides = v.solution.sides; coef = map value v.solution.coef })
    vertex_is sorted increasing size same =
        let h = place value v.tableau.now in
        vertex_by value h (kept_is_place value v.tableau.now here.kept) (map value v.solution.coef) v.solution.sides
        (coefficients_wide value h v.solution.coef (coefficients_by value h v.solution here.solution)) (sides_by value h v.solution here.solution) sorted increasing size same

    -- the values by row, of any size, as they are picked from those by position
    pub value_of_row : (weight : F) (values : List F) → IsWeighed value v weight values → (sorted : List ℕ) (ordered : List F) (basic : List Fraction) → basic ≡ map value ordered → (k : ℕ)
        → HasValueAt value v.tableau.now.rows values sorted ordered k → IsValueOfRow value v weight (slice_index sorted k) (number_at basic k)
    value_of_row weight values weighed sorted ordered basic wide k h =
        let within : h.position < v.tableau.now.problem.columns = let size : length v.tableau.now.rows ≡ v.tableau.now.problem.columns = here.kept.inverse.size in let inside : h.position < length v.tableau.now.rows = h.within in
        omega (arith, size, inside) in
        record {
          position = h.position;
          within = within;
          holds = h.holds;
          same = ap (λ l. number_at l k) wide ∙ same_numbers value ordered k ∙ h.same ∙ weighed.each h.position within;
        }
