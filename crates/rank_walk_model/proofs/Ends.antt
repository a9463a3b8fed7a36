-- The ends that the walks hand out.
use Rattle.std.specs.Prelude.{◌≡◌, ◌≢◌, ℕ, ◌<◌, List, length, slice_get, slice_index, Some, [], pos}
use Rattle.std.proofs.Common.{refl, sym, ap, subst, ◌∙◌, inl, inr}
use Rattle.std.proofs.lemmas.Option.{slice_get_within}
use Rattle.rational_laws.specs.Fraction.{Fraction}
use Rattle.rational_laws.specs.Solver.{number, negated, ◌⊠◌}
use Rattle.rational_laws.specs.Rational.{ℚ, ◌-ℚ◌, ◌*ℚ◌, neg_ℚ, whole, ◌≤ℚ◌}
use Rattle.rational_laws.proofs.RationalLaws.{ring_ℚ, ≤ℚ_trans, ≤ℚ_antisym}
use Rattle.rational_laws.proofs.RationalSumLaws.{sum_ℚ-same}
use Rattle.rational_laws.proofs.OrderLaws.{by_sign, ≤ℚ_neg}
use Rattle.rational_laws.proofs.Signs.{neg-neg}
use Rattle.rational_laws.specs.Terms.{delta}
use Rattle.loss_model.specs.declared.problem.Problem.{Problem}
use Rattle.loss_model.specs.declared.vertex.Side.{Side}
use Rattle.loss_model.specs.declared.vertex.Vertex.{Vertex}
use Rattle.loss_model.specs.Sample.{Sample, up_cost, down_cost, fitted, residual}
use Rattle.loss_model.specs.Problem.{number_at, sample}
use Rattle.loss_model.specs.Vertex.{dual_value, IsOn}
use Rattle.basis_model.specs.Perturbed.{held_coordinate}
use Rattle.basis_model.specs.Basis.{IsBasis, coefficient, side_at}
use Rattle.pivot_model.specs.Results.{IsVertexAt}
use Rattle.pivot_model.proofs.Sides.{on_side}
use Rattle.walk_model.specs.Families.{Family, by_weight, basic_at, dual_in}
use Rattle.walk_model.specs.Walks.{IsNextBreak}
use Rattle.pivot_model.proofs.Solved.{value_by_side}
use Rattle.loss_model.specs.declared.interval.Bound.{Bound}
use Rattle.loss_model.specs.declared.interval.Bound.TheVariants.{Finite, Infinite}
use Rattle.loss_model.specs.declared.interval.Beyond.{Beyond}
use Rattle.loss_model.specs.declared.interval.Beyond.TheVariants.{Outside, Ray}
use Rattle.loss_model.specs.Strict.{◌<ℚ◌}
use Rattle.loss_model.specs.Complements.{IsComplementary, residual_change}
use Rattle.rank_model.specs.Restricted.{IsFeasibleWithout, rank_statistic, squared_length, rank_bound}
use Rattle.rank_model.specs.Bounds.{IsInside, IsBeyond}
use Rattle.rank_model.specs.Shown.{IsRowAlong, IsStatedRay}
use Rattle.rank_model.specs.Certified.{bound_of, MeetsInside, MeetsOutside, MeetsHighBound, MeetsLowBound}
use Rattle.rank_model.proofs.Values.{square_not_negative}
use Rattle.rank_walk_model.specs.RankWalks.{Way, rise, fall, tested, ray, StandsAt, IsEnd}
use Rattle.rank_walk_model.specs.Ends.{AreValuesOf, IsHandedOut, MeetsOn, EndIsRight, EndMeetsConditions}
use Rattle.rank_walk_model.proofs.Walks.{inside, ends_here, never_ends}

-- ---- values that are the same in all rows

feasible_same : (p : Sample) (j : ℕ) (tau : ℚ) (e f : ℕ → ℚ) → ((i : ℕ) → i < p.rows → f i ≡ e i) → IsFeasibleWithout p j tau e → IsFeasibleWithout p j tau f
feasible_same p j tau e f same h =
    record {
      lower = λ i l. subst (λ z. neg_ℚ (down_cost p tau i) ≤ℚ z) (sym (same i l)) (h.lower i l);
      upper = λ i l. subst (λ z. z ≤ℚ up_cost p tau i) (sym (same i l)) (h.upper i l);
      balanced = λ k l other. sum_ℚ-same p.rows (λ i. f i *ℚ p.x i k) (λ i. e i *ℚ p.x i k) (λ i m. ap (λ z. z *ℚ p.x i k) (same i m)) ∙ h.balanced k l other;
    }

statistic_same : (p : Sample) (j : ℕ) (e f : ℕ → ℚ) → ((i : ℕ) → i < p.rows → f i ≡ e i) → rank_statistic p j f ≡ rank_statistic p j e
statistic_same p j e f same = sum_ℚ-same p.rows (λ i. f i *ℚ p.x i j) (λ i. e i *ℚ p.x i j) (λ i m. ap (λ z. z *ℚ p.x i j) (same i m))

-- values that agree with the residuals' change along d, row by row
ray_of : (p : Sample) (tau : ℚ) (d r e f : ℕ → ℚ) → ((m : ℕ) → m < p.columns → r m ≡ d m) → ((i : ℕ) → i < p.rows → f i ≡ e i) → IsComplementary p tau (residual_change p d) e → IsStatedRay p tau r f
ray_of p tau d r e f same values h i li = by_sign (fitted p r i) (λ s. IsRowAlong p tau r f i) (λ falls. inr (inl (falls, values i li ∙ h.above i li (λ not. falls (back not))))) (λ flat. inl flat)
    (λ climbs. inr (inr (climbs, values i li ∙ h.below i li (λ not. climbs (forth not)))))
  where
    fit : fitted p r i ≡ fitted p d i
    fit = sum_ℚ-same p.columns (λ m. p.x i m *ℚ r m) (λ m. p.x i m *ℚ d m) (λ m l. ap (λ z. p.x i m *ℚ z) (same m l))

    none : neg_ℚ (whole (pos 0)) ≡ whole (pos 0)
    none = ring_ℚ [] (negated (number (pos 0))) (number (pos 0)) refl

    back : neg_ℚ (fitted p d i) ≤ℚ whole (pos 0) → whole (pos 0) ≤ℚ fitted p r i
    back h = subst (λ z. whole (pos 0) ≤ℚ z) (neg-neg (fitted p d i) ∙ sym fit) (subst (λ z. z ≤ℚ neg_ℚ (neg_ℚ (fitted p d i))) none (≤ℚ_neg (neg_ℚ (fitted p d i)) (whole (pos 0)) h))

    forth : whole (pos 0) ≤ℚ neg_ℚ (fitted p d i) → fitted p r i ≤ℚ whole (pos 0)
    forth h = subst (λ z. z ≤ℚ whole (pos 0)) (neg-neg (fitted p d i) ∙ sym fit) (subst (λ z. neg_ℚ (neg_ℚ (fitted p d i)) ≤ℚ z) none (≤ℚ_neg (whole (pos 0)) (neg_ℚ (fitted p d i)) h))

-- ---- the vertex of a basis

module _ {F : Type 0} (value : F → Fraction) (p : Problem F) (tau : ℚ) (right : ℕ → ℚ) (basis : List ℕ) (a : ℕ → ℕ → ℚ) (v : Vertex) (size : length basis ≡ p.columns)
    (b : IsBasis (sample value p) (slice_index basis) a) (vertex : IsVertexAt value p basis a v) where
  abbrev q : Sample
  q = sample value p

  abbrev f : Family
  f = record { sample = q; parameter = by_weight tau; right = right }

  -- the values of a list by rows are those of the walk
  values_are : (s : ℚ) (list : List Fraction) → AreValuesOf v (dual_in f (slice_index basis) a s) list → (i : ℕ) → i < length p.rows → dual_value value p v list tau i ≡ dual_in f (slice_index basis) a s i
  values_are s list are = value_by_side value p tau basis a v list size vertex (held_coordinate p.columns (slice_index basis) (basic_at f (slice_index basis) a s)) are.each

  -- residuals lie on the sides of the vertex
  on : (i : ℕ) (side : Side) → slice_get v.sides i ≡ Some side → IsOn side (residual q (number_at v.coef) i)
  on i side h =
      let li : i < length p.rows = subst (λ n. i < n) vertex.shape.sides (slice_get_within v.sides i side h) in
      let same : Some (side_at q (slice_index basis) a i) ≡ Some side = sym (vertex.sides i li) ∙ h in
      let own : side_at q (slice_index basis) a i ≡ side = cc in
      subst (λ s. IsOn s (residual q (number_at v.coef) i)) own
      (subst (λ r. IsOn (side_at q (slice_index basis) a i) r) (sym (same_residual i)) (on_side q (slice_index basis) a b i))
    where
      same_residual : (i : ℕ) → residual q (number_at v.coef) i ≡ residual q (coefficient q (slice_index basis) a) i
      same_residual i = ap (λ z. q.y i -ℚ z) (sum_ℚ-same p.columns (λ k. q.x i k *ℚ number_at v.coef k) (λ k. q.x i k *ℚ coefficient q (slice_index basis) a k) (λ k l. ap (λ z. q.x i k *ℚ z) (vertex.coef k l)))

  module _ (j : ℕ) (crit bound_q : ℚ) (s : ℚ) (list : List Fraction) (are : AreValuesOf v (dual_in f (slice_index basis) a s) list) where
    pub meets_inside : IsInside q j tau crit bound_q (coefficient q (slice_index basis) a j) (dual_in f (slice_index basis) a s) → MeetsInside value p j tau crit bound_q v list
    meets_inside h =
        record {
          sides = vertex.shape.sides;
          on = on;
          feasible = feasible_same q j tau (dual_in f (slice_index basis) a s) (dual_value value p v list tau) (values_are s list are) h.optimal.feasible;
          within = subst (λ z. (z *ℚ z) ≤ℚ rank_bound tau crit bound_q) (sym (statistic_same q j (dual_in f (slice_index basis) a s) (dual_value value p v list tau) (values_are s list are))) h.within;
        }

    pub meets_outside : IsBeyond q j tau crit bound_q (coefficient q (slice_index basis) a j) (dual_in f (slice_index basis) a s) → MeetsOutside value p j tau crit bound_q v list
    meets_outside h =
        record {
          feasible = feasible_same q j tau (dual_in f (slice_index basis) a s) (dual_value value p v list tau) (values_are s list are) h.optimal.feasible;
          beyond = subst (λ z. rank_bound tau crit bound_q <ℚ (z *ℚ z)) (sym (statistic_same q j (dual_in f (slice_index basis) a s) (dual_value value p v list tau) (values_are s list are))) h.beyond;
        }

    pub statistic_is_same : rank_statistic q j (dual_value value p v list tau) ≡ rank_statistic q j (dual_in f (slice_index basis) a s)
    statistic_is_same = statistic_same q j (dual_in f (slice_index basis) a s) (dual_value value p v list tau) (values_are s list are)

    pub meets_ray : (d r : ℕ → ℚ) → ((m : ℕ) → m < p.columns → r m ≡ d m) → IsComplementary q tau (residual_change q d) (dual_in f (slice_index basis) a s) → IsStatedRay q tau r (dual_value value p v list tau)
    meets_ray d r same h = ray_of q tau d r (dual_in f (slice_index basis) a s) (dual_value value p v list tau) same (values_are s list are) h

-- ---- the laws

-- a statistic whose square is beyond a bound isn't 0
not_zero : (x bound : ℚ) → whole (pos 0) ≤ℚ bound → bound <ℚ (x *ℚ x) → x ≢ whole (pos 0)
not_zero x bound h out none =
    out (subst (λ z. z ≤ℚ bound) (ring_ℚ [] (number (pos 0)) (number (pos 0) ⊠ number (pos 0)) refl ∙ ap (λ z. z *ℚ z) (sym none)) h)

pub right_end : {F : Type 0} (value : F → Fraction) (p : Problem F) → EndIsRight value p
right_end {F} value p way j tau crit c start basis a t end test stands h = by way end.bound end.beyond h.break stands h.handed
  where
    by : (way : Way) (bound : Bound Fraction) (beyond : Beyond) → IsNextBreak (tested way (sample value p) tau j) (slice_index basis) a t h.u h.k h.d
        → StandsAt way (sample value p) j tau crit c start (slice_index basis) a t
        → IsHandedOut value p way j tau (rank_bound tau crit (squared_length (sample value p) j c)) (slice_index basis) a t h.u h.k h.d end.vertex end.inside bound beyond
        → IsEnd way (sample value p) j tau crit (squared_length (sample value p) j c) start (bound_of bound)
    by way (Finite x) (Outside f) break stands handed =
        subst (λ z. IsEnd way (sample value p) j tau crit (squared_length (sample value p) j c) start (Finite z)) (sym handed.0)
        (ends_here way (sample value p) j tau crit c start (slice_index basis) a t h.u h.k h.d test stands break handed.3).2
    by way Infinite (Ray r) break stands handed =
        (never_ends way (sample value p) j tau crit c start (slice_index basis) a t h.u h.k h.d test stands break handed.2 handed.3).3
    by way (Finite x) (Ray r) break stands handed = absurd handed
    by way Infinite (Outside f) break stands handed = absurd handed

pub meets : {F : Type 0} (value : F → Fraction) (p : Problem F) → EndMeetsConditions value p
meets {F} value p way j tau crit c start basis a t end test stands h = record_of way h.vertex h.break stands h.handed
  where
    q : ℚ
    q = squared_length (sample value p) j c

    bound_not_negative : (t *ℚ t) ≤ℚ rank_bound tau crit q → whole (pos 0) ≤ℚ rank_bound tau crit q
    bound_not_negative small = ≤ℚ_trans (whole (pos 0)) (t *ℚ t) (rank_bound tau crit q) (square_not_negative t) small

    below : (x : ℚ) → x ≤ℚ whole (pos 0) → x ≢ whole (pos 0) → x <ℚ whole (pos 0)
    below x l other k = other (≤ℚ_antisym x (whole (pos 0)) l k)

    above : (x : ℚ) → whole (pos 0) ≤ℚ x → x ≢ whole (pos 0) → whole (pos 0) <ℚ x
    above x l other k = other (≤ℚ_antisym x (whole (pos 0)) k l)

    record_of : (way : Way) → IsVertexAt value p basis a end.vertex → IsNextBreak (tested way (sample value p) tau j) (slice_index basis) a t h.u h.k h.d
        → StandsAt way (sample value p) j tau crit c start (slice_index basis) a t
        → IsHandedOut value p way j tau (rank_bound tau crit q) (slice_index basis) a t h.u h.k h.d end.vertex end.inside end.bound end.beyond
        → MeetsOn way value p j tau crit q end
    record_of rise vertex break stands handed = record { inside = (by end.bound end.beyond handed).0; bound = (by end.bound end.beyond handed).1 }
      where
        right : ℕ → ℚ
        right k = neg_ℚ (delta j k)

        by : (bound : Bound Fraction) (beyond : Beyond) → IsHandedOut value p rise j tau (rank_bound tau crit q) (slice_index basis) a t h.u h.k h.d end.vertex end.inside bound beyond
            → MeetsInside value p j tau crit q end.vertex end.inside × MeetsHighBound value p j tau crit q end.vertex end.inside bound beyond
        by (Finite x) (Outside f) handed =
            let ends = ends_here rise (sample value p) j tau crit c start (slice_index basis) a t h.u h.k h.d test stands break handed.3 in
            let same = statistic_is_same value p tau right basis a end.vertex h.size stands.basis vertex j crit q h.u f handed.2 in (
              meets_inside value p tau right basis a end.vertex h.size stands.basis vertex j crit q t end.inside handed.1 (inside rise (sample value p) j tau crit c start (slice_index basis) a t test stands),
              (
                handed.0 ∙ sym (vertex.coef j test.column),
                meets_outside value p tau right basis a end.vertex h.size stands.basis vertex j crit q h.u f handed.2 ends.0,
                subst (λ z. z <ℚ whole (pos 0)) (sym same) (below _ ends.1 (not_zero _ (rank_bound tau crit q) (bound_not_negative stands.within) ends.0.beyond)),
              ),
            )
        by Infinite (Ray r) handed =
            let ends = never_ends rise (sample value p) j tau crit c start (slice_index basis) a t h.u h.k h.d test stands break handed.2 handed.3 in (
              meets_inside value p tau right basis a end.vertex h.size stands.basis vertex j crit q h.u end.inside handed.0 ends.0,
              (
                handed.1 j test.column ∙ ends.2,
                meets_ray value p tau right basis a end.vertex h.size stands.basis vertex j crit q h.u end.inside handed.0 (ray rise a j h.k) (number_at r) handed.1 ends.1,
              ),
            )
        by (Finite x) (Ray r) handed = absurd handed
        by Infinite (Outside f) handed = absurd handed
    record_of fall vertex break stands handed = record { inside = (by end.bound end.beyond handed).0; bound = (by end.bound end.beyond handed).1 }
      where
        by : (bound : Bound Fraction) (beyond : Beyond) → IsHandedOut value p fall j tau (rank_bound tau crit q) (slice_index basis) a t h.u h.k h.d end.vertex end.inside bound beyond
            → MeetsInside value p j tau crit q end.vertex end.inside × MeetsLowBound value p j tau crit q end.vertex end.inside bound beyond
        by (Finite x) (Outside f) handed =
            let ends = ends_here fall (sample value p) j tau crit c start (slice_index basis) a t h.u h.k h.d test stands break handed.3 in
            let same = statistic_is_same value p tau (delta j) basis a end.vertex h.size stands.basis vertex j crit q h.u f handed.2 in (
              meets_inside value p tau (delta j) basis a end.vertex h.size stands.basis vertex j crit q t end.inside handed.1 (inside fall (sample value p) j tau crit c start (slice_index basis) a t test stands),
              (
                handed.0 ∙ sym (vertex.coef j test.column),
                meets_outside value p tau (delta j) basis a end.vertex h.size stands.basis vertex j crit q h.u f handed.2 ends.0,
                subst (λ z. whole (pos 0) <ℚ z) (sym same) (above _ ends.1 (not_zero _ (rank_bound tau crit q) (bound_not_negative stands.within) ends.0.beyond)),
              ),
            )
        by Infinite (Ray r) handed =
            let ends = never_ends fall (sample value p) j tau crit c start (slice_index basis) a t h.u h.k h.d test stands break handed.2 handed.3 in (
              meets_inside value p tau (delta j) basis a end.vertex h.size stands.basis vertex j crit q h.u end.inside handed.0 ends.0,
              (
                handed.1 j test.column ∙ ends.2,
                meets_ray value p tau (delta j) basis a end.vertex h.size stands.basis vertex j crit q h.u end.inside handed.0 (ray fall a j h.k) (number_at r) handed.1 ends.1,
              ),
            )
        by (Finite x) (Ray r) handed = absurd handed
        by Infinite (Outside f) handed = absurd handed
