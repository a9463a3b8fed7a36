-- What an interval that meets its conditions shows.
use Rattle.std.specs.Prelude.{◌≡◌, ℕ, ◌<◌, List, length, slice_get, slice_index, Contains, Option, Some, pos}
use Rattle.std.specs.Option.{option_map_or}
use Rattle.std.proofs.Common.{refl, sym, ap, subst, ◌∙◌, get_or}
use Rattle.std.proofs.lemmas.List.{get_or_default}
use Rattle.std.proofs.lemmas.Option.{slice_get-get_or}
use Rattle.rational_laws.specs.Fraction.{Fraction, rational}
use Rattle.rational_laws.specs.Rational.{ℚ, neg_ℚ, whole, ◌≤ℚ◌}
use Rattle.rational_laws.proofs.RationalLaws.{≤ℚ_refl}
use Rattle.rational_laws.proofs.Signs.{negative_below}
use Rattle.loss_model.specs.declared.problem.Problem.{Problem}
use Rattle.loss_model.specs.declared.vertex.Side.{Side}
use Rattle.loss_model.specs.declared.vertex.Side.TheVariants.{Up, Down, Basic}
use Rattle.loss_model.specs.declared.vertex.Vertex.{Vertex}
use Rattle.loss_model.specs.Problem.{number_at, sample}
use Rattle.loss_model.specs.Sample.{Sample, up_cost, down_cost}
use Rattle.loss_model.specs.Vertex.{value_of_side, basic_value, dual_value}
use Rattle.loss_model.proofs.Vertices.{basic_value-at}
use Rattle.loss_model.specs.declared.interval.Bound.{Bound}
use Rattle.loss_model.specs.declared.interval.Bound.TheVariants.{Finite, Infinite}
use Rattle.loss_model.specs.declared.interval.Beyond.{Beyond}
use Rattle.loss_model.specs.declared.interval.Beyond.TheVariants.{Outside, Ray}
use Rattle.loss_model.specs.declared.interval.IntervalProof.{IntervalProof}
use Rattle.rank_model.specs.Restricted.{IsProjection, squared_length, Holds}
use Rattle.rank_model.specs.Bounds.{IsInside, IsShownHigh, IsShownLow}
use Rattle.rank_model.specs.Shown.{AreBySides, IsStatedInside, IsStatedBeyond}
use Rattle.rank_model.specs.Certified.{bound_of, row_values, MeetsInside, MeetsOutside, MeetsHighBound, MeetsLowBound, length_of, HoldsAtHigh, HoldsAtLow, ConditionsShowInterval, BoundsByBasics}
use Rattle.rank_model.proofs.Exact.{inside_holds, nothing_beyond, all_within}
use Rattle.rank_model.proofs.Shown.{by_ray, inside, high, low}
use Rattle.rank_model.proofs.Optimal.{rising_ray, falling_ray}

module _ {F : Type 0} (value : F → Fraction) (p : Problem F) (j : ℕ) (tau crit q : ℚ) (lj : j < p.columns) (v : Vertex) where
  side : ℕ → Side
  side i = get_or v.sides i Basic

  module _ (sides : length v.sides ≡ length p.rows) where
    side_is : (i : ℕ) → i < length p.rows → slice_get v.sides i ≡ Some (side i)
    unfolding side
    side_is i l = slice_get-get_or v.sides i Basic (subst (λ n. i < n) (sym sides) l)

    by_sides : (basic : List Fraction) → AreBySides (sample value p) tau side (row_values value p j tau crit q v basic)
    unfolding side
    by_sides basic i l = at ∙ by (get_or v.sides i Basic) at
      where
        e : ℕ → ℚ
        e = row_values value p j tau crit q v basic

        at : e i ≡ value_of_side (sample value p) tau (basic_value v basic) i (get_or v.sides i Basic)
        at = ap (λ (o : Option Side). option_map_or (value_of_side (sample value p) tau (basic_value v basic) i) o (whole (pos 0))) (side_is i l)

        by : (s : Side) → e i ≡ value_of_side (sample value p) tau (basic_value v basic) i s → value_of_side (sample value p) tau (basic_value v basic) i s ≡ value_of_side (sample value p) tau e i s
        by Up h = refl
        by Down h = refl
        by Basic h = sym h

  stated_inside : (inside : List Fraction) → MeetsInside value p j tau crit q v inside → IsStatedInside (sample value p) j tau crit q (number_at v.coef) side (row_values value p j tau crit q v inside)
  stated_inside inside m =
      record {
        on = λ i l. m.on i (side i) (side_is m.sides i l);
        by_sides = by_sides m.sides inside;
        feasible = m.feasible;
        within = m.within;
      }

  stated_beyond : (outside : List Fraction) → length v.sides ≡ length p.rows → MeetsOutside value p j tau crit q v outside → IsStatedBeyond (sample value p) j tau crit q side (row_values value p j tau crit q v outside)
  stated_beyond outside sides m = record { by_sides = by_sides sides outside; feasible = m.feasible; beyond = m.beyond }

  pub shown_high : (basic : List Fraction) (bound : Bound Fraction) (beyond : Beyond) → MeetsInside value p j tau crit q v basic → MeetsHighBound value p j tau crit q v basic bound beyond
      → IsShownHigh (sample value p) j tau crit q (bound_of bound) (row_values value p j tau crit q v basic)
  shown_high basic (Finite x) (Outside f) m (at, out, low) =
      subst (λ z. IsShownHigh (sample value p) j tau crit q (Finite z) (row_values value p j tau crit q v basic)) (sym at)
      ((high (sample value p) j tau crit q (number_at v.coef) side (row_values value p j tau crit q v basic) lj (stated_inside basic m)).0 (row_values value p j tau crit q v f) (stated_beyond f m.sides out) low)
  shown_high basic Infinite (Ray r) m (one, ray) =
      (high (sample value p) j tau crit q (number_at v.coef) side (row_values value p j tau crit q v basic) lj (stated_inside basic m)).1 (number_at r) one ray
  shown_high basic (Finite x) (Ray r) m h = absurd h
  shown_high basic Infinite (Outside f) m h = absurd h

  pub shown_low : (basic : List Fraction) (bound : Bound Fraction) (beyond : Beyond) → MeetsInside value p j tau crit q v basic → MeetsLowBound value p j tau crit q v basic bound beyond
      → IsShownLow (sample value p) j tau crit q (bound_of bound) (row_values value p j tau crit q v basic)
  shown_low basic (Finite x) (Outside f) m (at, out, up) =
      subst (λ z. IsShownLow (sample value p) j tau crit q (Finite z) (row_values value p j tau crit q v basic)) (sym at)
      ((low (sample value p) j tau crit q (number_at v.coef) side (row_values value p j tau crit q v basic) lj (stated_inside basic m)).0 (row_values value p j tau crit q v f) (stated_beyond f m.sides out) up)
  shown_low basic Infinite (Ray r) m (one, ray) =
      (low (sample value p) j tau crit q (number_at v.coef) side (row_values value p j tau crit q v basic) lj (stated_inside basic m)).1 (number_at r) one ray
  shown_low basic (Finite x) (Ray r) m h = absurd h
  shown_low basic Infinite (Outside f) m h = absurd h

module _ {F : Type 0} (value : F → Fraction) (p : Problem F) (j : ℕ) (tau crit : ℚ) (lj : j < p.columns) (c : ℕ → ℚ) (pr : IsProjection (sample value p) j c) (v : Vertex) where
  abbrev q : ℚ
  q = squared_length (sample value p) j c

  here : (basic : List Fraction) → MeetsInside value p j tau crit q v basic → IsInside (sample value p) j tau crit q (number_at v.coef j) (row_values value p j tau crit q v basic)
  here basic m = inside (sample value p) j tau crit q (number_at v.coef) (side value p j tau crit q lj v) (row_values value p j tau crit q v basic) lj (stated_inside value p j tau crit q lj v basic m)

  at_high : (basic : List Fraction) (bound : Bound Fraction) (beyond : Beyond) → MeetsInside value p j tau crit q v basic → MeetsHighBound value p j tau crit q v basic bound beyond
      → HoldsAtHigh (sample value p) j tau crit (bound_of bound) (number_at v.coef j)
  at_high basic (Finite x) (Outside f) m (at, out, far) =
      subst (Holds (sample value p) j tau crit) (sym at) (inside_holds (sample value p) j tau crit (number_at v.coef j) c (row_values value p j tau crit q v basic) pr (here basic m))
  at_high basic Infinite (Ray r) m (one, ray) = λ xi l.
      let e = row_values value p j tau crit q v basic in
      let along = rising_ray (sample value p) j tau (number_at v.coef j) (number_at r) e lj (here basic m).optimal (by_ray (sample value p) tau (number_at r) e ray) one in
      inside_holds (sample value p) j tau crit xi c e pr (record { optimal = along.1 xi l; within = m.within })
  at_high basic (Finite x) (Ray r) m h = absurd h
  at_high basic Infinite (Outside f) m h = absurd h

  at_low : (basic : List Fraction) (bound : Bound Fraction) (beyond : Beyond) → MeetsInside value p j tau crit q v basic → MeetsLowBound value p j tau crit q v basic bound beyond
      → HoldsAtLow (sample value p) j tau crit (bound_of bound) (number_at v.coef j)
  at_low basic (Finite x) (Outside f) m (at, out, far) =
      subst (Holds (sample value p) j tau crit) (sym at) (inside_holds (sample value p) j tau crit (number_at v.coef j) c (row_values value p j tau crit q v basic) pr (here basic m))
  at_low basic Infinite (Ray r) m (one, ray) = λ xi l.
      let e = row_values value p j tau crit q v basic in
      let along = falling_ray (sample value p) j tau (number_at v.coef j) (number_at r) e lj (here basic m).optimal (by_ray (sample value p) tau (number_at r) e ray) one in
      inside_holds (sample value p) j tau crit xi c e pr (record { optimal = along.1 xi l; within = m.within })
  at_low basic (Finite x) (Ray r) m h = absurd h
  at_low basic Infinite (Outside f) m h = absurd h

pub shows : {F : Type 0} (value : F → Fraction) (p : Problem F) (proof : IntervalProof) → ConditionsShowInterval value p proof
shows value p proof m =
    let j = proof.column in
    let tau = rational proof.tau in
    let crit = rational proof.crit in
    let c = number_at proof.projection in
    let q = length_of value p proof in
    let low_shown = shown_low value p j tau crit q m.column proof.low.vertex proof.low.inside proof.low.bound proof.low.beyond m.low.inside m.low.bound in
    let high_shown = shown_high value p j tau crit q m.column proof.high.vertex proof.high.inside proof.high.bound proof.high.beyond m.high.inside m.high.bound in
    record {
      at_low = at_low value p j tau crit m.column c m.projection proof.low.vertex proof.low.inside proof.low.bound proof.low.beyond m.low.inside m.low.bound;
      at_high = at_high value p j tau crit m.column c m.projection proof.high.vertex proof.high.inside proof.high.bound proof.high.beyond m.high.inside m.high.bound;
      none_beyond = nothing_beyond (sample value p) j tau crit c _ _ (bound_of proof.low.bound) (bound_of proof.high.bound) m.column m.projection low_shown high_shown;
      all_between = all_within (sample value p) j tau crit c _ _ (bound_of proof.low.bound) (bound_of proof.high.bound) low_shown high_shown;
    }

-- ---- bounds

pub bounds : {F : Type 0} (value : F → Fraction) (p : Problem F) → BoundsByBasics value p
bounds value p theta v basic vertex costs tested i li = by (get_or v.sides i Basic) side_is
  where
    s : Sample
    s = sample value p

    IsWithin : ℚ → Type 0
    IsWithin e = (neg_ℚ (down_cost s theta i) ≤ℚ e) × (e ≤ℚ up_cost s theta i)

    side_is : slice_get v.sides i ≡ Some (get_or v.sides i Basic)
    side_is = slice_get-get_or v.sides i Basic (subst (λ n. i < n) (sym vertex.sides) li)

    by : (side : Side) → slice_get v.sides i ≡ Some side → IsWithin (dual_value value p v basic theta i)
    by side h = subst IsWithin (sym (ap (λ (o : Option Side). option_map_or (value_of_side s theta (basic_value v basic) i) o (whole (pos 0))) h)) (on side h)
      where
        on : (side : Side) → slice_get v.sides i ≡ Some side → IsWithin (value_of_side s theta (basic_value v basic) i side)
        on Up h = (negative_below (up_cost s theta i) (down_cost s theta i) (costs i li).0 (costs i li).1, ≤ℚ_refl (up_cost s theta i))
        on Down h = (≤ℚ_refl (neg_ℚ (down_cost s theta i)), negative_below (up_cost s theta i) (down_cost s theta i) (costs i li).0 (costs i li).1)
        on Basic h =
            let there : Contains v.basis.rows i = (vertex.basic i li).0 h in
            let at : slice_index v.basis.rows there.0 ≡ i = get_or_default v.basis.rows there.0 0 i there.1 ∙ there.2 in
            subst IsWithin (sym (basic_value-at v basic vertex.ascending there.0 there.1) ∙ ap (basic_value v basic) at)
            (subst (λ i. (neg_ℚ (down_cost s theta i) ≤ℚ number_at basic there.0) × (number_at basic there.0 ≤ℚ up_cost s theta i)) at (tested there.0 there.1))
