-- What the stated ends of an interval show.
use Rattle.std.specs.Prelude.{◌≡◌, ℕ, ◌<◌, [], pos}
use Rattle.std.proofs.Common.{refl, sym, subst, inl, inr}
use Rattle.rational_laws.specs.Solver.{number, negated}
use Rattle.rational_laws.specs.Rational.{ℚ, neg_ℚ, whole, ◌≤ℚ◌}
use Rattle.rational_laws.proofs.RationalLaws.{ring_ℚ}
use Rattle.rational_laws.proofs.OrderLaws.{≤ℚ_neg, le_from_not, same_le}
use Rattle.loss_model.specs.declared.vertex.Side.{Side}
use Rattle.loss_model.specs.declared.vertex.Side.TheVariants.{Up, Down, Basic}
use Rattle.loss_model.specs.Sample.{Sample, up_cost, down_cost, fitted, residual}
use Rattle.loss_model.specs.Vertex.{value_of_side, IsOn}
use Rattle.loss_model.specs.Strict.{◌<ℚ◌}
use Rattle.loss_model.specs.Complements.{IsComplementary, residual_change}
use Rattle.rank_model.specs.Restricted.{rank_statistic}
use Rattle.rank_model.specs.Bounds.{IsInside, IsBeyond}
use Rattle.rank_model.specs.Shown.{AreBySides, IsStatedInside, IsStatedBeyond, IsRowAlong, IsStatedRay, HighConditionsShow, LowConditionsShow}
use Rattle.rank_model.proofs.Optimal.{complementary, rising_ray, falling_ray}

-- values by sides on which the numbers r lie agree with them
pub by_sides : (p : Sample) (theta : ℚ) (r e : ℕ → ℚ) (side : ℕ → Side) → ((i : ℕ) → i < p.rows → IsOn (side i) (r i)) → AreBySides p theta side e → IsComplementary p theta r e
by_sides p theta r e side on own =
    record {
      above = λ i l up. above i (side i) (on i l) (own i l) up;
      below = λ i l down. below i (side i) (on i l) (own i l) down;
    }
  where
    above : (i : ℕ) (s : Side) → IsOn s (r i) → e i ≡ value_of_side p theta e i s → whole (pos 0) <ℚ r i → e i ≡ up_cost p theta i
    above i Up h k up = k
    above i Down h k up = absurd (up h)
    above i Basic h k up = absurd (up (same_le (r i) (whole (pos 0)) h))

    below : (i : ℕ) (s : Side) → IsOn s (r i) → e i ≡ value_of_side p theta e i s → r i <ℚ whole (pos 0) → e i ≡ neg_ℚ (down_cost p theta i)
    below i Up h k down = absurd (down h)
    below i Down h k down = k
    below i Basic h k down = absurd (down (same_le (whole (pos 0)) (r i) (sym h)))

nothing : neg_ℚ (whole (pos 0)) ≡ whole (pos 0)
nothing = ring_ℚ [] (negated (number (pos 0))) (number (pos 0)) refl

-- and values agree with the residuals' change along a ray
pub by_ray : (p : Sample) (theta : ℚ) (ray e : ℕ → ℚ) → IsStatedRay p theta ray e → IsComplementary p theta (residual_change p ray) e
by_ray p theta ray e h =
    record {
      above = λ i l up. above i (h i l) (λ not. up (subst (λ z. neg_ℚ (fitted p ray i) ≤ℚ z) nothing (≤ℚ_neg (whole (pos 0)) (fitted p ray i) not)));
      below = λ i l down. below i (h i l) (λ not. down (subst (λ z. z ≤ℚ neg_ℚ (fitted p ray i)) nothing (≤ℚ_neg (fitted p ray i) (whole (pos 0)) not)));
    }
  where
    above : (i : ℕ) → IsRowAlong p theta ray e i → fitted p ray i <ℚ whole (pos 0) → e i ≡ up_cost p theta i
    above i (inl flat) down = absurd (down (same_le (whole (pos 0)) (fitted p ray i) (sym flat)))
    above i (inr (inl falls)) down = falls.1
    above i (inr (inr rises)) down = absurd (rises.0 (le_from_not (fitted p ray i) (whole (pos 0)) down))

    below : (i : ℕ) → IsRowAlong p theta ray e i → whole (pos 0) <ℚ fitted p ray i → e i ≡ neg_ℚ (down_cost p theta i)
    below i (inl flat) up = absurd (up (same_le (fitted p ray i) (whole (pos 0)) flat))
    below i (inr (inl falls)) up = absurd (up (le_from_not (fitted p ray i) (whole (pos 0)) falls.0))
    below i (inr (inr rises)) up = rises.1

module _ (p : Sample) (j : ℕ) (tau crit q : ℚ) (b : ℕ → ℚ) (side : ℕ → Side) (e : ℕ → ℚ) (lj : j < p.columns) (stated : IsStatedInside p j tau crit q b side e) where
  pub inside : IsInside p j tau crit q (b j) e
  inside =
      record {
        optimal = complementary p j tau b e lj stated.feasible (by_sides p tau (residual p b) e side stated.on stated.by_sides);
        within = stated.within;
      }

  pub beyond : (f : ℕ → ℚ) → IsStatedBeyond p j tau crit q side f → IsBeyond p j tau crit q (b j) f
  beyond f h =
      record {
        optimal = complementary p j tau b f lj h.feasible (by_sides p tau (residual p b) f side stated.on h.by_sides);
        beyond = h.beyond;
      }

pub high : HighConditionsShow
high p j tau crit q b side e lj stated = (
  λ f out low. (inside p j tau crit q b side e lj stated, (f, beyond p j tau crit q b side e lj stated f out, le_from_not (rank_statistic p j f) (whole (pos 0)) low)),
  λ ray one h.
      let here = inside p j tau crit q b side e lj stated in
      let along = rising_ray p j tau (b j) ray e lj here.optimal (by_ray p tau ray e h) one in
      (b j, here, along.1, along.0),
)

pub low : LowConditionsShow
low p j tau crit q b side e lj stated = (
  λ f out up. (inside p j tau crit q b side e lj stated, (f, beyond p j tau crit q b side e lj stated f out, le_from_not (whole (pos 0)) (rank_statistic p j f) up)),
  λ ray one h.
      let here = inside p j tau crit q b side e lj stated in
      let along = falling_ray p j tau (b j) ray e lj here.optimal (by_ray p tau ray e h) one in
      (b j, here, along.1, along.0),
)
