-- Law. A record of a whole weight counts as so many records of weight 1.
use Rattle.std.specs.Prelude.{◌≡◌, ◌↔◌, ℕ, List, length, map, pos, replicate}
use Rattle.std.specs.List.{flat_map, slice_get}
use Rattle.std.specs.Option.{option_map_or}
use Rattle.rational_laws.specs.Rational.{ℚ, neg_ℚ, whole}
use Rattle.loss_model.specs.Sample.{Sample, loss, Minimises}

-- what a record says: its entries and its response
pub record Observation : Type 0 where
  pub x : ℕ → ℚ
  pub y : ℚ

-- a number of the observation at a place among these, each with its weight, or 0 beyond the last
abbrev pub at : List (ℚ × Observation) → (ℚ × Observation → ℚ) → ℕ → ℚ
at records number i = option_map_or number (slice_get records i) (whole (pos 0))

-- their sample: a unit above the fit costs weight*theta, and a unit below it weight*(1-theta)
abbrev pub weighted : ℕ → List (ℚ × Observation) → Sample
weighted columns records = record {
  rows = length records;
  columns = columns;
  x = λ i k. at records (λ r. r.1.x k) i;
  y = at records (λ r. r.1.y);
  up0 = at records (λ _. whole (pos 0));
  up1 = at records (λ r. r.0);
  down0 = at records (λ r. r.0);
  down1 = at records (λ r. neg_ℚ r.0);
}

-- each once, with a number as its weight
abbrev pub once : List (ℕ × Observation) → List (ℚ × Observation)
once = map (λ (n, r). (whole (pos n), r))

-- each as often as its number says, with the weight 1
abbrev pub often : List (ℕ × Observation) → List (ℚ × Observation)
often = flat_map (λ (n, r). replicate n (whole (pos 1), r))

-- both have the same losses, and so the same minima
pub record WholeWeightsCount (columns : ℕ) (records : List (ℕ × Observation)) (theta : ℚ) (b : ℕ → ℚ) : Type 0 where
  pub losses : loss (weighted columns (once records)) theta b ≡ loss (weighted columns (often records)) theta b
  pub minima : Minimises (weighted columns (once records)) theta b ↔ Minimises (weighted columns (often records)) theta b
