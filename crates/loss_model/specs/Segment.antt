-- Stated. Segments of a range of quantiles (Koenker and d'Orey 1987).
use Rattle.std.specs.Prelude.{◌≡◌, ℕ, ◌+◌, ◌-◌, ◌<◌, ◌⊎◌, List, length, slice_get, pos}
use Rattle.std.specs.Option.{option_map_or}
use Rattle.std.specs.declared.cmp.Ordering.TheVariants.{Less}
use Rattle.rational_laws.specs.Rational.{ℚ, whole}
use Rattle.rational_laws.specs.Fraction.{Fraction, rational}
use Rattle.rational_laws.specs.Order.{cmp_ℚ}
use Rattle.loss_model.specs.declared.problem.Problem.{Problem}
use Rattle.loss_model.specs.declared.process.Segment.{Segment}
use Rattle.loss_model.specs.declared.vertex.Vertex.{Vertex}
use Rattle.loss_model.specs.Vertex.{dual_value}

-- segment j goes from lo j to hi j, where row i has the dual values at_lo j i and at_hi j i
pub record Segments : Type 0 where
  pub count : ℕ
  pub lo : ℕ → ℚ
  pub hi : ℕ → ℚ
  pub at_lo : ℕ → ℕ → ℚ
  pub at_hi : ℕ → ℕ → ℚ

-- the segments cover the range without a gap, and where two meet every row has one dual value
pub record Covers (rows : ℕ) (lo hi : ℚ) (s : Segments) : Type 0 where
  pub some : 0 < s.count
  pub first : s.lo 0 ≡ lo
  pub last : s.hi (s.count - 1) ≡ hi
  pub joined : (j : ℕ) → j + 1 < s.count → s.hi j ≡ s.lo (j + 1)
  pub same : (j i : ℕ) → j + 1 < s.count → i < rows → s.at_hi j i ≡ s.at_lo (j + 1) i
  pub proper : (j : ℕ) → j < s.count → (cmp_ℚ (s.lo j) (s.hi j) ≡ Less) ⊎ ((s.count ≡ 1) × (lo ≡ hi))

-- a number of segment j, or 0 beyond the last
abbrev pub of_segment : List Segment → (Segment → ℚ) → ℕ → ℚ
of_segment segments number j = option_map_or number (slice_get segments j) (whole (pos 0))

-- the dual value of row i at a fraction
abbrev pub dual_at : {F : Type 0} → (F → Fraction) → Problem F → Vertex → List Fraction → Fraction → ℕ → ℚ
dual_at value p v basic theta i = dual_value value p v basic (rational theta) i

-- the segments of a process on a problem
abbrev pub segments_of : {F : Type 0} → (F → Fraction) → Problem F → List Segment → Segments
segments_of value p segments =
    record {
      count = length segments;
      lo = of_segment segments (λ s. rational s.lo);
      hi = of_segment segments (λ s. rational s.hi);
      at_lo = λ j i. of_segment segments (λ s. dual_at value p s.vertex s.basic_lo s.lo i) j;
      at_hi = λ j i. of_segment segments (λ s. dual_at value p s.vertex s.basic_hi s.hi i) j;
    }
