-- Law. Between breakpoints: where the next one is, and that an optimal basis stays optimal up to it.
use Rattle.std.specs.Prelude.{◌≡◌, ◌≢◌, ◌⊎◌, ℕ, ◌<◌, pos}
use Rattle.rational_laws.specs.Rational.{ℚ, whole, ◌≤ℚ◌}
use Rattle.pivot_model.specs.Part.TheVariants.{Linear}
use Rattle.pivot_model.specs.declared.direction.Direction.{Direction}
use Rattle.pivot_model.specs.Duals.{◌<ℚ◌}
use Rattle.walk_model.specs.Families.{Family, slope_part, IsOptimalIn}
use Rattle.walk_model.specs.Walks.{Crosses, HasNoBreak, IsNextBreak}
use Rattle.walk_model.specs.SlopeLaws.{quotient_of}

-- there is a next breakpoint, or no slope falls to 0 any more
abbrev pub NextBreakOrNone : Type 0
NextBreakOrNone =
    (f : Family) (at : ℕ → ℕ) (a : ℕ → ℕ → ℚ) (from : ℚ)
    → ((t : ℚ) × (j : ℕ) × (d : Direction) × IsNextBreak f at a from t j d)
    ⊎ ((t : ℚ) (j : ℕ) (d : Direction) → j < f.sample.columns → from ≤ℚ t → ¬ Crosses f at a t j d)

-- at an optimal basis no crossing lies behind, so the next breakpoint is the least quotient of the slopes
-- that fall, at the least position that has it
abbrev pub NextBreakAsComputed : Type 0
NextBreakAsComputed =
    (f : Family) (at : ℕ → ℕ) (a : ℕ → ℕ → ℚ) (from t : ℚ) (j : ℕ) (d : Direction) → IsOptimalIn f at a from
    → j < f.sample.columns → slope_part f at a Linear j d <ℚ whole (pos 0) → t ≡ quotient_of f at a j d
    → ((k : ℕ) (e : Direction) → k < f.sample.columns → slope_part f at a Linear k e <ℚ whole (pos 0) → t ≤ℚ quotient_of f at a k e)
    → ((k : ℕ) (e : Direction) → k < j → slope_part f at a Linear k e <ℚ whole (pos 0) → t ≢ quotient_of f at a k e)
    → IsNextBreak f at a from t j d

-- there is no breakpoint before the next one
abbrev pub NoneBeforeNext : Type 0
NoneBeforeNext =
    (f : Family) (at : ℕ → ℕ) (a : ℕ → ℕ → ℚ) (from t : ℚ) (j : ℕ) (d : Direction)
    → IsNextBreak f at a from t j d → HasNoBreak f at a from t

-- and an optimal basis stays optimal as long as there is none, at the end included
abbrev pub OptimalToBreak : Type 0
OptimalToBreak =
    (f : Family) (at : ℕ → ℕ) (a : ℕ → ℕ → ℚ) (from to t : ℚ) → IsOptimalIn f at a from
    → HasNoBreak f at a from to → from ≤ℚ t → t ≤ℚ to → IsOptimalIn f at a t
