-- Stated. What a rank interval is (Koenker 2005, section 3.5).
use Rattle.std.specs.Prelude.{◌≡◌, ◌↔◌, ◌+◌, ◌≤◌, ℕ, length, is_some, true, IfSome}
use Rattle.rational_laws.specs.Fraction.{Fraction}
use Rattle.rational_laws.specs.Rational.{ℚ}
use Rattle.loss_model.specs.declared.interval.Interval.{Interval}
use Rattle.loss_model.specs.declared.problem.Problem.{Problem}
use Rattle.loss_model.specs.Problem.{sample}
use Rattle.rank_model.specs.Restricted.{Holds}
use Rattle.rank_model.specs.Bounds.{IsAtLeast, IsAtMost}
use Rattle.rank_model.specs.Certified.{bound_of}
use Rattle.rank_walk_model.specs.Intervals.{IsIntervalOf, MeetsConditionsBy}

-- the values between its ends are exactly those that hold
abbrev pub IsExactInterval : {F : Type 0} → (F → Fraction) → Problem F → ℕ → ℚ → ℚ → Interval → Type 0
IsExactInterval value p j tau crit r =
    (xi : ℚ) → (IsAtLeast (bound_of r.low.bound) xi × IsAtMost (bound_of r.high.bound) xi)
    ↔ Holds (sample value p) j tau crit xi

-- it lists the factors of its projection
abbrev pub HasFactors : Interval → Type 0
HasFactors r = is_some r.projection ≡ true

-- it is that of the column, the quantile and the critical value that were handed in, its trail is lawful
-- and its ends are those of the walks; it lists the factors of its projection, by which it meets the conditions of a
-- certificate, and is within the limit
pub record IsRankInterval {F : Type 0} (value : F → Fraction) (p : Problem F) (j : ℕ) (quantile critical : F) (limit : ℕ) (r : Interval) : Type 0 where
  pub column : r.column ≡ j
  pub tau : r.tau ≡ value quantile
  pub crit : r.crit ≡ value critical
  pub lawful : IsIntervalOf value p r
  pub conditions : MeetsConditionsBy value p r lawful.factors
  pub listed : HasFactors r
  pub size : IfSome r.projection (λ list. length list ≡ p.columns)
  pub short : length r.trail.steps + length r.trail.rise + length r.trail.fall ≤ limit
