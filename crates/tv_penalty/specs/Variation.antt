-- Law. What the penalty rows of smooths are for (Koenker, Ng and Portnoy 1994): the penalty of a coefficient vector is
-- lambda times the total variation of the slope of the piecewise linear function through the knots.
use Rattle.std.specs.Prelude.{◌≡◌, All, ℕ, zero, suc, ◌+◌, ◌-◌, Bool, true, false, List, [], ◌∷◌, length, map, pos}
use Rattle.rational_laws.specs.Rational.{ℚ, ◌+ℚ◌, ◌-ℚ◌, ◌*ℚ◌, inverse, whole, ◌≤ℚ◌}
use Rattle.rational_laws.specs.RationalSums.{sum_ℚ}
use Rattle.frac_core.specs.declared.frac128.Frac128.{Frac128}
use Rattle.frac_core.specs.Values.{exact}
use Rattle.loss_model.specs.Spill.{abs_ℚ}
use Rattle.formula_parser.specs.declared.formula.Formula.{Formula}
use Rattle.design_matrix.specs.declared.design.Design.{Design}
use Rattle.design_matrix.specs.Cells.{Table}
use Rattle.tv_penalty.specs.Smoothings.{PartOf, PenaltyOf, knot_at, part_of, smoothing_by, width}

-- entries times coefficients, added
abbrev pub along : List ℚ → (ℕ → ℚ) → ℚ
along [] b = whole (pos 0)
along (x ∷ xs) b = (x *ℚ b zero) +ℚ along xs (λ j. b (suc j))

-- what penalty rows cost at the coefficients b: lambda times the absolute value of each combination
abbrev pub penalty : List PenaltyOf → (ℕ → ℚ) → ℚ
penalty [] b = whole (pos 0)
penalty (r ∷ rs) b = (r.lambda *ℚ abs_ℚ (along r.x b)) +ℚ penalty rs b

-- the values of a function at its knots: the coefficients, and beside an intercept 0 at the first knot
abbrev pub values : Bool → (ℕ → ℚ) → ℕ → ℚ
values false b k = b k
values true b zero = whole (pos 0)
values true b (suc k) = b k

-- the slope between knot k and the next of the linear function that has these values there
abbrev pub slope : List Frac128 → (ℕ → ℚ) → ℕ → ℚ
slope knots v k = (v (k + 1) -ℚ v k) *ℚ inverse (knot_at knots (k + 1) -ℚ knot_at knots k)

-- the total variation of the slope: its absolute changes at the inner knots, added
abbrev pub total_variation : List Frac128 → (ℕ → ℚ) → ℚ
total_variation knots v = sum_ℚ (length knots - 2) (λ k. abs_ℚ (slope knots v (k + 1) -ℚ slope knots v k))

-- lambda times the total variation for each of these smooths, whose coefficients stand one after the other
abbrev pub variation_from : Bool → ℕ → List PartOf → (ℕ → ℚ) → ℚ
variation_from intercept before [] b = whole (pos 0)
variation_from intercept before (p ∷ ps) b =
    (p.lambda *ℚ total_variation p.knots (values intercept (λ j. b (before + j))))
    +ℚ variation_from intercept (before + width intercept p) ps b

-- the same for the smooths of a formula
abbrev pub variation : Table → Design → Formula → (ℕ → ℚ) → ℚ
variation table design model = variation_from model.intercept 0 (map (part_of true table design.rows) model.smooths)

-- where no lambda is negative, the penalty rows cost lambda times the total variation of the slope, whatever the
-- coefficients are
abbrev pub PenaltyIsVariation : Type 0
PenaltyIsVariation =
    (table : Table) (design : Design) (model : Formula) (b : ℕ → ℚ) → All (λ s. whole (pos 0) ≤ℚ exact s.lambda) model.smooths
    → penalty (smoothing_by true table design model).rows b ≡ variation table design model b
