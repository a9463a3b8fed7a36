-- Law. What a walking step improves, by lists that are compared at their first entry that differs, so that
-- no rows make a basis twice in a walk.
use Rattle.std.specs.Prelude.{◌≡◌, ℕ, suc, ◌<◌, Bool, List, ◌∷◌, length, slice_index}
use Rattle.std.specs.declared.cmp.Ordering.TheVariants.{Less}
use Rattle.rational_laws.specs.Fraction.{Fraction}
use Rattle.rational_laws.specs.Rational.{ℚ}
use Rattle.rational_laws.specs.Selections.{is_among}
use Rattle.loss_model.specs.declared.process.Exchange.{Exchange}
use Rattle.loss_model.specs.Sample.{Sample}
use Rattle.pivot_model.specs.Lexicographic.{lex_cmp}
use Rattle.pivot_model.specs.Basis.{IsBasis}
use Rattle.pivot_model.specs.PerturbedLoss.{perturbed_loss, change_list, perturbed_coefficient}
use Rattle.pivot_model.specs.declared.direction.Direction.{Direction}
use Rattle.pivot_model.specs.Trails.{EndsAt, basis_after}
use Rattle.walk_model.specs.Families.{Family, over_quantiles, rising_value, falling_value}
use Rattle.walk_model.specs.Walks.{Crosses, IsJoint}
use Rattle.walk_model.specs.WalkTrails.{theta_value, negated_theta, AreWalkingSteps}

-- over quantiles a step keeps the perturbed loss at its theta, and lowers the change list
abbrev pub ChangeListFalls : Type 0
ChangeListFalls =
    (p : Sample) (at next : ℕ → ℕ) (a b : ℕ → ℕ → ℚ) (t : ℚ) (j r : ℕ) (d : Direction) → IsJoint p at next a b j r d
    → Crosses (over_quantiles p) at a t j d
    → ((m : ℕ) → perturbed_loss p next b t m ≡ perturbed_loss p at a t m)
    × (lex_cmp (suc p.rows) (change_list p next b) (change_list p at a) ≡ Less)

-- while a tested value rises a step raises the perturbed coefficient of the column, and while it falls
-- lowers it
abbrev pub CoefficientMoves : Type 0
CoefficientMoves =
    (p : Sample) (tau t : ℚ) (c : ℕ) (at next : ℕ → ℕ) (a b : ℕ → ℕ → ℚ) (j r : ℕ) (d : Direction) → c < p.columns → IsJoint p at next a b j r d
    → (Crosses (rising_value p tau c) at a t j d
    → lex_cmp (suc p.rows) (perturbed_coefficient p at a c) (perturbed_coefficient p next b c) ≡ Less)
    × (Crosses (falling_value p tau c) at a t j d
    → lex_cmp (suc p.rows) (perturbed_coefficient p next b c) (perturbed_coefficient p at a c) ≡ Less)

-- the two bases do not have the same rows
abbrev pub HaveOtherRows : Sample → List ℕ → List ℕ → Type 0
HaveOtherRows p basis other =
    ¬ ((i : ℕ) → is_among (slice_index other) p.columns i ≡ is_among (slice_index basis) p.columns i)

-- a walk of at least one step leads to a basis of other rows
abbrev pub LeavesItsRows : (Fraction → ℚ) → Family → Type 0
LeavesItsRows when f =
    (reach : ℚ → Bool) (from : ℚ) (basis : List ℕ) (x : Exchange) (steps : List Exchange) (a b : ℕ → ℕ → ℚ)
    → length basis ≡ f.sample.columns → IsBasis f.sample (slice_index basis) a → EndsAt f.sample.columns a
    → IsBasis f.sample (slice_index (basis_after basis (x ∷ steps))) b → EndsAt f.sample.columns b
    → AreWalkingSteps when f reach from basis (x ∷ steps) → HaveOtherRows f.sample basis (basis_after basis (x ∷ steps))

-- so no rows make a basis twice over quantiles, nor while a tested value rises or falls
abbrev pub NoBasisTwice : Type 0
NoBasisTwice =
    (p : Sample) → LeavesItsRows (theta_value) (over_quantiles p)
    × ((tau : ℚ) (c : ℕ) → c < p.columns → LeavesItsRows (negated_theta) (rising_value p tau c))
    × ((tau : ℚ) (c : ℕ) → c < p.columns → LeavesItsRows (theta_value) (falling_value p tau c))
