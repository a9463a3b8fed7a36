-- Law. What each step of a lawful trail improves where every response is perturbed (Charnes 1952): a list, by the
-- first entry that differs.
use Rattle.std.specs.Prelude.{◌≡◌, ℕ, suc, ◌<◌, if◌then◌else◌, ◌&&◌, List, [], ◌∷◌, slice_index, slice_set, pos}
use Rattle.std.specs.declared.cmp.Ordering.TheVariants.{Less}
use Rattle.rational_laws.specs.Fraction.{rational}
use Rattle.rational_laws.specs.Rational.{ℚ, ◌+ℚ◌, ◌-ℚ◌, ◌*ℚ◌, whole}
use Rattle.rational_laws.specs.RationalSums.{sum_ℚ}
use Rattle.loss_model.specs.declared.process.Exchange.{Exchange}
use Rattle.loss_model.specs.declared.process.Trail.{Trail}
use Rattle.loss_model.specs.Sample.{Sample}
use Rattle.basis_model.specs.Lexicographic.{lex_cmp}
use Rattle.basis_model.specs.Perturbed.{ratio}
use Rattle.basis_model.specs.Basis.{IsBasis, outside_row}
use Rattle.basis_model.specs.PerturbedLoss.{perturbed_loss, change_list, perturbed_coefficient}
use Rattle.pivot_model.specs.declared.direction.Direction.{Direction}
use Rattle.pivot_model.specs.Duals.{HasCosts}
use Rattle.pivot_model.specs.Steps.{moves, is_before, passing, slope_before, IsEntering, IsSolvingStep}
use Rattle.pivot_model.specs.Trails.{AtBasis, basis_after, IsSolvingTrail}
use Rattle.walk_model.specs.Walks.{AreExchanged}
use Rattle.walk_model.specs.WalkTrails.{IsProcessTrail, IsIntervalTrail}

-- where row r enters, the perturbed loss gains the slope before it times its ratio, and loses the ratio of each
-- row that is passed, times what passing it adds
abbrev pub LossAfterStep : Type 0
LossAfterStep =
    (p : Sample) (at next : ℕ → ℕ) (a b : ℕ → ℕ → ℚ) (theta : ℚ) (j r : ℕ) (d : Direction) → IsBasis p at a → IsBasis p next b
    → AreExchanged p.columns at next j r → j < p.columns → IsEntering p at a theta j d r → (m : ℕ)
    → perturbed_loss p next b theta m
    ≡ (perturbed_loss p at a theta m +ℚ (slope_before p at a theta j d r *ℚ ratio p.rows p.columns at j (outside_row p at a r) m))
    -ℚ sum_ℚ p.rows (λ i. (if moves p at a j d i && is_before p at a j i r then passing p at a theta j i else whole (pos 0))
    *ℚ ratio p.rows p.columns at j (outside_row p at a i) m)

-- so a solving step lowers it
abbrev pub LossFalls : Type 0
LossFalls =
    (p : Sample) (at next : ℕ → ℕ) (a b : ℕ → ℕ → ℚ) (theta : ℚ) (j r : ℕ) → IsBasis p at a → IsBasis p next b
    → AreExchanged p.columns at next j r → HasCosts p theta → IsSolvingStep p at a theta j r
    → lex_cmp (suc p.rows) (perturbed_loss p next b theta) (perturbed_loss p at a theta) ≡ Less

-- what is said of a step: of its theta, and of the basis before it and the one after it
abbrev pub Improvement : Type 1
Improvement = ℚ → (ℕ → ℕ) → (ℕ → ℕ → ℚ) → (ℕ → ℕ) → (ℕ → ℕ → ℚ) → Type 0

-- it holds of each step
abbrev pub Along : Sample → Improvement → List ℕ → List Exchange → Type 0
Along p P basis [] = Unit {0}
Along p P basis (s ∷ steps) =
    AtBasis p basis (λ a. AtBasis p (slice_set basis s.position s.row)
    (λ b. P (rational s.theta) (slice_index basis) a (slice_index (slice_set basis s.position s.row)) b))
    × Along p P (slice_set basis s.position s.row) steps

module _ (p : Sample) where
  -- the perturbed loss falls
  abbrev pub LowersLoss : Improvement
  LowersLoss theta at a next b = lex_cmp (suc p.rows) (perturbed_loss p next b theta) (perturbed_loss p at a theta) ≡ Less

  -- the perturbed loss stays, and its change list falls
  abbrev pub LowersChange : Improvement
  LowersChange theta at a next b =
      ((m : ℕ) → perturbed_loss p next b theta m ≡ perturbed_loss p at a theta m)
      × (lex_cmp (suc p.rows) (change_list p next b) (change_list p at a) ≡ Less)

  -- the perturbed coefficient of column c rises
  abbrev pub RaisesCoefficient : ℕ → Improvement
  RaisesCoefficient c theta at a next b = lex_cmp (suc p.rows) (perturbed_coefficient p at a c) (perturbed_coefficient p next b c) ≡ Less

  -- it falls
  abbrev pub LowersCoefficient : ℕ → Improvement
  LowersCoefficient c theta at a next b = lex_cmp (suc p.rows) (perturbed_coefficient p next b c) (perturbed_coefficient p at a c) ≡ Less

-- each step of a lawful solve lowers the perturbed loss
abbrev pub SolveImproves : Type 0
SolveImproves =
    (p : Sample) (theta : ℚ) (trail : Trail) (basis : List ℕ) → HasCosts p theta → (lawful : IsSolvingTrail p theta trail basis)
    → Along p (LowersLoss p) lawful.first trail.steps

-- in a process each solving step lowers it, and each walking step keeps it and lowers its change list
abbrev pub ProcessImproves : Type 0
ProcessImproves =
    (p : Sample) (lo hi now : ℚ) (trail : Trail) (basis : List ℕ) → HasCosts p lo → (lawful : IsProcessTrail p lo hi trail basis now)
    → Along p (LowersLoss p) lawful.first lawful.solving
    × Along p (LowersChange p) (basis_after lawful.first lawful.solving) lawful.walking

-- in an interval each step of `rise` raises the perturbed coefficient of the column, and each of `fall` lowers it
abbrev pub IntervalImproves : Type 0
IntervalImproves =
    (p : Sample) (tau : ℚ) (c : ℕ) (bound : ℚ) (trail : Trail) (basis : List ℕ) → HasCosts p tau → c < p.columns
    → (lawful : IsIntervalTrail p tau c bound trail basis)
    → Along p (LowersLoss p) lawful.first trail.steps
    × Along p (RaisesCoefficient p c) basis trail.rise
    × Along p (LowersCoefficient p c) basis trail.fall
