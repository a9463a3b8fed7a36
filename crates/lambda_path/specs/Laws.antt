-- Law. What the laws of the path in lambda say; each is the contract of a function.
use Rattle.std.specs.Prelude.{◌≡◌, ◌≢◌, ◌⊎◌, ℕ, ◌+◌, ◌<◌, pos}
use Rattle.rational_laws.specs.Rational.{ℚ, whole, ◌≤ℚ◌}
use Rattle.loss_model.specs.Sample.{Sample, loss, Minimises}
use Rattle.loss_model.specs.Strict.{◌<ℚ◌}
use Rattle.loss_model.specs.FullRank.{HasFullRank}
use Rattle.loss_model.specs.Segment.{Segments, Covers}
use Rattle.pivot_model.specs.Duals.{HasCosts}
use Rattle.lambda_path.specs.Paths.{absolute_sum, path_loss, IsPathOf}

-- the loss of a path problem at the parameter lambda is that of the path
abbrev pub PathLoss : Type 0
PathLoss =
    (p : Sample) (first : ℕ) (tau : ℚ) (q : Sample) → IsPathOf p first tau q → (lambda : ℚ) (b : ℕ → ℚ)
    → loss q lambda b ≡ path_loss p first tau lambda b

-- coefficients that minimise at a greater lambda have no greater absolute sum
abbrev pub SumFalls : Type 0
SumFalls =
    (p : Sample) (first : ℕ) (tau : ℚ) (q : Sample) → IsPathOf p first tau q → (lambda mu : ℚ) (b c : ℕ → ℚ)
    → Minimises q lambda b → Minimises q mu c → lambda <ℚ mu → absolute_sum p first c ≤ℚ absolute_sum p first b

-- so it never rises from one segment of a path to the next, where the coefficients b j minimise at both ends of segment j
abbrev pub SumNeverRises : Type 0
SumNeverRises =
    (p : Sample) (first : ℕ) (tau : ℚ) (q : Sample) → IsPathOf p first tau q
    → (rows : ℕ) (lo hi : ℚ) (s : Segments) (b : ℕ → ℕ → ℚ) → Covers rows lo hi s
    → ((j : ℕ) → j < s.count → Minimises q (s.lo j) (b j)) → ((j : ℕ) → j < s.count → Minimises q (s.hi j) (b j))
    → (j : ℕ) → j + 1 < s.count → absolute_sum p first (b (j + 1)) ≤ℚ absolute_sum p first (b j)

-- where all columns are penalised, or all but the first one and that isn't 0 in the first row, the rank is full
abbrev pub PathHasFullRank : Type 0
PathHasFullRank =
    (p : Sample) (first : ℕ) (tau : ℚ) (q : Sample) → IsPathOf p first tau q
    → ((first ≡ 0) ⊎ ((first ≡ 1) × (0 < p.rows) × (p.x 0 0 ≢ whole (pos 0)))) → HasFullRank q

-- with weights above 0 the costs are lawful at every lambda above 0
abbrev pub PathHasCosts : Type 0
PathHasCosts =
    (p : Sample) (first : ℕ) (tau : ℚ) (q : Sample) → IsPathOf p first tau q → (lambda : ℚ)
    → ((i : ℕ) → i < p.rows → whole (pos 0) <ℚ p.up1 i) → whole (pos 0) ≤ℚ tau → tau ≤ℚ whole (pos 1) → whole (pos 0) <ℚ lambda
    → HasCosts q lambda
