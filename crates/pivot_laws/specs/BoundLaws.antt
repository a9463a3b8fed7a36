-- Law. No basis comes twice in one part of a lawful trail, so that no part is longer than the number of bases.
use Rattle.std.specs.Prelude.{ℕ, ◌*◌, ◌-◌, ◌<◌, ◌≤◌, Bool, List, [], ◌∷◌, length, slice_index, slice_set}
use Rattle.rational_laws.specs.Rational.{ℚ}
use Rattle.rational_laws.specs.Selections.{is_among}
use Rattle.loss_model.specs.declared.process.Exchange.{Exchange}
use Rattle.loss_model.specs.declared.process.Trail.{Trail}
use Rattle.loss_model.specs.Sample.{Sample}
use Rattle.pivot_model.specs.Duals.{HasCosts}
use Rattle.pivot_model.specs.Trails.{basis_after, IsSolvingTrail, ReachesLimit}
use Rattle.walk_model.specs.WalkTrails.{IsProcessTrail, ReachesProcessLimit, IsIntervalTrail, ReachesIntervalLimit}
use Rattle.pivot_laws.specs.Choose.{choose, AreApart}

-- the sets of rows of the bases along steps, from the first basis on
abbrev pub rows_along : ℕ → List ℕ → List Exchange → List (ℕ → Bool)
rows_along n basis [] = is_among (slice_index basis) n ∷ []
rows_along n basis (s ∷ steps) = is_among (slice_index basis) n ∷ rows_along n (slice_set basis s.position s.row) steps

-- no rows make a basis twice along steps
abbrev pub NoneTwice : Sample → List ℕ → List Exchange → Type 0
NoneTwice p basis steps = AreApart p.rows (rows_along p.columns basis steps)

-- none do in a lawful solve that has led to a basis
abbrev pub NoneTwiceInSolve : Type 0
NoneTwiceInSolve =
    (p : Sample) (theta : ℚ) (trail : Trail) (basis : List ℕ) → HasCosts p theta → (lawful : IsSolvingTrail p theta trail basis)
    → NoneTwice p lawful.first trail.steps

-- none among the solving steps' bases of a process, and none in its walk
abbrev pub NoneTwiceInProcess : Type 0
NoneTwiceInProcess =
    (p : Sample) (lo hi now : ℚ) (trail : Trail) (basis : List ℕ) → HasCosts p lo → (lawful : IsProcessTrail p lo hi trail basis now)
    → NoneTwice p lawful.first lawful.solving
    × NoneTwice p (basis_after lawful.first lawful.solving) lawful.walking

-- none among the solving steps' bases of an interval, none in `rise`, and none in `fall`
abbrev pub NoneTwiceInInterval : Type 0
NoneTwiceInInterval =
    (p : Sample) (tau : ℚ) (c : ℕ) (bound : ℚ) (trail : Trail) (basis : List ℕ) → HasCosts p tau → c < p.columns
    → (lawful : IsIntervalTrail p tau c bound trail basis)
    → NoneTwice p lawful.first trail.steps
    × NoneTwice p basis trail.rise
    × NoneTwice p basis trail.fall

-- ---- the number of steps

-- there are no more bases than rows choose columns; this is how many can be left after the first
abbrev pub further_bases : Sample → ℕ
further_bases p = choose p.rows p.columns - 1

-- a lawful solve has no more steps
abbrev pub SolveIsShort : Type 0
SolveIsShort =
    (p : Sample) (theta : ℚ) (trail : Trail) (basis : List ℕ) → HasCosts p theta → IsSolvingTrail p theta trail basis
    → length trail.steps ≤ further_bases p

-- and a process no more than twice so many
abbrev pub ProcessIsShort : Type 0
ProcessIsShort =
    (p : Sample) (lo hi now : ℚ) (trail : Trail) (basis : List ℕ) → HasCosts p lo → IsProcessTrail p lo hi trail basis now
    → length trail.steps ≤ 2 * further_bases p

-- so no trail of a solve reaches a limit of so many steps
abbrev pub SolveWithinLimit : Type 0
SolveWithinLimit =
    (p : Sample) (theta : ℚ) (limit : ℕ) (trail : Trail) → HasCosts p theta → further_bases p ≤ limit
    → ¬ ReachesLimit p theta limit trail

-- no trail of a process reaches one of twice so many
abbrev pub ProcessWithinLimit : Type 0
ProcessWithinLimit =
    (p : Sample) (lo hi : ℚ) (limit : ℕ) (trail : Trail) → HasCosts p lo → (2 * further_bases p) ≤ limit
    → ¬ ReachesProcessLimit p lo hi limit trail

-- and none of an interval one of three times so many
abbrev pub IntervalWithinLimit : Type 0
IntervalWithinLimit =
    (p : Sample) (tau : ℚ) (c : ℕ) (bound : ℚ) (limit : ℕ) (trail : Trail) → HasCosts p tau → c < p.columns → (3 * further_bases p) ≤ limit
    → ¬ ReachesIntervalLimit p tau c bound limit trail
