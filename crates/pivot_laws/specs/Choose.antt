-- Law. How many sets of n out of m rows there are, by Pascal's rule. A set of rows is its test.
use Rattle.std.specs.Prelude.{◌≡◌, ℕ, zero, suc, ◌+◌, ◌<◌, ◌≤◌, Bool, List, [], ◌∷◌, length}
use Rattle.pivot_model.specs.Spills.{count}

-- m choose n
abbrev pub choose : ℕ → ℕ → ℕ
choose zero zero = 1
choose zero (suc n) = 0
choose (suc m) zero = 1
choose (suc m) (suc n) = choose m n + choose m (suc n)

-- each set has n of the first m rows
abbrev pub AreSets : ℕ → ℕ → List (ℕ → Bool) → Type 0
AreSets m n [] = Unit {0}
AreSets m n (s ∷ sets) = (count m s ≡ n) × AreSets m n sets

-- among the first m rows the set differs from each of the list
abbrev pub IsNew : ℕ → (ℕ → Bool) → List (ℕ → Bool) → Type 0
IsNew m s [] = Unit {0}
IsNew m s (t ∷ sets) = ¬ ((i : ℕ) → i < m → s i ≡ t i) × IsNew m s sets

-- no set comes twice in the list
abbrev pub AreApart : ℕ → List (ℕ → Bool) → Type 0
AreApart m [] = Unit {0}
AreApart m (s ∷ sets) = IsNew m s sets × AreApart m sets

-- so there are at most m choose n
abbrev pub AtMostChoose : Type 0
AtMostChoose = (m n : ℕ) (sets : List (ℕ → Bool)) → AreSets m n sets → AreApart m sets → length sets ≤ choose m n
