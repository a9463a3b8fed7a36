-- Stated. Lists item by item.
use Rattle.std.specs.Prelude.{ℕ, ◌+◌, List, [], ◌∷◌, Option, None}
use Rattle.std.specs.Option.{option_or}

-- what a function gives of each item and its place, where the first place is k
abbrev pub each : {A B : Type 0} → (ℕ → A → B) → ℕ → List A → List B
each f k [] = []
each f k (x ∷ xs) = f k x ∷ each f (k + 1) xs

-- the first answer that a function gives along a list
abbrev pub first_some : {A B : Type 0} → (A → Option B) → List A → Option B
first_some f [] = None
first_some f (x ∷ xs) = option_or (f x) (first_some f xs)
