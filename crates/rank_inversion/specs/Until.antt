-- Inner. Answers up to the first stop.
use Rattle.std.specs.Prelude.{◌≡◌, List, ◌∷◌, ◌++◌, map, Option, None, Some, Result, Ok, Err}
use Rattle.std.specs.List.{AllZip}

-- the answers are these, and then a stop where there is one
abbrev pub IsUntilStop : {B E : Type 0} → List (Result B E) → List B → Option E → Type 0
IsUntilStop answers done None = answers ≡ map Ok done
IsUntilStop {B} {E} answers done (Some stop) = (rest : List (Result B E)) × (answers ≡ map Ok done ++ Err stop ∷ rest)

module _ {A B E : Type 0} (R : A → Result B E → Type 0) where
  -- this one of all that are asked stops, and those before it are answered
  pub record IsStoppedAfter (asked : List A) (done : List B) (stop : E) : Type 0 where
    pub earlier : List A
    pub here : A
    pub later : List A
    pub order : asked ≡ earlier ++ here ∷ later
    pub answered : AllZip (λ a b. R a (Ok b)) earlier done
    pub stopped : R here (Err stop)

  -- all are answered, or those before the first that stops
  abbrev pub AreAnswered : List A → List B → Option E → Type 0
  AreAnswered asked done None = AllZip (λ a b. R a (Ok b)) asked done
  AreAnswered asked done (Some stop) = IsStoppedAfter asked done stop
