-- Inner. Lists that are related item by item.
use Rattle.std.specs.Prelude.{◌≡◌, ℕ, List, Some, slice_get}

-- items of the same index are related
abbrev pub ArePaired : {A B : Type 0} → (A → B → Type 0) → List A → List B → Type 0
ArePaired {A} {B} R xs ys = (i : ℕ) (x : A) (y : B) → slice_get xs i ≡ Some x → slice_get ys i ≡ Some y → R x y
