-- Inner. Bounds of products.
use Rattle.std.specs.Prelude.{ℕ, ◌*◌, ◌<◌, ◌≤◌}
use Rattle.whole_steps.specs.declared.bound.Pair.{Pair}

-- over some number the left part of a pair is at most that of another one, and the right part at least
abbrev pub IsReduced : Pair → Pair → Type 0
IsReduced p q = (s : ℕ) × (0 < s) × (p.left ≤ q.left * s) × (q.right * s ≤ p.right)
