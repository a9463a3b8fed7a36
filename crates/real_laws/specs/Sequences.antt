-- Law. Sequences of fractions that come together, each with a number from which on its terms are as near as is asked (Cantor
-- 1872; Bishop 1967, chapter 2).
use Rattle.std.specs.Prelude.{ℕ, ◌≤◌, pos}
use Rattle.rational_laws.specs.Rational.{ℚ, ◌-ℚ◌, whole, ◌≤ℚ◌}
use Rattle.loss_model.specs.Strict.{◌<ℚ◌}

-- the terms from `from e` on differ by at most e
pub record Sequence : Type 0 where
  pub at : ℕ → ℚ
  pub from : ℚ → ℕ
  pub close : (e : ℚ) → whole (pos 0) <ℚ e → (m n : ℕ) → from e ≤ m → from e ≤ n → (at m -ℚ at n) ≤ℚ e

-- two sequences are of one number: their terms come as near to one another as is asked
abbrev pub Same : Sequence → Sequence → Type 0
Same x y =
    (e : ℚ) → whole (pos 0) <ℚ e
    → (m : ℕ) × ((n : ℕ) → m ≤ n → ((x.at n -ℚ y.at n) ≤ℚ e) × ((y.at n -ℚ x.at n) ≤ℚ e))
