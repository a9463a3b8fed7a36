-- Lists of values that grow.
use Rattle.std.specs.Prelude.{◌≡◌, ℕ, zero, suc, ◌+◌, ◌<◌, List, [], ◌∷◌, ◌++◌, length}
use Rattle.std.proofs.Common.{arith}
use Rattle.rational_laws.specs.Fraction.{Fraction, rational}
use Rattle.rational_laws.specs.Rational.{ℚ}
use Rattle.loss_model.specs.Problem.{value_at}

pub value_pushed : {F : Type 0} (value : F → Fraction) (made : List F) (x : F) (n : ℕ) (f : ℕ → ℚ) → length made ≡ n → ((k : ℕ) → k < n → value_at value made k ≡ f k) → rational (value x) ≡ f n → (k : ℕ) → k < n + 1
    → value_at value (made ++ x ∷ []) k ≡ f k
value_pushed value [] x zero f size h e zero l = e
value_pushed value [] x zero f size h e (suc k) l = absurd (omega arith)
value_pushed value [] x (suc n) f size h e k l = absurd (omega arith)
value_pushed value (y ∷ made) x zero f size h e k l = absurd (omega arith)
value_pushed value (y ∷ made) x (suc n) f size h e zero l = h 0 (omega arith)
value_pushed value (y ∷ made) x (suc n) f size h e (suc k) l =
    value_pushed value made x n (λ k. f (suc k)) (omega arith) (λ k l. h (suc k) (omega arith)) e k (omega arith)
