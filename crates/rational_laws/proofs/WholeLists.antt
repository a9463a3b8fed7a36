-- Lists of whole numbers, with one item more, and as they are read.
use Rattle.std.specs.Prelude.{◌≡◌, ℕ, zero, suc, ◌+◌, ◌<◌, ℤ, pos, List, [], ◌∷◌, ◌++◌, length, Option}
use Rattle.std.specs.Option.{option_map_or}
use Rattle.std.proofs.Common.{arith, refl, sym, ap, get_or}
use Rattle.std.proofs.lemmas.Option.{slice_get-get_or}
use Rattle.rational_laws.specs.Rational.{ℚ, whole}
use Rattle.rational_laws.specs.WholeLists.{whole_at}

pub whole_pushed : (made : List ℤ) (x : ℤ) (n : ℕ) (f : ℕ → ℚ) → length made ≡ n → ((k : ℕ) → k < n → whole_at made k ≡ f k) → whole x ≡ f n → (k : ℕ) → k < n + 1 → whole_at (made ++ x ∷ []) k ≡ f k
whole_pushed [] x zero f size h e zero l = e
whole_pushed [] x zero f size h e (suc k) l = absurd (omega arith)
whole_pushed [] x (suc n) f size h e k l = absurd (omega arith)
whole_pushed (y ∷ made) x zero f size h e k l = absurd (omega arith)
whole_pushed (y ∷ made) x (suc n) f size h e zero l = h 0 (omega arith)
whole_pushed (y ∷ made) x (suc n) f size h e (suc k) l =
    whole_pushed made x n (λ k. f (suc k)) (omega arith) (λ k l. h (suc k) (omega arith)) e k (omega arith)

-- the item behind a list
pub whole_last : (made : List ℤ) (x : ℤ) (n : ℕ) → length made ≡ n → whole_at (made ++ x ∷ []) n ≡ whole x
whole_last [] x zero size = refl
whole_last [] x (suc n) size = absurd (omega arith)
whole_last (y ∷ made) x zero size = absurd (omega arith)
whole_last (y ∷ made) x (suc n) size = whole_last made x n (omega arith)

-- those before it
pub whole_before : (made : List ℤ) (x : ℤ) (k : ℕ) → k < length made → whole_at (made ++ x ∷ []) k ≡ whole_at made k
whole_before [] x k l = absurd (omega arith)
whole_before (y ∷ made) x zero l = refl
whole_before (y ∷ made) x (suc k) l = whole_before made x k (omega arith)

pub whole_read : (xs : List ℤ) (k : ℕ) → k < length xs → whole (get_or xs k (pos 0)) ≡ whole_at xs k
whole_read xs k l = sym (ap (λ (o : Option ℤ). option_map_or whole o (whole (pos 0))) (slice_get-get_or xs k (pos 0) l))
