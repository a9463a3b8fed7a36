-- The rows of a basis among all rows.
use Rattle.std.specs.Prelude.{◌≡◌, ◌≢◌, ℕ, zero, suc, ◌<◌, Bool, true, false, ◌==◌, if◌then◌else◌}
use Rattle.std.proofs.Common.{arith, refl, sym, ap, ◌∙◌}
use borrow.Author.Tests.{eqb-true, eqb-false, eq-eqb}
use Rattle.rational_laws.specs.Selections.{is_among}

-- the row at a position is a row of the basis
pub among_at : (at : ℕ → ℕ) (n j : ℕ) → j < n → is_among at n (at j) ≡ true
among_at at zero j l = absurd (omega arith)
among_at at (suc n) j l = by (j == n) refl (λ below. among_at at n j below)
  where
    same : (t : Bool) → (if t then true else true) ≡ true
    same true = refl
    same false = refl

    by : (t : Bool) → (j == n) ≡ t → (j < n → is_among at n (at j) ≡ true) → (if at j == at n then true else is_among at n (at j)) ≡ true
    by true e rest = ap (λ t. if t then true else is_among at n (at j)) (eq-eqb (at j) (at n) (ap at (eqb-true j n e)))
    by false e rest =
        let other : j ≢ n = eqb-false j n e in
        ap (λ t. if at j == at n then true else t) (rest (omega arith)) ∙ same (at j == at n)

-- and a row of the basis stands at a position
pub among_place : (at : ℕ → ℕ) (n i : ℕ) → is_among at n i ≡ true → (j : ℕ) × (j < n) × (at j ≡ i)
among_place at zero i h = absurd (cc h)
among_place at (suc n) i h = by (i == at n) refl (λ h. among_place at n i h)
  where
    by : (t : Bool) → (i == at n) ≡ t → (is_among at n i ≡ true → (j : ℕ) × (j < n) × (at j ≡ i)) → (j : ℕ) × (j < suc n) × (at j ≡ i)
    by true e rest = (n, omega arith, sym (eqb-true i (at n) e))
    by false e rest =
        let k : (j : ℕ) × (j < n) × (at j ≡ i) = rest (sym (ap (λ t. if t then true else is_among at n i) e) ∙ h) in
        (k.0, omega (arith, k.1), k.2)
