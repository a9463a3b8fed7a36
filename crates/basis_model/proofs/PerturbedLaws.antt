-- The entries of a perturbed residual at the row itself, at the rows of the basis and at others.
use Rattle.std.specs.Prelude.{◌≡◌, ◌≢◌, ℕ, zero, suc, ◌<◌, Bool, true, false, ◌==◌, if◌then◌else◌, pos}
use Rattle.std.proofs.Common.{arith, refl, sym, ap, ◌∙◌}
use borrow.Author.Tests.{eqb-true, eqb-false, eq-eqb, ne_eqb}
use Rattle.rational_laws.specs.Rational.{ℚ, neg_ℚ, whole}
use Rattle.basis_model.specs.Perturbed.{Nonbasic, held_coordinate, perturbed}

pub held_coordinate-none : (n : ℕ) (at : ℕ → ℕ) (c : ℕ → ℚ) (m : ℕ) → ((j : ℕ) → j < n → at j ≡ m → c j ≡ whole (pos 0)) → held_coordinate n at c m ≡ whole (pos 0)
held_coordinate-none zero at c m h = refl
held_coordinate-none (suc n) at c m h = by (m == at n) refl (held_coordinate-none n at c m (λ j l. h j (omega arith)))
  where
    by : (t : Bool) → (m == at n) ≡ t → held_coordinate n at c m ≡ whole (pos 0) → (if t then c n else held_coordinate n at c m) ≡ whole (pos 0)
    by true e ih = h n (omega arith) (sym (eqb-true m (at n) e))
    by false e ih = ih

pub held_coordinate-at : (n : ℕ) (at : ℕ → ℕ) (c : ℕ → ℚ) (k : ℕ) → ((j k : ℕ) → j < k → k < n → at j ≢ at k) → k < n → held_coordinate n at c (at k) ≡ c k
held_coordinate-at zero at c k apart l = absurd (omega arith)
held_coordinate-at (suc n) at c k apart l = by (k == n) refl (λ below. held_coordinate-at n at c k (λ i j li lj. apart i j li (omega arith)) below)
  where
    by : (t : Bool) → (k == n) ≡ t → (k < n → held_coordinate n at c (at k) ≡ c k) → (if at k == at n then c n else held_coordinate n at c (at k)) ≡ c k
    by true e ih =
        let here : k ≡ n = eqb-true k n e in
        ap (λ t. if t then c n else held_coordinate n at c (at k)) (eq-eqb (at k) (at n) (ap at here)) ∙ ap c (sym here)
    by false e ih =
        let other : k ≢ n = eqb-false k n e in
        let below : k < n = omega arith in
        ap (λ t. if t then c n else held_coordinate n at c (at k)) (ne_eqb (at k) (at n) (apart k n below (omega arith))) ∙ ih below

pub perturbed-own : (n : ℕ) (at : ℕ → ℕ) (u : Nonbasic) (m : ℕ) → m ≡ u.row → perturbed n at u (suc m) ≡ whole (pos 1)
perturbed-own n at u m e = ap (λ t. if t then whole (pos 1) else neg_ℚ (held_coordinate n at u.coord m)) (eq-eqb m u.row e)

pub perturbed-other : (n : ℕ) (at : ℕ → ℕ) (u : Nonbasic) (m : ℕ) → m ≢ u.row → perturbed n at u (suc m) ≡ neg_ℚ (held_coordinate n at u.coord m)
perturbed-other n at u m h = ap (λ t. if t then whole (pos 1) else neg_ℚ (held_coordinate n at u.coord m)) (ne_eqb m u.row h)
