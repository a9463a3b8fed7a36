-- Sums over the rows of a basis. Where the listed rows are distinct and within the rows of the problem
-- (AreDistinct), a sum over the rows of the basis is a sum over its positions (sum_ℚ-among), and every sum
-- over all rows falls into that part and the rest (sum_ℚ-split, with is_among as the test). Together they
-- take a fact about all rows, as 'the dual values balance every column', to one about positions, where an
-- inverse applies.
use Rattle.std.specs.Prelude.{◌≡◌, ◌≢◌, ℕ, zero, suc, ◌<◌, Bool, true, false, if◌then◌else◌, ◌==◌, [], ◌∷◌, pos}
use Rattle.std.proofs.Common.{arith, refl, sym, ap, ◌∙◌}
use borrow.Author.Tests.{eqb-true, eqb-false, ne_eqb}
use Rattle.rational_laws.specs.Solver.{number, ◌⊞◌, ◌⊟◌, v0, v1}
use Rattle.rational_laws.specs.Rational.{ℚ, ◌+ℚ◌, ◌-ℚ◌, whole}
use Rattle.rational_laws.proofs.RationalLaws.{ring_ℚ}
use Rattle.rational_laws.specs.RationalSums.{sum_ℚ}
use Rattle.rational_laws.proofs.RationalSumLaws.{sum_ℚ-same, sum_ℚ-zero, sum_ℚ-add}
use Rattle.rational_laws.proofs.TermLaws.{sum_ℚ-replaced}
use Rattle.rational_laws.specs.Selections.{is_among, AreDistinct, among}

pub not_among : (at : ℕ → ℕ) (n i : ℕ) → ((j : ℕ) → j < n → at j ≢ i) → is_among at n i ≡ false
not_among at zero i h = refl
not_among at (suc n) i h =
    ap (λ t. if t then true else is_among at n i) (ne_eqb i (at n) (λ e. h n (omega arith) (sym e)))
    ∙ not_among at n i (λ j l. h j (omega arith))

-- a row that isn't among the listed ones is none of them
pub apart_from : (at : ℕ → ℕ) (n i : ℕ) → is_among at n i ≡ false → (j : ℕ) → j < n → at j ≢ i
apart_from at zero i h j l = absurd (omega arith)
apart_from at (suc n) i h j l = by (i == at n) refl (λ e. apart_from at n i e j)
  where
    by : (t : Bool) → (i == at n) ≡ t → (is_among at n i ≡ false → j < n → at j ≢ i) → at j ≢ i
    by true e ih = absurd (cc (sym (ap (λ t. if t then true else is_among at n i) e) ∙ h))
    by false e ih = last (j == n) refl
      where
        last : (t : Bool) → (j == n) ≡ t → at j ≢ i
        last true f s = eqb-false i (at n) e (sym s ∙ ap at (eqb-true j n f))
        last false f s = let other : j ≢ n = eqb-false j n f in ih (sym (ap (λ t. if t then true else is_among at n i) e) ∙ h) (omega arith) s

fewer : (at : ℕ → ℕ) (n rows : ℕ) → AreDistinct at (suc n) rows → AreDistinct at n rows
fewer at n rows d = record { within = λ j l. d.within j (omega arith); apart = λ j k l m. d.apart j k l (omega arith) }

-- a sum over the listed indices is a sum over their places
pub sum_ℚ-among : (at : ℕ → ℕ) (n rows : ℕ) (f : ℕ → ℚ) → AreDistinct at n rows → sum_ℚ rows (among at n f) ≡ sum_ℚ n (λ j. f (at j))
sum_ℚ-among at zero rows f d = sum_ℚ-zero rows
sum_ℚ-among at (suc n) rows f d =
    sum_ℚ-same rows (among at (suc n) f) (λ i. if i == at n then f i else among at n f i) (λ i l. by (i == at n) i)
    ∙ sum_ℚ-replaced rows (at n) (among at n f) f (d.within n (omega arith))
    ∙ ap (λ z. (sum_ℚ rows (among at n f) -ℚ z) +ℚ f (at n)) (ap (λ t. if t then f (at n) else whole (pos 0)) (not_among at n (at n) (λ j l. d.apart j n l (omega arith))))
    ∙ ring_ℚ (sum_ℚ rows (among at n f) ∷ f (at n) ∷ []) ((v0 ⊟ number (pos 0)) ⊞ v1) (v0 ⊞ v1) refl
    ∙ ap (λ z. z +ℚ f (at n)) (sum_ℚ-among at n rows f (fewer at n rows d))
  where
    by : (t : Bool) (i : ℕ) → (if (if t then true else is_among at n i) then f i else whole (pos 0)) ≡ (if t then f i else among at n f i)
    by true i = refl
    by false i = refl

-- a sum is the sum over the indices at which a test holds, and the sum over the others
pub sum_ℚ-split : (test : ℕ → Bool) (rows : ℕ) (f : ℕ → ℚ) → sum_ℚ rows f ≡ sum_ℚ rows (λ i. if test i then f i else whole (pos 0)) +ℚ sum_ℚ rows (λ i. if test i then whole (pos 0) else f i)
sum_ℚ-split test rows f =
    sum_ℚ-same rows f (λ i. (if test i then f i else whole (pos 0)) +ℚ (if test i then whole (pos 0) else f i)) (λ i l. by (test i) (f i))
    ∙ sum_ℚ-add rows (λ i. if test i then f i else whole (pos 0)) (λ i. if test i then whole (pos 0) else f i)
  where
    by : (t : Bool) (x : ℚ) → x ≡ (if t then x else whole (pos 0)) +ℚ (if t then whole (pos 0) else x)
    by true x = ring_ℚ (x ∷ []) v0 (v0 ⊞ number (pos 0)) refl
    by false x = ring_ℚ (x ∷ []) v0 (number (pos 0) ⊞ v0) refl
