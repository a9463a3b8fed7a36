-- Sides at which the rows of a basis were put.
use Rattle.std.specs.Prelude.{◌≡◌, ◌≢◌, ℕ, zero, suc, ◌+◌, ◌<◌, Bool, true, false, ◌==◌, if◌then◌else◌, List, [], ◌∷◌, ◌++◌, length, slice_set}
use Rattle.std.proofs.Common.{arith, refl, sym, ap, ◌∙◌}
use borrow.Author.Tests.{eqb-true, eqb-false}
use Rattle.rational_laws.specs.Rational.{ℚ}
use Rattle.rational_laws.specs.Selections.{is_among}
use Rattle.loss_model.specs.declared.vertex.Side.{Side}
use Rattle.loss_model.specs.declared.vertex.Side.TheVariants.{Basic}
use Rattle.loss_model.specs.Sample.{Sample}
use Rattle.basis_model.specs.Basis.{side_at}
use Rattle.loss_model.specs.Sides.{side_in}
use Rattle.whole_solution.proofs.Made.{basic_by}

pub length_put : (xs : List Side) (r : ℕ) (s : Side) → length (slice_set xs r s) ≡ length xs
length_put [] r s = refl
length_put (x ∷ xs) zero s = refl
length_put (x ∷ xs) (suc r) s = ap suc (length_put xs r s)

pub put_same : (xs : List Side) (r : ℕ) (s : Side) → r < length xs → side_in (slice_set xs r s) r ≡ s
put_same [] r s l = absurd (omega arith)
put_same (x ∷ xs) zero s l = refl
put_same (x ∷ xs) (suc r) s l = put_same xs r s (omega arith)

pub put_other : (xs : List Side) (r i : ℕ) (s : Side) → i ≢ r → side_in (slice_set xs r s) i ≡ side_in xs i
put_other [] r i s h = refl
put_other (x ∷ xs) zero zero s h = absurd (h refl)
put_other (x ∷ xs) zero (suc i) s h = refl
put_other (x ∷ xs) (suc r) zero s h = refl
put_other (x ∷ xs) (suc r) (suc i) s h = put_other xs r i s (λ e. h (ap suc e))

set_side : (xs : List Side) (r i : ℕ) → r < length xs → side_in (slice_set xs r Basic) i ≡ (if i == r then Basic else side_in xs i)
set_side xs r i l = by (i == r) refl
  where
    by : (t : Bool) → (i == r) ≡ t → side_in (slice_set xs r Basic) i ≡ (if i == r then Basic else side_in xs i)
    by true e = ap (λ i. side_in (slice_set xs r Basic) i) (eqb-true i r e) ∙ put_same xs r Basic l ∙ sym (ap (λ t. if t then Basic else side_in xs i) e)
    by false e = put_other xs r i Basic (eqb-false i r e) ∙ sym (ap (λ t. if t then Basic else side_in xs i) e)

either : (t u : Bool) (x y : Side) → (if t then x else (if u then x else y)) ≡ (if (if t then true else u) then x else y)
either true u x y = refl
either false u x y = refl

-- one row of the basis more
pub basic_put : (at : ℕ → ℕ) (n : ℕ) (sides made : List Side) → at n < length made → ((i : ℕ) → side_in made i ≡ (if is_among at n i then Basic else side_in sides i))
    → (i : ℕ) → side_in (slice_set made (at n) Basic) i ≡ (if is_among at (n + 1) i then Basic else side_in sides i)
basic_put at n sides made l h i =
    let e : suc n ≡ n + 1 = omega arith in
    rw (← e) (set_side made (at n) i l ∙ ap (λ z. if i == at n then Basic else z) (h i) ∙ either (i == at n) (is_among at n i) Basic (side_in sides i))

-- the sides of rows outside the basis, with those of the basis
pub all_put : (p : Sample) (at : ℕ → ℕ) (a : ℕ → ℕ → ℚ) (sides made : List Side) → ((i : ℕ) → side_in made i ≡ (if is_among at p.columns i then Basic else side_in sides i))
    → ((i : ℕ) → i < p.rows → is_among at p.columns i ≡ false → side_in sides i ≡ side_at p at a i)
    → (i : ℕ) → i < p.rows → side_in made i ≡ side_at p at a i
all_put p at a sides made h outside i li = h i ∙ by (is_among at p.columns i) refl
  where
    by : (t : Bool) → is_among at p.columns i ≡ t → (if is_among at p.columns i then Basic else side_in sides i) ≡ side_at p at a i
    by true e = ap (λ t. if t then Basic else side_in sides i) e ∙ basic_by p at a i e
    by false e = ap (λ t. if t then Basic else side_in sides i) e ∙ outside i li e

-- one side more at the end, where it is asked for
pub side_pushed_where : (Q : ℕ → Type 0) (made : List Side) (x : Side) (n : ℕ) (f : ℕ → Side) → length made ≡ n → ((k : ℕ) → k < n → Q k → side_in made k ≡ f k) → (Q n → x ≡ f n) → (k : ℕ) → k < n + 1 → Q k
    → side_in (made ++ x ∷ []) k ≡ f k
side_pushed_where Q [] x zero f size h e zero l q = e q
side_pushed_where Q [] x zero f size h e (suc k) l q = absurd (omega arith)
side_pushed_where Q [] x (suc n) f size h e k l q = absurd (omega arith)
side_pushed_where Q (y ∷ made) x zero f size h e k l q = absurd (omega arith)
side_pushed_where Q (y ∷ made) x (suc n) f size h e zero l q = h 0 (omega arith) q
side_pushed_where Q (y ∷ made) x (suc n) f size h e (suc k) l q =
    side_pushed_where (λ k. Q (suc k)) made x n (λ k. f (suc k)) (omega arith) (λ k l. h (suc k) (omega arith)) e k (omega arith) q
