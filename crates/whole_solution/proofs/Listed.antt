-- Lists of row numbers.
use Rattle.std.specs.Prelude.{◌≡◌, ◌≢◌, ℕ, zero, suc, ◌+◌, ◌<◌, Bool, true, false, ◌==◌, List, [], ◌∷◌, ◌++◌, length, slice_index}
use Rattle.std.proofs.Common.{arith, refl, sym, subst, ◌∙◌, inl, inr}
use borrow.Author.Tests.{eqb-true, eqb-false}
use Rattle.rational_laws.specs.Rational.{ℚ}
use Rattle.loss_model.specs.declared.vertex.Side.{Side}
use Rattle.whole_solution.specs.Far.{IsListed, IsNearOrFar, IsFarOn}

pub read_before : (rows : List ℕ) (x k : ℕ) → k < length rows → slice_index (rows ++ x ∷ []) k ≡ slice_index rows k
read_before [] x k l = absurd (omega arith)
read_before (y ∷ rows) x zero l = refl
read_before (y ∷ rows) x (suc k) l = read_before rows x k (omega arith)

read_last : (rows : List ℕ) (x : ℕ) → slice_index (rows ++ x ∷ []) (length rows) ≡ x
read_last [] x = refl
read_last (y ∷ rows) x = read_last rows x

length_more : (rows : List ℕ) (x : ℕ) → length (rows ++ x ∷ []) ≡ length rows + 1
length_more [] x = refl
length_more (y ∷ rows) x =
    let h = length_more rows x in
    omega arith

-- a row more at the end
pub listed_more : (rows : List ℕ) (x i : ℕ) → IsListed rows i → IsListed (rows ++ x ∷ []) i
listed_more rows x i (k, l, e) = (k, omega (arith, l, length_more rows x), read_before rows x k l ∙ e)

pub listed_last : (rows : List ℕ) (x : ℕ) → IsListed (rows ++ x ∷ []) x
listed_last rows x = (length rows, omega (arith, length_more rows x), read_last rows x)

pub near_more : (rows : List ℕ) (x : ℕ) (side : Side) (far : ℚ) (i : ℕ) (r : ℚ) → IsNearOrFar rows side far i r → IsNearOrFar (rows ++ x ∷ []) side far i r
near_more rows x side far i r (inl h) = inl (listed_more rows x i h)
near_more rows x side far i r (inr h) = inr h

-- a row more, that is listed
pub near_next : (rows : List ℕ) (n : ℕ) (side : ℕ → Side) (far r : ℕ → ℚ) → ((i : ℕ) → i < n → IsNearOrFar rows (side i) (far i) i (r i)) → (i : ℕ) → i < n + 1 → IsNearOrFar (rows ++ n ∷ []) (side i) (far i) i (r i)
near_next rows n side far r h i l = by (i == n) refl
  where
    by : (t : Bool) → (i == n) ≡ t → IsNearOrFar (rows ++ n ∷ []) (side i) (far i) i (r i)
    by true e = inl (subst (λ i. IsListed (rows ++ n ∷ []) i) (sym (eqb-true i n e)) (listed_last rows n))
    by false e =
        let other : i ≢ n = eqb-false i n e in
        near_more rows n (side i) (far i) i (r i) (h i (omega (arith, l, other)))

-- or that is far
pub far_next : (rows : List ℕ) (n : ℕ) (side : ℕ → Side) (far r : ℕ → ℚ) → ((i : ℕ) → i < n → IsNearOrFar rows (side i) (far i) i (r i)) → IsFarOn (side n) (far n) (r n) → (i : ℕ) → i < n + 1 → IsNearOrFar rows (side i) (far i) i (r i)
far_next rows n side far r h away i l = by (i == n) refl
  where
    by : (t : Bool) → (i == n) ≡ t → IsNearOrFar rows (side i) (far i) i (r i)
    by true e = inr (subst (λ i. IsFarOn (side i) (far i) (r i)) (sym (eqb-true i n e)) away)
    by false e =
        let other : i ≢ n = eqb-false i n e in
        h i (omega (arith, l, other))

pub half_last : (halves : List ℕ) (x n : ℕ) → length halves ≡ n → slice_index (halves ++ x ∷ []) n ≡ x
half_last halves x n e = subst (λ n. slice_index (halves ++ x ∷ []) n ≡ x) e (read_last halves x)
