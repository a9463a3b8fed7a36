-- At a basis stands one vertex.
use Rattle.std.specs.Prelude.{◌≡◌, ◌⊎◌, ℕ, zero, suc, ◌<◌, ◌≤◌, List, [], ◌∷◌, length, slice_index, get_or, Contains}
use Rattle.std.specs.List.Sorted.{IsStrictlyIncreasing}
use Rattle.std.proofs.Common.{arith, refl, sym, ap, ap₂, subst, ◌∙◌, inl, inr}
use Rattle.std.proofs.lemmas.Bool.{cases_lt}
use Rattle.std.proofs.lemmas.Grind.{same_number_lists}
use Rattle.std.proofs.lemmas.List.{same_lists}
use Rattle.std.proofs.lemmas.Option.{get_or_from_slice_get}
use Rattle.rational_laws.specs.Fraction.{Fraction}
use Rattle.rational_laws.specs.Rational.{ℚ}
use Rattle.loss_model.specs.declared.problem.Problem.{Problem}
use Rattle.loss_model.specs.declared.vertex.Vertex.{Vertex}
use Rattle.loss_model.specs.Problem.{number_at, sample}
use Rattle.loss_model.proofs.Vertices.{ascending}
use Rattle.basis_model.specs.Basis.{IsBasis}
use Rattle.pivot_model.specs.Duals.{dual}
use Rattle.pivot_model.specs.Laws.{IsSameVertex, numbers}
use Rattle.pivot_model.specs.Results.{IsVertexAt, AreBasicDuals}
use Rattle.pivot_model.specs.Trails.{EndsAt}
use Rattle.pivot_model.proofs.Solved.{any_default}
use Rattle.pivot_model.proofs.Unique.{same_inverse}

-- ---- ascending lists with the same members

abbrev pub IsWithin : List ℕ → List ℕ → Type 0
IsWithin xs ys = (i : ℕ) → Contains xs i → Contains ys i

-- where the items before k are the same, item k of ys is at most that of xs
at_most : (xs ys : List ℕ) (k : ℕ) → IsStrictlyIncreasing xs → IsStrictlyIncreasing ys → IsWithin xs ys → ((j : ℕ) → j < k → slice_index xs j ≡ slice_index ys j) → k < length xs → slice_index ys k ≤ slice_index xs k
at_most xs ys k up up' sub before lk = by (sub (slice_index xs k) (k, lk, any_default xs k (slice_index xs k) 0 lk))
  where
    at : (j : ℕ) → j < length ys → slice_index ys j ≡ slice_index xs k → (j < k) ⊎ (k ≤ j) → (k < j) ⊎ (j ≤ k) → slice_index ys k ≤ slice_index xs k
    at j lj is (inl early) other =
        let less : slice_index xs j < slice_index xs k = ascending xs up j k early lk in
        let same : slice_index xs j ≡ slice_index ys j = before j early in
        absurd (omega (arith, less, same, is))
    at j lj is (inr past) (inl late) =
        let less : slice_index ys k < slice_index ys j = ascending ys up' k j late lj in
        omega (arith, less, is)
    at j lj is (inr past) (inr rest) =
        let here : k ≡ j = omega arith in
        let same : slice_index ys k ≡ slice_index ys j = ap (slice_index ys) here in
        omega (arith, same, is)

    by : (j : ℕ) × (j < length ys) × (get_or ys j (slice_index xs k) ≡ slice_index xs k) → slice_index ys k ≤ slice_index xs k
    by (j, lj, is) = at j lj (any_default ys j 0 (slice_index xs k) lj ∙ is) (cases_lt j k) (cases_lt k j)

same_below : (xs ys : List ℕ) → IsStrictlyIncreasing xs → IsStrictlyIncreasing ys → IsWithin xs ys → IsWithin ys xs → length xs ≡ length ys → (n : ℕ) → n ≤ length xs → (j : ℕ) → j < n → slice_index xs j ≡ slice_index ys j
same_below xs ys up up' sub sup size zero l j lj = absurd (omega arith)
same_below xs ys up up' sub sup size (suc n) l j lj = by (cases_lt j n) (same_below xs ys up up' sub sup size n (omega arith))
  where
    by : (j < n) ⊎ (n ≤ j) → ((j : ℕ) → j < n → slice_index xs j ≡ slice_index ys j) → slice_index xs j ≡ slice_index ys j
    by (inl below) ih = ih j below
    by (inr past) ih =
        let here : n ≡ j = omega arith in
        let down : slice_index ys n ≤ slice_index xs n = at_most xs ys n up up' sub ih (omega arith) in
        let back : slice_index xs n ≤ slice_index ys n = at_most ys xs n up' up sup (λ j l. sym (ih j l)) (omega (arith, l, size)) in
        let same : slice_index xs n ≡ slice_index ys n = omega arith in
        subst (λ j. slice_index xs j ≡ slice_index ys j) here same

same_ascending : (xs ys : List ℕ) → IsStrictlyIncreasing xs → IsStrictlyIncreasing ys → IsWithin xs ys → IsWithin ys xs → length xs ≡ length ys → xs ≡ ys
same_ascending xs ys up up' sub sup size =
    same_number_lists xs ys size (λ k lk. same_below xs ys up up' sub sup size (length xs) (omega arith) k lk)

-- ---- vertices

-- lists of the same numbers
pub same_values : (xs ys : List Fraction) (n : ℕ) → length xs ≡ n → length ys ≡ n → ((k : ℕ) → k < n → number_at xs k ≡ number_at ys k) → numbers xs ≡ numbers ys
same_values [] [] n lx ly h = refl
same_values [] (y ∷ ys) n lx ly h = absurd (omega (arith, lx, ly))
same_values (x ∷ xs) [] n lx ly h = absurd (omega (arith, lx, ly))
same_values (x ∷ xs) (y ∷ ys) n lx ly h =
    ap₂ (λ z zs. z ∷ zs) (h 0 (omega (arith, lx))) (same_values xs ys (length xs) refl (omega (arith, lx, ly)) (λ k l. h (suc k) (omega (arith, lx, l))))

module _ {F : Type 0} (value : F → Fraction) where
  module _ (p : Problem F) (theta : ℚ) (basis : List ℕ) where
    -- with one inverse
    one_with : (a : ℕ → ℕ → ℚ) (v w : Vertex) (basic other : List Fraction) → IsVertexAt value p basis a v → IsVertexAt value p basis a w
        → AreBasicDuals value p theta basis a v basic → AreBasicDuals value p theta basis a w other → IsSameVertex v w × (numbers basic ≡ numbers other)
    one_with a v w basic other hv hw dv dw =
        let rows : v.basis.rows ≡ w.basis.rows = same_ascending v.basis.rows w.basis.rows hv.shape.ascending hw.shape.ascending
        (λ i h. (hw.rows i).1 ((hv.rows i).0 h)) (λ i h. (hv.rows i).1 ((hw.rows i).0 h)) (hv.shape.size ∙ sym hw.shape.size) in
        let sides : v.sides ≡ w.sides = same_lists v.sides w.sides (hv.shape.sides ∙ sym hw.shape.sides)
        (λ k d l. get_or_from_slice_get v.sides k _ d (hv.sides k (omega (arith, l, hv.shape.sides)))
        ∙ sym (get_or_from_slice_get w.sides k _ d (hw.sides k (omega (arith, l, hv.shape.sides))))) in
        let coef : numbers v.coef ≡ numbers w.coef = same_values v.coef w.coef p.columns hv.shape.coef hw.shape.coef (λ k l. hv.coef k l ∙ sym (hw.coef k l)) in (
          record { basis = λ i. record { rows = rows i }; sides = sides; coef = coef },
          same_values basic other p.columns dv.size dw.size
              (λ j l. dv.each j l ∙ ap (λ (rows : List ℕ). dual (sample value p) (slice_index basis) a theta (slice_index rows j)) rows ∙ sym (dw.each j l)),
        )

    pub one_vertex : (a b : ℕ → ℕ → ℚ) (v w : Vertex) (basic other : List Fraction) → IsBasis (sample value p) (slice_index basis) a → IsBasis (sample value p) (slice_index basis) b → EndsAt p.columns a → EndsAt p.columns b
        → IsVertexAt value p basis a v → IsVertexAt value p basis b w → AreBasicDuals value p theta basis a v basic → AreBasicDuals value p theta basis b w other → IsSameVertex v w × (numbers basic ≡ numbers other)
    one_vertex a b v w basic other u u' e e' hv hw dv dw =
        let one : b ≡ a = sym (same_inverse (sample value p) (slice_index basis) a b u u' e e') in
        one_with a v w basic other hv (subst (λ a. IsVertexAt value p basis a w) one hw) dv (subst (λ a. AreBasicDuals value p theta basis a w other) one dw)
