-- How many entries are left without tested columns, and that these are different ones.
use Rattle.std.specs.Prelude.{◌≡◌, ℕ, suc, ◌+◌, ◌-◌, ◌^◌, ◌<◌, ◌≤◌, ◌==◌, ◌≢◌, ◌||◌, Bool, true, false, if◌then◌else◌, List, [], ◌∷◌, All, length, get_or, slice_index, ⊤}
use Rattle.std.specs.List.Sorted.{IsStrictlyIncreasing}
use Rattle.std.proofs.Common.{arith, refl, sym, ap, subst, ◌∙◌, add-one}
use Rattle.std.proofs.lemmas.List.{length-map}
use Rattle.std.proofs.lemmas.List.Elements.{All-head, All-tail, All-get_or, All-map}
use borrow.Author.Tests.{eqb-true, eqb-false}
use Rattle.rational_laws.specs.Selections.{AreDistinct}
use Rattle.frac_core.specs.Limits.{most_rows}
use Rattle.loss_model.specs.declared.problem.Problem.{Problem}
use Rattle.loss_model.specs.declared.problem.Row.{Row}
use Rattle.loss_model.specs.Problem.{IsWellShaped}
use Rattle.loss_model.proofs.Vertices.{ascending}
use Rattle.nested_test.specs.Restricted.{AreTested, is_tested, without, restricted_row, restricted_problem}

-- ---- numbers that rise between two ends

-- numbers from k on, and below n, each below the next
Rises : ℕ → ℕ → List ℕ → Type 0
Rises k n [] = k ≤ n
Rises k n (t ∷ ts) = (k ≤ t) × Rises (t + 1) n ts

-- the first one is at least k
IsFrom : ℕ → List ℕ → Type 0
IsFrom k [] = ⊤
IsFrom k (t ∷ ts) = k ≤ t

rises_more : (t : ℕ) (ts : List ℕ) → IsStrictlyIncreasing (t ∷ ts) → IsStrictlyIncreasing ts
rises_more t ts h j l =
    let one : j + 1 ≡ suc j = add-one j in
    let two : suc j + 1 ≡ suc (j + 1) = omega arith in
    subst (λ m. slice_index (t ∷ ts) (suc j) < slice_index (t ∷ ts) m) two (subst (λ m. slice_index (t ∷ ts) m < slice_index (t ∷ ts) (m + 1)) one (h (j + 1) (omega (arith, l))))

rises_from : (t : ℕ) (ts : List ℕ) → IsStrictlyIncreasing (t ∷ ts) → IsFrom (t + 1) ts
unfolding IsFrom
rises_from t [] h = tt
rises_from t (u ∷ ts) h = let l : t < u = h 0 (omega arith) in omega (arith, l)

rises : (ts : List ℕ) (k n : ℕ) → k ≤ n → IsFrom k ts → IsStrictlyIncreasing ts → All (λ c. c < n) ts → Rises k n ts
unfolding Rises IsFrom
rises [] k n some from h below = some
rises (t ∷ ts) k n some from h below =
    let l : t < n = All-head (λ c. c < n) t ts below in
    (from, rises ts (t + 1) n (omega (arith, l)) (rises_from t ts h) (rises_more t ts h) (All-tail (λ c. c < n) t ts below))

all_rise : (tested : List ℕ) (n : ℕ) → AreTested n tested → Rises 0 n tested
unfolding IsFrom
all_rise tested n h = rises tested 0 n (omega arith) (from tested) h.ascending h.within
  where
    from : (ts : List ℕ) → IsFrom 0 ts
    from [] = tt
    from (t ∷ ts) = omega arith

rises_within : (ts : List ℕ) (k n : ℕ) → Rises k n ts → k + length ts ≤ n
unfolding Rises
rises_within [] k n h = omega (arith, h)
rises_within (t ∷ ts) k n h = omega (arith, h.0, rises_within ts (t + 1) n h.1)

-- and they are different columns
pub distinct_tested : (tested : List ℕ) (n : ℕ) → AreTested n tested → AreDistinct (slice_index tested) (length tested) n
distinct_tested tested n h = record {
  within = λ j l. All-get_or (λ c. c < n) tested j 0 l h.within;
  apart = λ j k l m e. let below = ascending tested h.ascending j k l m in omega (arith, below, e);
}

-- ---- entries without them

-- numbers from above k on don't have k among them
not_tested : (ts : List ℕ) (j k n : ℕ) → Rises j n ts → k < j → is_tested ts k ≡ false
unfolding Rises
not_tested [] j k n h l = refl
not_tested (t ∷ ts) j k n h l =
    by (t == k) refl (not_tested ts (t + 1) k n h.1 (omega (arith, h.0, l)))
  where
    by : (b : Bool) → (t == k) ≡ b → is_tested ts k ≡ false → is_tested (t ∷ ts) k ≡ false
    by true e rest = let same : t ≡ k = eqb-true t k e in absurd (omega (arith, same, h.0, l))
    by false e rest = ap (λ b. b || is_tested ts k) e ∙ rest

module _ {F : Type 0} where
  without_none : (k : ℕ) (xs : List F) → without [] k xs ≡ xs
  without_none k [] = refl
  without_none k (x ∷ xs) = ap (λ z. x ∷ z) (without_none (k + 1) xs)

  -- a number that is passed changes nothing
  without_passed : (t : ℕ) (ts : List ℕ) (k : ℕ) (xs : List F) → t < k → without (t ∷ ts) k xs ≡ without ts k xs
  without_passed t ts k [] l = refl
  without_passed t ts k (x ∷ xs) l =
      ap (λ b. if (b || is_tested ts k) then without (t ∷ ts) (k + 1) xs else x ∷ without (t ∷ ts) (k + 1) xs) (other t k (omega (arith, l)))
      ∙ ap (λ z. if is_tested ts k then z else x ∷ z) (without_passed t ts (k + 1) xs (omega (arith, l)))
    where
      other : (t k : ℕ) → t < k → (t == k) ≡ false
      other t k l = by (t == k) refl
        where
          by : (b : Bool) → (t == k) ≡ b → (t == k) ≡ false
          by true e = let same : t ≡ k = eqb-true t k e in absurd (omega (arith, same, l))
          by false e = e

  size : (ts : List ℕ) (k : ℕ) (xs : List F) → Rises k (k + length xs) ts → length (without ts k xs) + length ts ≡ length xs
  unfolding Rises
  size [] k xs h = ap (λ z. length z + 0) (without_none k xs) ∙ (let e : length xs + 0 ≡ length xs = omega arith in e)
  size (t ∷ ts) k [] h =
      let past : t + 1 + length ts ≤ k + 0 = rises_within ts (t + 1) (k + 0) h.1 in
      absurd (omega (arith, past, h.0))
  size (t ∷ ts) k (x ∷ xs) h =
      by (t == k) refl
      (λ l. size ts (k + 1) xs l) (λ l. size (t ∷ ts) (k + 1) xs l)
    where
      ends : k + suc (length xs) ≡ k + 1 + length xs
      ends = omega arith

      by : (b : Bool) → (t == k) ≡ b
          → (Rises (k + 1) (k + 1 + length xs) ts → length (without ts (k + 1) xs) + length ts ≡ length xs)
          → (Rises (k + 1) (k + 1 + length xs) (t ∷ ts) → length (without (t ∷ ts) (k + 1) xs) + suc (length ts) ≡ length xs)
          → length (without (t ∷ ts) k (x ∷ xs)) + suc (length ts) ≡ suc (length xs)
      by true e here later =
          let same : t ≡ k = eqb-true t k e in
          let rest = here (subst (λ m. Rises (m + 1) (k + 1 + length xs) ts) same (subst (λ m. Rises (t + 1) m ts) ends h.1)) in
          ap (λ b. length (if (b || is_tested ts k) then without (t ∷ ts) (k + 1) xs else x ∷ without (t ∷ ts) (k + 1) xs) + suc (length ts)) e
          ∙ ap (λ z. length z + suc (length ts)) (without_passed t ts (k + 1) xs (omega (arith, same)))
          ∙ (let s : length (without ts (k + 1) xs) + suc (length ts) ≡ suc (length xs) = omega (arith, rest) in s)
      by false e here later =
          let other : t ≢ k = eqb-false t k e in
          let none : is_tested (t ∷ ts) k ≡ false = not_tested (t ∷ ts) (k + 1) k (k + 1 + length xs) above (omega arith) in
          let rest = later above in
          ap (λ b. length (if b then without (t ∷ ts) (k + 1) xs else x ∷ without (t ∷ ts) (k + 1) xs) + suc (length ts)) none
          ∙ (let s : suc (length (without (t ∷ ts) (k + 1) xs)) + suc (length ts) ≡ suc (length xs) = omega (arith, rest) in s)
        where
          above : Rises (k + 1) (k + 1 + length xs) (t ∷ ts)
          above = let other : t ≢ k = eqb-false t k e in (omega (arith, other, h.0), subst (λ m. Rises (t + 1) m ts) ends h.1)

  -- as many as are not tested
  pub size_without : (tested : List ℕ) (n : ℕ) (xs : List F) → AreTested n tested → length xs ≡ n → length (without tested 0 xs) ≡ n - length tested
  size_without tested n xs h e =
      let all : Rises 0 (0 + length xs) tested = subst (λ m. Rises 0 m tested) (let s : n ≡ 0 + length xs = omega (arith, e) in s) (all_rise tested n h) in
      omega (arith, size tested 0 xs all, e)

  -- entries of a well-shaped problem can be numbered
  pub short_rows : (p : Problem F) (rows : List (Row F)) → IsWellShaped p → rows ≡ p.rows → All (λ r. length r.x < 2 ^ 32) rows
  short_rows p rows shaped same = subst (All (λ r. length r.x < 2 ^ 32)) (sym same) (λ k d l. let wide : length (get_or p.rows k d).x ≡ p.columns = shaped.entries k d l in omega (arith, wide, shaped.columns))

  -- the problem without them is well shaped
  pub restricted_shaped : (tested : List ℕ) (p q : Problem F) → IsWellShaped p → AreTested p.columns tested → length tested < p.columns → q ≡ restricted_problem tested p → IsWellShaped q
  restricted_shaped tested p q shaped h left is = subst (λ q. IsWellShaped q) (sym is) here
    where
      here : IsWellShaped (restricted_problem tested p)
      here = record {
        some = omega (arith, left);
        columns = omega (arith, shaped.columns);
        rows = subst (λ n. n ≤ most_rows) (sym (length-map p.rows (restricted_row tested))) shaped.rows;
        entries = All-map (λ r. length r.x ≡ p.columns - length tested) (restricted_row tested) p.rows (λ k d l. size_without tested p.columns (get_or p.rows k d).x h (shaped.entries k d l));
      }
