-- The basis of a vertex lists its basic rows, and so a certificate can have it.
use Rattle.std.proofs.Common.{◌≡◌, ◌≢◌, ◌⊎◌, ◌<◌, ◌≤◌, ◌+◌, ◌-◌, ℕ, zero, suc, List, [], ◌∷◌, All, length, get_or, slice_get, Contains, Some, inl, inr, arith, refl, sym, ap₂, subst}
use Rattle.std.proofs.lemmas.Bool.{cases_lt}
use Rattle.std.proofs.lemmas.List.Kept.{AllPairs-from_increasing}
use Rattle.std.proofs.lemmas.Option.{slice_get_within}
use Rattle.loss_model.specs.declared.problem.Problem.{Problem}
use Rattle.loss_model.specs.declared.vertex.Side.{Side}
use Rattle.loss_model.specs.declared.vertex.Side.TheVariants.{Up, Down, Basic}
use Rattle.loss_model.specs.declared.vertex.Vertex.{Vertex}
use Rattle.loss_model.specs.Vertex.{IsVertexOf}
use Rattle.cert_text.specs.Kept.{basic_from, IsListed}

-- each item is below all later ones, whatever stands for those beyond the end
abbrev Rises : List ℕ → Type 0
Rises xs = (j k d : ℕ) → j < k → k < length xs → get_or xs j d < get_or xs k d

rest_rises : (x : ℕ) (xs : List ℕ) → Rises (x ∷ xs) → Rises xs
rest_rises x xs up j k d l m = up (suc j) (suc k) d (omega (arith, l)) (omega (arith, m))

above_first : (x : ℕ) (xs : List ℕ) → Rises (x ∷ xs) → (n : ℕ) → Contains xs n → x < n
above_first x xs up n c = subst (λ m. x < m) c.2 (up 0 (suc c.0) n (omega arith) (omega (arith, c.1)))

behind_first : (x : ℕ) (xs : List ℕ) (n : ℕ) → Contains xs n → Contains (x ∷ xs) n
behind_first x xs n c = (suc c.0, omega (arith, c.1), c.2)

first_or_behind : (x : ℕ) (xs : List ℕ) (n : ℕ) → Contains (x ∷ xs) n → (x ≡ n) ⊎ Contains xs n
first_or_behind x xs n (zero, l, e) = inl e
first_or_behind x xs n (suc k, l, e) = inr (k, omega (arith, l), e)

-- the rows from i on are those whose side, counted from i, is Basic
record AreBasic (i : ℕ) (sides : List Side) (rows : List ℕ) : Type 0 where
  rises : Rises rows
  late : (n : ℕ) → Contains rows n → i ≤ n
  marked : (k : ℕ) → Contains rows (i + k) → slice_get sides k ≡ Some Basic
  there : (k : ℕ) → slice_get sides k ≡ Some Basic → Contains rows (i + k)

-- a row that isn't Basic is passed over
passed : (i : ℕ) (side : Side) (sides : List Side) (rows : List ℕ) → side ≢ Basic → AreBasic i (side ∷ sides) rows → AreBasic (i + 1) sides rows
passed i side sides rows other h = record {
  rises = h.rises;
  late = λ n c. elim (cases_lt i n) [
    | inl l ↦ omega (arith, l)
    | inr l ↦
        let after = h.late n c in
        let here : n ≡ i + 0 = omega (arith, l, after) in
        absurd (other (cc (h.marked 0 (subst (Contains rows) here c))))
  ];
  marked = λ k c. h.marked (suc k) (subst (Contains rows) (next k) c);
  there = λ k e. subst (Contains rows) (sym (next k)) (h.there (suc k) e);
}
  where
    next : (k : ℕ) → (i + 1) + k ≡ i + suc k
    next k = omega arith

-- a Basic row is the first
first_is : (i : ℕ) (sides : List Side) (x : ℕ) (xs : List ℕ) → AreBasic i (Basic ∷ sides) (x ∷ xs) → x ≡ i
first_is i sides x xs h =
    let after = h.late x (0, omega arith, refl) in
    elim (first_or_behind x xs (i + 0) (h.there 0 refl)) [
      | inl same ↦ omega (arith, same)
      | inr behind ↦ let above = above_first x xs h.rises (i + 0) behind in absurd (omega (arith, above, after))
    ]

taken : (i : ℕ) (sides : List Side) (x : ℕ) (xs : List ℕ) → AreBasic i (Basic ∷ sides) (x ∷ xs) → AreBasic (i + 1) sides xs
taken i sides x xs h = record {
  rises = rest_rises x xs h.rises;
  late = λ n c. let above = above_first x xs h.rises n c in let is = first_is i sides x xs h in omega (arith, above, is);
  marked = λ k c. h.marked (suc k) (behind_first x xs (i + suc k) (subst (Contains xs) (next k) c));
  there = λ k e. elim (first_or_behind x xs (i + suc k) (h.there (suc k) e)) [
    | inl same ↦ let is = first_is i sides x xs h in absurd (omega (arith, same, is))
    | inr behind ↦ subst (Contains xs) (sym (next k)) behind
  ];
}
  where
    next : (k : ℕ) → (i + 1) + k ≡ i + suc k
    next k = omega arith

no_rows : (i : ℕ) (rows : List ℕ) → AreBasic i [] rows → rows ≡ []
no_rows i [] h = refl
no_rows i (x ∷ xs) h =
    let after = h.late x (0, omega arith, refl) in
    let e : x ≡ i + (x - i) = omega (arith, after) in
    absurd (omega (arith, slice_get_within [] (x - i) Basic (h.marked (x - i) (subst (Contains (x ∷ xs)) e (0, omega arith, refl)))))

are_listed : (i : ℕ) (sides : List Side) (rows : List ℕ) → AreBasic i sides rows → rows ≡ basic_from i sides
are_listed i [] rows h = no_rows i rows h
are_listed i (Up ∷ sides) rows h = are_listed (i + 1) sides rows (passed i Up sides rows (λ e. absurd (cc e)) h)
are_listed i (Down ∷ sides) rows h = are_listed (i + 1) sides rows (passed i Down sides rows (λ e. absurd (cc e)) h)
are_listed i (Basic ∷ sides) [] h = let c = h.there 0 refl in absurd (omega (arith, c.1))
are_listed i (Basic ∷ sides) (x ∷ xs) h = ap₂ (λ y ys. y ∷ ys) (first_is i sides x xs h) (are_listed (i + 1) sides xs (taken i sides x xs h))

-- a vertex whose basis has rows of the problem
pub listed_vertex : {F : Type 0} (p : Problem F) (v : Vertex) → IsVertexOf p v → All (λ i. i < length p.rows) v.basis.rows → IsListed v
listed_vertex p v h inside = are_listed 0 v.sides v.basis.rows (record {
  rises = λ j k d l m. AllPairs-from_increasing v.basis.rows h.ascending j k d l m;
  late = λ n c. omega arith;
  marked = λ k c. let here = subst (Contains v.basis.rows) (from_zero k) c in (h.basic k (within k here)).1 here;
  there = λ k e. subst (Contains v.basis.rows) (sym (from_zero k)) ((h.basic k (omega (arith, slice_get_within v.sides k Basic e, h.sides))).0 e);
})
  where
    from_zero : (k : ℕ) → 0 + k ≡ k
    from_zero k = omega arith

    within : (k : ℕ) → Contains v.basis.rows k → k < length p.rows
    within k c = subst (λ n. n < length p.rows) c.2 (inside c.0 k c.1)
