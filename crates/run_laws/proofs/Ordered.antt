-- The stable order of a list by a number of each item is one list.
use Rattle.std.proofs.Common.{◌≡◌, ◌<◌, ◌≤◌, ◌&&◌, ℕ, suc, Bool, true, false, cond, not, nat_lt, List, [], ◌∷◌, filter, length, get_or, arith, inl, inr, refl, sym, ap, ap₂, ◌∙◌}
use Rattle.std.specs.List.Sorted.{IsNonDecreasingBy, IsSortedByKey, IsStableByKey}
use Rattle.std.specs.Ordering.{is_lt, nat_cmp}
use Rattle.std.specs.declared.cmp.Ordering.TheVariants.{Less, Equal, Greater}
use Rattle.std.proofs.lemmas.Bool.{ltb-true, lt-ltb, cases_lt}
use Rattle.std.proofs.lemmas.List.Sorted.{IsNonDecreasingBy-from_sort}

is_less : (b c : Bool) → is_lt (cond b Less (cond c Equal Greater)) ≡ b
is_less true c = refl
is_less false true = refl
is_less false false = refl

not_less : (a b : ℕ) → b ≤ a → nat_lt a b ≡ false
not_less a b l = by (nat_lt a b) refl
  where
    by : (t : Bool) → nat_lt a b ≡ t → nat_lt a b ≡ false
    by true e = let m = ltb-true a b e in absurd (omega (arith, l, m))
    by false e = e

module _ {X : Type 0} (n : X → ℕ) where
  -- neither comes before the other
  abbrev tie : X → X → Bool
  tie x y = not (is_lt (nat_cmp (n x) (n y))) && not (is_lt (nat_cmp (n y) (n x)))

  ties : (x y : X) → n x ≡ n y → tie x y ≡ true
  ties x y e =
      ap₂ (λ b c. not b && not c) (is_less (nat_lt (n x) (n y)) _ ∙ not_less (n x) (n y) (omega (arith, e))) (is_less (nat_lt (n y) (n x)) _ ∙ not_less (n y) (n x) (omega (arith, e)))

  unlike : (x y : X) → n x < n y → tie x y ≡ false
  unlike x y l = ap (λ b. not b && not (is_lt (nat_cmp (n y) (n x)))) (is_less (nat_lt (n x) (n y)) _ ∙ lt-ltb (n x) (n y) l)

  -- no number of the list is below m
  abbrev FromOn : ℕ → List X → Type 0
  FromOn m [] = Unit {0}
  FromOn m (x ∷ xs) = (m ≤ n x) × FromOn m xs

  abbrev Rises : List X → Type 0
  Rises [] = Unit {0}
  Rises (x ∷ xs) = FromOn (n x) xs × Rises xs

  from_on : (m : ℕ) (xs : List X) → ((k : ℕ) (d : X) → k < length xs → m ≤ n (get_or xs k d)) → FromOn m xs
  from_on m [] h = tt
  from_on m (x ∷ xs) h = (h 0 x (omega arith), from_on m xs (λ k d l. h (suc k) d (omega (arith, l))))

  rises : (xs : List X) → IsNonDecreasingBy n xs → Rises xs
  rises [] h = tt
  rises (x ∷ xs) h = (from_on (n x) xs (λ k d l. h 0 (suc k) d (omega arith) (omega (arith, l))), rises xs (λ i j d l m. h (suc i) (suc j) d (omega (arith, l)) (omega (arith, m))))

  -- what comes before all of a list ties with none of it
  none_tie : (x : X) (m : ℕ) (xs : List X) → n x < m → FromOn m xs → filter (tie x) xs ≡ []
  none_tie x m [] l h = refl
  none_tie x m (y ∷ ys) l h = ap (λ b. cond b (y ∷ filter (tie x) ys) (filter (tie x) ys)) (unlike x y (omega (arith, l, h.0))) ∙ none_tie x m ys l h.1

  first_ties : (x : X) (xs : List X) → filter (tie x) (x ∷ xs) ≡ x ∷ filter (tie x) xs
  first_ties x xs = ap (λ b. cond b (x ∷ filter (tie x) xs) (filter (tie x) xs)) (ties x x refl)

  abbrev Alike : List X → List X → Type 0
  Alike xs ys = (x : X) → filter (tie x) xs ≡ filter (tie x) ys

  from_first : (x : X) (xs : List X) → FromOn (n x) xs → FromOn (n x) (x ∷ xs)
  from_first x xs h = (omega arith, h)

  -- the first items of two lists that are alike have the same number
  no_lower : (x y : X) (xs ys : List X) → FromOn (n y) ys → Alike (x ∷ xs) (y ∷ ys) → n y ≤ n x
  no_lower x y xs ys from alike = elim (cases_lt (n x) (n y)) [
    | inl l ↦ absurd (cc (sym (first_ties x xs) ∙ alike x ∙ none_tie x (n y) (y ∷ ys) l (from_first y ys from)))
    | inr l ↦ l
  ]

  -- without the first item they are still alike
  rest_alike : (b : Bool) (x : X) (us vs : List X) → cond b (x ∷ us) us ≡ cond b (x ∷ vs) vs → us ≡ vs
  rest_alike true x us vs h = cc h
  rest_alike false x us vs h = h

  one_list : (xs ys : List X) → Rises xs → Rises ys → Alike xs ys → xs ≡ ys
  one_list [] [] p q alike = refl
  one_list [] (y ∷ ys) p q alike = absurd (cc (alike y ∙ first_ties y ys))
  one_list (x ∷ xs) [] p q alike = absurd (cc (sym (first_ties x xs) ∙ alike x))
  one_list (x ∷ xs) (y ∷ ys) p q alike =
      let up = no_lower x y xs ys q.0 alike in
      let down = no_lower y x ys xs p.0 (λ z. sym (alike z)) in
      let same : x ≡ y = first_is (sym (first_ties x xs) ∙ alike x ∙ ap (λ b. cond b (y ∷ filter (tie x) ys) (filter (tie x) ys)) (ties x y (omega (arith, up, down)))) in
      let next : Alike xs ys = λ z. rest_alike (tie z x) x (filter (tie z) xs) (filter (tie z) ys) (alike z ∙ ap (λ w. filter (tie z) (w ∷ ys)) (sym same)) in
      ap₂ (λ z zs. z ∷ zs) same (one_list xs ys p.1 q.1 next)
    where
      first_is : {us vs : List X} → x ∷ us ≡ y ∷ vs → x ≡ y
      first_is h = cc h

  -- two stable orders of one list
  pub one_order : (xs ys zs : List X) → IsSortedByKey n nat_cmp ys → IsStableByKey n nat_cmp xs ys → IsSortedByKey n nat_cmp zs → IsStableByKey n nat_cmp xs zs → ys ≡ zs
  one_order xs ys zs sorted stable sorted' stable' =
      one_list ys zs (rises ys (IsNonDecreasingBy-from_sort n ys sorted)) (rises zs (IsNonDecreasingBy-from_sort n zs sorted')) (λ x. stable x ∙ sym (stable' x))
