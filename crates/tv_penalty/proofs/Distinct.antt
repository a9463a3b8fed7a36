-- A sorted list without repeats is the list of levels.
use Rattle.std.specs.Prelude.{All, AllPairs, Any, Contains}
use Rattle.std.specs.Cmp.{IsTotalOrder, tied_itself}
use Rattle.std.specs.Fn.{Called}
use Rattle.std.specs.List.{dedup}
use Rattle.std.specs.Ordering.{is_lt}
use Rattle.std.specs.List.Sorted.{IsPermutation, IsSorted, IsSortedByClosure, IsStrictlySortedBy}
use Rattle.std.specs.declared.cmp.Ordering.{Ordering}
use Rattle.std.proofs.Common.{◌≡◌, ◌⊎◌, ◌<◌, ◌≤◌, ◌+◌, ℕ, Some, None, slice_get, zero, suc, length, get_or, List, [], ◌∷◌, Less, inl, inr, refl, sym, ap, ap₂, subst, ◌∙◌, arith}
use Rattle.std.proofs.lemmas.Fn.{always_returns_same}
use Rattle.std.proofs.lemmas.List.{get_or_default}
use Rattle.std.proofs.lemmas.Option.{slice_get_cases}
use Rattle.std.proofs.lemmas.List.Elements.{All-head, All-tail, All-contains, All-contains_itself}
use Rattle.std.proofs.lemmas.List.Kept.{AllPairs-cons, Contains-dedup, Contains-from_dedup, IsStrictlySortedBy-dedup}
use Rattle.std.proofs.lemmas.List.Sorted.{Contains-permutation, IsPermutation-sym, ranks_by}
use Rattle.std.proofs.lemmas.Map.Keys.{sorted_tail}
use Rattle.std.proofs.lemmas.Map.Views.{All-after_first}
use denote.Param.Members.{Mut}
use denote.Ref.{Bor}
use Rattle.frac_core.specs.declared.frac128.Frac128.{Frac128}
use Rattle.rational_laws.specs.Order.{cmp_ℚ}
use Rattle.frac_core.specs.Values.{exact, value}
use Rattle.frac_core.proofs.Values.{same_number}
use Rattle.loss_model.proofs.Products.{value_at-item}
use Rattle.design_matrix.specs.Laws.{AreDistinctCells, LevelsOfNumbers}
use Rattle.design_matrix.specs.Levels.{levels_of, number_order}
use Rattle.tv_penalty.specs.Smoothings.{knot_at}
use Rattle.tv_penalty.specs.Views.{AreAscending}
use Rattle.tv_penalty.proofs.Values.{parts_equivalence, parts_same, parts_ties, same_parts, total_numbers}

module _ {K : Type 0} (order : K → K → Ordering) (total : IsTotalOrder order) where
  abbrev Before : K → K → Type 0
  Before a b = order a b ≡ Less

  not_before_itself : (x : K) → Before x x → ⊥
  not_before_itself x h = let e = tied_itself total x in cc (h, e)

  contains_cases : (x z : K) (xs : List K) → Contains (x ∷ xs) z → (x ≡ z) ⊎ Contains xs z
  contains_cases x z xs (zero, l, e) = inl e
  contains_cases x z xs (suc k, l, e) = inr (k, omega arith, e)

  -- heads of ascending lists that hold each other's are the same
  same_head : (x y : K) (xs ys : List K) → All (Before x) xs → All (Before y) ys → Contains (y ∷ ys) x → Contains (x ∷ xs) y → x ≡ y
  same_head x y xs ys hx hy a b = by (contains_cases y x ys a) (contains_cases x y xs b)
    where
      by : (y ≡ x) ⊎ Contains ys x → (x ≡ y) ⊎ Contains xs y → x ≡ y
      by (inl e) s = sym e
      by (inr p) (inl e) = e
      by (inr p) (inr q) = absurd (not_before_itself x (total.trans x y x (All-contains (Before x) xs y hx q) (All-contains (Before y) ys x hy p)))

  -- what the tail holds is in the tail of a list with that head
  held_later : (x : K) (xs ys : List K) → All (Before x) xs → All (Contains (x ∷ ys)) xs → All (Contains ys) xs
  held_later x xs ys above h k d l = by (contains_cases x (get_or xs k d) ys (h k d l))
    where
      by : (x ≡ get_or xs k d) ⊎ Contains ys (get_or xs k d) → Contains ys (get_or xs k d)
      by (inl e) = absurd (not_before_itself x (subst (Before x) (sym e) (above k d l)))
      by (inr p) = p

  later : (x : K) (xs : List K) → AllPairs Before (x ∷ xs) → AllPairs Before xs
  later x xs h i j d lt within = h (suc i) (suc j) d (omega arith) (omega arith)

  first : (x : K) (xs : List K) → AllPairs Before (x ∷ xs) → All (Before x) xs
  first x xs h k d within = h zero (suc k) d (omega arith) (omega arith)

  -- ascending lists of the same items are the same
  unique : (xs ys : List K) → AllPairs Before xs → AllPairs Before ys → All (Contains ys) xs → All (Contains xs) ys → xs ≡ ys
  unique [] [] a b c d = refl
  unique [] (y ∷ ys) a b c d = absurd (none (d zero y (omega arith)))
    where
      none : Contains [] y → ⊥
      none (k, l, e) = omega arith
  unique (x ∷ xs) [] a b c d = absurd (none (c zero x (omega arith)))
    where
      none : Contains [] x → ⊥
      none (k, l, e) = omega arith
  unique (x ∷ xs) (y ∷ ys) a b c d =
      let e : x ≡ y = same_head x y xs ys (first x xs a) (first y ys b) (All-head (Contains (y ∷ ys)) x xs c) (All-head (Contains (x ∷ xs)) y ys d) in
      let c' : All (Contains (x ∷ ys)) xs = subst (λ z. All (Contains (z ∷ ys)) xs) (sym e) (All-tail (Contains (y ∷ ys)) x xs c) in
      let d' : All (Contains (y ∷ xs)) ys = subst (λ z. All (Contains (z ∷ xs)) ys) e (All-tail (Contains (x ∷ xs)) y ys d) in
      ap₂ ◌∷◌ e (unique xs ys (later x xs a) (later y ys b) (held_later x xs ys (first x xs a) c') (held_later y ys xs (first y ys b) d'))

  pairs : (xs : List K) → IsStrictlySortedBy order xs → AllPairs Before xs
  pairs [] h = λ i j d lt within. absurd (omega arith)
  pairs (x ∷ xs) h = AllPairs-cons Before x xs (All-after_first order x xs h) (pairs xs (sorted_tail order x xs h))

-- numbers that were sorted, and of which neighbours of the same parts were taken away, are the levels
pub sorted_levels : LevelsOfNumbers → (cells sorted : List Frac128) → IsPermutation cells sorted → IsSorted number_order sorted → dedup same_parts sorted ≡ levels_of number_order cells
sorted_levels law cells sorted moved up =
    unique number_order total_numbers (dedup same_parts sorted) (levels_of number_order cells)
    (pairs number_order total_numbers (dedup same_parts sorted) (IsStrictlySortedBy-dedup total_numbers parts_ties sorted up))
    ls.ascending there back
  where
    ls : AreDistinctCells number_order (λ level cell. exact level ≡ exact cell) cells (levels_of number_order cells)
    ls = law cells

    there : All (Contains (levels_of number_order cells)) (dedup same_parts sorted)
    there k d l =
        let y = get_or (dedup same_parts sorted) k d in
        let held : Contains cells y = Contains-permutation sorted cells y (IsPermutation-sym cells sorted moved) (Contains-from_dedup same_parts sorted y (All-contains_itself (dedup same_parts sorted) k d l)) in
        let level = All-contains (λ cell. Any (λ l. exact l ≡ exact cell) (levels_of number_order cells)) cells y ls.complete held in
        subst (Contains (levels_of number_order cells)) (same_number level.1 y level.4) (level.0, level.2, level.3)

    back : All (Contains (dedup same_parts sorted)) (levels_of number_order cells)
    back k d l =
        let z = get_or (levels_of number_order cells) k d in
        Contains-dedup parts_equivalence parts_same sorted z (Contains-permutation cells sorted z moved (ls.taken k d l))

-- what a sort by the closure of their order ensures
pub sorted_numbers : {F : Type 0} {g : Mut F (Bor Frac128 × (Bor Frac128 × Unit {0})) Ordering} {f : F} (xs : List Frac128) → IsSortedByClosure g f xs
    → ((a : Bor Frac128 × (Bor Frac128 × Unit {0})) (r : Ordering) (f' : F) → Called g f a r f' → (r ≡ number_order a.0.now a.1.0.now) × (f' ≡ f))
    → IsSorted number_order xs
sorted_numbers {g = g} {f = f} xs up h =
    up (λ x y. is_lt (number_order x y)) (ranks_by total_numbers (λ x. x))
    (always_returns_same g (λ a r. is_lt r ≡ is_lt (number_order a.0.now a.1.0.now)) f (λ a r f' k. (ap is_lt (h a r f' k).0, (h a r f' k).1)))

-- levels ascend from each knot to the next
pub ascending_levels : LevelsOfNumbers → (cells : List Frac128) → AreAscending (levels_of number_order cells)
ascending_levels law cells k l = by (slice_get_cases ks k).1
  where
    ks : List Frac128
    ks = levels_of number_order cells

    at_knot : (i : ℕ) (x : Frac128) → i < length ks → knot_at ks i ≡ exact (get_or ks i x)
    at_knot i x li = value_at-item value ks i (get_or ks i x) li (get_or_default ks i x (get_or ks i x) li)

    by : ((x : Frac128) × (k < length ks) × (slice_get ks k ≡ Some x) × (get_or ks k x ≡ x)) ⊎ ((length ks ≤ k) × (slice_get ks k ≡ None)) → cmp_ℚ (knot_at ks k) (knot_at ks (k + 1)) ≡ Less
    by (inl w) = ap₂ cmp_ℚ (at_knot k w.0 (omega arith)) (at_knot (k + 1) w.0 l) ∙ (law cells).ascending k (k + 1) w.0 (omega arith) l
    by (inr w) = absurd (omega arith)
