-- Lists that are made item by item.
use Rattle.std.proofs.Common.{◌≡◌, ℕ, ◌+◌, ◌<◌, List, [], ◌∷◌, ◌++◌, length, get_or, map, take, arith, sym, ap, ◌∙◌, append-nil}
use Rattle.std.proofs.lemmas.Grind.{flat_map-append}
use Rattle.std.proofs.lemmas.List.{map-append, take_more}
use Rattle.std.proofs.lemmas.List.FromFn.{map-range_with_len_more}
use Rattle.rank_inversion.specs.declared.column_test.Asked.{Asked}
use Rattle.rank_inversion.specs.AllIntervals.{asked_at, asked_over}

module _ {A B : Type 0} (f : A → B) (xs : List A) (k : ℕ) (x : A) (within : k < length xs) (here : x ≡ get_or xs k x) where
  -- what is made of the first items, with one item more
  pub map_more : map f (take (k + 1) xs) ≡ map f (take k xs) ++ f x ∷ []
  map_more = ap (map f) (take_more xs k x within ∙ ap (λ z. take k xs ++ z ∷ []) (sym here)) ∙ map-append f (take k xs) (x ∷ [])

module _ {F : Type 0} (crit : F) where
  -- what is asked at a quantile, with one column more
  pub column_more : (tau : F) (k : ℕ) → asked_at crit (k + 1) tau ≡ asked_at crit k tau ++ record { column = k; tau = tau; crit = crit } ∷ []
  column_more tau k =
      let one : ℕ → Asked F = λ j. record { column = j; tau = tau; crit = crit } in
      let e : 0 + k ≡ k = omega arith in
      map-range_with_len_more one 0 k k e

  -- what is asked in all, with one quantile more
  pub quantile_more : {A : Type 0} (n : ℕ) (tau : A → F) (xs : List A) (k : ℕ) (x : A) → k < length xs → x ≡ get_or xs k x
      → asked_over crit n (map tau (take (k + 1) xs)) ≡ asked_over crit n (map tau (take k xs)) ++ asked_at crit n (tau x)
  quantile_more n tau xs k x within here =
      ap (asked_over crit n) (map_more tau xs k x within here) ∙ flat_map-append (asked_at crit n) (map tau (take k xs)) (tau x ∷ [])
      ∙ ap (λ l. asked_over crit n (map tau (take k xs)) ++ l) (append-nil (asked_at crit n (tau x)))
