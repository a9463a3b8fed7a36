-- On records and columns.
use Rattle.std.proofs.Common.{◌≡◌, ◌∙◌, ◌<◌, ◌≤◌, ◌+◌, ℕ, zero, suc, List, [], ◌∷◌, ◌++◌, length, take, drop, get_or, set, replicate, refl, sym, ap, arith, add-one, add-zero}
use Rattle.std.proofs.lemmas.List.{append-nil, length-drop, map-append, take-append-drop}
use Rattle.data_frame.specs.Records.{Row, Text}
use Rattle.data_frame.specs.Columns.{cell_at, columns_from, with_row}

-- one more column gets its cell
next_column : (old : List (List Text)) (first i place : ℕ) (row : Row) → i < length old → place ≡ first + i
    → set (with_row (take i old) first row ++ drop i old) i (get_or (with_row (take i old) first row ++ drop i old) i [] ++ cell_at place row ∷ [])
    ≡ with_row (take (suc i) old) first row ++ drop (suc i) old
unfolding with_row
next_column [] first i place row lt e = absurd (omega arith)
next_column (c ∷ old) first zero place row lt e = ap (λ (p : ℕ). (c ++ cell_at p row ∷ []) ∷ old) (e ∙ add-zero first)
next_column (c ∷ old) first (suc i) place row lt e =
    ap (λ (rest : List (List Text)). (c ++ cell_at first row ∷ []) ∷ rest) (next_column old (first + 1) i place row (omega arith) (omega arith))

pub column_extended : (old now : List (List Text)) (first i place : ℕ) (row : Row) (cells : List Text) → i < length old → place ≡ first + i
    → now ≡ with_row (take i old) first row ++ drop i old → cells ≡ get_or now i [] ++ cell_at place row ∷ []
    → set now i cells ≡ with_row (take (i + 1) old) first row ++ drop (i + 1) old
column_extended old now first i place row cells lt e is more = rw (more, is, add-one) (next_column old first i place row lt e)

pub none_extended : (old : List (List Text)) (first : ℕ) (row : Row) → old ≡ with_row (take 0 old) first row ++ drop 0 old
unfolding with_row
none_extended old first row = refl

-- the columns of one more record
pub one_more_row : (rows : List Row) (row : Row) (first n : ℕ) → with_row (columns_from rows first n) first row ≡ columns_from (rows ++ row ∷ []) first n
unfolding with_row columns_from
one_more_row rows row first zero = refl
one_more_row rows row first (suc n) =
    rw (one_more_row rows row (first + 1) n) (ap (λ (cells : List Text). cells ∷ columns_from (rows ++ row ∷ []) (first + 1) n) (sym (map-append (cell_at first) rows (row ∷ []))))

pub no_rows : (first n : ℕ) → columns_from [] first n ≡ replicate n []
unfolding columns_from
no_rows first zero = refl
no_rows first (suc n) = ap (λ (rest : List (List Text)). [] ∷ rest) (no_rows (first + 1) n)

-- the record at a place, where what is left from there on is known
pub record Splits (xs : List Row) (n : ℕ) (x : Row) (rest : List Row) : Type 0 where
  pub within : n < length xs
  pub front : take (n + 1) xs ≡ take n xs ++ x ∷ []
  pub back : drop (n + 1) xs ≡ rest

splits : (xs : List Row) (n : ℕ) (x : Row) (rest : List Row) → drop n xs ≡ x ∷ rest
    → (n < length xs) × (take (suc n) xs ≡ take n xs ++ x ∷ []) × (drop (suc n) xs ≡ rest)
splits [] zero x rest e = absurd (cc e)
splits [] (suc n) x rest e = absurd (cc e)
splits (y ∷ ys) zero x rest e =
    let same : y ≡ x = cc e in
    let left : ys ≡ rest = cc e in
    (omega arith, ap (λ (z : Row). z ∷ []) same, left)
splits (y ∷ ys) (suc n) x rest e =
    let h = splits ys n x rest e in
    (omega (arith, h.0), ap (λ (zs : List Row). y ∷ zs) h.1, h.2)

pub split_at : (xs : List Row) (n : ℕ) (x : Row) (rest : List Row) → drop n xs ≡ x ∷ rest → Splits xs n x rest
split_at xs n x rest e =
    let h = splits xs n x rest e in
    record { within = h.0; front = rw add-one h.1; back = rw add-one h.2 }

pub all_taken : (xs : List Row) (n : ℕ) → drop n xs ≡ [] → take n xs ≡ xs
all_taken xs n e = sym (append-nil (take n xs)) ∙ ap (λ (ys : List Row). take n xs ++ ys) (sym e) ∙ take-append-drop n xs

pub all_counted : (xs : List Row) (n : ℕ) → n ≤ length xs → drop n xs ≡ [] → n ≡ length xs
all_counted xs n le e = omega (arith, length-drop n xs, ap length e)
