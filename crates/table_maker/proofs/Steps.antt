-- One more piece of a text, and one more number of the generator.
use Rattle.std.proofs.Common.{◌≡◌, ℕ, suc, ◌+◌, List, [], ◌∷◌, ◌++◌, ◌≤◌, arith, sym, ap, ◌∙◌, map, append_assoc, refl}
use Rattle.std.specs.List.{flat_map, range_with_len}
use Rattle.std.proofs.lemmas.List.{flat_map_more}
use Rattle.std.proofs.lemmas.List.FromFn.{map-range_with_len_more}
use Rattle.table_maker.specs.Tables.{next_number, number_after}

map_same : (xs : List ℕ) → map (λ x. x) xs ≡ xs
map_same [] = refl
map_same (x ∷ xs) = ap (λ l. x ∷ l) (map_same xs)

range_more : (a n : ℕ) → range_with_len a (n + 1) ≡ range_with_len a n ++ (a + n) ∷ []
range_more a n =
    sym (map_same (range_with_len a (n + 1)))
    ∙ map-range_with_len_more (λ x. x) a n (a + n) refl
    ∙ ap (λ l. l ++ (a + n) ∷ []) (map_same (range_with_len a n))

-- a text of n pieces that are numbered from a, and the next of them, which is piece m
pub one_more : (f : ℕ → List ℕ) (a n m : ℕ) (start before after : List ℕ) → a + n ≡ m
    → before ≡ start ++ flat_map f (range_with_len a n) → after ≡ before ++ f m → after ≡ start ++ flat_map f (range_with_len a (n + 1))
one_more f a n m start before after h b e =
    e ∙ ap (λ l. l ++ f m) b
    ∙ ap (λ k. (start ++ flat_map f (range_with_len a n)) ++ f k) (sym h)
    ∙ flat_map_more f start (range_with_len a n) (a + n)
    ∙ ap (λ l. start ++ flat_map f l) (sym (range_more a n))

-- a line of a head, of all its pieces and of a foot
pub line_made : (f : ℕ → List ℕ) (a n m : ℕ) (start first table whole head foot : List ℕ) → m ≤ n → n ≤ m
    → first ≡ start ++ head → table ≡ first ++ flat_map f (range_with_len a n) → whole ≡ table ++ foot
    → whole ≡ start ++ ((head ++ flat_map f (range_with_len a m)) ++ foot)
line_made f a n m start first table whole head foot h g b t e =
    let same : n ≡ m = omega (arith, h, g) in
    e ∙ ap (λ l. l ++ foot) (t ∙ ap (λ l. l ++ flat_map f (range_with_len a n)) b)
    ∙ ap (λ l. l ++ foot) (append_assoc start head (flat_map f (range_with_len a n)))
    ∙ append_assoc start (head ++ flat_map f (range_with_len a n)) foot
    ∙ ap (λ k. start ++ ((head ++ flat_map f (range_with_len a k)) ++ foot)) same

pub after_more : (z k m : ℕ) → m ≡ k + 1 → next_number (number_after z k) ≡ number_after z m
after_more z k m h = ap (number_after z) (let e : suc k ≡ m = omega (arith, h) in e)
