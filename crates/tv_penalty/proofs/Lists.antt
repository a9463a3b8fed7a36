-- Steps of loops that make lists.
use Rattle.std.proofs.Common.{◌≡◌, ◌<◌, ◌≤◌, ◌+◌, ◌-◌, ℕ, pos, replicate, take, append_assoc, length-take-le, Bool, true, false, List, [], ◌∷◌, ◌++◌, length, get_or, map, sym, ap, ap₂, subst, ◌∙◌, arith}
use Rattle.std.specs.List.{range_with_len}
use Rattle.std.specs.declared.cmp.Ordering.TheVariants.{Less}
use Rattle.std.proofs.lemmas.List.{map-append, map-id, take_more, length-map}
use Rattle.std.proofs.lemmas.List.FromFn.{map-range_with_len_more}
use Rattle.frac_core.specs.declared.frac128.Frac128.{Frac128}
use Rattle.loss_model.proofs.Products.{value_at-item}
use Rattle.design_matrix.specs.Lists.{each}
use Rattle.rational_laws.specs.Order.{cmp_ℚ}
use Rattle.rational_laws.specs.Rational.{ℚ, whole}
use Rattle.rational_laws.proofs.Lists.{mapped_more, map_replicate}
use Rattle.frac_core.specs.Values.{exact, value}
use Rattle.tv_penalty.specs.Smoothings.{knot_at, placed, with_columns}
use Rattle.tv_penalty.specs.Views.{AreAscending}

-- one more item of numbers that count up from the first
pub counted_more : {W Y : Type 0} (g : W → Y) (f : ℕ → Y) (first k j : ℕ) (olds news : List W) (w : W) → first + k ≡ j → map g olds ≡ map f (range_with_len first k) → news ≡ olds ++ w ∷ [] → g w ≡ f j
    → map g news ≡ map f (range_with_len first (k + 1))
counted_more g f first k j olds news w at so_far more made =
    ap (map g) more ∙ map-append g olds (w ∷ []) ∙ ap₂ (λ xs y. xs ++ y ∷ []) so_far made ∙ sym (map-range_with_len_more f first k j at)

-- two numbers that were read one after the other ascend where the knots do
pub read_ascending : (knots : List Frac128) (k j : ℕ) (x y : Frac128) → AreAscending knots → j ≡ k + 1 → j < length knots → x ≡ get_or knots k x → y ≡ get_or knots j y → cmp_ℚ (exact x) (exact y) ≡ Less
read_ascending knots k j x y up next l hx hy =
    ap₂ cmp_ℚ (sym (value_at-item value knots k x (omega (arith, next, l)) hx)) (sym (value_at-item value knots j y l hy))
    ∙ ap (λ i. cmp_ℚ (knot_at knots k) (knot_at knots i)) next ∙ up k (omega (arith, next, l))

-- what holds of three numbers that were read holds of the knots
pub at_knots : (P : ℚ → ℚ → ℚ → Type 0) (knots : List Frac128) (k : ℕ) (x y z : Frac128) → k + 2 < length knots → x ≡ get_or knots k x → y ≡ get_or knots (k + 1) y → z ≡ get_or knots (k + 2) z
    → P (exact x) (exact y) (exact z) → P (knot_at knots k) (knot_at knots (k + 1)) (knot_at knots (k + 2))
at_knots P knots k x y z l hx hy hz h =
    subst (λ v. P v (knot_at knots (k + 1)) (knot_at knots (k + 2))) (sym (value_at-item value knots k x (omega arith) hx))
    (subst (λ v. P (exact x) v (knot_at knots (k + 2))) (sym (value_at-item value knots (k + 1) y (omega arith) hy))
    (subst (λ v. P (exact x) (exact y) v) (sym (value_at-item value knots (k + 2) z l hz)) h))

-- at most one knot has no column
pub columns_of_knots : {A : Type 0} (b : Bool) (xs : List A) → length xs ≤ length (with_columns b xs) + 1
columns_of_knots false xs = omega arith
columns_of_knots true [] = omega arith
columns_of_knots true (x ∷ xs) = omega arith

-- the same of the items themselves
pub pushed_more : {X Y : Type 0} (same : Y → Y) (f : X → Y) (xs : List X) (k : ℕ) (x : X) (start olds news : List Y) (w : Y) → k < length xs → x ≡ get_or xs k x → olds ≡ start ++ map f (take k xs) → news ≡ olds ++ w ∷ [] → w ≡ f x
    → news ≡ start ++ map f (take (k + 1) xs)
pushed_more same f xs k x start olds news w within here so_far more made =
    sym (map-id news) ∙ mapped_more (λ y. y) f xs k x start olds news w within here (map-id olds ∙ so_far) more made

each_more : {A B : Type 0} (f : ℕ → A → B) (k : ℕ) (xs : List A) (x : A) → each f k (xs ++ x ∷ []) ≡ each f k xs ++ f (k + length xs) x ∷ []
each_more f k [] x = ap (λ n. f n x ∷ []) (omega arith)
each_more f k (y ∷ ys) x = ap (λ z. f k y ∷ z) (each_more f (k + 1) ys x ∙ ap (λ n. each f (k + 1) ys ++ f n x ∷ []) (omega arith))

-- one more item that is numbered
pub each_pushed : {W V X Y : Type 0} (g : W → Y) (see : V → X) (f : ℕ → X → Y) (xs : List V) (k : ℕ) (x : V) (start : List Y) (olds news : List W) (w : W) → k < length xs → x ≡ get_or xs k x
    → map g olds ≡ start ++ each f 0 (map see (take k xs)) → news ≡ olds ++ w ∷ [] → g w ≡ f k (see x)
    → map g news ≡ start ++ each f 0 (map see (take (k + 1) xs))
each_pushed g see f xs k x start olds news w within here so_far more made =
    let n : 0 + length (map see (take k xs)) ≡ k = omega (arith, length-map (take k xs) see, length-take-le k xs (omega arith)) in
    ap (map g) more ∙ map-append g olds (w ∷ []) ∙ ap₂ (λ z y. z ++ y ∷ []) so_far (made ∙ ap (λ y. f k (see y)) here ∙ ap (λ m. f m (see (get_or xs k x))) (sym n))
    ∙ append_assoc start (each f 0 (map see (take k xs))) (f (0 + length (map see (take k xs))) (see (get_or xs k x)) ∷ [])
    ∙ ap (λ z. start ++ z) (sym (each_more f 0 (map see (take k xs)) (see (get_or xs k x))) ∙ ap (each f 0) (sym (map-append see (take k xs) (get_or xs k x ∷ [])) ∙ ap (map see) (sym (take_more xs k x within))))

-- noughts, the entries, and noughts up to the last column
pub placed_is : (columns before after : ℕ) (nought nought' : Frac128) (entries front both zeros lent all : List Frac128) → exact nought ≡ whole (pos 0) → exact nought' ≡ whole (pos 0)
    → front ≡ replicate before nought → both ≡ front ++ entries → zeros ≡ replicate after nought' → lent ≡ zeros → all ≡ both ++ lent → after ≡ columns - (before + length entries)
    → map exact all ≡ placed columns before (map exact entries)
placed_is columns before after nought nought' entries front both zeros lent all zero_is zero_is' f b z l a count =
    ap (map exact) (a ∙ ap₂ ◌++◌ (b ∙ ap (λ x. x ++ entries) f) (l ∙ z)) ∙ map-append exact (replicate before nought ++ entries) (replicate after nought')
    ∙ ap₂ ◌++◌ (map-append exact (replicate before nought) entries ∙ ap (λ x. x ++ map exact entries) (map_replicate exact before nought ∙ ap (replicate before) zero_is)) (map_replicate exact after nought' ∙ ap (replicate after) zero_is')
    ∙ append_assoc (replicate before (whole (pos 0))) (map exact entries) (replicate after (whole (pos 0)))
    ∙ ap (λ n. replicate before (whole (pos 0)) ++ (map exact entries ++ replicate n (whole (pos 0)))) (count ∙ ap (λ n. columns - (before + n)) (sym (length-map entries exact)))
