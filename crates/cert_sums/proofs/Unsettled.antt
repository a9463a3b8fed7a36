-- Totals of lines as rows pass from side to side.
use Rattle.std.specs.Prelude.{◌≡◌, ℕ, zero, suc, ◌+◌, ◌<◌, ℤ, pos, ◌+ℤ◌, ◌*ℤ◌, List, [], ◌∷◌, ◌++◌, length, get_or, slice_get, Bool, true, false, cond, Option, Some, None, All}
use Rattle.std.specs.Option.{option_map_or}
use Rattle.std.proofs.Common.{arith, refl, sym, ap, ap₂, subst, ◌∙◌, below_more}
use Rattle.std.proofs.lemmas.List.{get_or_append_left}
use Rattle.std.proofs.Math.Seq.{get_or-append_seam}
use Rattle.rational_laws.specs.Solver.{number, negated, ◌⊞◌, ◌⊟◌, ◌⊠◌, v0, v1, v2}
use Rattle.rational_laws.specs.Rational.{ℚ, ◌+ℚ◌, ◌-ℚ◌, ◌*ℚ◌, neg_ℚ, whole}
use Rattle.rational_laws.specs.RationalSums.{sum_ℚ}
use Rattle.rational_laws.proofs.RationalLaws.{whole-add, whole-mul, ring_ℚ}
use Rattle.rational_laws.proofs.RationalSumLaws.{sum_ℚ-next, sum_ℚ-same, sum_ℚ-mix, sum_ℚ-zero}
use Rattle.rational_laws.proofs.Lists.{length_pushed}
use Rattle.loss_model.specs.declared.vertex.Side.{Side}
use Rattle.loss_model.specs.declared.vertex.Side.TheVariants.{Up, Down, Basic}
use Rattle.rational_laws.specs.WholeLists.{whole_at}
use Rattle.cert_sums.specs.Sums.{cell_at}
use Rattle.cert_sums.specs.declared.table.WholeRow.{WholeRow}
use Rattle.cert_sums.specs.declared.slopes.Part.{Part}
use Rattle.cert_sums.specs.declared.slopes.Part.TheVariants.{Start, Slope}
use Rattle.cert_sums.specs.Slopes.{side_of, part_of, line_on, part_at, line_total, part_change, is_settled, unsettled_rows, basic_part, listed_total}

-- the sum of a number of each row of a list
abbrev pub sum_over : List ℕ → (ℕ → ℚ) → ℚ
sum_over rows f = sum_ℚ (length rows) (λ j. f (get_or rows j 0))

-- a term more of a sum that is added to something
pub added_next : (n : ℕ) (f : ℕ → ℚ) (a s r : ℚ) → s ≡ a +ℚ sum_ℚ n f → r ≡ s +ℚ f n → r ≡ a +ℚ sum_ℚ (n + 1) f
added_next n f a s r h e =
    e ∙ ap (λ z. z +ℚ f n) h ∙ ring_ℚ (a ∷ sum_ℚ n f ∷ f n ∷ []) ((v0 ⊞ v1) ⊞ v2) (v0 ⊞ (v1 ⊞ v2)) refl
    ∙ ap (λ z. a +ℚ z) (sym (sum_ℚ-next n f))

-- a product more
pub product_more : (s m x y r : ℤ) (c : ℚ) → y ≡ m *ℤ x → r ≡ s +ℤ y → whole x ≡ c → whole r ≡ whole s +ℚ (c *ℚ whole m)
product_more s m x y r c e f h =
    ap whole f ∙ whole-add s y ∙ ap (λ z. whole s +ℚ z) (ap whole e ∙ whole-mul m x ∙ ap (λ z. whole m *ℚ z) h ∙ ring_ℚ (whole m ∷ c ∷ []) (v0 ⊠ v1) (v1 ⊠ v0) refl)

-- a line in whole numbers at a quantile
pub line_sum : (a b f g l : ℤ) (scale : ℕ) (at : ℤ) (x y : ℚ) → f ≡ a *ℤ pos scale → g ≡ b *ℤ at → l ≡ f +ℤ g → whole a ≡ x → whole b ≡ y → whole l ≡ (whole (pos scale) *ℚ x) +ℚ (whole at *ℚ y)
line_sum a b f g l scale at x y ef eg e hx hy =
    ap whole e ∙ whole-add f g
    ∙ ap₂ ◌+ℚ◌ (ap whole ef ∙ whole-mul a (pos scale) ∙ ap (λ z. z *ℚ whole (pos scale)) hx ∙ ring_ℚ (x ∷ whole (pos scale) ∷ []) (v0 ⊠ v1) (v1 ⊠ v0) refl)
    (ap whole eg ∙ whole-mul b at ∙ ap (λ z. z *ℚ whole at) hy ∙ ring_ℚ (y ∷ whole at ∷ []) (v0 ⊠ v1) (v1 ⊠ v0) refl)

-- a difference
pub difference : (d m k : ℤ) (a b : ℚ) → m ≡ d +ℤ k → whole m ≡ a → whole k ≡ b → whole d ≡ a -ℚ b
difference d m k a b e hm hk =
    ring_ℚ (whole d ∷ b ∷ []) v0 ((v0 ⊞ v1) ⊟ v1) refl ∙ ap (λ z. z -ℚ b) (ap (λ z. whole d +ℚ z) (sym hk) ∙ sym (whole-add d k) ∙ ap whole (sym e) ∙ hm)

pub settled_same : (old new : Side) → is_settled old new ≡ true → old ≡ new
settled_same Up Up e = refl
settled_same Up Down e = absurd (cc e)
settled_same Up Basic e = absurd (cc e)
settled_same Down Up e = absurd (cc e)
settled_same Down Down e = refl
settled_same Down Basic e = absurd (cc e)
settled_same Basic new e = absurd (cc e)

pub settled_outside : (old new : Side) (b : ℚ) → is_settled old new ≡ true → basic_part new b ≡ whole (pos 0)
settled_outside old Up b e = refl
settled_outside old Down b e = refl
settled_outside Up Basic b e = absurd (cc e)
settled_outside Down Basic b e = absurd (cc e)
settled_outside Basic Basic b e = absurd (cc e)

sum_over_pushed : (xs : List ℕ) (n : ℕ) (f : ℕ → ℚ) → sum_over (xs ++ n ∷ []) f ≡ sum_over xs f +ℚ f n
sum_over_pushed xs n f =
    let g = λ (j : ℕ). f (get_or (xs ++ n ∷ []) j 0) in
    ap (λ m. sum_ℚ m g) (length_pushed xs n (length xs) refl) ∙ sum_ℚ-next (length xs) g
    ∙ ap₂ ◌+ℚ◌ (sum_ℚ-same (length xs) g (λ j. f (get_or xs j 0)) (λ j l. ap f (get_or_append_left xs (n ∷ []) 0 j l))) (ap f (get_or-append_seam xs n [] 0))

-- a row more, which is listed or has the term 0
sum_more : (xs : List ℕ) (n : ℕ) (g : ℕ → ℚ) (t : Bool) → (t ≡ true → g n ≡ whole (pos 0)) → sum_ℚ n g ≡ sum_over xs g → sum_ℚ n g +ℚ g n ≡ sum_over (cond t xs (xs ++ n ∷ [])) g
sum_more xs n g true h e = ap₂ ◌+ℚ◌ e (h refl) ∙ ring_ℚ (sum_over xs g ∷ []) (v0 ⊞ number (pos 0)) v0 refl
sum_more xs n g false h e = ap (λ z. z +ℚ g n) e ∙ sym (sum_over_pushed xs n g)

-- and the same of a fact
all_more : (P : ℕ → Type 0) (xs : List ℕ) (n : ℕ) (t : Bool) → (t ≡ true → P n) → All P (cond t xs (xs ++ n ∷ [])) → All P xs × P n
all_more P xs n true h all = (all, h refl)
all_more P xs n false h all =
    let size = length_pushed xs n (length xs) refl in (
      λ k d l. subst P (get_or_append_left xs (n ∷ []) d k l) (all k d (omega (arith, size))),
      subst P (get_or-append_seam xs n [] 0) (all (length xs) 0 (omega (arith, size))),
    )

module _ (old new : List Side) where
  -- a sum over all rows is one over those that are unsettled, where the terms of the others are 0
  pub unsettled_sum : (n : ℕ) (g : ℕ → ℚ) → ((i : ℕ) → i < n → is_settled (side_of old i) (side_of new i) ≡ true → g i ≡ whole (pos 0)) → sum_ℚ n g ≡ sum_over (unsettled_rows old new n) g
  unsettled_sum zero g h = refl
  unsettled_sum (suc n) g h =
      sum_more (unsettled_rows old new n) n g (is_settled (side_of old n) (side_of new n)) (h n (omega arith)) (unsettled_sum n g (λ i l. h i (omega arith)))

  -- what holds of these and of all others holds of all rows
  pub unsettled_all : (P : ℕ → Type 0) (n : ℕ) → All P (unsettled_rows old new n) → ((i : ℕ) → i < n → is_settled (side_of old i) (side_of new i) ≡ true → P i) → (i : ℕ) → i < n → P i
  unsettled_all P zero all h i l = absurd (omega arith)
  unsettled_all P (suc n) all h i l =
      let both = all_more P (unsettled_rows old new n) n (is_settled (side_of old n) (side_of new n)) (h n (omega arith)) all in
      below_more P n (unsettled_all P n both.0 (λ i l. h i (omega arith))) both.1 i (omega arith)

  module _ (part : Part) (rows : List WholeRow) (place : ℕ) where
    abbrev change : ℕ → ℚ
    change i = cell_at rows place i *ℚ part_change part rows old new i

    -- a settled row changes nothing
    same_line : (i : ℕ) → is_settled (side_of old i) (side_of new i) ≡ true → change i ≡ whole (pos 0)
    same_line i e =
        let at = λ (s : Side). option_map_or (λ w. whole (part_of part (line_on s w))) (slice_get rows i) (whole (pos 0)) in
        ap (λ s. cell_at rows place i *ℚ (part_at part rows new i -ℚ at s)) (settled_same (side_of old i) (side_of new i) e)
        ∙ ring_ℚ (cell_at rows place i ∷ part_at part rows new i ∷ []) (v0 ⊠ (v1 ⊟ v1)) (number (pos 0)) refl

    -- the changes of all rows
    all_changes : sum_ℚ (length rows) change ≡ (whole (pos 1) *ℚ line_total part rows new place) +ℚ (neg_ℚ (whole (pos 1)) *ℚ line_total part rows old place)
    all_changes =
        let f = λ (i : ℕ). cell_at rows place i *ℚ part_at part rows old i in
        let g = λ (i : ℕ). cell_at rows place i *ℚ part_at part rows new i in
        sum_ℚ-same (length rows) change (λ i. (whole (pos 1) *ℚ g i) +ℚ (neg_ℚ (whole (pos 1)) *ℚ f i))
        (λ i l. ring_ℚ (cell_at rows place i ∷ part_at part rows new i ∷ part_at part rows old i ∷ []) (v0 ⊠ (v1 ⊟ v2)) (number (pos 1) ⊠ (v0 ⊠ v1) ⊞ negated (number (pos 1)) ⊠ (v0 ⊠ v2)) refl)
        ∙ sum_ℚ-mix (length rows) (whole (pos 1)) (neg_ℚ (whole (pos 1))) g f

    -- a total that has changed by the unsettled rows
    pub turned_line : (list : List ℕ) (changes : List ℤ) (t r : ℚ) → list ≡ unsettled_rows old new (length rows) → ((j : ℕ) → j < length list → whole_at changes j ≡ part_change part rows old new (get_or list j 0))
        → t ≡ line_total part rows old place → r ≡ t +ℚ listed_total rows place list changes → r ≡ line_total part rows new place
    turned_line list changes t r e each before made =
        let those : listed_total rows place list changes ≡ sum_over list change
        = sum_ℚ-same (length list) (λ j. cell_at rows place (get_or list j 0) *ℚ whole_at changes j) (λ j. change (get_or list j 0))
        (λ j l. ap (λ z. cell_at rows place (get_or list j 0) *ℚ z) (each j l)) in
        let all : sum_over list change ≡ sum_ℚ (length rows) change = ap (λ xs. sum_over xs change) e ∙ sym (unsettled_sum (length rows) change (λ i l. same_line i)) in
        made ∙ ap₂ ◌+ℚ◌ before (those ∙ all ∙ all_changes)
        ∙ ring_ℚ (line_total part rows old place ∷ line_total part rows new place ∷ []) (v0 ⊞ (number (pos 1) ⊠ v1 ⊞ negated (number (pos 1)) ⊠ v0)) v1 refl

-- without sides there is nothing to sum
pub no_lines : (part : Part) (rows : List WholeRow) (place : ℕ) → whole (pos 0) ≡ line_total part rows [] place
no_lines part rows place =
    sym (sum_ℚ-same (length rows) (λ i. cell_at rows place i *ℚ part_at part rows [] i) (λ i. whole (pos 0))
    (λ i l. ap (λ z. cell_at rows place i *ℚ z) (zero_line part (slice_get rows i)) ∙ ring_ℚ (cell_at rows place i ∷ []) (v0 ⊠ number (pos 0)) (number (pos 0)) refl)
    ∙ sum_ℚ-zero (length rows))
  where
    zero_line : (part : Part) (o : Option WholeRow) → option_map_or (λ w. whole (part_of part (line_on Basic w))) o (whole (pos 0)) ≡ whole (pos 0)
    zero_line Start None = refl
    zero_line Start (Some w) = refl
    zero_line Slope None = refl
    zero_line Slope (Some w) = refl
