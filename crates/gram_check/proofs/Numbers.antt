-- The equations as they are tested.
use Rattle.std.specs.Prelude.{◌≡◌, ◌≢◌, ◌⊎◌, ℕ, ℤ, ◌+◌, ◌<◌, ◌≤◌, ◌+ℤ◌, ◌*ℤ◌, ◌≤ℤ◌, neg_ℤ, List, length, slice_get, get_or, Option, Some, [], ◌∷◌, pos}
use Rattle.std.specs.Option.{option_map_or}
use Rattle.std.proofs.Common.{arith, refl, sym, ap, ap₂, subst, ◌∙◌, inl, inr}
use Rattle.std.proofs.lemmas.Bool.{cases_lt}
use Rattle.std.proofs.lemmas.Option.{slice_get_read}
use Rattle.rational_laws.specs.Solver.{number, ◌⊟◌, ◌⊞◌, v0, v1}
use Rattle.rational_laws.specs.Rational.{ℚ, ◌-ℚ◌, ◌+ℚ◌, ◌*ℚ◌, whole}
use Rattle.rational_laws.proofs.RationalLaws.{ring_ℚ}
use Rattle.rational_laws.specs.RationalSums.{sum_ℚ}
use Rattle.rational_laws.proofs.RationalSumLaws.{sum_ℚ-same}
use Rattle.loss_model.specs.Sample.{Sample}
use Rattle.rank_model.specs.Restricted.{IsProjection, squared_length}
use Rattle.rank_model.specs.Gram.{gram}
use Rattle.wide_int.specs.Numbers.{total}
use Rattle.rational_laws.specs.WholeLists.{whole_at}
use Rattle.whole_inverse.specs.Shares.{share, share_at}
use Rattle.whole_inverse.proofs.ShareSums.{share-total}
use Rattle.whole_inverse.proofs.Lists.{share_read}
use Rattle.whole_solution.proofs.Numbers.{rest_share, share_none, whole_read}
use Rattle.gram_check.specs.Equations.{IsSumOf, entry, HasGram}
use Rattle.gram_check.proofs.NormalEquations.{projection_by_gram, length_by_projection}

difference : (x y : ℚ) → whole (pos 0) ≡ x -ℚ y → x ≡ y
difference x y e = ring_ℚ (x ∷ y ∷ []) v0 (v1 ⊞ (v0 ⊟ v1)) refl ∙ ap (λ z. y +ℚ z) (sym e) ∙ ring_ℚ (y ∷ []) (v0 ⊞ number (pos 0)) v0 refl

-- nothing is left
pub sum_is : (own d n : ℤ) (row numerators : List ℤ) → length row ≡ length numerators → pos 1 ≤ℤ d → n ≡ (own *ℤ d) +ℤ neg_ℤ (total row numerators) → n ≡ pos 0 → IsSumOf own row numerators d
sum_is own d n row numerators size some e none =
    difference (whole own) (sum_ℚ (length row) (λ l. whole_at row l *ℚ share_at d numerators l))
    (sym (share_none n d none) ∙ rest_share own d (total row numerators) n _ some e (share-total row numerators d size))

-- an equation more
pub one_more : (rows : List (List ℤ)) (column i : ℕ) (numerators : List ℤ) (d : ℤ) (row : List ℤ)
    → i < length rows → row ≡ get_or rows i row → length row ≡ length numerators → length rows ≡ length numerators → column < length numerators
    → ((k : ℕ) → k < i → k ≢ column → entry rows k column ≡ sum_ℚ (length rows) (λ l. entry rows k l *ℚ share_at d numerators l))
    → (i ≢ column → IsSumOf (get_or row column (pos 0)) row numerators d)
    → (k : ℕ) → k < i + 1 → k ≢ column → entry rows k column ≡ sum_ℚ (length rows) (λ l. entry rows k l *ℚ share_at d numerators l)
one_more rows column i numerators d row li is wide size lc before here k lk other = by (cases_lt k i)
  where
    there : slice_get rows i ≡ Some row
    there = slice_get_read rows (length rows) i row refl li is

    read : (l : ℕ) → entry rows i l ≡ whole_at row l
    read l = ap (λ (o : Option (List ℤ)). option_map_or (λ row. whole_at row l) o (whole (pos 0))) there

    by : (k < i) ⊎ (i ≤ k) → entry rows k column ≡ sum_ℚ (length rows) (λ l. entry rows k l *ℚ share_at d numerators l)
    by (inl inside) = before k inside other
    by (inr past) =
        let last : i ≡ k = omega (arith, lk, past) in
        let within : column < length row = omega (arith, wide, lc) in
        subst (λ m. entry rows m column ≡ sum_ℚ (length rows) (λ l. entry rows m l *ℚ share_at d numerators l)) last
        (read column ∙ whole_read row column within ∙ here (λ e. other (sym last ∙ e))
        ∙ ap (λ n. sum_ℚ n (λ l. whole_at row l *ℚ share_at d numerators l)) (wide ∙ sym size)
        ∙ sum_ℚ-same (length rows) (λ l. whole_at row l *ℚ share_at d numerators l) (λ l. entry rows i l *ℚ share_at d numerators l) (λ l ll. ap (λ z. z *ℚ share_at d numerators l) (sym (read l))))

pub projects : (rows : List (List ℤ)) (column : ℕ) (numerators : List ℤ) (d : ℤ) → length rows ≡ length numerators → column < length numerators → get_or numerators column (pos 0) ≡ pos 0
    → ((k : ℕ) → k < length rows → k ≢ column → entry rows k column ≡ sum_ℚ (length rows) (λ l. entry rows k l *ℚ share_at d numerators l))
    → (p : Sample) → HasGram p rows → IsProjection p column (share_at d numerators)
projects rows column numerators d size lc own equations p h =
    (projection_by_gram p column (share_at d numerators) inside (sym (share_read d numerators column lc) ∙ share_none (get_or numerators column (pos 0)) d own)
    (λ k lk other.
    let there : k < length rows = subst (λ n. k < n) h.size lk in
    h.entries k column there (subst (λ n. column < n) h.size inside) ∙ equations k there other
    ∙ sum_ℚ-same (length rows) (λ l. entry rows k l *ℚ share_at d numerators l) (λ l. gram p k l *ℚ share_at d numerators l) (λ l ll. ap (λ z. z *ℚ share_at d numerators l) (sym (h.entries k l there ll)))
    ∙ ap (λ n. sum_ℚ n (λ l. gram p k l *ℚ share_at d numerators l)) (sym h.size))).0
  where
    inside : column < p.columns
    inside = subst (λ n. column < n) (sym (h.size ∙ size)) lc

-- the squared length, by the row of the column
pub length_is : (rows : List (List ℤ)) (column : ℕ) (numerators : List ℤ) (d n : ℤ) (row : List ℤ)
    → column < length rows → row ≡ get_or rows column row → length row ≡ length rows → length numerators ≡ length rows → pos 1 ≤ℤ d
    → n ≡ (get_or row column (pos 0) *ℤ d) +ℤ neg_ℤ (total row numerators)
    → (p : Sample) → HasGram p rows → IsProjection p column (share_at d numerators) → share n d ≡ squared_length p column (share_at d numerators)
length_is rows column numerators d n row lc is wide size some e p h projection =
    rest_share own d (total row numerators) n _ some e (share-total row numerators d (wide ∙ sym size))
    ∙ sym (length_by_projection p column (share_at d numerators) projection ∙ ap₂ (λ x y. x -ℚ y) diagonal sums)
  where
    own : ℤ
    own = get_or row column (pos 0)

    there : slice_get rows column ≡ Some row
    there = slice_get_read rows (length rows) column row refl lc is

    read : (l : ℕ) → entry rows column l ≡ whole_at row l
    read l = ap (λ (o : Option (List ℤ)). option_map_or (λ row. whole_at row l) o (whole (pos 0))) there

    diagonal : gram p column column ≡ whole own
    diagonal = h.entries column column lc lc ∙ read column ∙ whole_read row column (subst (λ m. column < m) (sym wide) lc)

    sums : sum_ℚ p.columns (λ l. gram p column l *ℚ share_at d numerators l) ≡ sum_ℚ (length row) (λ l. whole_at row l *ℚ share_at d numerators l)
    sums =
        ap (λ m. sum_ℚ m (λ l. gram p column l *ℚ share_at d numerators l)) h.size
        ∙ sum_ℚ-same (length rows) (λ l. gram p column l *ℚ share_at d numerators l) (λ l. whole_at row l *ℚ share_at d numerators l) (λ l ll. ap (λ z. z *ℚ share_at d numerators l) (h.entries column l lc ll ∙ read l))
        ∙ ap (λ m. sum_ℚ m (λ l. whole_at row l *ℚ share_at d numerators l)) (sym wide)
