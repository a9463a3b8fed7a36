-- Rows and items that were read.
use Rattle.std.specs.Prelude.{◌≡◌, ℕ, zero, suc, ℤ, ◌+◌, ◌<◌, List, [], ◌∷◌, ◌++◌, length, get_or, slice_set, Option, pos}
use Rattle.std.specs.Option.{option_map_or}
use Rattle.std.proofs.Common.{arith, refl, sym, ap, ◌∙◌}
use Rattle.std.proofs.lemmas.Option.{slice_get_read}
use Rattle.rational_laws.specs.Rational.{ℚ, ◌*ℚ◌, neg_ℚ, whole}
use Rattle.rational_laws.specs.RationalSums.{sum_ℚ}
use Rattle.rational_laws.proofs.RationalSumLaws.{sum_ℚ-same}
use Rattle.rational_laws.specs.WholeLists.{whole_at}
use Rattle.whole_inverse.specs.Shares.{share, share_at}
use Rattle.whole_rows.specs.declared.rows.WholeRow.{WholeRow}
use Rattle.whole_rows.specs.Wholes.{of_whole, sample_of_rows}
use Rattle.loss_model.specs.declared.vertex.Side.{Side}
use Rattle.loss_model.specs.declared.vertex.Side.TheVariants.{Up, Down, Basic}
use Rattle.basis_model.specs.declared.part.Part.{Part}
use Rattle.basis_model.specs.declared.part.Part.TheVariants.{Constant, Linear}
use Rattle.basis_model.specs.Basis.{bound_part}
use Rattle.loss_model.specs.Sides.{side_in}
use Rattle.whole_solution.specs.Weighing.{bound_of}

-- a number of a row that was read
pub row_read : (rows : List (WholeRow ℤ)) (i : ℕ) (r : WholeRow ℤ) (f : WholeRow ℤ → ℚ) → i < length rows → r ≡ get_or rows i r → of_whole rows f i ≡ f r
row_read rows i r f l e = ap (λ (o : Option (WholeRow ℤ)). option_map_or f o (whole (pos 0))) (slice_get_read rows (length rows) i r refl l e)

-- the product of a row that was read, and a column
pub product_of_row : (rows : List (WholeRow ℤ)) (i : ℕ) (r : WholeRow ℤ) (column : List ℤ) (x d : ℤ) → i < length rows → r ≡ get_or rows i r → length r.x ≡ length column
    → share x d ≡ sum_ℚ (length r.x) (λ k. whole_at r.x k *ℚ share_at d column k)
    → share x d ≡ sum_ℚ (length column) (λ k. of_whole rows (λ r. whole_at r.x k) i *ℚ share_at d column k)
product_of_row rows i r column x d l e wide h =
    h ∙ ap (λ n. sum_ℚ n (λ k. whole_at r.x k *ℚ share_at d column k)) wide
    ∙ sum_ℚ-same (length column) (λ k. whole_at r.x k *ℚ share_at d column k) (λ k. of_whole rows (λ r. whole_at r.x k) i *ℚ share_at d column k)
    (λ k lk. ap (λ z. z *ℚ share_at d column k) (sym (row_read rows i r (λ r. whole_at r.x k) l e)))

-- a part of the bound of a row that was read
pub bound_read : (n : ℕ) (rows : List (WholeRow ℤ)) (i : ℕ) (r : WholeRow ℤ) (part : Part) (side : Side) → i < length rows → r ≡ get_or rows i r → bound_of r part side ≡ bound_part (sample_of_rows n rows) part i side
bound_read n rows i r Constant Up l e = sym (row_read rows i r (λ r. whole r.up0) l e)
bound_read n rows i r Constant Down l e = ap neg_ℚ (sym (row_read rows i r (λ r. whole r.down0) l e))
bound_read n rows i r Constant Basic l e = refl
bound_read n rows i r Linear Up l e = sym (row_read rows i r (λ r. whole r.up1) l e)
bound_read n rows i r Linear Down l e = ap neg_ℚ (sym (row_read rows i r (λ r. whole r.down1) l e))
bound_read n rows i r Linear Basic l e = refl

-- one whole number more that was put in its place, behind which all stay
pub whole_put : (xs : List ℤ) (n : ℕ) (x : ℤ) (f : ℕ → ℚ) → n < length xs → ((k : ℕ) → k < n → whole_at xs k ≡ f k) → whole x ≡ f n → (k : ℕ) → k < n + 1 → whole_at (slice_set xs n x) k ≡ f k
whole_put [] n x f size h e k l = absurd (omega arith)
whole_put (y ∷ xs) zero x f size h e zero l = e
whole_put (y ∷ xs) zero x f size h e (suc k) l = absurd (omega arith)
whole_put (y ∷ xs) (suc n) x f size h e zero l = h 0 (omega arith)
whole_put (y ∷ xs) (suc n) x f size h e (suc k) l = whole_put xs n x (λ k. f (suc k)) (omega arith) (λ k l. h (suc k) (omega arith)) e k (omega arith)

pub whole_behind : (xs : List ℤ) (n : ℕ) (x : ℤ) (k : ℕ) → n < k → whole_at (slice_set xs n x) k ≡ whole_at xs k
whole_behind [] n x k l = refl
whole_behind (y ∷ xs) n x zero l = absurd (omega arith)
whole_behind (y ∷ xs) zero x (suc k) l = refl
whole_behind (y ∷ xs) (suc n) x (suc k) l = whole_behind xs n x k (omega arith)

-- one side more at the end
pub side_pushed : (made : List Side) (x : Side) (n : ℕ) (f : ℕ → Side) → length made ≡ n → ((k : ℕ) → k < n → side_in made k ≡ f k) → x ≡ f n → (k : ℕ) → k < n + 1 → side_in (made ++ x ∷ []) k ≡ f k
side_pushed [] x zero f size h e zero l = e
side_pushed [] x zero f size h e (suc k) l = absurd (omega arith)
side_pushed [] x (suc n) f size h e k l = absurd (omega arith)
side_pushed (y ∷ made) x zero f size h e k l = absurd (omega arith)
side_pushed (y ∷ made) x (suc n) f size h e zero l = h 0 (omega arith)
side_pushed (y ∷ made) x (suc n) f size h e (suc k) l =
    side_pushed made x n (λ k. f (suc k)) (omega arith) (λ k l. h (suc k) (omega arith)) e k (omega arith)
