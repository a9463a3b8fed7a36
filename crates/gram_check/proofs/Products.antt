-- A sum of products that grows by one.
use Rattle.std.specs.Prelude.{◌≡◌, ℕ, ℤ, ◌+◌, ◌<◌, ◌+ℤ◌, ◌*ℤ◌, List, length, drop, get_or, pos, unsigned_abs}
use Rattle.std.proofs.Common.{sym, ap₂, ◌∙◌}
use Rattle.frac_core.proofs.Signs.{zero_by_size}
use Rattle.std.proofs.lemmas.List.{get_or_default}
use Rattle.wide_int.specs.Numbers.{total}
use Rattle.wide_int.proofs.Totals.{stepped, total-next}

pub one_product : (xs ys : List ℤ) (i : ℕ) (sum x y next : ℤ) → i < length xs → i < length ys → total xs ys ≡ sum +ℤ total (drop i xs) (drop i ys) → x ≡ get_or xs i x → y ≡ get_or ys i y
    → next ≡ sum +ℤ x *ℤ y → total xs ys ≡ next +ℤ total (drop (i + 1) xs) (drop (i + 1) ys)
one_product xs ys i sum x y next lx ly before at is made =
    stepped (total xs ys) sum next (x *ℤ y) (total (drop (i + 1) xs) (drop (i + 1) ys)) (total (drop i xs) (drop i ys)) before
    (total-next i xs ys (pos 0) lx ly ∙ ap₂ (λ w z. (w *ℤ z) +ℤ total (drop (i + 1) xs) (drop (i + 1) ys)) (get_or_default xs i (pos 0) x lx ∙ sym at) (get_or_default ys i (pos 0) y ly ∙ sym is)) made

-- a number of a list is 0 whose size is
pub zero_read : (xs : List ℤ) (i : ℕ) (x : ℤ) → i < length xs → x ≡ get_or xs i x → unsigned_abs x ≡ 0 → get_or xs i (pos 0) ≡ pos 0
zero_read xs i x l is none = get_or_default xs i (pos 0) x l ∙ sym is ∙ zero_by_size x none
