-- On cells that fit a column of numbers, and cells that don't.
use Rattle.std.proofs.Common.{◌≡◌, ◌∙◌, ◌<◌, ◌+◌, ◌-◌, ◌^◌, ◌&&◌, ◌||◌, ℕ, zero, suc, Bool, true, false, List, [], ◌∷◌, Option, Some}
use Rattle.std.proofs.Common.{None, Result, Ok, Err, is_some, length, drop, take, get_or, map, refl, sym, ap, add-one, arith, nat_le, unsigned_abs, if◌then◌else◌}
use Rattle.std.specs.List.{list_all, position_from}
use Rattle.std.specs.Result.{is_ok}
use Rattle.std.proofs.lemmas.Bool.{and_parts}
use Rattle.rational_laws.specs.Fraction.{Fraction, rational}
use Rattle.rational_laws.specs.Rational.{ℚ}
use Rattle.frac_core.specs.NumberText.{in_range, is_number_text, number_of, written}
use Rattle.frac_core.specs.declared.number_reader.NumberFault.{NumberFault}
use Rattle.frac_core.specs.declared.number_reader.NumberFault.TheVariants.{NotANumber, TooWide}
use Rattle.data_frame.specs.Records.{Text}
use Rattle.data_frame.specs.Cells.{bare, column_of, is_missing, is_numeric, is_too_wide, is_wide, kept, number_in, number_or_none, numbers, factor, too_wide, some_number}

-- what a cell holds shows whether it fits
fits_by : Result (Option ℚ) NumberFault → Bool
fits_by (Err NotANumber) = false
fits_by _ = true

in_range_fits : (range : ℕ) (x : Fraction) → fits_by (some_number (in_range range (Some x))) ≡ true
unfolding fits_by
in_range_fits range x = go (nat_le (unsigned_abs x.num) range && nat_le x.den range)
  where
    go : (b : Bool) → fits_by (some_number (if b then Ok (rational x) else Err TooWide)) ≡ true
    go true = refl
    go false = refl

fits_number : (range : ℕ) (w : Option Fraction) → is_some w ≡ fits_by (some_number (in_range range w))
unfolding fits_by
fits_number range None = refl
fits_number range (Some x) = sym (in_range_fits range x)

fits_cell : (missing : Bool) (range : ℕ) (w : Option Fraction)
    → (missing || is_some w) ≡ fits_by (if missing then Ok None else some_number (in_range range w))
unfolding fits_by
fits_cell true range w = refl
fits_cell false range w = fits_number range w

numeric_is : (cell : Text) → is_numeric cell ≡ fits_by (number_in cell)
unfolding is_numeric number_in number_of is_number_text
numeric_is cell = fits_cell (is_missing cell) (2 ^ 127 - 1) (written (bare cell))

pub number_fits : (cell : Text) (x : Option ℚ) → number_in cell ≡ Ok x → is_numeric cell ≡ true
unfolding fits_by
number_fits cell x e = numeric_is cell ∙ ap fits_by e

pub wide_fits : (cell : Text) → number_in cell ≡ Err TooWide → is_numeric cell ≡ true
unfolding fits_by
wide_fits cell e = numeric_is cell ∙ ap fits_by e

pub word_fits_not : (cell : Text) → number_in cell ≡ Err NotANumber → is_numeric cell ≡ false
unfolding fits_by
word_fits_not cell e = numeric_is cell ∙ ap fits_by e

pub not_numeric_at : (cells : List Text) (i : ℕ) → i < length cells → is_numeric (get_or cells i []) ≡ false → list_all is_numeric cells ≡ false
not_numeric_at [] i lt e = absurd (omega arith)
not_numeric_at (c ∷ cells) zero lt e = rw e refl
not_numeric_at (c ∷ cells) (suc i) lt e = rw (not_numeric_at cells i (omega arith) e) (and_false (is_numeric c))
  where
    and_false : (b : Bool) → (b && false) ≡ false
    and_false true = refl
    and_false false = refl

-- the cell is a number or missing
abbrev pub holds_number : Text → Bool
holds_number cell = is_ok (number_in cell)

holds_fits : (cell : Text) → holds_number cell ≡ true → is_numeric cell ≡ true
unfolding fits_by
holds_fits cell h = numeric_is cell ∙ go (number_in cell) h
  where
    go : (r : Result (Option ℚ) NumberFault) → is_ok r ≡ true → fits_by r ≡ true
    go (Ok x) h = refl
    go (Err fault) h = absurd (cc h)

holds_not_wide : (cell : Text) → holds_number cell ≡ true → is_too_wide cell ≡ false
holds_not_wide cell h = go (number_in cell) h
  where
    go : (r : Result (Option ℚ) NumberFault) → is_ok r ≡ true → is_wide r ≡ false
    go (Ok x) h = refl
    go (Err fault) h = absurd (cc h)

all_fit : (cells : List Text) → list_all holds_number cells ≡ true → list_all is_numeric cells ≡ true
all_fit [] h = refl
all_fit (c ∷ cells) h =
    rw (holds_fits c (and_parts (holds_number c) (list_all holds_number cells) h).0) (all_fit cells (and_parts (holds_number c) (list_all holds_number cells) h).1)

none_wide : (n : ℕ) (cells : List Text) → list_all holds_number cells ≡ true → position_from is_too_wide n cells ≡ None
none_wide n [] h = refl
none_wide n (c ∷ cells) h =
    rw (holds_not_wide c (and_parts (holds_number c) (list_all holds_number cells) h).0) (none_wide (n + 1) cells (and_parts (holds_number c) (list_all holds_number cells) h).1)

first_wide : (n : ℕ) (cells : List Text) (i : ℕ) → list_all holds_number (take i cells) ≡ true → i < length cells
    → is_too_wide (get_or cells i []) ≡ true → position_from is_too_wide n cells ≡ Some (n + i)
first_wide n [] i h lt e = absurd (omega arith)
first_wide n (c ∷ cells) zero h lt e = rw e (ap (λ (k : ℕ). Some k) (omega arith))
first_wide n (c ∷ cells) (suc i) h lt e =
    rw (holds_not_wide c (and_parts (holds_number c) (list_all holds_number (take i cells)) h).0)
    (first_wide (n + 1) cells i (and_parts (holds_number c) (list_all holds_number (take i cells)) h).1 (omega arith) e ∙ ap (λ (k : ℕ). Some k) (omega arith))

rest_decides : (cells : List Text) (i : ℕ) → list_all holds_number (take i cells) ≡ true → i < length cells
    → is_numeric (get_or cells i []) ≡ true → list_all is_numeric cells ≡ list_all is_numeric (drop (suc i) cells)
rest_decides [] i h lt e = absurd (omega arith)
rest_decides (c ∷ cells) zero h lt e = rw e refl
rest_decides (c ∷ cells) (suc i) h lt e =
    rw (holds_fits c (and_parts (holds_number c) (list_all holds_number (take i cells)) h).0)
    (rest_decides cells i (and_parts (holds_number c) (list_all holds_number (take i cells)) h).1 (omega arith) e)

-- each cell holds a number, or is missing
pub number_column : (cells : List Text) (values : List (Option ℚ)) → list_all holds_number cells ≡ true
    → values ≡ map (λ cell. number_or_none (number_in cell)) cells → numbers values ≡ column_of cells
unfolding column_of
number_column cells values h e = rw (all_fit cells h, none_wide 1 cells h, e) refl

-- the first that is too wide, where all fit
pub wide_column : (cells : List Text) (i : ℕ) → list_all holds_number (take i cells) ≡ true → i < length cells
    → number_in (get_or cells i []) ≡ Err TooWide → list_all is_numeric (drop (i + 1) cells) ≡ true → too_wide (i + 1) ≡ column_of cells
unfolding column_of
wide_column cells i h lt e rest =
    let wide : is_too_wide (get_or cells i []) ≡ true = rw e refl in
    let all : list_all is_numeric cells ≡ true = rest_decides cells i h lt (wide_fits (get_or cells i []) e) ∙ rw (← add-one) rest in
    let place : 1 + i ≡ i + 1 = omega arith in
    rw (all, first_wide 1 cells i h lt wide, place) refl

pub word_behind : (cells : List Text) (i : ℕ) → list_all holds_number (take i cells) ≡ true → i < length cells
    → number_in (get_or cells i []) ≡ Err TooWide → list_all is_numeric (drop (i + 1) cells) ≡ false → list_all is_numeric cells ≡ false
word_behind cells i h lt e rest = rest_decides cells i h lt (wide_fits (get_or cells i []) e) ∙ rw (← add-one) rest

pub factor_column : (cells : List Text) → list_all is_numeric cells ≡ false → factor (map kept cells) ≡ column_of cells
unfolding column_of
factor_column cells e = rw e refl
