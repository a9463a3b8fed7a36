-- Stated. The tables of the codings, as R's contrasts of these names have them (Chambers and Hastie 1992,
-- Statistical Models in S, chapter 2). Levels l and columns j are counted from 0.
use Rattle.std.specs.Prelude.{ℕ, ◌+◌, ◌-◌, ℤ, pos, negsuc, List, [], ◌++◌, nat_eq, nat_le, if◌then◌else◌, slice_index_or, decimal}
use Rattle.contrasts.specs.declared.Coding.{Coding}
use Rattle.contrasts.specs.declared.Coding.TheVariants.{Treatment, Sas, Sum, Helmert, Indicator}

-- the number of columns of a coding of k levels
abbrev pub width_of : Coding → ℕ → ℕ
width_of Indicator k = k
width_of other k = k - 1

-- the entry of column j at level l, of k levels
abbrev pub entry_of : Coding → ℕ → ℕ → ℕ → ℤ
entry_of Treatment k l j = if nat_eq l (j + 1) then pos 1 else pos 0
entry_of Sas k l j = if nat_eq l j then pos 1 else pos 0
entry_of Sum k l j = if nat_eq l j then pos 1 else (if nat_eq (l + 1) k then negsuc 0 else pos 0)
entry_of Helmert k l j = if nat_le l j then negsuc 0 else (if nat_eq l (j + 1) then pos (j + 1) else pos 0)
entry_of Indicator k l j = if nat_eq l j then pos 1 else pos 0

-- the name of column j: the variable with the column's level, or with its number from 1
abbrev pub label_of : Coding → List (List ℕ) → List ℕ → ℕ → List ℕ
label_of Treatment levels variable j = variable ++ slice_index_or levels (j + 1) []
label_of Sas levels variable j = variable ++ slice_index_or levels j []
label_of Sum levels variable j = variable ++ decimal (j + 1)
label_of Helmert levels variable j = variable ++ decimal (j + 1)
label_of Indicator levels variable j = variable ++ slice_index_or levels j []
