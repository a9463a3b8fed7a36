-- Stated. Lists of distinct terms. The variables of a formula are counted in the order in which they first stand in its
-- text. A term is a set of them: a list that says of each variable in turn whether it is in the term
-- (Wilkinson and Rogers 1973; Chambers and Hastie 1992, chapter 2).
use Rattle.std.specs.Prelude.{ℕ, zero, suc, ◌-◌, Bool, not, ◌||◌, List, [], ◌∷◌, ◌++◌, map, flat_map, zip, cond, count_by}
use Rattle.std.specs.List.{filter, list_any}
use mathlib.Core.Bool.{beq}
use Rattle.std.specs.Cmp.Lexicographic.{pointwise}

-- for each variable, whether it is in the term
abbrev pub Term : Type 0
Term = List Bool

-- terms in their order
abbrev pub Terms : Type 0
Terms = List Term

-- the variables of both
abbrev pub union : Term → Term → Term
union a b = map (λ p. p.0 || p.1) (zip a b)

-- the list has the term
abbrev pub is_in : Term → Terms → Bool
is_in t ts = list_any (λ u. pointwise beq u t) ts

-- a term at the end, where the list lacks it
abbrev pub with_term : Terms → Term → Terms
with_term found t = cond (is_in t found) found (found ++ t ∷ [])

-- A + B: the first list, and what it lacks of the second
abbrev pub plus : Terms → Terms → Terms
plus a [] = a
plus a (t ∷ ts) = plus (with_term a t) ts

-- A - B: the first list without the terms of the second
abbrev pub minus : Terms → Terms → Terms
minus a b = filter (λ t. not (is_in t b)) a

-- the unions of a term of each, the first list outermost
abbrev pub unions : Terms → Terms → Terms
unions a b = flat_map (λ t. map (union t) b) a

-- A : B: those unions, each once, where it first comes up
abbrev pub cross : Terms → Terms → Terms
cross a b = plus [] (unions a b)

-- A * B is A + B + A:B
abbrev pub times : Terms → Terms → Terms
times a b = plus (plus a b) (cross a b)

-- A ^ (1 + n), where A ^ (k + 1) is A ^ k + (A ^ k : A)
abbrev pub raised_by : ℕ → Terms → Terms
raised_by zero a = a
raised_by (suc n) a = plus (raised_by n a) (cross (raised_by n a) a)

-- A ^ k
abbrev pub raised : ℕ → Terms → Terms
raised k a = raised_by (k - 1) a

-- how many variables
abbrev pub size : Term → ℕ
size t = count_by (λ x. x) t
