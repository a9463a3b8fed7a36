-- Stated. The code of a formula: its operands, left first, and then its operator.
use Rattle.std.specs.Prelude.{ℕ, Bool, true, false, List, [], ◌∷◌, ◌++◌}
use Rattle.formula_grammar.specs.Words.{Sign, Plus, Minus, Step, Load, LoadAll, LoadArith, Nothing}
use Rattle.formula_grammar.specs.Words.{Add, Remove, Multiply, Interact, Raise, SmoothPart, ArithPart, Reading}
use Rattle.formula_grammar.specs.Numerals.{power_of}
use Rattle.formula_grammar.specs.Grammar.{Lead, Bare, Led, Sum, First, More, Product, One, Times, Inter, Lone, Cross}
use Rattle.formula_grammar.specs.Grammar.{Power, Plain, Raised, Atom, Leaf, Factor, Computed, Dot, Group, Smooth, Part, Smoothing}
use Rattle.formula_grammar.specs.Grammar.{Offsetting, Item, Nil, Intercept, Term, Items, Start, StartPart, StartPlus, Then, ThenPart, Formula}
use Rattle.formula_grammar.specs.ArithCodes.{part_of}

-- a plus adds terms, and a minus removes them
abbrev pub signed_step : Sign → ℕ → Step
signed_step Plus n = Add n
signed_step Minus n = Remove n

-- a leading sign acts on the empty list
abbrev mutual
  pub sum_code : Sum → List Step
  sum_code (First Bare p) = product_code p
  sum_code (First (Led x n) p) = Nothing ∷ (product_code p ++ (signed_step x n ∷ []))
  sum_code (More s x n p) = sum_code s ++ (product_code p ++ (signed_step x n ∷ []))

  pub product_code : Product → List Step
  product_code (One i) = inter_code i
  product_code (Times p n i) = product_code p ++ (inter_code i ++ (Multiply n ∷ []))

  pub inter_code : Inter → List Step
  inter_code (Lone p) = power_code p
  inter_code (Cross i n p) = inter_code i ++ (power_code p ++ (Interact n ∷ []))

  pub power_code : Power → List Step
  power_code (Plain a) = atom_code a
  power_code (Raised a n k m) = atom_code a ++ (Raise (power_of k) n ∷ [])

  pub atom_code : Atom → List Step
  atom_code (Leaf x n) = Load x false ∷ []
  atom_code (Factor w o x n c) = Load x true ∷ []
  atom_code (Computed w o a c) = LoadArith (part_of a) ∷ []
  atom_code (Dot n) = LoadAll ∷ []
  atom_code (Group o s c) = sum_code s

-- Only items that are products have terms.
abbrev pub items_code : Items → List Step
items_code (Start Bare (Term p)) = product_code p
items_code (Start (Led x n) (Term p)) = Nothing ∷ (product_code p ++ (signed_step x n ∷ []))
items_code (Then j x n (Term p)) = items_code j ++ (product_code p ++ (signed_step x n ∷ []))
items_code (Then j x n (Nil m)) = items_code j
items_code (Then j x n (Intercept m)) = items_code j
items_code (ThenPart j n p) = items_code j
items_code other = Nothing ∷ []

-- `+ 1` and `- 0` put the intercept there, `- 1` and `+ 0` take it away
abbrev pub intercept_by : Item → Sign → Bool → Bool
intercept_by (Nil n) Plus before = false
intercept_by (Nil n) Minus before = true
intercept_by (Intercept n) Plus before = true
intercept_by (Intercept n) Minus before = false
intercept_by (Term p) x before = before

-- the sign that leads, which is plus where none stands
abbrev pub sign_of : Lead → Sign
sign_of Bare = Plus
sign_of (Led x n) = x

-- the intercept is there at first, and the last such item decides
abbrev pub has_intercept : Items → Bool
has_intercept (Start l i) = intercept_by i (sign_of l) true
has_intercept (StartPart p) = true
has_intercept (StartPlus n p) = true
has_intercept (Then j x n i) = intercept_by i x (has_intercept j)
has_intercept (ThenPart j n p) = has_intercept j

-- where the name of a smooth stands, and its lambda
abbrev pub smooth_part : Smooth → SmoothPart
smooth_part s = record { name = s.name; lambda = s.lambda }

-- the smooth of a part, or none
abbrev pub smooths_in : Part → List SmoothPart
smooths_in (Smoothing s) = smooth_part s ∷ []
smooths_in (Offsetting f) = []

-- the smooths in the order of the text
abbrev pub smooths_of : Items → List SmoothPart
smooths_of (Start l i) = []
smooths_of (StartPart p) = smooths_in p
smooths_of (StartPlus n p) = smooths_in p
smooths_of (Then j x n i) = smooths_of j
smooths_of (ThenPart j n p) = smooths_of j ++ smooths_in p

-- the offset of a part, or none
abbrev pub offsets_in : Part → List ArithPart
offsets_in (Smoothing s) = []
offsets_in (Offsetting f) = part_of f.arith ∷ []

-- the offsets in the order of the text
abbrev pub offsets_of : Items → List ArithPart
offsets_of (Start l i) = []
offsets_of (StartPart p) = offsets_in p
offsets_of (StartPlus n p) = offsets_in p
offsets_of (Then j x n i) = offsets_of j
offsets_of (ThenPart j n p) = offsets_of j ++ offsets_in p

-- all that is read of a formula
abbrev pub reading_of : Formula → Reading
reading_of f = record {
  response = f.head.response;
  intercept = has_intercept f.items;
  steps = items_code f.items;
  smooths = smooths_of f.items;
  offsets = offsets_of f.items;
}
