-- How many arithmetics a formula loads, and how many offsets it has: at most one for each two tokens.
use Rattle.std.proofs.Common.{◌≡◌, ◌≤◌, ◌+◌, ◌*◌, ℕ, Bool, true, false, List, [], ◌∷◌, ◌++◌, length, arith}
use Rattle.std.specs.Prelude.{cond, nat_lt}
use Rattle.std.proofs.lemmas.List.{length-append}
use Rattle.frac_core.specs.declared.arith.Arith.{Arith}
use Rattle.formula_grammar.specs.Numerals.{power_of}
use Rattle.formula_grammar.specs.Grammar.{Sum, First, More, Product, One, Times, Inter, Lone, Cross, Power, Plain, Raised, Atom}
use Rattle.formula_grammar.specs.Grammar.{Computed, Group, Nil, Intercept, Term, Items, Start, StartPart, StartPlus, Then}
use Rattle.formula_grammar.specs.Grammar.{ThenPart, Part, Smoothing, Offsetting, sum_tokens, product_tokens, inter_tokens, power_tokens, atom_tokens, part_tokens, items_tokens, item_tokens}
use Rattle.formula_grammar.specs.Codes.{signed_step, sum_code, product_code, inter_code, power_code, atom_code, items_code, offsets_in, offsets_of}
use Rattle.formula_grammar.specs.Arithmetics.{token, Bare, Led, arith_tokens}
use Rattle.formula_parser.specs.Words.{Sign, Plus, Minus, Number, Digits, Signed, Star, Colon, Caret, Close, Step, LoadArith, Multiply, Interact, Raise}
use Rattle.formula_parser.specs.Columns.{Text}
use Rattle.formula_parser.specs.Arithmetics.{arith_loaded, arith_place, ariths_from, part_said}

-- how many arithmetics a step loads
abbrev load : Step → ℕ
load (LoadArith p) = 1
load s = 0

-- how many steps do
abbrev pub loads : List Step → ℕ
loads [] = 0
loads (s ∷ ss) = load s + loads ss

loads_append : (a b : List Step) → loads (a ++ b) ≡ loads a + loads b
loads_append [] b = omega arith
loads_append (s ∷ a) b = omega (arith, loads_append a b)

signed_loads : (x : Sign) (m : ℕ) → loads (signed_step x m ∷ []) ≡ 0
signed_loads Plus m = omega arith
signed_loads Minus m = omega arith

three : (a b c : List Step) → loads (a ++ (b ++ c)) ≡ loads a + (loads b + loads c)
three a b c = omega (arith, loads_append a (b ++ c), loads_append b c)

mutual
  sum_loads : (s : Sum) → 2 * loads (sum_code s) ≤ length (sum_tokens s)
  sum_loads (First Bare p) = product_loads p
  sum_loads (First (Led x m) p) = omega (arith, loads_append (product_code p) (signed_step x m ∷ []), signed_loads x m, product_loads p)
  sum_loads (More s x m p) =
      omega (arith, three (sum_code s) (product_code p) (signed_step x m ∷ []), signed_loads x m, length-append (sum_tokens s) (token (Signed x) m ∷ product_tokens p), sum_loads s, product_loads p)

  product_loads : (p : Product) → 2 * loads (product_code p) ≤ length (product_tokens p)
  product_loads (One i) = inter_loads i
  product_loads (Times p m i) =
      omega (arith, three (product_code p) (inter_code i) (Multiply m ∷ []), length-append (product_tokens p) (token Star m ∷ inter_tokens i), product_loads p, inter_loads i)

  inter_loads : (i : Inter) → 2 * loads (inter_code i) ≤ length (inter_tokens i)
  inter_loads (Lone p) = power_loads p
  inter_loads (Cross i m p) =
      omega (arith, three (inter_code i) (power_code p) (Interact m ∷ []), length-append (inter_tokens i) (token Colon m ∷ power_tokens p), inter_loads i, power_loads p)

  power_loads : (p : Power) → 2 * loads (power_code p) ≤ length (power_tokens p)
  power_loads (Plain a) = atom_loads a
  power_loads (Raised a m k q) =
      omega (arith, loads_append (atom_code a) (Raise (power_of k) m ∷ []), length-append (atom_tokens a) (token Caret m ∷ token (Number (Digits k)) q ∷ []), atom_loads a)

  atom_loads : (a : Atom) → 2 * loads (atom_code a) ≤ length (atom_tokens a)
  atom_loads (Computed w o a c) = omega (arith, length-append (arith_tokens a) (token Close c ∷ []))
  atom_loads (Group o s c) = omega (arith, length-append (sum_tokens s) (token Close c ∷ []), sum_loads s)
  atom_loads other = omega arith

pub items_loads : (j : Items) → 2 * loads (items_code j) ≤ length (items_tokens j)
items_loads (Start Bare (Term p)) = product_loads p
items_loads (Start (Led x m) (Term p)) = sum_loads (First (Led x m) p)
items_loads (Then j x m (Term p)) =
    omega (arith, three (items_code j) (product_code p) (signed_step x m ∷ []), signed_loads x m, length-append (items_tokens j) (token (Signed x) m ∷ product_tokens p), items_loads j, product_loads p)
items_loads (Then j x m (Nil q)) = omega (arith, length-append (items_tokens j) (token (Signed x) m ∷ item_tokens (Nil q)), items_loads j)
items_loads (Then j x m (Intercept q)) = omega (arith, length-append (items_tokens j) (token (Signed x) m ∷ item_tokens (Intercept q)), items_loads j)
items_loads (ThenPart j m p) = omega (arith, length-append (items_tokens j) (token (Signed Plus) m ∷ part_tokens p), items_loads j)
items_loads other = omega arith

-- ---- offsets

offset_in : (p : Part) → 2 * length (offsets_in p) ≤ length (part_tokens p)
offset_in (Smoothing s) = omega arith
offset_in (Offsetting f) = omega arith

pub offsets_few : (j : Items) → 2 * length (offsets_of j) ≤ length (items_tokens j)
offsets_few (Start l i) = omega arith
offsets_few (StartPart p) = offset_in p
offsets_few (StartPlus m p) = omega (arith, offset_in p)
offsets_few (Then j x m i) = omega (arith, length-append (items_tokens j) (token (Signed x) m ∷ item_tokens i), offsets_few j)
offsets_few (ThenPart j m p) =
    omega (arith, length-append (items_tokens j) (token (Signed Plus) m ∷ part_tokens p), length-append (offsets_of j) (offsets_in p), offset_in p, offsets_few j)

-- as many arithmetics are found, or fewer
module _ (text : Text) (names : List Text) where
  with_few : (b : Bool) (found : List Arith) (a : Arith) → length (cond b found (found ++ a ∷ [])) ≤ length found + 1
  with_few true found a = omega arith
  with_few false found a = omega (arith, length-append found (a ∷ []))

  loaded_few : (found : List Arith) (s : Step) → length (arith_loaded text names found s) ≤ length found + load s
  loaded_few found (LoadArith p) = with_few (nat_lt (arith_place text names found p) (length found)) found (part_said text names p)
  loaded_few found s = omega arith

  pub ariths_few : (found : List Arith) (steps : List Step) → length (ariths_from text names found steps) ≤ length found + loads steps
  ariths_few found [] = omega arith
  ariths_few found (s ∷ ss) = omega (arith, loaded_few found s, ariths_few (arith_loaded text names found s) ss)
