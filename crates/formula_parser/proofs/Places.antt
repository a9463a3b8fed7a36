-- Places in lists, and the names that steps load.
use Rattle.std.proofs.Common.{◌≡◌, ◌≤◌, ◌+◌, Bool, true, false, List, [], ◌∷◌, ◌++◌, Some, None, length, position, refl, arith}
use Rattle.std.specs.Prelude.{bytes_eq, cond, nat_lt, not}
use Rattle.std.specs.List.{list_any, position_or_len}
use Rattle.std.proofs.lemmas.Bool.{ltb-false}
use Rattle.std.proofs.lemmas.List.{length-append}
use Rattle.std.proofs.lemmas.List.Sums.{prefix_len-le-length}
use Rattle.formula_arith.specs.Codes.{name_index}
use Rattle.formula_parser.specs.Words.{ArithStep}
use Rattle.formula_grammar.specs.declared.reading.ArithStep.TheVariants as step
use Rattle.formula_parser.specs.Columns.{Text}
use Rattle.formula_parser.specs.Arithmetics.{column_name, name_loaded, names_from}

-- where nothing passes, the place is past all
pub past_all : {X : Type 0} (p : X → Bool) (xs : List X) → None ≡ position p xs → length xs ≡ position_or_len p xs
past_all p xs e = go (nat_lt (position_or_len p xs) (length xs)) refl e
  where
    go : (t : Bool) → nat_lt (position_or_len p xs) (length xs) ≡ t → None ≡ cond t (Some (position_or_len p xs)) None → length xs ≡ position_or_len p xs
    go true d e = absurd (cc e)
    go false d e = let no = ltb-false (position_or_len p xs) (length xs) d in omega (arith, no, prefix_len-le-length (λ x. not (p x)) xs)

pub index_few : (names : List Text) (x : Text) → name_index names x ≤ length names
index_few names x = prefix_len-le-length _ names

with_name_few : (b : Bool) (found : List Text) (x : Text) → length (cond b found (found ++ x ∷ [])) ≤ length found + 1
with_name_few true found x = omega arith
with_name_few false found x = omega (arith, length-append found (x ∷ []))

loaded_few : (text : Text) (names found : List Text) (s : ArithStep) → length (name_loaded text names found s) ≤ length found + 1
loaded_few text names found (step.Load x) = with_name_few (list_any (λ y. bytes_eq y (column_name text names x)) found) found (column_name text names x)
loaded_few text names found s = omega arith

-- there are no more names than steps
pub names_few : (text : Text) (names found : List Text) (steps : List ArithStep) → length (names_from text names found steps) ≤ length found + length steps
names_few text names found [] = omega arith
names_few text names found (s ∷ ss) = omega (arith, loaded_few text names found s, names_few text names (name_loaded text names found s) ss)
