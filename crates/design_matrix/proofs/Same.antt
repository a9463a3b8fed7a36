-- Lists of variables that are the same.
use Rattle.std.proofs.Common.{◌≡◌, ◌<◌, ◌≤◌, ◌&&◌, ℕ, suc, ◌+◌, ◌-◌, Bool, true, false, List, [], ◌∷◌, ◌++◌, length, take, drop, get_or, refl, sym, ap, ◌∙◌, arith, add-one, length-take-le, length-append, length-drop}
use Rattle.std.proofs.Math.Bool.{and_assoc}
use Rattle.std.proofs.Math.Seq.{drop-cons}
use Rattle.std.proofs.lemmas.Bool.{and_parts}
use Rattle.formula_parser.specs.declared.formula.Variable.{Variable}
use Rattle.design_matrix.specs.CodedVariable.{same_variable, same_variables, without}

same_length : (ls rs : List Variable) → same_variables ls rs ≡ true → length ls ≡ length rs
same_length [] [] e = refl
same_length [] (w ∷ ws) e = absurd (cc e)
same_length (v ∷ vs) [] e = absurd (cc e)
same_length (v ∷ vs) (w ∷ ws) e = ap suc (same_length vs ws (and_parts (same_variable v w) (same_variables vs ws) e).1)

pub apart : (ls rs : List Variable) → (length ls ≡ length rs → ⊥) → false ≡ same_variables ls rs
apart ls rs h = at (same_variables ls rs) refl
  where
    at : (b : Bool) → same_variables ls rs ≡ b → false ≡ same_variables ls rs
    at true e = absurd (h (same_length ls rs e))
    at false e = sym e

pub same_step : (ls rs : List Variable) (i : ℕ) (v w : Variable) → i < length ls → i < length rs → v ≡ get_or ls i v → w ≡ get_or rs i w
    → same_variables (drop i ls) (drop i rs) ≡ (same_variable v w && same_variables (drop (i + 1) ls) (drop (i + 1) rs))
same_step ls rs i v w h k e f =
    ap (λ l. same_variables l (drop i rs)) (drop-cons ls i v h ∙ ap (λ z. z ∷ drop (suc i) ls) (sym e) ∙ ap (λ n. v ∷ drop n ls) (sym (add-one i)))
    ∙ ap (λ l. same_variables (v ∷ drop (i + 1) ls) l) (drop-cons rs i w k ∙ ap (λ z. z ∷ drop (suc i) rs) (sym f) ∙ ap (λ n. w ∷ drop n rs) (sym (add-one i)))

same_split : (a b c : List Variable) → length a ≤ length c → same_variables (a ++ b) c ≡ (same_variables a (take (length a) c) && same_variables b (drop (length a) c))
same_split [] b c h = refl
same_split (x ∷ xs) b [] h = absurd (omega arith)
same_split (x ∷ xs) b (y ∷ ys) h =
    ap (λ t. same_variable x y && t) (same_split xs b ys (omega arith))
    ∙ sym (and_assoc (same_variable x y) (same_variables xs (take (length xs) ys)) (same_variables b (drop (length xs) ys)))

pub without_parts : (whole rest : List Variable) (place : ℕ) → place < length whole → place ≤ length rest
    → same_variables (without place whole) rest ≡ (same_variables (take place whole) (take place rest) && same_variables (drop (place + 1) whole) (drop place rest))
without_parts whole rest place h k =
    let n : length (take place whole) ≡ place = length-take-le place whole (omega arith) in
    same_split (take place whole) (drop (place + 1) whole) rest (omega arith)
    ∙ ap (λ m. same_variables (take place whole) (take m rest) && same_variables (drop (place + 1) whole) (drop m rest)) n

length-without : (whole : List Variable) (place : ℕ) → place < length whole → length (without place whole) ≡ length whole - 1
length-without whole place h =
    let n : length (take place whole) ≡ place = length-take-le place whole (omega arith) in
    let m : length (drop (place + 1) whole) ≡ length whole - (place + 1) = length-drop (place + 1) whole in
    length-append (take place whole) (drop (place + 1) whole) ∙ (let e : length (take place whole) + length (drop (place + 1) whole) ≡ length whole - 1 = omega arith in e)

pub without_apart : (whole rest : List Variable) (place : ℕ) → place < length whole → (length whole - 1 ≡ length rest → ⊥)
    → false ≡ same_variables (without place whole) rest
without_apart whole rest place h k = apart (without place whole) rest (λ e. k (sym (length-without whole place h) ∙ e))

pub without_no : (whole rest : List Variable) (place : ℕ) (r : Bool) → place < length whole → length whole - 1 ≡ length rest
    → r ≡ same_variables (take place whole) (take place rest) → r ≡ false → false ≡ same_variables (without place whole) rest
without_no whole rest place r h k e f =
    sym (without_parts whole rest place h (omega arith) ∙ ap (λ b. b && same_variables (drop (place + 1) whole) (drop place rest)) (sym e ∙ f))

pub without_yes : (whole rest : List Variable) (place : ℕ) (r q : Bool) → place < length whole → length whole - 1 ≡ length rest
    → r ≡ same_variables (take place whole) (take place rest) → r ≡ true → q ≡ same_variables (drop (place + 1) whole) (drop place rest)
    → q ≡ same_variables (without place whole) rest
without_yes whole rest place r q h k e f g =
    g ∙ sym (without_parts whole rest place h (omega arith) ∙ ap (λ b. b && same_variables (drop (place + 1) whole) (drop place rest)) (sym e ∙ f))
