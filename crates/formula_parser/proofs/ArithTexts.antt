-- What the tokens and the code of a tree of an arithmetic say is the arithmetic of the tree.
use Rattle.std.proofs.Common.{◌≡◌, ◌==◌, ℕ, true, false, not, List, [], ◌∷◌, ◌++◌, map, refl, sym, ◌∙◌, ap, append_assoc, append-nil}
use Rattle.std.specs.Prelude.{codes, decimal}
use Rattle.std.proofs.lemmas.List.{map-append}
use Rattle.frac_core.specs.declared.arith.Arith.{Arith}
use Rattle.frac_core.specs.declared.arith.ArithOp.{ArithOp}
use Rattle.formula_arith.specs.Arithmetics.{arithmetic_names, atom_names, distinct_names, each_once, power_names, product_names, with_name}
use Rattle.formula_arith.specs.Codes.{arithmetic_code, atom_code, lead_code, power_code, product_code, signed_op}
use Rattle.formula_arith.specs.Texts.{arithmetic_text, atom_text, between, name_text, power_text, product_text}
use Rattle.formula_arith.specs.Texts.{sign_text as plain_sign}
use Rattle.formula_parser.specs.Words.{Span, Sign, Plus, Minus, Numeral, Kind, Name, Number, Signed, Star, Caret, Open, Close, Digits, Token, ArithStep}
use Rattle.formula_grammar.specs.Numerals.{power_of}
use Rattle.formula_grammar.specs.ArithCodes.{aatom_code, apow_code, aprod_code, arith_code, arith_signed_step, lead_steps, part_of}
use Rattle.formula_grammar.specs.declared.reading.ArithStep.TheVariants as step
use Rattle.formula_grammar.specs.Arithmetics.{token, Lead, Bare, Led, First, More, Aprod, One, Times, Apow, Plain, Raised, Aatom, Leaf, Constant, Group, aatom_tokens, apow_tokens, aprod_tokens, arith_tokens}
use Rattle.formula_grammar.specs.Arithmetics.{Arith as Tree}
use Rattle.formula_parser.specs.Columns.{Text}
use Rattle.formula_parser.specs.Arithmetics.{column_name, kind_text, names_from, numeral_text, op_of, part_said, sign_text, tokens_text, value_text}
use Rattle.formula_parser.specs.ArithTrees.{PartsAreArithmetics, aatom_said, apow_said, aprod_said, arith_said, lead_said, sign_said, told}

-- an operand may stand behind a token of this kind: a parenthesis, a sign or a star
abbrev MayPrecede : Kind → Type 0
MayPrecede Open = Unit {0}
MayPrecede (Signed x) = Unit {0}
MayPrecede Star = Unit {0}
MayPrecede k = ⊥

-- an operand ends with a token of this kind
abbrev Ends : Kind → Type 0
Ends (Name x) = Unit {0}
Ends (Number v) = Unit {0}
Ends Close = Unit {0}
Ends k = ⊥

-- a number that is no exponent
by_value : (last : Kind) (v : Numeral) → MayPrecede last → numeral_text last v ≡ value_text v
by_value Open v may = refl
by_value (Signed x) v may = refl
by_value Star v may = refl
by_value k v may = absurd may

-- three pieces before the rest
regroup : (a b c rest : Text) → a ++ (b ++ (c ++ rest)) ≡ ((a ++ b) ++ c) ++ rest
regroup a b c rest = sym (append_assoc (a ++ b) c rest ∙ append_assoc a b (c ++ rest))

-- signs
leading_sign : (s : Sign) → sign_text s true ≡ plain_sign (sign_said s)
leading_sign Plus = refl
leading_sign Minus = refl

sign_between : (s : Sign) → sign_text s false ≡ between (plain_sign (sign_said s))
sign_between Plus = refl
sign_between Minus = refl

module _ (text : Text) (names : List Text) where
  abbrev named : Span → Text
  named = column_name text names

  abbrev said : Kind → List Token → Text
  said = tokens_text text names

  -- behind an operand a token is printed alike, whatever the operand ends with
  alike : (last : Kind) → Ends last → (k : Kind) (n : ℕ) → kind_text text names last k n ≡ kind_text text names Close k n
  alike (Name x) e Open n = refl
  alike (Name x) e k n = refl
  alike (Number v) e Open n = refl
  alike (Number v) e k n = refl
  alike Close e k n = refl
  alike last e k n = absurd e

  rest_alike : (last : Kind) → Ends last → (rest : List Token) → said last rest ≡ said Close rest
  rest_alike last e [] = refl
  rest_alike last e (t ∷ rest) = ap (λ (x : Text). x ++ said t.kind rest) (alike last e t.kind t.at)

  -- the tokens of an operand are printed as this text
  abbrev Says : List Token → Text → Type 0
  Says ts t = (last : Kind) (rest : List Token) → MayPrecede last → said last (ts ++ rest) ≡ t ++ said Close rest

  mutual
    aatom_says : (a : Aatom) → Says (aatom_tokens a) (atom_text (aatom_said named a))
    aatom_says (Leaf x n) last rest may = ap (λ (y : Text). name_text (not (x.start == n)) (named x) ++ y) (rest_alike (Name x) tt rest)
    aatom_says (Constant v n) last rest may =
        ap (λ (y : Text). y ++ said (Number v) rest) (by_value last v may)
        ∙ ap (λ (y : Text). value_text v ++ y) (rest_alike (Number v) tt rest)
    aatom_says (Group o a c) last rest may =
        ap (λ (ts : List Token). codes "(" ++ said Open ts) (append_assoc (arith_tokens a) (token Close c ∷ []) rest)
        ∙ ap (λ (y : Text). codes "(" ++ y) (arith_says a (token Close c ∷ rest))
        ∙ regroup (codes "(") (arithmetic_text (arith_said named a)) (codes ")") (said Close rest)

    apow_says : (p : Apow) → Says (apow_tokens p) (power_text (apow_said named p))
    apow_says (Plain a) last rest may = aatom_says a last rest may
    apow_says (Raised a n k m) last rest may =
        ap (said last) (append_assoc (aatom_tokens a) (token Caret n ∷ token (Number (Digits k)) m ∷ []) rest)
        ∙ aatom_says a last (token Caret n ∷ token (Number (Digits k)) m ∷ rest) may
        ∙ ap (λ (y : Text). atom_text (aatom_said named a) ++ (codes "^" ++ (decimal (power_of k) ++ y))) (rest_alike (Number (Digits k)) tt rest)
        ∙ regroup (atom_text (aatom_said named a)) (codes "^") (decimal (power_of k)) (said Close rest)

    aprod_says : (p : Aprod) → Says (aprod_tokens p) (product_text (aprod_said named p))
    aprod_says (One p) last rest may = apow_says p last rest may
    aprod_says (Times a n p) last rest may =
        ap (said last) (append_assoc (aprod_tokens a) (token Star n ∷ apow_tokens p) rest)
        ∙ aprod_says a last (token Star n ∷ (apow_tokens p ++ rest)) may
        ∙ ap (λ (y : Text). product_text (aprod_said named a) ++ (between (codes "*") ++ y)) (apow_says p Star rest tt)
        ∙ regroup (product_text (aprod_said named a)) (between (codes "*")) (power_text (apow_said named p)) (said Close rest)

    arith_says : (a : Tree) (rest : List Token) → said Open (arith_tokens a ++ rest) ≡ arithmetic_text (arith_said named a) ++ said Close rest
    arith_says (First Bare p) rest = aprod_says p Open rest tt
    arith_says (First (Led s n) p) rest =
        ap (λ (y : Text). y ++ said (Signed s) (aprod_tokens p ++ rest)) (leading_sign s)
        ∙ ap (λ (y : Text). plain_sign (sign_said s) ++ y) (aprod_says p (Signed s) rest tt)
        ∙ sym (append_assoc (plain_sign (sign_said s)) (product_text (aprod_said named p)) (said Close rest))
    arith_says (More a s n p) rest =
        ap (said Open) (append_assoc (arith_tokens a) (token (Signed s) n ∷ aprod_tokens p) rest)
        ∙ arith_says a (token (Signed s) n ∷ (aprod_tokens p ++ rest))
        ∙ ap (λ (y : Text). arithmetic_text (arith_said named a) ++ (y ++ said (Signed s) (aprod_tokens p ++ rest))) (sign_between s)
        ∙ ap (λ (y : Text). arithmetic_text (arith_said named a) ++ (between (plain_sign (sign_said s)) ++ y)) (aprod_says p (Signed s) rest tt)
        ∙ regroup (arithmetic_text (arith_said named a)) (between (plain_sign (sign_said s))) (product_text (aprod_said named p)) (said Close rest)

  -- ---- names

  once_append : (found a b : List Text) → each_once found (a ++ b) ≡ each_once (each_once found a) b
  once_append found [] b = refl
  once_append found (x ∷ a) b = once_append (with_name found x) a b

  -- the names of an operand are found before those of the rest
  abbrev Names : List ArithStep → List Text → Type 0
  Names code ns = (found : List Text) (rest : List ArithStep) → names_from text names found (code ++ rest) ≡ names_from text names (each_once found ns) rest

  both : (ca cb : List ArithStep) (na nb : List Text) → Names ca na → Names cb nb → Names (ca ++ cb) (na ++ nb)
  both ca cb na nb ha hb found rest =
      ap (names_from text names found) (append_assoc ca cb rest)
      ∙ ha found (cb ++ rest)
      ∙ hb (each_once found na) rest
      ∙ ap (λ (f : List Text). names_from text names f rest) (sym (once_append found na nb))

  -- a step that loads no name
  abbrev Nameless : List ArithStep → Type 0
  Nameless code = Names code []

  behind : (c more : List ArithStep) (ns : List Text) → Names c ns → Nameless more → Names (c ++ more) ns
  behind c more ns h none found rest =
      ap (names_from text names found) (append_assoc c more rest) ∙ h found (more ++ rest) ∙ none (each_once found ns) rest

  signed_nameless : (s : Sign) → Nameless (arith_signed_step s ∷ [])
  signed_nameless Plus found rest = refl
  signed_nameless Minus found rest = refl

  lead_nameless : (l : Lead) → Nameless (lead_steps l)
  lead_nameless Bare found rest = refl
  lead_nameless (Led Plus n) found rest = refl
  lead_nameless (Led Minus n) found rest = refl

  mutual
    arith_named : (a : Tree) → Names (arith_code a) (arithmetic_names (arith_said named a))
    arith_named (First l p) = behind (aprod_code p) (lead_steps l) (product_names (aprod_said named p)) (aprod_named p) (lead_nameless l)
    arith_named (More a s n p) =
        both (arith_code a) (aprod_code p ++ (arith_signed_step s ∷ [])) (arithmetic_names (arith_said named a)) (product_names (aprod_said named p)) (arith_named a)
        (behind (aprod_code p) (arith_signed_step s ∷ []) (product_names (aprod_said named p)) (aprod_named p) (signed_nameless s))

    aprod_named : (p : Aprod) → Names (aprod_code p) (product_names (aprod_said named p))
    aprod_named (One p) = apow_named p
    aprod_named (Times a n p) =
        both (aprod_code a) (apow_code p ++ (step.Mul ∷ [])) (product_names (aprod_said named a)) (power_names (apow_said named p)) (aprod_named a)
        (behind (apow_code p) (step.Mul ∷ []) (power_names (apow_said named p)) (apow_named p) (λ found rest. refl))

    apow_named : (p : Apow) → Names (apow_code p) (power_names (apow_said named p))
    apow_named (Plain a) = aatom_named a
    apow_named (Raised a n k m) = behind (aatom_code a) (step.Power (power_of k) ∷ []) (atom_names (aatom_said named a)) (aatom_named a) (λ found rest. refl)

    aatom_named : (a : Aatom) → Names (aatom_code a) (atom_names (aatom_said named a))
    aatom_named (Leaf x n) = λ found rest. refl
    aatom_named (Constant v n) = λ found rest. refl
    aatom_named (Group o a c) = arith_named a

  -- ---- code

  module _ (known : List Text) where
    abbrev ops : List ArithStep → List ArithOp
    ops = map (op_of text names known)

    signed_coded : (s : Sign) → ops (arith_signed_step s ∷ []) ≡ signed_op (sign_said s) ∷ []
    signed_coded Plus = refl
    signed_coded Minus = refl

    lead_coded : (l : Lead) → ops (lead_steps l) ≡ lead_code (lead_said l)
    lead_coded Bare = refl
    lead_coded (Led Plus n) = refl
    lead_coded (Led Minus n) = refl

    joined : (a b : List ArithStep) (x y : List ArithOp) → ops a ≡ x → ops b ≡ y → ops (a ++ b) ≡ x ++ y
    joined a b x y e f = map-append (op_of text names known) a b ∙ ap (λ (l : List ArithOp). l ++ ops b) e ∙ ap (λ (l : List ArithOp). x ++ l) f

    mutual
      arith_coded : (a : Tree) → ops (arith_code a) ≡ arithmetic_code known (arith_said named a)
      arith_coded (First l p) = joined (aprod_code p) (lead_steps l) _ _ (aprod_coded p) (lead_coded l)
      arith_coded (More a s n p) =
          joined (arith_code a) (aprod_code p ++ (arith_signed_step s ∷ [])) _ _ (arith_coded a) (joined (aprod_code p) (arith_signed_step s ∷ []) _ _ (aprod_coded p) (signed_coded s))

      aprod_coded : (p : Aprod) → ops (aprod_code p) ≡ product_code known (aprod_said named p)
      aprod_coded (One p) = apow_coded p
      aprod_coded (Times a n p) = joined (aprod_code a) (apow_code p ++ (step.Mul ∷ [])) _ _ (aprod_coded a) (joined (apow_code p) (step.Mul ∷ []) _ _ (apow_coded p) refl)

      apow_coded : (p : Apow) → ops (apow_code p) ≡ power_code known (apow_said named p)
      apow_coded (Plain a) = aatom_coded a
      apow_coded (Raised a n k m) = joined (aatom_code a) (step.Power (power_of k) ∷ []) _ _ (aatom_coded a) refl

      aatom_coded : (a : Aatom) → ops (aatom_code a) ≡ atom_code known (aatom_said named a)
      aatom_coded (Leaf x n) = refl
      aatom_coded (Constant v n) = refl
      aatom_coded (Group o a c) = arith_coded a

  text_is : (a : Tree) → said Open (arith_tokens a) ≡ arithmetic_text (arith_said named a)
  text_is a = ap (said Open) (sym (append-nil (arith_tokens a))) ∙ arith_says a [] ∙ append-nil (arithmetic_text (arith_said named a))

  names_are : (a : Tree) → names_from text names [] (arith_code a) ≡ distinct_names (arith_said named a)
  names_are a = ap (names_from text names []) (sym (append-nil (arith_code a))) ∙ arith_named a [] []

  -- The text, the names and the code of a tree are those of its arithmetic.
  pub whole : (a : Tree) → part_said text names (part_of a) ≡ told (arith_said named a)
  whole a =
      let ns = names_are a in
      ap (λ (t : Text). let r : Arith = record { text = t; names = names_from text names [] (arith_code a); code = map (op_of text names (names_from text names [] (arith_code a))) (arith_code a) } in r) (text_is a)
      ∙ ap (λ (known : List Text). let r : Arith = record { text = arithmetic_text (arith_said named a); names = known; code = map (op_of text names known) (arith_code a) } in r) ns
      ∙ ap (λ (code : List ArithOp). let r : Arith = record { text = arithmetic_text (arith_said named a); names = distinct_names (arith_said named a); code = code } in r) (arith_coded (distinct_names (arith_said named a)) a)

pub parts_are_arithmetics : PartsAreArithmetics
parts_are_arithmetics text names a = whole text names a
