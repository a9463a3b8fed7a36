-- What fine tokens of an arithmetic say of it: exponents are in range, names are columns, and its code isn't long.
use Rattle.std.proofs.Common.{◌≡◌, ◌≤◌, ◌+◌, ◌*◌, ℕ, Bool, true, false, List, [], ◌∷◌, ◌++◌, Option, Some, None, All, Contains, length, leb-true, nat_le, refl, arith}
use Rattle.std.specs.Prelude.{bytes_eq, cond, is_none, unwrap_or}
use Rattle.std.specs.List.{list_any}
use Rattle.std.proofs.lemmas.List.{length-append}
use Rattle.std.proofs.lemmas.List.Elements.{All-append, All-cons, All-nil, All-head, All-push, All-tail, Contains-get_or}
use Rattle.std.proofs.lemmas.List.Quantifiers.{position-Some}
use Rattle.std.proofs.lemmas.Bool.{and_from, and_parts}
use Rattle.frac_core.specs.declared.arith.ArithOp.{ArithOp}
use Rattle.frac_core.specs.declared.arith.ArithOp.TheVariants as op
use Rattle.formula_grammar.specs.declared.reading.ArithStep.TheVariants as step
use Rattle.formula_arith.specs.Arithmetics.{arithmetic_names, atom_has, atom_names, each_once, has_exponents, is_exponent, power_has, power_names, product_has, product_names, with_name}
use Rattle.formula_arith.specs.Codes.{arithmetic_code, atom_code, lead_code, numbered_in, power_code, product_code, signed_op}
use Rattle.formula_parser.specs.Words.{Span, Sign, Plus, Minus, Kind, Name, Number, Digits, Signed, Star, Caret, Open, Close, Token}
use Rattle.formula_grammar.specs.Numerals.{power_of}
use Rattle.formula_grammar.specs.ArithCodes.{aatom_code, apow_code, aprod_code, arith_code, arith_signed_step, lead_steps}
use Rattle.formula_grammar.specs.Arithmetics.{token, Lead, Bare, Led, First, More, Aprod, One, Times, Apow, Plain, Raised, Aatom, Leaf, Constant, Group, aatom_tokens, apow_tokens, aprod_tokens, arith_tokens, lead_tokens}
use Rattle.formula_grammar.specs.Arithmetics.{Arith as Tree}
use Rattle.formula_parser.specs.Columns.{Text, column_of, name_at, piece}
use Rattle.formula_parser.specs.Parsed.{is_unknown}
use Rattle.formula_parser.specs.Arithmetics.{column_name}
use Rattle.formula_parser.specs.ArithTrees.{aatom_said, apow_said, aprod_said, arith_said, lead_said, sign_said}
use Rattle.formula_parser.proofs.Within.{Fine, fine_left, fine_right}

-- ---- the length of the code

lead_long : (l : Lead) → length (lead_steps l) ≤ length (lead_tokens l)
lead_long Bare = omega arith
lead_long (Led Plus n) = omega arith
lead_long (Led Minus n) = omega arith

three : {A : Type 0} (a b c : List A) → length (a ++ (b ++ c)) ≡ length a + (length b + length c)
three a b c = omega (arith, length-append a (b ++ c), length-append b c)

mutual
  pub arith_long : (a : Tree) → length (arith_code a) ≤ length (arith_tokens a)
  arith_long (First l p) = omega (arith, length-append (aprod_code p) (lead_steps l), length-append (lead_tokens l) (aprod_tokens p), lead_long l, aprod_long p)
  arith_long (More a s n p) =
      omega (arith, three (arith_code a) (aprod_code p) (arith_signed_step s ∷ []), length-append (arith_tokens a) (token (Signed s) n ∷ aprod_tokens p), arith_long a, aprod_long p)

  aprod_long : (p : Aprod) → length (aprod_code p) ≤ length (aprod_tokens p)
  aprod_long (One p) = apow_long p
  aprod_long (Times a n p) =
      omega (arith, three (aprod_code a) (apow_code p) (step.Mul ∷ []), length-append (aprod_tokens a) (token Star n ∷ apow_tokens p), aprod_long a, apow_long p)

  apow_long : (p : Apow) → length (apow_code p) ≤ length (apow_tokens p)
  apow_long (Plain a) = aatom_long a
  apow_long (Raised a n k m) =
      omega (arith, length-append (aatom_code a) (step.Power (power_of k) ∷ []), length-append (aatom_tokens a) (token Caret n ∷ token (Number (Digits k)) m ∷ []), aatom_long a)

  aatom_long : (a : Aatom) → length (aatom_code a) ≤ length (aatom_tokens a)
  aatom_long (Leaf x n) = omega arith
  aatom_long (Constant v n) = omega arith
  aatom_long (Group o a c) = omega (arith, length-append (arith_tokens a) (token Close c ∷ []), arith_long a)

-- ---- its numbered operations

numbered_append : (a b : List ArithOp) → numbered_in (a ++ b) ≡ numbered_in a + numbered_in b
numbered_append [] b = omega arith
numbered_append (o ∷ a) b = omega (arith, numbered_append a b)

numbered_three : (a b c : List ArithOp) → numbered_in (a ++ (b ++ c)) ≡ numbered_in a + (numbered_in b + numbered_in c)
numbered_three a b c = omega (arith, numbered_append a (b ++ c), numbered_append b c)

signed_numbered : (s : Sign) → numbered_in (signed_op (sign_said s) ∷ []) ≡ 1
signed_numbered Plus = refl
signed_numbered Minus = refl

lead_numbered : (l : Lead) → numbered_in (lead_code (lead_said l)) ≡ 0
lead_numbered Bare = refl
lead_numbered (Led Plus n) = refl
lead_numbered (Led Minus n) = refl

at_most_8 : (k : ℕ) → is_exponent k ≡ true → k ≤ 8
at_most_8 k e = leb-true k 8 (and_parts (nat_le 1 k) (nat_le k 8) e).1

module _ (text : Text) (names : List Text) where
  abbrev named : Span → Text
  named = column_name text names

  -- the parts behind an operator
  abbrev rest : (last : Kind) (a b : List Token) → Fine text names last (a ++ b) → Fine text names last a
  rest = fine_left text names

  -- ---- exponents

  mutual
    pub arith_in_range : (a : Tree) (last : Kind) → Fine text names last (arith_tokens a) → has_exponents (arith_said named a) ≡ true
    arith_in_range (First Bare p) last h = aprod_in_range p last h
    arith_in_range (First (Led s n) p) last h = aprod_in_range p (Signed s) h.2
    arith_in_range (More a s n p) last h =
        and_from (has_exponents (arith_said named a)) (product_has (aprod_said named p)) (arith_in_range a last (rest last (arith_tokens a) (token (Signed s) n ∷ aprod_tokens p) h))
        (aprod_in_range p (Signed s) (fine_right text names last (arith_tokens a) (token (Signed s) n ∷ aprod_tokens p) h).2)

    aprod_in_range : (p : Aprod) (last : Kind) → Fine text names last (aprod_tokens p) → product_has (aprod_said named p) ≡ true
    aprod_in_range (One p) last h = apow_in_range p last h
    aprod_in_range (Times a n p) last h =
        and_from (product_has (aprod_said named a)) (power_has (apow_said named p)) (aprod_in_range a last (rest last (aprod_tokens a) (token Star n ∷ apow_tokens p) h))
        (apow_in_range p Star (fine_right text names last (aprod_tokens a) (token Star n ∷ apow_tokens p) h).2)

    apow_in_range : (p : Apow) (last : Kind) → Fine text names last (apow_tokens p) → power_has (apow_said named p) ≡ true
    apow_in_range (Plain a) last h = aatom_in_range a last h
    apow_in_range (Raised a n k m) last h =
        and_from (atom_has (aatom_said named a)) (is_exponent (power_of k)) (aatom_in_range a last (rest last (aatom_tokens a) (token Caret n ∷ token (Number (Digits k)) m ∷ []) h))
        (fine_right text names last (aatom_tokens a) (token Caret n ∷ token (Number (Digits k)) m ∷ []) h).2.1

    aatom_in_range : (a : Aatom) (last : Kind) → Fine text names last (aatom_tokens a) → atom_has (aatom_said named a) ≡ true
    aatom_in_range (Leaf x n) last h = refl
    aatom_in_range (Constant v n) last h = refl
    aatom_in_range (Group o a c) last h = arith_in_range a Open (rest Open (arith_tokens a) (token Close c ∷ []) h.2)

  -- ---- at most 2 operations for a token, and one more

  module _ (known : List Text) where
    mutual
      pub arith_counts : (a : Tree) (last : Kind) → Fine text names last (arith_tokens a) → numbered_in (arithmetic_code known (arith_said named a)) ≤ 2 * length (arith_tokens a) + 1
      arith_counts (First Bare p) last h =
          let more = aprod_counts p last h in
          omega (arith, numbered_append (product_code known (aprod_said named p)) [], more)
      arith_counts (First (Led s n) p) last h =
          let more = aprod_counts p (Signed s) h.2 in
          omega (arith, numbered_append (product_code known (aprod_said named p)) (lead_code (lead_said (Led s n))), lead_numbered (Led s n), more)
      arith_counts (More a s n p) last h =
          let left = arith_counts a last (rest last (arith_tokens a) (token (Signed s) n ∷ aprod_tokens p) h) in
          let right = aprod_counts p (Signed s) (fine_right text names last (arith_tokens a) (token (Signed s) n ∷ aprod_tokens p) h).2 in
          omega (
            arith,
            numbered_three (arithmetic_code known (arith_said named a)) (product_code known (aprod_said named p)) (signed_op (sign_said s) ∷ []),
            signed_numbered s,
            length-append (arith_tokens a) (token (Signed s) n ∷ aprod_tokens p),
            left,
            right,
          )

      aprod_counts : (p : Aprod) (last : Kind) → Fine text names last (aprod_tokens p) → numbered_in (product_code known (aprod_said named p)) ≤ 2 * length (aprod_tokens p) + 1
      aprod_counts (One p) last h = apow_counts p last h
      aprod_counts (Times a n p) last h =
          let left = aprod_counts a last (rest last (aprod_tokens a) (token Star n ∷ apow_tokens p) h) in
          let right = apow_counts p Star (fine_right text names last (aprod_tokens a) (token Star n ∷ apow_tokens p) h).2 in
          omega (arith, numbered_three (product_code known (aprod_said named a)) (power_code known (apow_said named p)) (op.Mul ∷ []), length-append (aprod_tokens a) (token Star n ∷ apow_tokens p), left, right)

      apow_counts : (p : Apow) (last : Kind) → Fine text names last (apow_tokens p) → numbered_in (power_code known (apow_said named p)) ≤ 2 * length (apow_tokens p) + 1
      apow_counts (Plain a) last h = let less = aatom_counts a last h in omega (arith, less)
      apow_counts (Raised a n k m) last h =
          let less = aatom_counts a last (rest last (aatom_tokens a) (token Caret n ∷ token (Number (Digits k)) m ∷ []) h) in
          let small = at_most_8 (power_of k) (fine_right text names last (aatom_tokens a) (token Caret n ∷ token (Number (Digits k)) m ∷ []) h).2.1 in
          omega (arith, numbered_append (atom_code known (aatom_said named a)) (op.Power (power_of k) ∷ []), length-append (aatom_tokens a) (token Caret n ∷ token (Number (Digits k)) m ∷ []), less, small)

      aatom_counts : (a : Aatom) (last : Kind) → Fine text names last (aatom_tokens a) → numbered_in (atom_code known (aatom_said named a)) + 2 ≤ 2 * length (aatom_tokens a)
      aatom_counts (Leaf x n) last h = omega arith
      aatom_counts (Constant v n) last h = omega arith
      aatom_counts (Group o a c) last h =
          let inner = arith_counts a Open (rest Open (arith_tokens a) (token Close c ∷ []) h.2) in
          omega (arith, length-append (arith_tokens a) (token Close c ∷ []), inner)

  -- ---- names

  abbrev Known : List Text → Type 0
  Known ns = All (Contains names) ns

  column_known : (x : Span) (o : Option ℕ) → column_of names (piece text x) ≡ o → is_none o ≡ false → Contains names (name_at names (unwrap_or o 0))
  column_known x None e n = absurd (cc n)
  column_known x (Some i) e n = Contains-get_or names i [] (position-Some (λ m. bytes_eq m (piece text x)) names i [] e).0

  one_known : (x : Span) → is_unknown text names (Name x) ≡ false → Known (named x ∷ [])
  one_known x e = All-cons (Contains names) (named x) [] (column_known x (column_of names (piece text x)) refl e) (All-nil (Contains names))

  mutual
    pub arith_known : (a : Tree) (last : Kind) → Fine text names last (arith_tokens a) → Known (arithmetic_names (arith_said named a))
    arith_known (First Bare p) last h = aprod_known p last h
    arith_known (First (Led s n) p) last h = aprod_known p (Signed s) h.2
    arith_known (More a s n p) last h =
        All-append (Contains names) (arithmetic_names (arith_said named a)) (product_names (aprod_said named p)) (arith_known a last (rest last (arith_tokens a) (token (Signed s) n ∷ aprod_tokens p) h))
        (aprod_known p (Signed s) (fine_right text names last (arith_tokens a) (token (Signed s) n ∷ aprod_tokens p) h).2)

    aprod_known : (p : Aprod) (last : Kind) → Fine text names last (aprod_tokens p) → Known (product_names (aprod_said named p))
    aprod_known (One p) last h = apow_known p last h
    aprod_known (Times a n p) last h =
        All-append (Contains names) (product_names (aprod_said named a)) (power_names (apow_said named p)) (aprod_known a last (rest last (aprod_tokens a) (token Star n ∷ apow_tokens p) h))
        (apow_known p Star (fine_right text names last (aprod_tokens a) (token Star n ∷ apow_tokens p) h).2)

    apow_known : (p : Apow) (last : Kind) → Fine text names last (apow_tokens p) → Known (power_names (apow_said named p))
    apow_known (Plain a) last h = aatom_known a last h
    apow_known (Raised a n k m) last h = aatom_known a last (rest last (aatom_tokens a) (token Caret n ∷ token (Number (Digits k)) m ∷ []) h)

    aatom_known : (a : Aatom) (last : Kind) → Fine text names last (aatom_tokens a) → Known (atom_names (aatom_said named a))
    aatom_known (Leaf x n) last h = one_known x h.0
    aatom_known (Constant v n) last h = All-nil (Contains names)
    aatom_known (Group o a c) last h = arith_known a Open (rest Open (arith_tokens a) (token Close c ∷ []) h.2)

  with_known : (b : Bool) (found : List Text) (x : Text) → Known found → Contains names x → Known (cond b found (found ++ x ∷ []))
  with_known true found x k c = k
  with_known false found x k c = All-push (Contains names) found x k c

  pub once_known : (found ns : List Text) → Known found → Known ns → Known (each_once found ns)
  once_known found [] k h = k
  once_known found (x ∷ ns) k h =
      once_known (with_name found x) ns (with_known (list_any (λ y. bytes_eq y x) found) found x k (All-head (Contains names) x ns h)) (All-tail (Contains names) x ns h)
