-- The arithmetics in a formula, and what its tokens say of theirs.
use Rattle.std.proofs.Common.{◌≡◌, ◌≤◌, ◌<◌, ◌+◌, ℕ, suc, Bool, true, false, List, [], ◌∷◌, ◌++◌, Option, Some, None, All, take, length, refl, arith}
use Rattle.std.specs.Prelude.{cond}
use Rattle.std.proofs.lemmas.List.{length-append}
use Rattle.std.proofs.lemmas.List.Elements.{All-append, All-cons, All-nil}
use Rattle.formula_parser.specs.Words.{Sign, Plus, Minus, Kind, Name, ArithWord, OffsetWord, Number, Digits, Signed, Tilde, Star, Colon, Caret}
use Rattle.formula_parser.specs.Words.{Open, Close, End, Token, ArithPart, Step, Load, LoadAll, LoadArith, Nothing, Multiply, Interact, Raise}
use Rattle.formula_grammar.specs.Numerals.{power_of}
use Rattle.formula_grammar.specs.declared.fault.ReadFault.{ReadFault}
use Rattle.formula_grammar.specs.declared.fault.ReadFault.TheVariants.{PowerRange}
use Rattle.formula_grammar.specs.Faults.{IsFormula, depth_behind, depth_from, is_power, last_from, limit_fault, token_at}
use Rattle.formula_grammar.specs.Grammar.{Sum, First, More, Product, One, Times, Inter, Lone, Cross, Power, Plain, Raised, Atom}
use Rattle.formula_grammar.specs.Grammar.{Leaf, Factor, Computed, Dot, Group, Part, Smoothing, Offsetting, Nil, Intercept, Term, Items, Start}
use Rattle.formula_grammar.specs.Grammar.{StartPart, StartPlus, Then, ThenPart, Formula, sum_tokens, product_tokens, inter_tokens, power_tokens, atom_tokens, part_tokens, items_tokens, formula_tokens}
use Rattle.formula_grammar.specs.Codes.{signed_step, sum_code, product_code, inter_code, power_code, atom_code, items_code, offsets_in, offsets_of}
use Rattle.formula_grammar.specs.Arithmetics.{token, Bare, Led, arith_tokens}
use Rattle.formula_grammar.specs.Arithmetics.{Arith as Tree}
use Rattle.formula_grammar.specs.ArithCodes.{part_of}
use Rattle.formula_grammar.proofs.Outcomes.{keeps_limits}
use Rattle.formula_parser.specs.Columns.{Text}
use Rattle.formula_parser.specs.Parsed.{is_unknown, unknown_name}

-- a number is 1 to 8
abbrev IsInRange : Kind → Type 0
IsInRange (Number (Digits k)) = is_power k ≡ true
IsInRange k = Unit {0}

-- an exponent is, which stands behind `^`
abbrev IsInRangeBehind : Kind → Kind → Type 0
IsInRangeBehind Caret k = IsInRange k
IsInRangeBehind last k = Unit {0}

-- steps load only such arithmetics
abbrev pub Loads : (ArithPart → Type 0) → Step → Type 0
Loads P (LoadArith p) = P p
Loads P s = Unit {0}

power_is : (b : Bool) (n : ℕ) → cond b None (Some (PowerRange n)) ≡ None → b ≡ true
power_is true n e = refl
power_is false n e = absurd (cc e)

in_range : (last k : Kind) (n opened : ℕ) → limit_fault k n opened last ≡ None → IsInRangeBehind last k
in_range Caret (Number (Digits k)) n opened e = power_is (is_power k) n e
in_range last k n opened e = tt

module _ (text : Text) (names : List Text) where
  -- names are those of columns, and exponents are in range, behind a token of this kind
  abbrev pub Fine : Kind → List Token → Type 0
  Fine last [] = Unit {0}
  Fine last (t ∷ ts) = (is_unknown text names t.kind ≡ false) × IsInRangeBehind last t.kind × Fine t.kind ts

  pub fine_left : (last : Kind) (a b : List Token) → Fine last (a ++ b) → Fine last a
  fine_left last [] b h = tt
  fine_left last (t ∷ a) b h = (h.0, h.1, fine_left t.kind a b h.2)

  pub fine_right : (last : Kind) (a b : List Token) → Fine last (a ++ b) → Fine (last_from last a) b
  fine_right last [] b h = h
  fine_right last (t ∷ a) b h = fine_right t.kind a b h.2

  -- an arithmetic of a formula that has so many tokens
  pub record IsWithin (n : ℕ) (p : ArithPart) : Type 0 where
    pub tree : Tree
    pub is : p ≡ part_of tree
    pub fine : Fine Open (arith_tokens tree)
    pub short : length (arith_tokens tree) + 3 ≤ n

  -- ---- the tokens of a formula are fine

  abbrev limit_from : ℕ → Kind → List Token → ℕ → Option ReadFault
  limit_from n last ts i = limit_fault (token_at ts i).kind (token_at ts i).at (depth_from n (take i ts)) (last_from last (take i ts))

  first_known : (b : Bool) (n : ℕ) (rest : Option ℕ) → cond b (Some n) rest ≡ None → (b ≡ false) × (rest ≡ None)
  first_known true n rest e = absurd (cc e)
  first_known false n rest e = (refl, e)

  fine_from : (n : ℕ) (last : Kind) (ts : List Token) → ((i : ℕ) → i < length ts → limit_from n last ts i ≡ None) → unknown_name text names ts ≡ None → Fine last ts
  fine_from n last [] h u = tt
  fine_from n last (t ∷ ts) h u =
      let known = first_known (is_unknown text names t.kind) t.at (unknown_name text names ts) u in
      let more : (i : ℕ) → i < length ts → limit_from (depth_behind t.kind n) t.kind ts i ≡ None = λ i lt. h (suc i) (omega (arith, lt)) in
      (known.0, in_range last t.kind t.at n (h 0 (omega arith)), fine_from (depth_behind t.kind n) t.kind ts more known.1)

  pub formula_fine : (ts : List Token) (f : Formula) → IsFormula ts f → unknown_name text names ts ≡ None → Fine End ts
  formula_fine ts f w u = fine_from 0 End ts (keeps_limits ts f w) u

  -- ---- so are those of its arithmetics

  module _ (n : ℕ) where
    abbrev In : Kind → List Token → Type 0
    In last ts = Fine last ts × (length ts ≤ n)

    front : (last : Kind) (a b : List Token) → In last (a ++ b) → In last a
    front last a b h =
        let le : length a ≤ n = omega (arith, length-append a b, h.1) in
        (fine_left last a b h.0, le)

    behind : (last : Kind) (a : List Token) (t : Token) (b : List Token) → In last (a ++ (t ∷ b)) → In t.kind b
    behind last a t b h =
        let le : length b ≤ n = omega (arith, length-append a (t ∷ b), h.1) in
        ((fine_right last a (t ∷ b) h.0).2, le)

    computed : (last k : Kind) (w o c : ℕ) (a : Tree) → In last (token k w ∷ token Open o ∷ (arith_tokens a ++ (token Close c ∷ []))) → IsWithin n (part_of a)
    computed last k w o c a h = record {
      tree = a;
      is = refl;
      fine = fine_left Open (arith_tokens a) (token Close c ∷ []) h.0.2.2;
      short = omega (arith, length-append (arith_tokens a) (token Close c ∷ []), h.1);
    }

    abbrev Code : List Step → Type 0
    Code = All (Loads (IsWithin n))

    one : (s : Step) → Loads (IsWithin n) s → Code (s ∷ [])
    one s p = All-cons (Loads (IsWithin n)) s [] p (All-nil (Loads (IsWithin n)))

    both : (a b : List Step) → Code a → Code b → Code (a ++ b)
    both a b h k = All-append (Loads (IsWithin n)) a b h k

    signed : (x : Sign) (m : ℕ) → Code (signed_step x m ∷ [])
    signed Plus m = one (signed_step Plus m) tt
    signed Minus m = one (signed_step Minus m) tt

    mutual
      sum_within : (s : Sum) (last : Kind) → In last (sum_tokens s) → Code (sum_code s)
      sum_within (First Bare p) last h = product_within p last h
      sum_within (First (Led x m) p) last h =
          both (Nothing ∷ []) (product_code p ++ (signed_step x m ∷ [])) (one Nothing tt)
          (both (product_code p) (signed_step x m ∷ []) (product_within p (Signed x) (behind last [] (token (Signed x) m) (product_tokens p) h)) (signed x m))
      sum_within (More s x m p) last h =
          both (sum_code s) (product_code p ++ (signed_step x m ∷ [])) (sum_within s last (front last (sum_tokens s) (token (Signed x) m ∷ product_tokens p) h))
          (both (product_code p) (signed_step x m ∷ []) (product_within p (Signed x) (behind last (sum_tokens s) (token (Signed x) m) (product_tokens p) h)) (signed x m))

      product_within : (p : Product) (last : Kind) → In last (product_tokens p) → Code (product_code p)
      product_within (One i) last h = inter_within i last h
      product_within (Times p m i) last h =
          both (product_code p) (inter_code i ++ (Multiply m ∷ [])) (product_within p last (front last (product_tokens p) (token Star m ∷ inter_tokens i) h))
          (both (inter_code i) (Multiply m ∷ []) (inter_within i Star (behind last (product_tokens p) (token Star m) (inter_tokens i) h)) (one (Multiply m) tt))

      inter_within : (i : Inter) (last : Kind) → In last (inter_tokens i) → Code (inter_code i)
      inter_within (Lone p) last h = power_within p last h
      inter_within (Cross i m p) last h =
          both (inter_code i) (power_code p ++ (Interact m ∷ [])) (inter_within i last (front last (inter_tokens i) (token Colon m ∷ power_tokens p) h))
          (both (power_code p) (Interact m ∷ []) (power_within p Colon (behind last (inter_tokens i) (token Colon m) (power_tokens p) h)) (one (Interact m) tt))

      power_within : (p : Power) (last : Kind) → In last (power_tokens p) → Code (power_code p)
      power_within (Plain a) last h = atom_within a last h
      power_within (Raised a m k q) last h =
          both (atom_code a) (Raise (power_of k) m ∷ []) (atom_within a last (front last (atom_tokens a) (token Caret m ∷ token (Number (Digits k)) q ∷ []) h)) (one (Raise (power_of k) m) tt)

      atom_within : (a : Atom) (last : Kind) → In last (atom_tokens a) → Code (atom_code a)
      atom_within (Leaf x m) last h = one (Load x false) tt
      atom_within (Factor w o x m c) last h = one (Load x true) tt
      atom_within (Computed w o a c) last h = one (LoadArith (part_of a)) (computed last ArithWord w o c a h)
      atom_within (Dot m) last h = one LoadAll tt
      atom_within (Group o s c) last h =
          sum_within s Open (front Open (sum_tokens s) (token Close c ∷ []) (behind last [] (token Open o) (sum_tokens s ++ (token Close c ∷ [])) h))

    pub items_within : (j : Items) (last : Kind) → In last (items_tokens j) → Code (items_code j)
    items_within (Start Bare (Term p)) last h = product_within p last h
    items_within (Start (Led x m) (Term p)) last h = sum_within (First (Led x m) p) last h
    items_within (Then j x m (Term p)) last h =
        both (items_code j) (product_code p ++ (signed_step x m ∷ [])) (items_within j last (front last (items_tokens j) (token (Signed x) m ∷ product_tokens p) h))
        (both (product_code p) (signed_step x m ∷ []) (product_within p (Signed x) (behind last (items_tokens j) (token (Signed x) m) (product_tokens p) h)) (signed x m))
    items_within (Then j x m (Nil q)) last h = items_within j last (front last (items_tokens j) _ h)
    items_within (Then j x m (Intercept q)) last h = items_within j last (front last (items_tokens j) _ h)
    items_within (ThenPart j m p) last h = items_within j last (front last (items_tokens j) (token (Signed Plus) m ∷ part_tokens p) h)
    items_within other last h = one Nothing tt

    part_within : (p : Part) (last : Kind) → In last (part_tokens p) → All (IsWithin n) (offsets_in p)
    part_within (Smoothing s) last h = All-nil (IsWithin n)
    part_within (Offsetting f) last h = All-cons (IsWithin n) (part_of f.arith) [] (computed last OffsetWord f.word f.opened f.closed f.arith h) (All-nil (IsWithin n))

    pub offsets_within : (j : Items) (last : Kind) → In last (items_tokens j) → All (IsWithin n) (offsets_of j)
    offsets_within (Start l i) last h = All-nil (IsWithin n)
    offsets_within (StartPart p) last h = part_within p last h
    offsets_within (StartPlus m p) last h = part_within p (Signed Plus) (behind last [] (token (Signed Plus) m) (part_tokens p) h)
    offsets_within (Then j x m i) last h = offsets_within j last (front last (items_tokens j) _ h)
    offsets_within (ThenPart j m p) last h =
        All-append (IsWithin n) (offsets_of j) (offsets_in p) (offsets_within j last (front last (items_tokens j) (token (Signed Plus) m ∷ part_tokens p) h))
        (part_within p (Signed Plus) (behind last (items_tokens j) (token (Signed Plus) m) (part_tokens p) h))

    -- the items of a formula
    pub items_in : (f : Formula) → In End (formula_tokens f) → In Tilde (items_tokens f.items)
    items_in f h =
        front Tilde (items_tokens f.items) (token End f.ended ∷ [])
        (behind End (token (Name f.head.response) f.head.place ∷ []) (token Tilde f.head.tilde) (items_tokens f.items ++ (token End f.ended ∷ [])) h)
