-- Stated. The meaning of a formula's expressions: a list of distinct terms, or the offset of the first operator whose
-- meaning has more than 4,096. Operators are evaluated operands first and left first.
use Rattle.std.specs.Prelude.{ℕ, Bool, true, false, [], ◌∷◌, length, Result, Ok, Err, nat_lt, if◌then◌else◌}
use Rattle.formula_parser.specs.Words.{ArithPart, Span, Sign, Plus, Minus}
use Rattle.formula_grammar.specs.Numerals.{power_of}
use Rattle.formula_grammar.specs.Arithmetics.{Bare, Led}
use Rattle.formula_grammar.specs.Grammar.{Sum, First, More, Product, One, Times, Inter, Lone, Cross, Power, Plain, Raised, Atom}
use Rattle.formula_grammar.specs.Grammar.{Leaf, Factor, Computed, Dot, Group, Nil, Intercept, Items, Start, Then, ThenPart}
use Rattle.formula_grammar.specs.ArithCodes.{part_of}
use Rattle.formula_grammar.specs.Grammar.{Term as TermItem}
use Rattle.formula_parser.specs.Terms.{Term, Terms, plus, minus, cross, times, raised}

-- a meaning, and the next one that needs it; the first that has too many terms ends all
infixl 10 ◌>>=◌
abbrev pub ◌>>=◌ : {A B : Type 0} → Result A ℕ → (A → Result B ℕ) → Result B ℕ
(Ok x) >>= f = f x
(Err e) >>= f = Err e

-- the meaning of the operator at a place, if it hasn't too many terms
unfoldable pub limited : ℕ → Terms → Result Terms ℕ
limited place ts = if nat_lt 4096 (length ts) then Err place else Ok ts

-- by a plus or by a minus
abbrev pub combined : Sign → Terms → Terms → Terms
combined Plus a b = plus a b
combined Minus a b = minus a b

-- `only` gives the term of one variable, by its name and whether `factor` was written, and `computed` that of an arithmetic;
-- `all` are the terms of `.`
module _ (only : Span → Bool → Term) (computed : ArithPart → Term) (all : Terms) where
  -- a leading sign acts on the empty list
  abbrev mutual
    -- the meaning of each of these, with that of its parts
    pub sum_meaning : Sum → Result Terms ℕ
    sum_meaning (First Bare p) = product_meaning p
    sum_meaning (First (Led x n) p) = product_meaning p >>= λ b. limited n (combined x [] b)
    sum_meaning (More s x n p) = sum_meaning s >>= λ a. product_meaning p >>= λ b. limited n (combined x a b)

    pub product_meaning : Product → Result Terms ℕ
    product_meaning (One i) = inter_meaning i
    product_meaning (Times p n i) = product_meaning p >>= λ a. inter_meaning i >>= λ b. limited n (times a b)

    pub inter_meaning : Inter → Result Terms ℕ
    inter_meaning (Lone p) = power_meaning p
    inter_meaning (Cross i n p) = inter_meaning i >>= λ a. power_meaning p >>= λ b. limited n (cross a b)

    pub power_meaning : Power → Result Terms ℕ
    power_meaning (Plain a) = atom_meaning a
    power_meaning (Raised a n k m) = atom_meaning a >>= λ b. limited n (raised (power_of k) b)

    pub atom_meaning : Atom → Result Terms ℕ
    atom_meaning (Leaf x n) = Ok (only x false ∷ [])
    atom_meaning (Factor w o x n c) = Ok (only x true ∷ [])
    atom_meaning (Computed w o a c) = Ok (computed (part_of a) ∷ [])
    atom_meaning (Dot n) = Ok all
    atom_meaning (Group o s c) = sum_meaning s

  -- only items that are products have terms
  abbrev pub items_meaning : Items → Result Terms ℕ
  items_meaning (Start l (TermItem p)) = sum_meaning (First l p)
  items_meaning (Then j x n (TermItem p)) = items_meaning j >>= λ a. product_meaning p >>= λ b. limited n (combined x a b)
  items_meaning (Then j x n (Nil m)) = items_meaning j
  items_meaning (Then j x n (Intercept m)) = items_meaning j
  items_meaning (ThenPart j n p) = items_meaning j
  items_meaning other = Ok []
