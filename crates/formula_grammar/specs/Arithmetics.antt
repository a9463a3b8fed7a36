-- Stated. The grammar of arithmetics, one type for each line of it. A tree keeps where its tokens begin.
--
--   arith = [ "+" | "-" ] aprod { ( "+" | "-" ) aprod }
--   aprod = apow { "*" apow }
--   apow  = aatom [ "^" DIGITS ]
--   aatom = NAME | NUMBER | "(" arith ")"
use Rattle.std.specs.Prelude.{ℕ, List, [], ◌∷◌, ◌++◌}
use Rattle.formula_grammar.specs.Words.{Span, Sign, Whole, Numeral, Digits, Kind, Name, Number, Signed, Star, Caret, Open, Close, Token}

-- the token of a kind that begins at a place
abbrev pub token : Kind → ℕ → Token
token kind place = record { kind = kind; at = place }

-- a leading sign, or none
pub data Lead : Type 0 where
  Bare : Lead
  Led : (sign : Sign) (place : ℕ) → Lead

-- the tokens of each of these, from left to right
abbrev pub lead_tokens : Lead → List Token
lead_tokens Bare = []
lead_tokens (Led s n) = token (Signed s) n ∷ []

mutual
  -- arith: products with the signs between them
  pub data Arith : Type 0 where
    First : (lead : Lead) (only : Aprod) → Arith
    More : (left : Arith) (sign : Sign) (place : ℕ) (right : Aprod) → Arith

  -- aprod: powers with stars between them
  pub data Aprod : Type 0 where
    One : (only : Apow) → Aprod
    Times : (left : Aprod) (place : ℕ) (right : Apow) → Aprod

  -- apow: an atom, or one with an exponent
  pub data Apow : Type 0 where
    Plain : (only : Aatom) → Apow
    Raised : (base : Aatom) (place : ℕ) (exponent : Whole) (at : ℕ) → Apow

  -- aatom: a name, a number, or an arithmetic in parentheses
  pub data Aatom : Type 0 where
    Leaf : (name : Span) (place : ℕ) → Aatom
    Constant : (number : Numeral) (place : ℕ) → Aatom
    Group : (opened : ℕ) (inner : Arith) (closed : ℕ) → Aatom

abbrev mutual
  -- the tokens of an arithmetic and of what is in it
  pub arith_tokens : Arith → List Token
  arith_tokens (First l p) = lead_tokens l ++ aprod_tokens p
  arith_tokens (More a s n p) = arith_tokens a ++ (token (Signed s) n ∷ aprod_tokens p)

  pub aprod_tokens : Aprod → List Token
  aprod_tokens (One p) = apow_tokens p
  aprod_tokens (Times a n p) = aprod_tokens a ++ (token Star n ∷ apow_tokens p)

  pub apow_tokens : Apow → List Token
  apow_tokens (Plain a) = aatom_tokens a
  apow_tokens (Raised a n k m) = aatom_tokens a ++ (token Caret n ∷ token (Number (Digits k)) m ∷ [])

  pub aatom_tokens : Aatom → List Token
  aatom_tokens (Leaf x n) = token (Name x) n ∷ []
  aatom_tokens (Constant v n) = token (Number v) n ∷ []
  aatom_tokens (Group o a c) = token Open o ∷ (arith_tokens a ++ (token Close c ∷ []))
