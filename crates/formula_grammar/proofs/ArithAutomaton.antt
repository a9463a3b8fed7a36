-- Reading the tokens of an arithmetic one by one: what has been read of it as partial trees, and what comes of the next token.
use Rattle.std.specs.Prelude.{ℕ, List, [], ◌∷◌, Option, Some, None, option_and_then}
use Rattle.formula_grammar.specs.Words.{Sign, Digits, Kind, Name, Number, Signed, Star, Caret, Open, Close, Token}
use Rattle.formula_grammar.specs.Arithmetics.{Lead, Bare, Led, Arith, First, More, Aprod, One, Times, Apow, Plain, Raised, Aatom, Leaf, Constant, Group}

-- a left operand and the place of its star
pub record ArithLeft : Type 0 where
  pub tree : Aprod
  pub place : ℕ

-- what stands before the product to come
pub data ArithFront : Type 0 where
  ArithLeads : (lead : Lead) → ArithFront
  ArithAfter : (left : Arith) (sign : Sign) (place : ℕ) → ArithFront

-- what is open around a sum
pub data Hole : Type 0 where
  Top : Hole
  Within : (opened : ℕ) (left : Option ArithLeft) (front : ArithFront) (outer : Hole) → Hole

pub data ArithState : Type 0 where
  -- an operand, or a sign in front of it
  Begins : (hole : Hole) → ArithState
  Needs : (left : Option ArithLeft) (front : ArithFront) (hole : Hole) → ArithState
  Holds : (power : Apow) (left : Option ArithLeft) (front : ArithFront) (hole : Hole) → ArithState
  Raises : (atom : Aatom) (caret : ℕ) (left : Option ArithLeft) (front : ArithFront) (hole : Hole) → ArithState

abbrev pub onto_aprod : Option ArithLeft → Apow → Aprod
onto_aprod None p = One p
onto_aprod (Some l) p = Times l.tree l.place p

abbrev pub onto_arith : ArithFront → Aprod → Arith
onto_arith (ArithLeads l) p = First l p
onto_arith (ArithAfter a x n) p = More a x n p

-- the sum so far
abbrev pub arith_so_far : Apow → Option ArithLeft → ArithFront → Arith
arith_so_far p l f = onto_arith f (onto_aprod l p)

abbrev pub arith_operand : Option ArithLeft → ArithFront → Hole → ℕ → Kind → Option ArithState
arith_operand l f h n (Name x) = Some (Holds (Plain (Leaf x n)) l f h)
arith_operand l f h n (Number v) = Some (Holds (Plain (Constant v n)) l f h)
arith_operand l f h n Open = Some (Begins (Within n l f h))
arith_operand l f h n k = None

abbrev pub arith_closing : Arith → Hole → ℕ → Option ArithState
arith_closing a Top n = None
arith_closing a (Within m l f h) n = Some (Holds (Plain (Group m a n)) l f h)

-- behind a power
abbrev pub arith_behind : Apow → Option ArithLeft → ArithFront → Hole → ℕ → Kind → Option ArithState
arith_behind p l f h n Star = Some (Needs (Some (record { tree = onto_aprod l p; place = n })) f h)
arith_behind p l f h n (Signed x) = Some (Needs None (ArithAfter (arith_so_far p l f) x n) h)
arith_behind p l f h n Close = arith_closing (arith_so_far p l f) h n
arith_behind p l f h n k = None

abbrev pub arith_step : ArithState → ℕ → Kind → Option ArithState
arith_step (Begins h) n (Signed x) = Some (Needs None (ArithLeads (Led x n)) h)
arith_step (Begins h) n k = arith_operand None (ArithLeads Bare) h n k
arith_step (Needs l f h) n k = arith_operand l f h n k
arith_step (Holds (Plain a) l f h) n Caret = Some (Raises a n l f h)
arith_step (Holds p l f h) n k = arith_behind p l f h n k
arith_step (Raises a c l f h) n (Number (Digits e)) = Some (Holds (Raised a c e n) l f h)
arith_step s n k = None

-- the arithmetic that ends before this token
abbrev pub arith_ending : ArithState → Kind → Option Arith
arith_ending (Holds p l f Top) Close = Some (arith_so_far p l f)
arith_ending s k = None

abbrev pub arith_run : ArithState → List Token → Option ArithState
arith_run s [] = Some s
arith_run s (t ∷ ts) = option_and_then (λ s'. arith_run s' ts) (arith_step s t.at t.kind)
