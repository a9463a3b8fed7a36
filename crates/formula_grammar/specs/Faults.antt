-- Stated. The formula of some tokens, or their first fault.
use Rattle.std.specs.Prelude.{◌≡◌, ◌⊎◌, ◌++◌, ◌<◌, ◌+◌, ◌-◌, ◌&&◌, ℕ, Bool, nat_le}
use Rattle.std.specs.Prelude.{List, [], ◌∷◌, length, take, slice_index_or, Option, Some, None, if◌then◌else◌}
use Rattle.formula_grammar.specs.Words.{Kind, Number, Caret, Open, Close, End, Whole, Numeral, Digits, Token, Reading}
pub use Rattle.formula_grammar.specs.declared.fault.ReadFault.{ReadFault}
pub use Rattle.formula_grammar.specs.declared.fault.ReadFault.TheVariants.{OutOfMemory, Syntax, TooDeep, PowerRange, NumberTooWide}
use Rattle.formula_grammar.specs.Numerals.{is_wide, power_of}
use Rattle.formula_grammar.specs.Grammar.{Formula, token, formula_tokens, Begins}
use Rattle.formula_grammar.specs.Codes.{reading_of}

-- the token at an index
abbrev pub token_at : List Token → ℕ → Token
token_at ts i = slice_index_or ts i (token End 0)

-- how many parentheses are open behind a token, where so many were before it
abbrev pub depth_behind : Kind → ℕ → ℕ
depth_behind Open n = n + 1
depth_behind Close n = n - 1
depth_behind k n = n

-- how many parentheses are open behind some tokens, where so many were before them
abbrev pub depth_from : ℕ → List Token → ℕ
depth_from n [] = n
depth_from n (t ∷ ts) = depth_from (depth_behind t.kind n) ts

-- how many parentheses are open behind some tokens
abbrev pub depth : List Token → ℕ
depth ts = depth_from 0 ts

-- the kind of the last of some tokens, or a kind where there are none
abbrev pub last_from : Kind → List Token → Kind
last_from k [] = k
last_from k (t ∷ ts) = last_from t.kind ts

-- the kind of the last of some tokens
abbrev pub last_kind : List Token → Kind
last_kind ts = last_from End ts

-- an exponent is 1 to 8
abbrev pub is_power : Whole → Bool
is_power k = nat_le 1 (power_of k) && nat_le (power_of k) 8

-- an exponent, which is digits behind `^`, whose value isn't 1 to 8; any other number that is too wide, which is a lambda or
-- stands in an arithmetic
abbrev pub number_fault : Kind → Numeral → ℕ → Option ReadFault
number_fault Caret (Digits k) n = if is_power k then None else Some (PowerRange n)
number_fault before x n = if is_wide x then Some (NumberTooWide n) else None

-- the limit that a token passes, behind a token of this kind and with so many open parentheses
abbrev pub limit_fault : Kind → ℕ → ℕ → Kind → Option ReadFault
limit_fault Open n opened before = if nat_le 64 opened then Some (TooDeep n) else None
limit_fault (Number x) n opened before = number_fault before x n
limit_fault k n opened before = None

-- the limit that the token at an index passes
abbrev pub limit_at : List Token → ℕ → Option ReadFault
limit_at ts i = limit_fault (token_at ts i).kind (token_at ts i).at (depth (take i ts)) (last_kind (take i ts))

-- A fault of the token at an index: no formula can have it there; or one can, and a limit is passed.
abbrev pub IsFaultAt : List Token → ℕ → ReadFault → Type 0
IsFaultAt ts i OutOfMemory = ⊥
IsFaultAt ts i (Syntax n) = Begins (take i ts) × (Begins (take (i + 1) ts) → ⊥) × (n ≡ (token_at ts i).at)
IsFaultAt ts i fault = Begins (take (i + 1) ts) × (limit_at ts i ≡ Some fault)

-- no token before the index has a fault
abbrev pub IsCleanBelow : List Token → ℕ → Type 0
IsCleanBelow ts index = (i : ℕ) → i < index → (fault : ReadFault) → IsFaultAt ts i fault → ⊥

-- the first fault from left to right
pub record IsFirstFault (ts : List Token) (fault : ReadFault) : Type 0 where
  pub index : ℕ
  pub there : index < length ts
  pub here : IsFaultAt ts index fault
  pub first : IsCleanBelow ts index

-- the tokens are this formula's, and none has a fault
pub record IsFormula (ts : List Token) (f : Formula) : Type 0 where
  pub reads : ts ≡ formula_tokens f
  pub clean : IsCleanBelow ts (length ts)

-- what was read is the code of the one formula of the tokens
pub record IsReading (ts : List Token) (r : Reading) : Type 0 where
  pub formula : Formula
  pub is : IsFormula ts formula
  pub code : r ≡ reading_of formula

-- why nothing was read
abbrev pub IsFault : List Token → ReadFault → Type 0
IsFault ts OutOfMemory = Unit {0}
IsFault ts fault = IsFirstFault ts fault

-- tokens whose last one is the end of a text
pub record EndText (ts : List Token) : Type 0 where
  pub front : List Token
  pub ended : ℕ
  pub is : ts ≡ front ++ (token End ended ∷ [])

-- tokens have one first fault at most, and none where they are a formula
abbrev pub OneFault : Type 0
OneFault = (ts : List Token) (a b : ReadFault) → IsFirstFault ts a → IsFirstFault ts b → a ≡ b

-- and tokens of a formula have none
abbrev pub NoFormulaHasFaults : Type 0
NoFormulaHasFaults = (ts : List Token) (f : Formula) (fault : ReadFault) → IsFormula ts f → IsFirstFault ts fault → ⊥

-- the tokens of a text are a formula or have a first fault
abbrev pub FormulaOrFault : Type 0
FormulaOrFault = (ts : List Token) → EndText ts → ((f : Formula) × IsFormula ts f) ⊎ ((fault : ReadFault) × IsFirstFault ts fault)

-- no token of a formula passes a limit: parentheses, exponents and numbers are within their ranges
abbrev pub FormulasKeepLimits : Type 0
FormulasKeepLimits = (ts : List Token) (f : Formula) → IsFormula ts f → (i : ℕ) → i < length ts → limit_at ts i ≡ None
