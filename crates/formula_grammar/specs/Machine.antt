-- Inner. What a token does to a half read formula: the formula then, or none where it can't stand there.
use Rattle.std.specs.Prelude.{ℕ, ◌==◌, Bool, true, false, not, List, [], ◌∷◌, ◌++◌, length, Option, Some, None, if◌then◌else◌}
use Rattle.formula_grammar.specs.Words.{Span, Sign, Plus, Minus, Zero, Unity, Digits, Kind, Name, FactorWord, QssWord, ArithWord}
use Rattle.formula_grammar.specs.Words.{OffsetWord, Number, Signed, Tilde, Star, Colon, Caret, Open, Close, Comma, Point, End}
use Rattle.formula_grammar.specs.Words.{Token, Step, Load, LoadAll, LoadArith, Nothing, Multiply, Interact, Raise, SmoothPart}
pub use Rattle.formula_grammar.specs.declared.levels.Operator.{Operator}
pub use Rattle.formula_grammar.specs.declared.levels.Level.{Level}
pub use Rattle.formula_grammar.specs.declared.reader.Phase.{Phase}
pub use Rattle.formula_grammar.specs.declared.reader.Phase.TheVariants.{Response, BeforeTilde, Opening, Operand, FactorOpen, FactorName, FactorClose}
pub use Rattle.formula_grammar.specs.declared.reader.Phase.TheVariants.{BehindAtom, Exponent, BehindPower, SmoothOpen, SmoothName, SmoothComma, SmoothLambda}
pub use Rattle.formula_grammar.specs.declared.reader.Phase.TheVariants.{SmoothClose, BehindItem, ArithOpen, ArithInside, OffsetOpen, OffsetInside, Ended}
pub use Rattle.formula_grammar.specs.declared.reader.Reader.{Reader}
use Rattle.formula_grammar.specs.Numerals.{power_of}
use Rattle.formula_grammar.specs.Codes.{signed_step}
pub use Rattle.formula_grammar.specs.ArithMachine.{Reads}
use Rattle.formula_grammar.specs.ArithMachine.{ArithReader, arith_ends_at, arith_fresh, arith_part, arith_read}

-- the steps of the operators that a token ends
abbrev pub step_of : (ℕ → Step) → Option ℕ → List Step
step_of f None = []
step_of f (Some n) = f n ∷ []

-- the step of the sign that a token ends
abbrev pub sum_step : Option Operator → List Step
sum_step None = []
sum_step (Some o) = signed_step o.sign o.at ∷ []

-- the steps that end an inter
abbrev pub inter_end : Level → List Step
inter_end w = step_of Interact w.inter

-- those that end a product
abbrev pub product_end : Level → List Step
product_end w = inter_end w ++ step_of Multiply w.product

-- those that end a sum
abbrev pub sum_end : Level → List Step
sum_end w = product_end w ++ sum_step w.sum

-- no operator waits for its operand
abbrev pub bare : Level
bare = record { sum = None; product = None; inter = None }

-- an item that stands first acts on the empty list where it has no terms
abbrev pub first_step : Option Operator → List Step
first_step None = Nothing ∷ []
first_step (Some o) = []

-- the sign in front of an item, which is plus where none stands
abbrev pub operator_sign : Option Operator → Sign
operator_sign None = Plus
operator_sign (Some o) = o.sign

-- what an item `1` or `0` says of the intercept behind a sign
abbrev pub with_sign : Sign → Bool → Bool
with_sign Plus b = b
with_sign Minus b = not b

-- where an operand must stand
abbrev pub operand_read : Reader → Kind → Option Reader
operand_read r (Name x) = Some (record r { steps = r.steps ++ (Load x false ∷ []); phase = BehindAtom })
operand_read r Point = Some (record r { steps = r.steps ++ (LoadAll ∷ []); phase = BehindAtom })
operand_read r FactorWord = Some (record r { phase = FactorOpen })
operand_read r ArithWord = Some (record r { phase = ArithOpen })
operand_read r Open = Some (record r { level = bare; outer = r.level ∷ r.outer; phase = Opening })
operand_read r k = None

-- a sign that leads a sum
abbrev pub sign_read : Reader → Option Operator → Sign → ℕ → Option Reader
sign_read r None x n = Some (record r {
  steps = r.steps ++ (Nothing ∷ []);
  level = record { sum = Some (record { sign = x; at = n }); product = None; inter = None };
  phase = Opening;
})
sign_read r (Some o) x n = None

-- the item `1` or `0`, which no parentheses may hold
abbrev pub intercept_read : Reader → Bool → Option Reader
intercept_read r one =
    if length r.outer == 0
    then Some (record r { intercept = with_sign (operator_sign r.level.sum) one; steps = r.steps ++ first_step r.level.sum; level = bare; phase = BehindItem })
    else None

-- a smooth or an offset behind a sign, which leads to this phase
abbrev pub part_read_behind : Reader → Phase → Sign → Option Reader
part_read_behind r p Plus = Some (record r { steps = r.steps ++ first_step r.level.sum; level = bare; phase = p })
part_read_behind r p Minus = None

-- a smooth or an offset, which no parentheses may hold
abbrev pub part_read : Reader → Phase → Option Reader
part_read r p = if length r.outer == 0 then part_read_behind r p (operator_sign r.level.sum) else None

-- where a sum or an item begins
abbrev pub opening_read : Reader → ℕ → Kind → Option Reader
opening_read r n (Signed x) = sign_read r r.level.sum x n
opening_read r n (Number (Digits Zero)) = intercept_read r false
opening_read r n (Number (Digits Unity)) = intercept_read r true
opening_read r n QssWord = part_read r SmoothOpen
opening_read r n OffsetWord = part_read r OffsetOpen
opening_read r n k = operand_read r k

-- a parenthesis that closes
abbrev pub close_read : Reader → List Level → Option Reader
close_read r [] = None
close_read r (w ∷ ws) = Some (record r { steps = r.steps ++ sum_end r.level; level = w; outer = ws; phase = BehindAtom })

-- the end of the text, where none is open
abbrev pub end_read : Reader → Option Reader
end_read r = if length r.outer == 0 then Some (record r { steps = r.steps ++ sum_end r.level; level = bare; phase = Ended }) else None

-- behind a power
abbrev pub power_read : Reader → ℕ → Kind → Option Reader
power_read r n Colon = Some (record r {
  steps = r.steps ++ inter_end r.level;
  level = record { sum = r.level.sum; product = r.level.product; inter = Some n };
  phase = Operand;
})
power_read r n Star = Some (record r {
  steps = r.steps ++ product_end r.level;
  level = record { sum = r.level.sum; product = Some n; inter = None };
  phase = Operand;
})
power_read r n (Signed x) = Some (record r {
  steps = r.steps ++ sum_end r.level;
  level = record { sum = Some (record { sign = x; at = n }); product = None; inter = None };
  phase = Opening;
})
power_read r n Close = close_read r r.outer
power_read r n End = end_read r
power_read r n k = None

-- behind an atom
abbrev pub atom_read : Reader → ℕ → Kind → Option Reader
atom_read r n Caret = Some (record r { phase = Exponent n })
atom_read r n k = power_read r n k

-- behind an item that is no product
abbrev pub item_read : Reader → ℕ → Kind → Option Reader
item_read r n (Signed x) = Some (record r { level = record { sum = Some (record { sign = x; at = n }); product = None; inter = None }; phase = Opening })
item_read r n End = Some (record r { phase = Ended })
item_read r n k = None

-- behind `^`
abbrev pub exponent_read : Reader → ℕ → Kind → Option Reader
exponent_read r caret (Number (Digits k)) = Some (record r { steps = r.steps ++ (Raise (power_of k) caret ∷ []); phase = BehindPower })
exponent_read r caret k = None

-- at the beginning
abbrev pub response_read : Reader → Kind → Option Reader
response_read r (Name x) = Some (record r { response = x; phase = BeforeTilde })
response_read r k = None

-- behind the name in `factor( )`
abbrev pub factor_read : Reader → Span → Kind → Option Reader
factor_read r x Close = Some (record r { steps = r.steps ++ (Load x true ∷ []); phase = BehindAtom })
factor_read r x k = None

-- behind the number in `qss( )`
abbrev pub smooth_end_read : Reader → SmoothPart → Kind → Option Reader
smooth_end_read r s Close = Some (record r { smooths = r.smooths ++ (s ∷ []); phase = BehindItem })
smooth_end_read r s k = None

-- a reader with another arithmetic, or none
abbrev pub with_arith : Reader → Option ArithReader → Option Reader
with_arith r None = None
with_arith r (Some a) = Some (record r { arith = a })

-- a token inside `I( )`, or the parenthesis behind it
abbrev pub inside_read : Reader → Token → Option Reader
inside_read r t =
    if arith_ends_at r.arith t.kind then Some (record r { steps = r.steps ++ (LoadArith (arith_part r.arith) ∷ []); arith = arith_fresh; phase = BehindAtom })
    else with_arith r (arith_read r.arith t)

-- a token inside `offset( )`, or the parenthesis behind it
abbrev pub offset_read : Reader → Token → Option Reader
offset_read r t =
    if arith_ends_at r.arith t.kind then Some (record r { offsets = r.offsets ++ (arith_part r.arith ∷ []); arith = arith_fresh; phase = BehindItem })
    else with_arith r (arith_read r.arith t)

-- the tokens that stand for nothing but themselves, those inside `factor(..)` and `qss(..)`, and what opens an arithmetic
abbrev pub next_phase : Phase → Kind → Option Phase
next_phase BeforeTilde Tilde = Some Opening
next_phase ArithOpen Open = Some ArithInside
next_phase OffsetOpen Open = Some OffsetInside
next_phase FactorOpen Open = Some FactorName
next_phase FactorName (Name x) = Some (FactorClose x)
next_phase SmoothOpen Open = Some SmoothName
next_phase SmoothName (Name x) = Some (SmoothComma x)
next_phase (SmoothComma x) Comma = Some (SmoothLambda x)
next_phase (SmoothLambda x) (Number v) = Some (SmoothClose (record { name = x; lambda = v }))
next_phase p k = None

-- a token that changes the phase alone
abbrev pub phase_read : Reader → Option Phase → Option Reader
phase_read r None = None
phase_read r (Some p) = Some (record r { phase = p })

-- a token in a phase
abbrev pub read_in : Phase → Reader → ℕ → Kind → Option Reader
read_in Response r n k = response_read r k
read_in Opening r n k = opening_read r n k
read_in Operand r n k = operand_read r k
read_in (FactorClose x) r n k = factor_read r x k
read_in BehindAtom r n k = atom_read r n k
read_in (Exponent c) r n k = exponent_read r c k
read_in BehindPower r n k = power_read r n k
read_in (SmoothClose s) r n k = smooth_end_read r s k
read_in BehindItem r n k = item_read r n k
read_in ArithInside r n k = inside_read r (record { kind = k; at = n })
read_in OffsetInside r n k = offset_read r (record { kind = k; at = n })
read_in p r n k = phase_read r (next_phase p k)

-- a token in the phase of the reader
abbrev pub token_read : Reader → Token → Option Reader
token_read r t = read_in r.phase r t.at t.kind
