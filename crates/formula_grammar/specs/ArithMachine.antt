-- Inner. What a token does to a half read arithmetic: the arithmetic then, or none where it can't stand there.
use Rattle.std.specs.Prelude.{◌≡◌, ◌==◌, Bool, true, false, List, [], ◌∷◌, ◌++◌, length, Option, Some, None}
use Rattle.formula_grammar.specs.Words.{Plus, Minus, Digits, Kind, Name, Number, Signed, Star, Caret, Open, Close, Token, ArithPart, ArithStep}
use Rattle.formula_grammar.specs.declared.reading.ArithStep.TheVariants as arith
pub use Rattle.formula_grammar.specs.declared.arith_levels.ArithSign.{ArithSign}
pub use Rattle.formula_grammar.specs.declared.arith_levels.ArithSign.TheVariants.{Leading, Between}
pub use Rattle.formula_grammar.specs.declared.arith_levels.ArithLevel.{ArithLevel}
pub use Rattle.formula_grammar.specs.declared.arith_reader.ArithPhase.{ArithPhase}
use Rattle.formula_grammar.specs.declared.arith_reader.ArithPhase.TheVariants as arith_phase
pub use Rattle.formula_grammar.specs.declared.arith_reader.ArithReader.{ArithReader}
use Rattle.formula_grammar.specs.Numerals.{power_of}
use Rattle.formula_grammar.specs.ArithCodes.{arith_signed_step}

-- a call that answers whether the token can stand there, and changes the reader where it can
abbrev pub Reads : {R : Type 0} → Option R → Bool → R → Type 0
Reads q true r = q ≡ Some r
Reads q false r = q ≡ None

-- no operator waits for its operand
abbrev pub arith_bare : ArithLevel
arith_bare = record { sum = None; product = false }

-- nothing is read yet
abbrev pub arith_fresh : ArithReader
arith_fresh = record { tokens = []; steps = []; level = arith_bare; outer = []; phase = arith_phase.Opening }

-- the step that ends a product
abbrev pub product_step : Bool → List ArithStep
product_step true = arith.Mul ∷ []
product_step false = []

-- the step of the sign that a token ends
abbrev pub arith_sign_step : Option ArithSign → List ArithStep
arith_sign_step None = []
arith_sign_step (Some (Leading Plus)) = []
arith_sign_step (Some (Leading Minus)) = arith.Negate ∷ []
arith_sign_step (Some (Between s)) = arith_signed_step s ∷ []

-- the steps that end a sum
abbrev pub arith_sum_end : ArithLevel → List ArithStep
arith_sum_end w = product_step w.product ++ arith_sign_step w.sum

-- where an operand must stand
abbrev pub arith_operand_read : ArithReader → Kind → Option ArithReader
arith_operand_read r (Name x) = Some (record r { steps = r.steps ++ (arith.Load x ∷ []); phase = arith_phase.BehindAtom })
arith_operand_read r (Number v) = Some (record r { steps = r.steps ++ (arith.Constant v ∷ []); phase = arith_phase.BehindAtom })
arith_operand_read r Open = Some (record r { level = arith_bare; outer = r.level ∷ r.outer; phase = arith_phase.Opening })
arith_operand_read r k = None

-- where a sum begins
abbrev pub arith_opening_read : ArithReader → Kind → Option ArithReader
arith_opening_read r (Signed s) = Some (record r { level = record { sum = Some (Leading s); product = false }; phase = arith_phase.Operand })
arith_opening_read r k = arith_operand_read r k

-- a parenthesis that closes one of the arithmetic's
abbrev pub arith_close_read : ArithReader → List ArithLevel → Option ArithReader
arith_close_read r [] = None
arith_close_read r (w ∷ ws) = Some (record r { steps = r.steps ++ arith_sum_end r.level; level = w; outer = ws; phase = arith_phase.BehindAtom })

-- behind a power
abbrev pub arith_power_read : ArithReader → Kind → Option ArithReader
arith_power_read r Star = Some (record r {
  steps = r.steps ++ product_step r.level.product;
  level = record { sum = r.level.sum; product = true };
  phase = arith_phase.Operand;
})
arith_power_read r (Signed s) = Some (record r {
  steps = r.steps ++ arith_sum_end r.level;
  level = record { sum = Some (Between s); product = false };
  phase = arith_phase.Operand;
})
arith_power_read r Close = arith_close_read r r.outer
arith_power_read r k = None

-- behind an atom
abbrev pub arith_atom_read : ArithReader → Kind → Option ArithReader
arith_atom_read r Caret = Some (record r { phase = arith_phase.Exponent })
arith_atom_read r k = arith_power_read r k

-- behind `^`
abbrev pub arith_exponent_read : ArithReader → Kind → Option ArithReader
arith_exponent_read r (Number (Digits k)) = Some (record r { steps = r.steps ++ (arith.Power (power_of k) ∷ []); phase = arith_phase.BehindPower })
arith_exponent_read r k = None

-- a token in a phase
abbrev pub arith_read_in : ArithPhase → ArithReader → Kind → Option ArithReader
arith_read_in arith_phase.Opening r k = arith_opening_read r k
arith_read_in arith_phase.Operand r k = arith_operand_read r k
arith_read_in arith_phase.BehindAtom r k = arith_atom_read r k
arith_read_in arith_phase.Exponent r k = arith_exponent_read r k
arith_read_in arith_phase.BehindPower r k = arith_power_read r k

-- a token of the arithmetic
abbrev pub arith_read : ArithReader → Token → Option ArithReader
arith_read r t = arith_read_in r.phase (record r { tokens = r.tokens ++ (t ∷ []) }) t.kind

-- the token is the parenthesis behind the arithmetic
abbrev pub ends_in : ArithPhase → List ArithLevel → Kind → Bool
ends_in arith_phase.BehindAtom outer Close = length outer == 0
ends_in arith_phase.BehindPower outer Close = length outer == 0
ends_in p outer k = false

-- the same, of a reader
abbrev pub arith_ends_at : ArithReader → Kind → Bool
arith_ends_at r k = ends_in r.phase r.outer k

-- the arithmetic that was read
abbrev pub arith_part : ArithReader → ArithPart
arith_part r = record { tokens = r.tokens; steps = r.steps ++ arith_sum_end r.level }
