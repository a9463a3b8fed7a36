-- Inner. The steps of a formula's code on a stack of meanings, the top first. A missing operand is the empty list.
use Rattle.std.specs.Prelude.{◌≡◌, ℕ, Bool, List, [], ◌∷◌, Result, Ok, Err}
use Rattle.formula_parser.specs.Words.{ArithPart, Span, Step, Load, LoadAll, LoadArith, Nothing, Add, Remove, Multiply, Interact, Raise}
pub use Rattle.formula_parser.specs.declared.evaluation.Halt.{Halt}
pub use Rattle.formula_parser.specs.declared.evaluation.Halt.TheVariants.{OutOfMemory, TooManyTerms}
use Rattle.formula_parser.specs.Terms.{Term, Terms, plus, minus, cross, times, raised}
use Rattle.formula_parser.specs.Meaning.{limited, ◌>>=◌}

-- the last meaning
abbrev pub top : List Terms → Terms
top [] = []
top (a ∷ stack) = a

-- those before it
abbrev pub below : List Terms → List Terms
below [] = []
below (a ∷ stack) = stack

-- one more meaning
abbrev pub pushed : List Terms → Terms → Result (List Terms) ℕ
pushed stack a = Ok (a ∷ stack)

-- an operator of the two last meanings
abbrev pub on_two : (Terms → Terms → Terms) → ℕ → List Terms → Result (List Terms) ℕ
on_two f n stack = limited n (f (top (below stack)) (top stack)) >>= λ c. pushed (below (below stack)) c

module _ (only : Span → Bool → Term) (computed : ArithPart → Term) (all : Terms) where
  -- one step
  abbrev pub act : Step → List Terms → Result (List Terms) ℕ
  act (Load x f) stack = pushed stack (only x f ∷ [])
  act (LoadArith p) stack = pushed stack (computed p ∷ [])
  act LoadAll stack = pushed stack all
  act Nothing stack = pushed stack []
  act (Add n) stack = on_two plus n stack
  act (Remove n) stack = on_two minus n stack
  act (Multiply n) stack = on_two times n stack
  act (Interact n) stack = on_two cross n stack
  act (Raise k n) stack = limited n (raised k (top stack)) >>= λ c. pushed (below stack) c

  -- step after step
  abbrev pub exec : List Step → List Terms → Result (List Terms) ℕ
  exec [] stack = Ok stack
  exec (i ∷ is) stack = act i stack >>= λ s. exec is s

  -- what the steps leave on top
  abbrev pub run_steps : List Step → Result Terms ℕ
  run_steps steps = exec steps [] >>= λ s. Ok (top s)

-- an evaluation that ran out of memory, or came to the operator that the definition comes to
abbrev pub Halts : {A : Type 0} → Result A ℕ → Halt → Type 0
Halts q OutOfMemory = Unit {0}
Halts q (TooManyTerms n) = q ≡ Err n

-- what an operator of two operands gives, if it hasn't too many terms
abbrev pub operated : Step → Terms → Terms → Result Terms ℕ
operated (Add n) a b = limited n (plus a b)
operated (Remove n) a b = limited n (minus a b)
operated (Multiply n) a b = limited n (times a b)
operated (Interact n) a b = limited n (cross a b)
operated step a b = Ok a
