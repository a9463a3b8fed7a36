-- Reading tokens one by one: what has been read of a formula as partial trees, and what comes of the next token.
use Rattle.std.specs.Prelude.{ℕ, List, [], ◌∷◌, Option, Some, None, option_and_then, option_map}
use Rattle.formula_grammar.specs.Words.{Span, Sign, Plus, Minus, Zero, Unity, Numeral, Digits, Kind, Name, FactorWord, QssWord, ArithWord, OffsetWord, Number, Signed, Tilde, Star, Colon, Caret, Open, Close, Comma, Point, End, Token}
use Rattle.formula_grammar.specs.Grammar.{Lead, Bare, Led, Sum, First, More, Product, One, Times, Inter, Lone, Cross, Power, Plain, Raised, Atom, Leaf, Factor}
use Rattle.formula_grammar.specs.Grammar.{Computed, Dot, Group, Part, Smoothing, Offsetting, Item, Nil, Intercept, Term, Items, Start, StartPart, StartPlus, Then, ThenPart, Head, Formula}
use Rattle.formula_grammar.specs.Arithmetics.{Arith}
use Rattle.formula_grammar.proofs.ArithAutomaton.{Top, ArithState, Begins, arith_step, arith_ending}

-- a left operand and the place of its operator
pub record Left (T : Type 0) : Type 0 where
  pub tree : T
  pub place : ℕ

pub record Lefts : Type 0 where
  pub product : Option (Left Product)
  pub inter : Option (Left Inter)

abbrev pub no_lefts : Lefts
no_lefts = record { product = None; inter = None }

-- what stands before the part to come
pub data Front (T : Type 0) : Type 0 where
  Leads : (lead : Lead) → Front T
  After : (left : T) (sign : Sign) (place : ℕ) → Front T

-- what may stand before a smooth or an offset
pub data PartFront : Type 0 where
  Nowhere : PartFront
  BehindPlus : (place : ℕ) → PartFront
  BehindItems : (left : Items) (place : ℕ) → PartFront

-- what is open around the product to come
pub data Around : Type 0 where
  Bottom : (head : Head) (front : Front Items) → Around
  Inside : (front : Front Sum) (opened : ℕ) (lefts : Lefts) (outer : Around) → Around

-- where an arithmetic stands: in `I( )` or in `offset( )`
pub data Slot : Type 0 where
  TermSlot : (word opened : ℕ) (lefts : Lefts) (around : Around) → Slot
  OffsetSlot : (word opened : ℕ) (head : Head) (front : PartFront) → Slot

pub data State : Type 0 where
  Begin : State
  Named : (name : Span) (place : ℕ) → State
  -- a product, or a sign or an item where the front lets one stand
  Fresh : (around : Around) → State
  -- an operand
  Wants : (lefts : Lefts) (around : Around) → State
  Factor1 : (word : ℕ) (lefts : Lefts) (around : Around) → State
  Factor2 : (word opened : ℕ) (lefts : Lefts) (around : Around) → State
  Factor3 : (word opened : ℕ) (name : Span) (place : ℕ) (lefts : Lefts) (around : Around) → State
  Arith1 : (word : ℕ) (lefts : Lefts) (around : Around) → State
  Offset1 : (word : ℕ) (head : Head) (front : PartFront) → State
  Computing : (slot : Slot) (arith : ArithState) → State
  Has : (power : Power) (lefts : Lefts) (around : Around) → State
  Raising : (atom : Atom) (caret : ℕ) (lefts : Lefts) (around : Around) → State
  Smooth1 : (word : ℕ) (head : Head) (front : PartFront) → State
  Smooth2 : (word opened : ℕ) (head : Head) (front : PartFront) → State
  Smooth3 : (word opened : ℕ) (name : Span) (place : ℕ) (head : Head) (front : PartFront) → State
  Smooth4 : (word opened : ℕ) (name : Span) (place comma : ℕ) (head : Head) (front : PartFront) → State
  Smooth5 : (word opened : ℕ) (name : Span) (place comma : ℕ) (lambda : Numeral) (at : ℕ) (head : Head) (front : PartFront) → State
  HasItems : (items : Items) (head : Head) → State
  Done : (formula : Formula) → State

abbrev pub onto_inter : Option (Left Inter) → Power → Inter
onto_inter None a = Lone a
onto_inter (Some l) a = Cross l.tree l.place a

abbrev pub onto_product : Option (Left Product) → Inter → Product
onto_product None i = One i
onto_product (Some l) i = Times l.tree l.place i

abbrev pub product_of : Lefts → Power → Product
product_of l a = onto_product l.product (onto_inter l.inter a)

abbrev pub onto_sum : Front Sum → Product → Sum
onto_sum (Leads l) p = First l p
onto_sum (After s x n) p = More s x n p

abbrev pub onto_items : Front Items → Item → Items
onto_items (Leads l) i = Start l i
onto_items (After j x n) i = Then j x n i

abbrev pub onto_part : PartFront → Part → Items
onto_part Nowhere p = StartPart p
onto_part (BehindPlus n) p = StartPlus n p
onto_part (BehindItems j n) p = ThenPart j n p

-- a smooth or an offset never follows a minus
abbrev pub part_front : Front Items → Option PartFront
part_front (Leads Bare) = Some Nowhere
part_front (Leads (Led Plus k)) = Some (BehindPlus k)
part_front (Leads (Led Minus k)) = None
part_front (After j Plus k) = Some (BehindItems j k)
part_front (After j Minus k) = None

abbrev pub operand : Lefts → Around → ℕ → Kind → Option State
operand l o n (Name x) = Some (Has (Plain (Leaf x n)) l o)
operand l o n Point = Some (Has (Plain (Dot n)) l o)
operand l o n FactorWord = Some (Factor1 n l o)
operand l o n ArithWord = Some (Arith1 n l o)
operand l o n Open = Some (Fresh (Inside (Leads Bare) n l o))
operand l o n k = None

abbrev pub led : Around → Sign → ℕ → Option State
led (Bottom h (Leads Bare)) x n = Some (Fresh (Bottom h (Leads (Led x n))))
led (Inside (Leads Bare) p l o) x n = Some (Fresh (Inside (Leads (Led x n)) p l o))
led o x n = None

abbrev pub item : Around → ℕ → Item → Option State
item (Bottom h f) n i = Some (HasItems (onto_items f i) h)
item (Inside f p l o) n i = None

-- `begun` is what comes of the word of a smooth or an offset behind a front
abbrev pub part : (Head → PartFront → State) → Around → Option State
part begun (Bottom h f) = option_map (begun h) (part_front f)
part begun (Inside f p l o) = None

abbrev pub fresh : Around → ℕ → Kind → Option State
fresh o n (Signed x) = led o x n
fresh o n (Number (Digits Zero)) = item o n (Nil n)
fresh o n (Number (Digits Unity)) = item o n (Intercept n)
fresh o n QssWord = part (Smooth1 n) o
fresh o n OffsetWord = part (Offset1 n) o
fresh o n k = operand no_lefts o n k

abbrev pub signed : Product → Around → Sign → ℕ → State
signed p (Bottom h f) x n = Fresh (Bottom h (After (onto_items f (Term p)) x n))
signed p (Inside f m l o) x n = Fresh (Inside (After (onto_sum f p) x n) m l o)

abbrev pub closing : Product → Around → ℕ → Option State
closing p (Bottom h f) n = None
closing p (Inside f m l o) n = Some (Has (Plain (Group m (onto_sum f p) n)) l o)

abbrev pub ending : Product → Around → ℕ → Option State
ending p (Bottom h f) n = Some (Done (record { head = h; items = onto_items f (Term p); ended = n }))
ending p (Inside f m l o) n = None

-- behind a power
abbrev pub behind : Power → Lefts → Around → ℕ → Kind → Option State
behind p l o n Colon = Some (Wants (record { product = l.product; inter = Some (record { tree = onto_inter l.inter p; place = n }) }) o)
behind p l o n Star = Some (Wants (record { product = Some (record { tree = product_of l p; place = n }); inter = None }) o)
behind p l o n (Signed x) = Some (signed (product_of l p) o x n)
behind p l o n Close = closing (product_of l p) o n
behind p l o n End = ending (product_of l p) o n
behind p l o n k = None

abbrev pub behind_items : Items → Head → ℕ → Kind → Option State
behind_items i h n (Signed x) = Some (Fresh (Bottom h (After i x n)))
behind_items i h n End = Some (Done (record { head = h; items = i; ended = n }))
behind_items i h n k = None

-- behind an arithmetic that ended
abbrev pub slot_end : Slot → Arith → ℕ → State
slot_end (TermSlot w p l o) a n = Has (Plain (Computed w p a n)) l o
slot_end (OffsetSlot w p h f) a n = HasItems (onto_part f (Offsetting (record { word = w; opened = p; arith = a; closed = n }))) h

abbrev pub slot_step : Slot → ℕ → Option Arith → Option ArithState → Option State
slot_step c n (Some a) q = Some (slot_end c a n)
slot_step c n None None = None
slot_step c n None (Some s) = Some (Computing c s)

abbrev pub step_at : State → ℕ → Kind → Option State
step_at Begin n (Name x) = Some (Named x n)
step_at (Named x m) n Tilde = Some (Fresh (Bottom (record { response = x; place = m; tilde = n }) (Leads Bare)))
step_at (Fresh o) n k = fresh o n k
step_at (Wants l o) n k = operand l o n k
step_at (Factor1 w l o) n Open = Some (Factor2 w n l o)
step_at (Factor2 w p l o) n (Name x) = Some (Factor3 w p x n l o)
step_at (Factor3 w p x m l o) n Close = Some (Has (Plain (Factor w p x m n)) l o)
step_at (Arith1 w l o) n Open = Some (Computing (TermSlot w n l o) (Begins Top))
step_at (Offset1 w h f) n Open = Some (Computing (OffsetSlot w n h f) (Begins Top))
step_at (Computing c s) n k = slot_step c n (arith_ending s k) (arith_step s n k)
step_at (Has (Plain a) l o) n Caret = Some (Raising a n l o)
step_at (Has p l o) n k = behind p l o n k
step_at (Raising a c l o) n (Number (Digits e)) = Some (Has (Raised a c e n) l o)
step_at (Smooth1 w h f) n Open = Some (Smooth2 w n h f)
step_at (Smooth2 w p h f) n (Name x) = Some (Smooth3 w p x n h f)
step_at (Smooth3 w p x m h f) n Comma = Some (Smooth4 w p x m n h f)
step_at (Smooth4 w p x m c h f) n (Number v) = Some (Smooth5 w p x m c v n h f)
step_at (Smooth5 w p x m c v q h f) n Close = Some (HasItems (onto_part f (Smoothing (record { word = w; opened = p; name = x; place = m; comma = c; lambda = v; at = q; closed = n }))) h)
step_at (HasItems i h) n k = behind_items i h n k
step_at s n k = None

abbrev pub step : State → Token → Option State
step s t = step_at s t.at t.kind

abbrev pub run : State → List Token → Option State
run s [] = Some s
run s (t ∷ ts) = option_and_then (λ s'. run s' ts) (step s t)
