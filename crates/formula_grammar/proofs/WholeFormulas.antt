-- Every formula is read.
use Rattle.std.proofs.Common.{◌≡◌, ℕ, List, [], ◌∷◌, ◌++◌, Option, Some, None, option_and_then, refl, sym, ◌∙◌, ap, append_assoc}
use Rattle.formula_grammar.specs.Words.{Sign, Plus, Digits, Kind, Number, Signed, Star, Colon, Caret, Close, End, Token}
use Rattle.formula_grammar.specs.Grammar.{token, Bare, Led, Sum, First, More, Product, One, Times, Inter, Lone, Cross, Power, Plain, Raised, Atom}
use Rattle.formula_grammar.specs.Grammar.{Leaf, Computed, Group, Offset, Part, Smoothing, Offsetting, Item, Nil, Intercept, Term, Items, Start, StartPart}
use Rattle.formula_grammar.specs.Grammar.{StartPlus, Then, ThenPart, Head, Formula, sum_tokens, product_tokens, inter_tokens, power_tokens, atom_tokens, part_tokens, offset_tokens, item_tokens, items_tokens, formula_tokens, OneFormula}
use Rattle.formula_grammar.proofs.Automaton.{Left, Lefts, no_lefts, Front, Leads, After, PartFront, Nowhere, BehindPlus, BehindItems, Around, Bottom, Inside, Slot, TermSlot, OffsetSlot, State, Begin, Computing, Fresh}
use Rattle.formula_grammar.proofs.Automaton.{Wants, Has, HasItems, Done, onto_inter, onto_product, product_of, onto_sum, onto_items, signed, closing, ending, behind, behind_items, onto_part, slot_end, slot_step, step_at, run}
use Rattle.formula_grammar.specs.Arithmetics.{Arith, arith_tokens}
use Rattle.formula_grammar.proofs.ArithAutomaton.{Top, ArithState, Begins, arith_run, arith_step}
use Rattle.formula_grammar.proofs.ArithShown.{no_ending}
use Rattle.formula_grammar.proofs.WholeArithmetics.{arith_is_read, holds_arith, so_far}

abbrev last_inter : Inter → Power
last_inter (Lone a) = a
last_inter (Cross i n a) = a

abbrev left_inter : Inter → Option (Left Inter)
left_inter (Lone a) = None
left_inter (Cross i n a) = Some (record { tree = i; place = n })

abbrev last_product : Product → Inter
last_product (One i) = i
last_product (Times p n i) = i

abbrev left_product : Product → Option (Left Product)
left_product (One i) = None
left_product (Times p n i) = Some (record { tree = p; place = n })

abbrev last_sum : Sum → Product
last_sum (First l p) = p
last_sum (More s x n p) = p

abbrev front_sum : Sum → Front Sum
front_sum (First l p) = Leads l
front_sum (More s x n p) = After s x n

whole_inter : (i : Inter) → onto_inter (left_inter i) (last_inter i) ≡ i
whole_inter (Lone a) = refl
whole_inter (Cross i n a) = refl

joined_product : (p : Product) → onto_product (left_product p) (last_product p) ≡ p
joined_product (One i) = refl
joined_product (Times p n i) = refl

whole_sum : (s : Sum) → onto_sum (front_sum s) (last_sum s) ≡ s
whole_sum (First l p) = refl
whole_sum (More s x n p) = refl

abbrev lefts : Option (Left Product) → Option (Left Inter) → Lefts
lefts p i = record { product = p; inter = i }

whole_product : (p : Product) → product_of (lefts (left_product p) (left_inter (last_product p))) (last_inter (last_product p)) ≡ p
whole_product p = ap (onto_product (left_product p)) (whole_inter (last_product p)) ∙ joined_product p

-- What has been read behind a whole power, inter and product.
abbrev has_inter : Inter → Option (Left Product) → Around → State
has_inter i p o = Has (last_inter i) (lefts p (left_inter i)) o

abbrev has_product : Product → Around → State
has_product p o = has_inter (last_product p) (left_product p) o

-- every token but `^` does the same behind a power, whether it is an atom or has an exponent
abbrev IsBehind : Kind → Type 0
IsBehind Caret = ⊥
IsBehind k = Unit {0}

power_next : (p : Power) (l : Lefts) (o : Around) (n : ℕ) (k : Kind) (rest : List Token) → IsBehind k → run (Has p l o) (token k n ∷ rest) ≡ option_and_then (λ s. run s rest) (behind p l o n k)
power_next p l o n Caret rest h = absurd h
power_next (Plain a) l o n k rest h = refl
power_next (Raised a c e m) l o n k rest h = refl

product_signed : (p : Product) (o : Around) (x : Sign) (n : ℕ) (rest : List Token) → run (has_product p o) (token (Signed x) n ∷ rest) ≡ run (signed p o x n) rest
product_signed p o x n rest =
    power_next (last_inter (last_product p)) (lefts (left_product p) (left_inter (last_product p))) o n (Signed x) rest tt
    ∙ ap (λ (q : Product). run (signed q o x n) rest) (whole_product p)

product_close : (p : Product) (o : Around) (n : ℕ) (rest : List Token) → run (has_product p o) (token Close n ∷ rest) ≡ option_and_then (λ s. run s rest) (closing p o n)
product_close p o n rest =
    power_next (last_inter (last_product p)) (lefts (left_product p) (left_inter (last_product p))) o n Close rest tt
    ∙ ap (λ (q : Product). option_and_then (λ s. run s rest) (closing q o n)) (whole_product p)

product_end : (p : Product) (o : Around) (n : ℕ) (rest : List Token) → run (has_product p o) (token End n ∷ rest) ≡ option_and_then (λ s. run s rest) (ending p o n)
product_end p o n rest =
    power_next (last_inter (last_product p)) (lefts (left_product p) (left_inter (last_product p))) o n End rest tt
    ∙ ap (λ (q : Product). option_and_then (λ s. run s rest) (ending q o n)) (whole_product p)

-- A token of an arithmetic is one of the formula.
inside_step : (c : Slot) (s : ArithState) (n : ℕ) (k : Kind) (s' : ArithState) → arith_step s n k ≡ Some s' → step_at (Computing c s) n k ≡ Some (Computing c s')
inside_step c s n k s' e =
    ap (λ (x : Option Arith). slot_step c n x (arith_step s n k)) (no_ending s n k s' e)
    ∙ ap (λ (q : Option ArithState). slot_step c n None q) e

inside_run : (c : Slot) (ts rest : List Token) (s s' : ArithState) → arith_run s ts ≡ Some s' → run (Computing c s) (ts ++ rest) ≡ run (Computing c s') rest
inside_run c [] rest s s' h = let e : s ≡ s' = cc in ap (λ (x : ArithState). run (Computing c x) rest) e
inside_run c (t ∷ ts) rest s s' h =
    elim (arith_step s t.at t.kind) as (λ q. arith_step s t.at t.kind ≡ q → option_and_then (λ x. arith_run x ts) q ≡ Some s' → run (Computing c s) ((t ∷ ts) ++ rest) ≡ run (Computing c s') rest) [
      | None ↦ λ e h. cc
      | Some m ↦ λ e h. ap (option_and_then (λ x. run x (ts ++ rest))) (inside_step c s t.at t.kind m e) ∙ inside_run c ts rest m s' h
    ] refl h

-- An arithmetic and the parenthesis behind it.
reads_slot : (c : Slot) (a : Arith) (n : ℕ) (rest : List Token) → run (Computing c (Begins Top)) (arith_tokens a ++ (token Close n ∷ rest)) ≡ run (slot_end c a n) rest
reads_slot c a n rest =
    inside_run c (arith_tokens a) (token Close n ∷ rest) (Begins Top) (holds_arith a Top) (arith_is_read a Top)
    ∙ ap (λ (b : Arith). run (slot_end c b n) rest) (so_far a)

-- A product may stand where a sign or an item may.
opens_atom : (a : Atom) (o : Around) (rest : List Token) → run (Fresh o) (atom_tokens a ++ rest) ≡ run (Wants no_lefts o) (atom_tokens a ++ rest)
opens_atom (Leaf x n) o rest = refl
opens_atom other o rest = refl

opens_power : (p : Power) (o : Around) (rest : List Token) → run (Fresh o) (power_tokens p ++ rest) ≡ run (Wants no_lefts o) (power_tokens p ++ rest)
opens_power (Plain a) o rest = opens_atom a o rest
opens_power (Raised a n k m) o rest = rw append_assoc (opens_atom a o ((token Caret n ∷ token (Number (Digits k)) m ∷ []) ++ rest))

opens_inter : (i : Inter) (o : Around) (rest : List Token) → run (Fresh o) (inter_tokens i ++ rest) ≡ run (Wants no_lefts o) (inter_tokens i ++ rest)
opens_inter (Lone p) o rest = opens_power p o rest
opens_inter (Cross i n p) o rest = rw append_assoc (opens_inter i o ((token Colon n ∷ power_tokens p) ++ rest))

opens : (p : Product) (o : Around) (rest : List Token) → run (Fresh o) (product_tokens p ++ rest) ≡ run (Wants no_lefts o) (product_tokens p ++ rest)
opens (One i) o rest = opens_inter i o rest
opens (Times p n i) o rest = rw append_assoc (opens p o ((token Star n ∷ inter_tokens i) ++ rest))

mutual
  reads_sum : (s : Sum) (m : ℕ) (l : Lefts) (o : Around) (rest : List Token) → run (Fresh (Inside (Leads Bare) m l o)) (sum_tokens s ++ rest) ≡ run (has_product (last_sum s) (Inside (front_sum s) m l o)) rest
  reads_sum (First Bare p) m l o rest = opens p (Inside (Leads Bare) m l o) rest ∙ reads_product p (Inside (Leads Bare) m l o) rest
  reads_sum (First (Led x n) p) m l o rest = opens p (Inside (Leads (Led x n)) m l o) rest ∙ reads_product p (Inside (Leads (Led x n)) m l o) rest
  reads_sum (More s x n p) m l o rest =
      ap (run (Fresh (Inside (Leads Bare) m l o))) (append_assoc (sum_tokens s) (token (Signed x) n ∷ product_tokens p) rest)
      ∙ reads_sum s m l o (token (Signed x) n ∷ (product_tokens p ++ rest))
      ∙ product_signed (last_sum s) (Inside (front_sum s) m l o) x n (product_tokens p ++ rest)
      ∙ ap (λ (t : Sum). run (Fresh (Inside (After t x n) m l o)) (product_tokens p ++ rest)) (whole_sum s)
      ∙ opens p (Inside (After s x n) m l o) rest
      ∙ reads_product p (Inside (After s x n) m l o) rest

  reads_product : (p : Product) (o : Around) (rest : List Token) → run (Wants no_lefts o) (product_tokens p ++ rest) ≡ run (has_product p o) rest
  reads_product (One i) o rest = reads_inter i None o rest
  reads_product (Times p n i) o rest =
      ap (run (Wants no_lefts o)) (append_assoc (product_tokens p) (token Star n ∷ inter_tokens i) rest)
      ∙ reads_product p o (token Star n ∷ (inter_tokens i ++ rest))
      ∙ power_next (last_inter (last_product p)) (lefts (left_product p) (left_inter (last_product p))) o n Star (inter_tokens i ++ rest) tt
      ∙ ap (λ (t : Product). run (Wants (lefts (Some (record { tree = t; place = n })) None) o) (inter_tokens i ++ rest)) (whole_product p)
      ∙ reads_inter i (Some (record { tree = p; place = n })) o rest

  reads_inter : (i : Inter) (p : Option (Left Product)) (o : Around) (rest : List Token) → run (Wants (lefts p None) o) (inter_tokens i ++ rest) ≡ run (has_inter i p o) rest
  reads_inter (Lone q) p o rest = reads_power q (lefts p None) o rest
  reads_inter (Cross i n q) p o rest =
      ap (run (Wants (lefts p None) o)) (append_assoc (inter_tokens i) (token Colon n ∷ power_tokens q) rest)
      ∙ reads_inter i p o (token Colon n ∷ (power_tokens q ++ rest))
      ∙ power_next (last_inter i) (lefts p (left_inter i)) o n Colon (power_tokens q ++ rest) tt
      ∙ ap (λ (t : Inter). run (Wants (lefts p (Some (record { tree = t; place = n }))) o) (power_tokens q ++ rest)) (whole_inter i)
      ∙ reads_power q (lefts p (Some (record { tree = i; place = n }))) o rest

  reads_power : (p : Power) (l : Lefts) (o : Around) (rest : List Token) → run (Wants l o) (power_tokens p ++ rest) ≡ run (Has p l o) rest
  reads_power (Plain a) l o rest = reads_atom a l o rest
  reads_power (Raised a n k m) l o rest =
      ap (run (Wants l o)) (append_assoc (atom_tokens a) (token Caret n ∷ token (Number (Digits k)) m ∷ []) rest)
      ∙ reads_atom a l o (token Caret n ∷ token (Number (Digits k)) m ∷ rest)

  reads_atom : (a : Atom) (l : Lefts) (o : Around) (rest : List Token) → run (Wants l o) (atom_tokens a ++ rest) ≡ run (Has (Plain a) l o) rest
  reads_atom (Computed w p a c) l o rest =
      ap (run (Computing (TermSlot w p l o) (Begins Top))) (append_assoc (arith_tokens a) (token Close c ∷ []) rest)
      ∙ reads_slot (TermSlot w p l o) a c rest
  reads_atom (Group m s c) l o rest =
      ap (run (Fresh (Inside (Leads Bare) m l o))) (append_assoc (sum_tokens s) (token Close c ∷ []) rest)
      ∙ reads_sum s m l o (token Close c ∷ rest)
      ∙ product_close (last_sum s) (Inside (front_sum s) m l o) c rest
      ∙ ap (λ (t : Sum). run (Has (Plain (Group m t c)) l o) rest) (whole_sum s)
  reads_atom other l o rest = refl

abbrev has_item : Item → Head → Front Items → State
has_item (Nil n) h f = HasItems (onto_items f (Nil n)) h
has_item (Intercept n) h f = HasItems (onto_items f (Intercept n)) h
has_item (Term p) h f = has_product p (Bottom h f)

abbrev has_items : Items → Head → State
has_items (Start l i) h = has_item i h (Leads l)
has_items (StartPart p) h = HasItems (StartPart p) h
has_items (StartPlus n p) h = HasItems (StartPlus n p) h
has_items (Then j x n i) h = has_item i h (After j x n)
has_items (ThenPart j n p) h = HasItems (ThenPart j n p) h

reads_item : (i : Item) (h : Head) (f : Front Items) (rest : List Token) → run (Fresh (Bottom h f)) (item_tokens i ++ rest) ≡ run (has_item i h f) rest
reads_item (Nil n) h f rest = refl
reads_item (Intercept n) h f rest = refl
reads_item (Term p) h f rest = opens p (Bottom h f) rest ∙ reads_product p (Bottom h f) rest

-- what may stand behind items
abbrev IsNext : Kind → Type 0
IsNext (Signed x) = Unit {0}
IsNext End = Unit {0}
IsNext k = ⊥

item_next : (i : Item) (h : Head) (f : Front Items) (n : ℕ) (k : Kind) (rest : List Token) → IsNext k → run (has_item i h f) (token k n ∷ rest) ≡ option_and_then (λ s. run s rest) (behind_items (onto_items f i) h n k)
item_next (Term p) h f n (Signed x) rest w = product_signed p (Bottom h f) x n rest
item_next (Term p) h f n End rest w = product_end p (Bottom h f) n rest
item_next (Term p) h f n k rest w = absurd w
item_next (Nil m) h f n k rest w = refl
item_next (Intercept m) h f n k rest w = refl

items_next : (j : Items) (h : Head) (n : ℕ) (k : Kind) (rest : List Token) → IsNext k → run (has_items j h) (token k n ∷ rest) ≡ option_and_then (λ s. run s rest) (behind_items j h n k)
items_next (Start l i) h n k rest w = item_next i h (Leads l) n k rest w
items_next (Then j x m i) h n k rest w = item_next i h (After j x m) n k rest w
items_next other h n k rest w = refl

-- a smooth or an offset behind its front
abbrev fronted : PartFront → Front Items
fronted Nowhere = Leads Bare
fronted (BehindPlus n) = Leads (Led Plus n)
fronted (BehindItems j n) = After j Plus n

offset_opens : (f : PartFront) (g : Offset) (h : Head) (rest : List Token) → run (Fresh (Bottom h (fronted f))) (offset_tokens g ++ rest)
    ≡ run (Computing (OffsetSlot g.word g.opened h f) (Begins Top)) ((arith_tokens g.arith ++ (token Close g.closed ∷ [])) ++ rest)
offset_opens Nowhere g h rest = refl
offset_opens (BehindPlus n) g h rest = refl
offset_opens (BehindItems j n) g h rest = refl

reads_part : (f : PartFront) (p : Part) (h : Head) (rest : List Token) → run (Fresh (Bottom h (fronted f))) (part_tokens p ++ rest) ≡ run (HasItems (onto_part f p) h) rest
reads_part Nowhere (Smoothing s) h rest = refl
reads_part (BehindPlus n) (Smoothing s) h rest = refl
reads_part (BehindItems j n) (Smoothing s) h rest = refl
reads_part f (Offsetting g) h rest =
    offset_opens f g h rest
    ∙ ap (run (Computing (OffsetSlot g.word g.opened h f) (Begins Top))) (append_assoc (arith_tokens g.arith) (token Close g.closed ∷ []) rest)
    ∙ reads_slot (OffsetSlot g.word g.opened h f) g.arith g.closed rest

reads_items : (i : Items) (h : Head) (rest : List Token) → run (Fresh (Bottom h (Leads Bare))) (items_tokens i ++ rest) ≡ run (has_items i h) rest
reads_items (Start Bare i) h rest = reads_item i h (Leads Bare) rest
reads_items (Start (Led x n) i) h rest = reads_item i h (Leads (Led x n)) rest
reads_items (StartPart p) h rest = reads_part Nowhere p h rest
reads_items (StartPlus n p) h rest = reads_part (BehindPlus n) p h rest
reads_items (Then j x n i) h rest =
    ap (run (Fresh (Bottom h (Leads Bare)))) (append_assoc (items_tokens j) (token (Signed x) n ∷ item_tokens i) rest)
    ∙ reads_items j h (token (Signed x) n ∷ (item_tokens i ++ rest))
    ∙ items_next j h n (Signed x) (item_tokens i ++ rest) tt
    ∙ reads_item i h (After j x n) rest
reads_items (ThenPart j n p) h rest =
    ap (run (Fresh (Bottom h (Leads Bare)))) (append_assoc (items_tokens j) (token (Signed Plus) n ∷ part_tokens p) rest)
    ∙ reads_items j h (token (Signed Plus) n ∷ (part_tokens p ++ rest))
    ∙ items_next j h n (Signed Plus) (part_tokens p ++ rest) tt
    ∙ reads_part (BehindItems j n) p h rest

-- Every formula is read.
pub reads_formula : (f : Formula) → run Begin (formula_tokens f) ≡ Some (Done f)
reads_formula f = reads_items f.items f.head (token End f.ended ∷ []) ∙ items_next f.items f.head f.ended End [] tt

pub one_formula : OneFormula
one_formula f g h =
    let e : Some (Done f) ≡ Some (Done g) = sym (reads_formula f) ∙ ap (run Begin) h ∙ reads_formula g in
    cc
