-- What is read is a formula, and what is half read can be completed.
use Rattle.std.proofs.Common.{◌≡◌, ℕ, List, [], ◌∷◌, ◌++◌, Option, Some, None, option_and_then, refl, sym, ◌∙◌, ap, append_assoc, append-nil}
use Rattle.formula_grammar.specs.Words.{Span, Sign, Plus, Zero, Unity, Numeral, Digits, Kind, Name, FactorWord, QssWord, ArithWord, OffsetWord, Number, Signed, Tilde, Star, Colon, Caret, Open, Close, Comma, Point, End, Token}
use Rattle.formula_grammar.specs.Grammar.{token, Bare, Led, Sum, Product, Inter, Power, Plain, Raised, Factor, Computed, Dot, Group, Part, Offsetting, Item}
use Rattle.formula_grammar.specs.Grammar.{Term, Items, Head, Formula, lead_tokens, sum_tokens, product_tokens, inter_tokens, power_tokens, atom_tokens, part_tokens, item_tokens, items_tokens, head_tokens, formula_tokens, Begins}
use Rattle.formula_grammar.proofs.Automaton.{Left, Lefts, no_lefts, Front, Leads, After, PartFront, Nowhere, BehindPlus, BehindItems, Around, Bottom, Inside, Slot, TermSlot, OffsetSlot, State, Arith1}
use Rattle.formula_grammar.proofs.Automaton.{Offset1, Computing, Begin, Named, Fresh, Wants, Factor1, Factor2, Factor3, Has, Raising, Smooth1, Smooth2, Smooth3, Smooth4, Smooth5, HasItems, Done}
use Rattle.formula_grammar.proofs.Automaton.{onto_inter, onto_product, product_of, onto_sum, onto_items, onto_part, operand, led, part, fresh, behind, slot_end, slot_step, step_at, step, run}
use Rattle.formula_grammar.specs.Arithmetics.{Arith, arith_tokens}
use Rattle.formula_grammar.specs.Arithmetics.{Plain as PlainApow, Raised as RaisedApow, Leaf as ArithLeaf, Group as ArithGroup, Apow}
use Rattle.formula_grammar.proofs.ArithAutomaton.{ArithLeft, ArithFront, ArithLeads, Hole, Top, Within, ArithState, Begins as ArithBegins, Needs, Holds, Raises, arith_so_far, arith_step, arith_ending}
use Rattle.formula_grammar.proofs.ArithShown.{arith_shown, arith_shows, ending_closes, ending_shown}
pub use Rattle.formula_grammar.proofs.ArithShown.{some_is}
use Rattle.formula_grammar.proofs.WholeFormulas.{reads_formula}

-- some place of a name
abbrev nowhere : Span
nowhere = record { start = 0; len = 0 }

abbrev product_left : Option (Left Product) → List Token
product_left None = []
product_left (Some l) = product_tokens l.tree ++ (token Star l.place ∷ [])

abbrev inter_left : Option (Left Inter) → List Token
inter_left None = []
inter_left (Some l) = inter_tokens l.tree ++ (token Colon l.place ∷ [])

abbrev before : Lefts → List Token
before l = product_left l.product ++ inter_left l.inter

abbrev sum_front : Front Sum → List Token
sum_front (Leads l) = lead_tokens l
sum_front (After s x n) = sum_tokens s ++ (token (Signed x) n ∷ [])

abbrev items_front : Front Items → List Token
items_front (Leads l) = lead_tokens l
items_front (After s x n) = items_tokens s ++ (token (Signed x) n ∷ [])

abbrev part_before : PartFront → List Token
part_before Nowhere = []
part_before (BehindPlus n) = token (Signed Plus) n ∷ []
part_before (BehindItems s n) = items_tokens s ++ (token (Signed Plus) n ∷ [])

abbrev outside : Around → List Token
outside (Bottom h f) = head_tokens h ++ items_front f
outside (Inside f m l o) = outside o ++ (before l ++ (token Open m ∷ sum_front f))

abbrev slot_shown : Slot → List Token
slot_shown (TermSlot w p l o) = outside o ++ (before l ++ (token ArithWord w ∷ token Open p ∷ []))
slot_shown (OffsetSlot w p h f) = head_tokens h ++ (part_before f ++ (token OffsetWord w ∷ token Open p ∷ []))

abbrev shown : State → List Token
shown Begin = []
shown (Named x n) = token (Name x) n ∷ []
shown (Fresh o) = outside o
shown (Wants l o) = outside o ++ before l
shown (Factor1 w l o) = outside o ++ (before l ++ (token FactorWord w ∷ []))
shown (Factor2 w p l o) = outside o ++ (before l ++ (token FactorWord w ∷ token Open p ∷ []))
shown (Factor3 w p x n l o) = outside o ++ (before l ++ (token FactorWord w ∷ token Open p ∷ token (Name x) n ∷ []))
shown (Arith1 w l o) = outside o ++ (before l ++ (token ArithWord w ∷ []))
shown (Offset1 w h f) = head_tokens h ++ (part_before f ++ (token OffsetWord w ∷ []))
shown (Computing c s) = slot_shown c ++ arith_shown s
shown (Has p l o) = outside o ++ (before l ++ power_tokens p)
shown (Raising a c l o) = outside o ++ (before l ++ (atom_tokens a ++ (token Caret c ∷ [])))
shown (Smooth1 w h f) = head_tokens h ++ (part_before f ++ (token QssWord w ∷ []))
shown (Smooth2 w p h f) = head_tokens h ++ (part_before f ++ (token QssWord w ∷ token Open p ∷ []))
shown (Smooth3 w p x n h f) = head_tokens h ++ (part_before f ++ (token QssWord w ∷ token Open p ∷ token (Name x) n ∷ []))
shown (Smooth4 w p x n c h f) = head_tokens h ++ (part_before f ++ (token QssWord w ∷ token Open p ∷ token (Name x) n ∷ token Comma c ∷ []))
shown (Smooth5 w p x n c v q h f) = head_tokens h ++ (part_before f ++ (token QssWord w ∷ token Open p ∷ token (Name x) n ∷ token Comma c ∷ token (Number v) q ∷ []))
shown (HasItems i h) = head_tokens h ++ items_tokens i
shown (Done f) = formula_tokens f

inter_shown : (l : Option (Left Inter)) (a : Power) → inter_tokens (onto_inter l a) ≡ inter_left l ++ power_tokens a
inter_shown None a = refl
inter_shown (Some l) a = sym (append_assoc (inter_tokens l.tree) (token Colon l.place ∷ []) (power_tokens a))

product_shown : (l : Option (Left Product)) (i : Inter) → product_tokens (onto_product l i) ≡ product_left l ++ inter_tokens i
product_shown None i = refl
product_shown (Some l) i = sym (append_assoc (product_tokens l.tree) (token Star l.place ∷ []) (inter_tokens i))

product_of_shown : (l : Lefts) (a : Power) → product_tokens (product_of l a) ≡ product_left l.product ++ (inter_left l.inter ++ power_tokens a)
product_of_shown l a = product_shown l.product (onto_inter l.inter a) ∙ ap (λ (x : List Token). product_left l.product ++ x) (inter_shown l.inter a)

sum_shown : (f : Front Sum) (p : Product) → sum_tokens (onto_sum f p) ≡ sum_front f ++ product_tokens p
sum_shown (Leads l) p = refl
sum_shown (After s x n) p = sym (append_assoc (sum_tokens s) (token (Signed x) n ∷ []) (product_tokens p))

items_shown : (f : Front Items) (i : Item) → items_tokens (onto_items f i) ≡ items_front f ++ item_tokens i
items_shown (Leads l) p = refl
items_shown (After s x n) p = sym (append_assoc (items_tokens s) (token (Signed x) n ∷ []) (item_tokens p))

part_shown : (f : PartFront) (p : Part) → items_tokens (onto_part f p) ≡ part_before f ++ part_tokens p
part_shown Nowhere p = refl
part_shown (BehindPlus n) p = refl
part_shown (BehindItems j n) p = sym (append_assoc (items_tokens j) (token (Signed Plus) n ∷ []) (part_tokens p))

sum_of_shown : (f : Front Sum) (l : Lefts) (a : Power) → sum_tokens (onto_sum f (product_of l a)) ≡ sum_front f ++ (product_left l.product ++ (inter_left l.inter ++ power_tokens a))
sum_of_shown f l a = sum_shown f (product_of l a) ∙ ap (λ (x : List Token). sum_front f ++ x) (product_of_shown l a)

items_of_shown : (f : Front Items) (l : Lefts) (a : Power) → items_tokens (onto_items f (Term (product_of l a))) ≡ items_front f ++ (product_left l.product ++ (inter_left l.inter ++ power_tokens a))
items_of_shown f l a = items_shown f (Term (product_of l a)) ∙ ap (λ (x : List Token). items_front f ++ x) (product_of_shown l a)

abbrev Shows : State → ℕ → Kind → State → Type 0
Shows s n k s' = shown s' ≡ shown s ++ (token k n ∷ [])

operand_shows : (l : Lefts) (o : Around) (n : ℕ) (k : Kind) (s : State) → operand l o n k ≡ Some s → Shows (Wants l o) n k s
operand_shows l o n (Name x) s h = ap shown (sym (some_is h)) ∙ simp append_assoc
operand_shows l o n Point s h = ap shown (sym (some_is h)) ∙ simp append_assoc
operand_shows l o n FactorWord s h = ap shown (sym (some_is h)) ∙ simp append_assoc
operand_shows l o n ArithWord s h = ap shown (sym (some_is h)) ∙ simp append_assoc
operand_shows l o n Open s h = ap shown (sym (some_is h)) ∙ simp append_assoc
operand_shows l o n k s h = cc

led_shows : (o : Around) (x : Sign) (n : ℕ) (s : State) → led o x n ≡ Some s → Shows (Fresh o) n (Signed x) s
led_shows (Bottom h (Leads Bare)) x n s e = ap shown (sym (some_is e))
led_shows (Inside (Leads Bare) p l o) x n s e = ap shown (sym (some_is e)) ∙ simp append_assoc
led_shows o x n s e = cc

smooth_shows : (o : Around) (n : ℕ) (s : State) → part (Smooth1 n) o ≡ Some s → Shows (Fresh o) n QssWord s
smooth_shows (Bottom h (Leads Bare)) n s e = ap shown (sym (some_is e)) ∙ simp append_assoc
smooth_shows (Bottom h (Leads (Led Plus m))) n s e = ap shown (sym (some_is e)) ∙ simp append_assoc
smooth_shows (Bottom h (After j Plus m)) n s e = ap shown (sym (some_is e)) ∙ simp append_assoc
smooth_shows o n s e = cc

offset_shows : (o : Around) (n : ℕ) (s : State) → part (Offset1 n) o ≡ Some s → Shows (Fresh o) n OffsetWord s
offset_shows (Bottom h (Leads Bare)) n s e = ap shown (sym (some_is e)) ∙ simp append_assoc
offset_shows (Bottom h (Leads (Led Plus m))) n s e = ap shown (sym (some_is e)) ∙ simp append_assoc
offset_shows (Bottom h (After j Plus m)) n s e = ap shown (sym (some_is e)) ∙ simp append_assoc
offset_shows o n s e = cc

from_fresh : (o : Around) (n : ℕ) (k : Kind) (s : State) → Shows (Wants no_lefts o) n k s → Shows (Fresh o) n k s
from_fresh o n k s e = e ∙ ap (λ (x : List Token). x ++ (token k n ∷ [])) (append-nil (outside o))

fresh_shows : (o : Around) (n : ℕ) (k : Kind) (s : State) → fresh o n k ≡ Some s → Shows (Fresh o) n k s
fresh_shows o n (Signed x) s e = led_shows o x n s e
fresh_shows o n QssWord s e = smooth_shows o n s e
fresh_shows o n OffsetWord s e = offset_shows o n s e
fresh_shows (Bottom h f) n (Number (Digits Zero)) s e = ap shown (sym (some_is e)) ∙ simp (items_shown, append_assoc)
fresh_shows (Bottom h f) n (Number (Digits Unity)) s e = ap shown (sym (some_is e)) ∙ simp (items_shown, append_assoc)
fresh_shows (Inside f p l o) n (Number (Digits Zero)) s e = cc
fresh_shows o n k s e = from_fresh o n k s (operand_shows no_lefts o n k s e)

-- What stands behind a power, which is itself shown so.
abbrev powered : Power → Lefts → Around → List Token
powered p l o = outside o ++ (before l ++ power_tokens p)

regroup : (h f a b c t : List Token) → h ++ ((f ++ (a ++ (b ++ c))) ++ t) ≡ ((h ++ f) ++ ((a ++ b) ++ c)) ++ t
regroup h f a b c t = simp append_assoc

regroup_inside : (o q s a b c t : List Token) (x : Token) → o ++ (q ++ (x ∷ ((s ++ (a ++ (b ++ c))) ++ t))) ≡ ((o ++ (q ++ (x ∷ s))) ++ ((a ++ b) ++ c)) ++ t
regroup_inside o q s a b c t x = simp append_assoc

in_bottom : (p : Power) (l : Lefts) (h : Head) (f : Front Items) (t : List Token) → head_tokens h ++ (items_tokens (onto_items f (Term (product_of l p))) ++ t) ≡ powered p l (Bottom h f) ++ t
in_bottom p l h f t =
    ap (λ (x : List Token). head_tokens h ++ (x ++ t)) (items_of_shown f l p)
    ∙ regroup (head_tokens h) (items_front f) (product_left l.product) (inter_left l.inter) (power_tokens p) t

inside : (p : Power) (l : Lefts) (f : Front Sum) (m : ℕ) (q : Lefts) (o : Around) (t : List Token) → outside o ++ (before q ++ (token Open m ∷ (sum_tokens (onto_sum f (product_of l p)) ++ t))) ≡ powered p l (Inside f m q o) ++ t
inside p l f m q o t =
    ap (λ (x : List Token). outside o ++ (before q ++ (token Open m ∷ (x ++ t)))) (sum_of_shown f l p)
    ∙ regroup_inside (outside o) (before q) (sum_front f) (product_left l.product) (inter_left l.inter) (power_tokens p) t (token Open m)

behind_shows : (p : Power) (l : Lefts) (o : Around) (n : ℕ) (k : Kind) (s : State) → behind p l o n k ≡ Some s → shown s ≡ powered p l o ++ (token k n ∷ [])
behind_shows p l o n Colon s e = ap shown (sym (some_is e)) ∙ simp (inter_shown, append_assoc)
behind_shows p l o n Star s e = ap shown (sym (some_is e)) ∙ simp (product_of_shown, append_assoc, append-nil)
behind_shows p l (Bottom h f) n (Signed x) s e = ap shown (sym (some_is e)) ∙ in_bottom p l h f (token (Signed x) n ∷ [])
behind_shows p l (Inside f m q o) n (Signed x) s e = ap shown (sym (some_is e)) ∙ inside p l f m q o (token (Signed x) n ∷ [])
behind_shows p l (Inside f m q o) n Close s e = ap shown (sym (some_is e)) ∙ inside p l f m q o (token Close n ∷ [])
behind_shows p l (Bottom h f) n End s e = ap shown (sym (some_is e)) ∙ in_bottom p l h f (token End n ∷ [])
behind_shows p l o n k s e = cc

-- a word and what it opens before an arithmetic and what closes it
regroup_slot : (o b a t : List Token) (x y : Token) → o ++ (b ++ (x ∷ y ∷ (a ++ t))) ≡ ((o ++ (b ++ (x ∷ y ∷ []))) ++ a) ++ t
regroup_slot o b a t x y = simp append_assoc

-- an arithmetic that ends
end_shows : (c : Slot) (a : Arith) (n : ℕ) (ts : List Token) → ts ≡ arith_tokens a → shown (slot_end c a n) ≡ (slot_shown c ++ ts) ++ (token Close n ∷ [])
end_shows (TermSlot w p l o) a n ts e =
    regroup_slot (outside o) (before l) (arith_tokens a) (token Close n ∷ []) (token ArithWord w) (token Open p)
    ∙ ap (λ (x : List Token). (slot_shown (TermSlot w p l o) ++ x) ++ (token Close n ∷ [])) (sym e)
end_shows (OffsetSlot w p h f) a n ts e =
    ap (λ (x : List Token). head_tokens h ++ x) (part_shown f (Offsetting (record { word = w; opened = p; arith = a; closed = n })))
    ∙ regroup_slot (head_tokens h) (part_before f) (arith_tokens a) (token Close n ∷ []) (token OffsetWord w) (token Open p)
    ∙ ap (λ (x : List Token). (slot_shown (OffsetSlot w p h f) ++ x) ++ (token Close n ∷ [])) (sym e)

slot_shows : (c : Slot) (s : ArithState) (n : ℕ) (k : Kind) (a : Option Arith) (q : Option ArithState) (s' : State) → arith_ending s k ≡ a → arith_step s n k ≡ q → slot_step c n a q ≡ Some s'
    → Shows (Computing c s) n k s'
slot_shows c s n k (Some a) q s' d e h =
    ap shown (sym (some_is h))
    ∙ end_shows c a n (arith_shown s) (ending_shown s k a d)
    ∙ ap (λ (k' : Kind). (slot_shown c ++ arith_shown s) ++ (token k' n ∷ [])) (sym (ending_closes s k a d))
slot_shows c s n k None None s' d e h = cc
slot_shows c s n k None (Some m) s' d e h =
    ap shown (sym (some_is h))
    ∙ ap (λ (x : List Token). slot_shown c ++ x) (arith_shows s n k m e)
    ∙ sym (append_assoc (slot_shown c) (arith_shown s) (token k n ∷ []))

step_shows : (s : State) (n : ℕ) (k : Kind) (s' : State) → step_at s n k ≡ Some s' → Shows s n k s'
step_shows Begin n (Name x) s e = ap shown (sym (some_is e))
step_shows (Named x m) n Tilde s e = ap shown (sym (some_is e))
step_shows (Fresh o) n k s e = fresh_shows o n k s e
step_shows (Wants l o) n k s e = operand_shows l o n k s e
step_shows (Factor1 w l o) n Open s e = ap shown (sym (some_is e)) ∙ simp append_assoc
step_shows (Factor2 w p l o) n (Name x) s e = ap shown (sym (some_is e)) ∙ simp append_assoc
step_shows (Factor3 w p x m l o) n Close s e = ap shown (sym (some_is e)) ∙ simp append_assoc
step_shows (Arith1 w l o) n Open s e = ap shown (sym (some_is e)) ∙ simp (append_assoc, append-nil)
step_shows (Offset1 w h f) n Open s e = ap shown (sym (some_is e)) ∙ simp (append_assoc, append-nil)
step_shows (Computing c a) n k s e = slot_shows c a n k (arith_ending a k) (arith_step a n k) s refl refl e
step_shows (Has (Plain a) l o) n Caret s e = ap shown (sym (some_is e)) ∙ simp append_assoc
step_shows (Has p l o) n k s e = behind_shows p l o n k s e
step_shows (Raising a c l o) n (Number (Digits x)) s e = ap shown (sym (some_is e)) ∙ simp append_assoc
step_shows (Smooth1 w h f) n Open s e = ap shown (sym (some_is e)) ∙ simp append_assoc
step_shows (Smooth2 w p h f) n (Name x) s e = ap shown (sym (some_is e)) ∙ simp append_assoc
step_shows (Smooth3 w p x m h f) n Comma s e = ap shown (sym (some_is e)) ∙ simp append_assoc
step_shows (Smooth4 w p x m c h f) n (Number v) s e = ap shown (sym (some_is e)) ∙ simp append_assoc
step_shows (Smooth5 w p x m c v q h f) n Close s e = ap shown (sym (some_is e)) ∙ simp (part_shown, append_assoc)
step_shows (HasItems i h) n (Signed x) s e = ap shown (sym (some_is e)) ∙ simp append_assoc
step_shows (HasItems i h) n End s e = ap shown (sym (some_is e)) ∙ simp append_assoc
step_shows s n k s' e = cc

pub run_append : (s : State) (a b : List Token) → run s (a ++ b) ≡ option_and_then (λ s'. run s' b) (run s a)
run_append s [] b = refl
run_append s (t ∷ a) b =
    elim (step s t) as (λ q. option_and_then (λ s'. run s' (a ++ b)) q ≡ option_and_then (λ s'. run s' b) (option_and_then (λ s'. run s' a) q))
    [ None ↦ refl | Some s' ↦ run_append s' a b ]

run_shows : (ts : List Token) (s s' : State) → run s ts ≡ Some s' → shown s' ≡ shown s ++ ts
run_shows [] s s' h = ap shown (sym (some_is h)) ∙ sym (append-nil (shown s))
run_shows (t ∷ ts) s s' h =
    elim (step s t) as (λ q. step s t ≡ q → option_and_then (λ s'. run s' ts) q ≡ Some s' → shown s' ≡ shown s ++ (t ∷ ts)) [
      | None ↦ λ e h. cc
      | Some m ↦ λ e h. run_shows ts m s' h ∙ ap (λ (x : List Token). x ++ ts) (step_shows s t.at t.kind m e) ∙ append_assoc (shown s) (t ∷ []) ts
    ] refl h

-- What is half read can be completed.
record Completes (s : State) : Type 0 where
  rest : List Token
  formula : Formula
  whole : run s rest ≡ Some (Done formula)

-- One more token before the rest.
more : (s s' : State) (t : Token) → step s t ≡ Some s' → Completes s' → Completes s
more s s' t e c = record { rest = t ∷ c.rest; formula = c.formula; whole = ap (option_and_then (λ q. run q c.rest)) e ∙ c.whole }

closes : (o : Around) (l : Lefts) (p : Power) → Completes (Has p l o)
closes (Bottom h f) l (Plain a) = record { rest = token End 0 ∷ []; formula = record { head = h; items = onto_items f (Term (product_of l (Plain a))); ended = 0 }; whole = refl }
closes (Bottom h f) l p = record { rest = token End 0 ∷ []; formula = record { head = h; items = onto_items f (Term (product_of l p)); ended = 0 }; whole = refl }
closes (Inside f m q o) l (Plain a) = more _ _ (token Close 0) refl (closes o q (Plain (Group m (onto_sum f (product_of l (Plain a))) 0)))
closes (Inside f m q o) l p = more _ _ (token Close 0) refl (closes o q (Plain (Group m (onto_sum f (product_of l p)) 0)))

has_items : (i : Items) (h : Head) → Completes (HasItems i h)
has_items i h = record { rest = token End 0 ∷ []; formula = record { head = h; items = i; ended = 0 }; whole = refl }

smooth_completes : (w p : ℕ) (x : Span) (n c : ℕ) (v : Numeral) (q : ℕ) (h : Head) (f : PartFront) → Completes (Smooth5 w p x n c v q h f)
smooth_completes w p x n c v q h f = more _ _ (token Close 0) refl (has_items _ h)

comma_completes : (w p : ℕ) (x : Span) (n : ℕ) (h : Head) (f : PartFront) → Completes (Smooth3 w p x n h f)
comma_completes w p x n h f = more _ _ (token Comma 0) refl (more _ _ (token (Number (Digits Zero)) 0) refl (smooth_completes w p x n 0 (Digits Zero) 0 h f))

factor_completes : (w p : ℕ) (l : Lefts) (o : Around) → Completes (Factor2 w p l o)
factor_completes w p l o = more _ _ (token (Name nowhere) 0) refl (more _ _ (token Close 0) refl (closes o l (Plain (Factor w p nowhere 0 0))))

slot_ends : (c : Slot) (a : Arith) (n : ℕ) → Completes (slot_end c a n)
slot_ends (TermSlot w p l o) a n = closes o l (Plain (Computed w p a n))
slot_ends (OffsetSlot w p h f) a n = has_items _ h

-- an arithmetic, by the parentheses that close it
arith_closes : (c : Slot) (h : Hole) (f : ArithFront) (l : Option ArithLeft) (p : Apow) → Completes (Computing c (Holds p l f h))
arith_closes c Top f l p = more _ _ (token Close 0) refl (slot_ends c (arith_so_far p l f) 0)
arith_closes c (Within m q g h) f l (PlainApow a) = more _ _ (token Close 0) refl (arith_closes c h g q (PlainApow (ArithGroup m (arith_so_far (PlainApow a) l f) 0)))
arith_closes c (Within m q g h) f l p = more _ _ (token Close 0) refl (arith_closes c h g q (PlainApow (ArithGroup m (arith_so_far p l f) 0)))

arith_completes : (c : Slot) (s : ArithState) → Completes (Computing c s)
arith_completes c (ArithBegins h) = more _ _ (token (Name nowhere) 0) refl (arith_closes c h (ArithLeads Bare) None (PlainApow (ArithLeaf nowhere 0)))
arith_completes c (Needs l f h) = more _ _ (token (Name nowhere) 0) refl (arith_closes c h f l (PlainApow (ArithLeaf nowhere 0)))
arith_completes c (Holds p l f h) = arith_closes c h f l p
arith_completes c (Raises a n l f h) = more _ _ (token (Number (Digits Unity)) 0) refl (arith_closes c h f l (RaisedApow a n Unity 0))

named : (x : Span) (n : ℕ) → Completes (Named x n)
named x n = more _ _ (token Tilde 0) refl (more _ _ (token Point 0) refl (closes (Bottom (record { response = x; place = n; tilde = 0 }) (Leads Bare)) no_lefts (Plain (Dot 0))))

completes : (s : State) → Completes s
completes Begin = more _ _ (token (Name nowhere) 0) refl (named nowhere 0)
completes (Named x n) = named x n
completes (Fresh o) = more _ _ (token Point 0) refl (closes o no_lefts (Plain (Dot 0)))
completes (Wants l o) = more _ _ (token Point 0) refl (closes o l (Plain (Dot 0)))
completes (Factor1 w l o) = more _ _ (token Open 0) refl (factor_completes w 0 l o)
completes (Factor2 w p l o) = factor_completes w p l o
completes (Factor3 w p x n l o) = more _ _ (token Close 0) refl (closes o l (Plain (Factor w p x n 0)))
completes (Arith1 w l o) = more _ _ (token Open 0) refl (arith_completes (TermSlot w 0 l o) (ArithBegins Top))
completes (Offset1 w h f) = more _ _ (token Open 0) refl (arith_completes (OffsetSlot w 0 h f) (ArithBegins Top))
completes (Computing c s) = arith_completes c s
completes (Has p l o) = closes o l p
completes (Raising a c l o) = more _ _ (token (Number (Digits Unity)) 0) refl (closes o l (Raised a c Unity 0))
completes (Smooth1 w h f) = more _ _ (token Open 0) refl (more _ _ (token (Name nowhere) 0) refl (comma_completes w 0 nowhere 0 h f))
completes (Smooth2 w p h f) = more _ _ (token (Name nowhere) 0) refl (comma_completes w p nowhere 0 h f)
completes (Smooth3 w p x n h f) = comma_completes w p x n h f
completes (Smooth4 w p x n c h f) = more _ _ (token (Number (Digits Zero)) 0) refl (smooth_completes w p x n c (Digits Zero) 0 h f)
completes (Smooth5 w p x n c v q h f) = smooth_completes w p x n c v q h f
completes (HasItems i h) = has_items i h
completes (Done f) = record { rest = []; formula = f; whole = refl }

-- Tokens begin a formula exactly where they are read.
pub begins : (ts : List Token) (s : State) → run Begin ts ≡ Some s → Begins ts
begins ts s h =
    let c = completes s in
    record {
      formula = c.formula;
      rest = c.rest;
      whole = sym (run_shows (ts ++ c.rest) Begin (Done c.formula) (run_append Begin ts c.rest ∙ ap (option_and_then (λ s'. run s' c.rest)) h ∙ c.whole));
    }

pub begins_not : (ts : List Token) → run Begin ts ≡ None → Begins ts → ⊥
begins_not ts h b =
    let e : run Begin (ts ++ b.rest) ≡ None = run_append Begin ts b.rest ∙ ap (option_and_then (λ s'. run s' b.rest)) h in
    let f : run Begin (ts ++ b.rest) ≡ Some (Done b.formula) = ap (run Begin) b.whole ∙ reads_formula b.formula in
    cc

pub reads_only : (ts : List Token) (f : Formula) → run Begin ts ≡ Some (Done f) → ts ≡ formula_tokens f
reads_only ts f h = sym (run_shows ts Begin (Done f) h)
