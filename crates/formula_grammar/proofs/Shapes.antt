-- The reader of the code holds what was read of a formula.
use Rattle.std.proofs.Common.{◌==◌, arith, cond, is_some, length, ◌≡◌, ℕ, Bool, true, false, List, [], ◌∷◌, ◌++◌, Option, Some, None, option_map, refl, sym, ◌∙◌, ap, append_assoc, append-nil}
use Rattle.std.proofs.lemmas.Bool.Decides.{nat_tests}
use Rattle.formula_grammar.specs.Words.{Span, Sign, Plus, Minus, Zero, Unity, Numeral, Digits, Kind, Name, FactorWord, QssWord, ArithWord, OffsetWord, Number, Signed, Tilde}
use Rattle.formula_grammar.specs.Words.{Star, Colon, Caret, Open, Close, Comma, Point, End, Step, Load, LoadAll, LoadArith, Nothing, Multiply, Interact, SmoothPart, ArithPart}
use Rattle.formula_grammar.specs.Machine.{Operator, Level, Phase, Response, BeforeTilde, Opening, Operand, FactorOpen, FactorName, FactorClose, BehindAtom, Exponent, BehindPower}
use Rattle.formula_grammar.specs.Machine.{SmoothOpen, SmoothName, SmoothComma, SmoothLambda, SmoothClose, BehindItem, ArithOpen, ArithInside, OffsetOpen, OffsetInside, Ended, Reader, step_of}
use Rattle.formula_grammar.specs.Machine.{sum_step, inter_end, sum_end, bare, operand_read, sign_read, intercept_read, part_read, power_read, token_read, with_arith}
use Rattle.formula_grammar.specs.Grammar.{token, Bare, Led, Sum, Product, Inter, Power, Plain, Raised, Group, Nil, Intercept, Term, Items, Then, ThenPart, Offsetting, Smoothing, Head}
use Rattle.formula_grammar.specs.Codes.{sum_code, product_code, inter_code, power_code, atom_code, items_code, has_intercept, smooths_of, offsets_of}
use Rattle.formula_grammar.specs.ArithCodes.{part_of}
use Rattle.formula_grammar.specs.ArithMachine.{arith_ends_at, arith_fresh, arith_part, arith_read}
use Rattle.formula_grammar.specs.Arithmetics.{Arith}
use Rattle.formula_grammar.proofs.ArithAutomaton.{ArithState, arith_ending, arith_step}
use Rattle.formula_grammar.proofs.ArithShapes.{arith_commutes, arith_ends, arith_part_is, arith_shape}
use Rattle.formula_grammar.proofs.Automaton.{Left, Lefts, no_lefts, Front, Leads, After, PartFront, Nowhere, BehindPlus, BehindItems, Around, Bottom, Inside, Slot, TermSlot, OffsetSlot}
use Rattle.formula_grammar.proofs.Automaton.{State, Arith1, Offset1, Computing, Begin, Named, Fresh, Wants, Factor1, Factor2, Factor3, Has, Raising, Smooth1, Smooth2, Smooth3}
use Rattle.formula_grammar.proofs.Automaton.{Smooth4, Smooth5, HasItems, Done, onto_inter, onto_product, product_of, onto_sum, onto_items, led, item, part, behind, slot_end, slot_step, step_at}

abbrev place_of : {T : Type 0} → Option (Left T) → Option ℕ
place_of None = None
place_of (Some l) = Some l.place

abbrev operator_of : {T : Type 0} → Front T → Option Operator
operator_of (Leads Bare) = None
operator_of (Leads (Led x n)) = Some (record { sign = x; at = n })
operator_of (After s x n) = Some (record { sign = x; at = n })

abbrev around_operator : Around → Option Operator
around_operator (Bottom h f) = operator_of f
around_operator (Inside f m l o) = operator_of f

abbrev level_of : Around → Lefts → Level
level_of o l = record { sum = around_operator o; product = place_of l.product; inter = place_of l.inter }

abbrev outer_of : Around → List Level
outer_of (Bottom h f) = []
outer_of (Inside f m l o) = level_of o l ∷ outer_of o

abbrev response_of : Around → Span
response_of (Bottom h f) = h.response
response_of (Inside f m l o) = response_of o

abbrev front_intercept : Front Items → Bool
front_intercept (Leads l) = true
front_intercept (After j x n) = has_intercept j

abbrev intercept_of : Around → Bool
intercept_of (Bottom h f) = front_intercept f
intercept_of (Inside f m l o) = intercept_of o

abbrev front_smooths : Front Items → List SmoothPart
front_smooths (Leads l) = []
front_smooths (After j x n) = smooths_of j

abbrev smooths_around : Around → List SmoothPart
smooths_around (Bottom h f) = front_smooths f
smooths_around (Inside f m l o) = smooths_around o

abbrev front_offsets : Front Items → List ArithPart
front_offsets (Leads l) = []
front_offsets (After j x n) = offsets_of j

abbrev offsets_around : Around → List ArithPart
offsets_around (Bottom h f) = front_offsets f
offsets_around (Inside f m l o) = offsets_around o

abbrev product_before : Option (Left Product) → List Step
product_before None = []
product_before (Some l) = product_code l.tree

abbrev inter_before : Option (Left Inter) → List Step
inter_before None = []
inter_before (Some l) = inter_code l.tree

abbrev before : Lefts → List Step
before l = product_before l.product ++ inter_before l.inter

abbrev sum_before : Front Sum → List Step
sum_before (Leads Bare) = []
sum_before (Leads (Led x n)) = Nothing ∷ []
sum_before (After s x n) = sum_code s

abbrev items_before : Front Items → List Step
items_before (Leads Bare) = []
items_before (Leads (Led x n)) = Nothing ∷ []
items_before (After j x n) = items_code j

abbrev outside : Around → List Step
outside (Bottom h f) = items_before f
outside (Inside f m l o) = outside o ++ (before l ++ sum_before f)

-- the reader inside some parentheses
abbrev held : Around → Lefts → List Step → Phase → Reader
held o l steps p = record {
  response = response_of o;
  intercept = intercept_of o;
  smooths = smooths_around o;
  offsets = offsets_around o;
  steps = steps;
  arith = arith_fresh;
  level = level_of o l;
  outer = outer_of o;
  phase = p;
}

abbrev part_intercept : PartFront → Bool
part_intercept Nowhere = true
part_intercept (BehindPlus n) = true
part_intercept (BehindItems j n) = has_intercept j

abbrev smooths_before : PartFront → List SmoothPart
smooths_before Nowhere = []
smooths_before (BehindPlus n) = []
smooths_before (BehindItems j n) = smooths_of j

abbrev offsets_before : PartFront → List ArithPart
offsets_before Nowhere = []
offsets_before (BehindPlus n) = []
offsets_before (BehindItems j n) = offsets_of j

abbrev part_steps : PartFront → List Step
part_steps Nowhere = Nothing ∷ []
part_steps (BehindPlus n) = Nothing ∷ []
part_steps (BehindItems j n) = items_code j

-- the reader inside a smooth or an offset
abbrev part_held : Head → PartFront → Phase → Reader
part_held h f p = record {
  response = h.response;
  intercept = part_intercept f;
  smooths = smooths_before f;
  offsets = offsets_before f;
  steps = part_steps f;
  arith = arith_fresh;
  level = bare;
  outer = [];
  phase = p;
}

-- the reader behind whole items
abbrev items_held : Head → Items → Phase → Reader
items_held h i p = record {
  response = h.response;
  intercept = has_intercept i;
  smooths = smooths_of i;
  offsets = offsets_of i;
  steps = items_code i;
  arith = arith_fresh;
  level = bare;
  outer = [];
  phase = p;
}

abbrev nothing_held : Span → Phase → Reader
nothing_held x p = record { response = x; intercept = true; smooths = []; offsets = []; steps = []; arith = arith_fresh; level = bare; outer = []; phase = p }

abbrev phase_behind : Power → Phase
phase_behind (Plain a) = BehindAtom
phase_behind (Raised a c e m) = BehindPower

-- the reader inside an arithmetic, but for that
abbrev slot_held : Slot → Reader
slot_held (TermSlot w p l o) = held o l (outside o ++ before l) ArithInside
slot_held (OffsetSlot w p h f) = part_held h f OffsetInside

abbrev pub shape : State → Reader
shape Begin = nothing_held (record { start = 0; len = 0 }) Response
shape (Named x m) = nothing_held x BeforeTilde
shape (Fresh o) = held o no_lefts (outside o) Opening
shape (Wants l o) = held o l (outside o ++ before l) Operand
shape (Factor1 w l o) = held o l (outside o ++ before l) FactorOpen
shape (Factor2 w p l o) = held o l (outside o ++ before l) FactorName
shape (Factor3 w p x m l o) = held o l (outside o ++ before l) (FactorClose x)
shape (Arith1 w l o) = held o l (outside o ++ before l) ArithOpen
shape (Offset1 w h f) = part_held h f OffsetOpen
shape (Computing c s) = record (slot_held c) { arith = arith_shape s }
shape (Has p l o) = held o l (outside o ++ (before l ++ power_code p)) (phase_behind p)
shape (Raising a c l o) = held o l (outside o ++ (before l ++ atom_code a)) (Exponent c)
shape (Smooth1 w h f) = part_held h f SmoothOpen
shape (Smooth2 w p h f) = part_held h f SmoothName
shape (Smooth3 w p x m h f) = part_held h f (SmoothComma x)
shape (Smooth4 w p x m c h f) = part_held h f (SmoothLambda x)
shape (Smooth5 w p x m c v q h f) = part_held h f (SmoothClose (record { name = x; lambda = v }))
shape (HasItems i h) = items_held h i BehindItem
shape (Done f) = items_held f.head f.items Ended

inter_coded : (l : Option (Left Inter)) (p : Power) → inter_code (onto_inter l p) ≡ inter_before l ++ (power_code p ++ step_of Interact (place_of l))
inter_coded None p = sym (append-nil (power_code p))
inter_coded (Some l) p = refl

product_coded : (l : Option (Left Product)) (i : Inter) → product_code (onto_product l i) ≡ product_before l ++ (inter_code i ++ step_of Multiply (place_of l))
product_coded None i = sym (append-nil (inter_code i))
product_coded (Some l) i = refl

-- the operators that a power's level ends
abbrev ends_of : Lefts → List Step
ends_of l = step_of Interact (place_of l.inter) ++ step_of Multiply (place_of l.product)

product_of_coded : (l : Lefts) (p : Power) → product_code (product_of l p) ≡ before l ++ (power_code p ++ ends_of l)
product_of_coded l p = product_coded l.product (onto_inter l.inter p) ∙ simp (inter_coded, append_assoc)

sum_coded : (f : Front Sum) (p : Product) → sum_code (onto_sum f p) ≡ sum_before f ++ (product_code p ++ sum_step (operator_of f))
sum_coded (Leads Bare) p = sym (append-nil (product_code p))
sum_coded (Leads (Led x n)) p = refl
sum_coded (After s x n) p = refl

items_coded : (f : Front Items) (p : Product) → items_code (onto_items f (Term p)) ≡ items_before f ++ (product_code p ++ sum_step (operator_of f))
items_coded (Leads Bare) p = sym (append-nil (product_code p))
items_coded (Leads (Led x n)) p = refl
items_coded (After s x n) p = refl

sum_of_coded : (f : Front Sum) (l : Lefts) (p : Power) → sum_code (onto_sum f (product_of l p)) ≡ sum_before f ++ (before l ++ (power_code p ++ (ends_of l ++ sum_step (operator_of f))))
sum_of_coded f l p = sum_coded f (product_of l p) ∙ simp (product_of_coded, append_assoc)

items_of_coded : (f : Front Items) (l : Lefts) (p : Power) → items_code (onto_items f (Term (product_of l p))) ≡ items_before f ++ (before l ++ (power_code p ++ (ends_of l ++ sum_step (operator_of f))))
items_of_coded f l p = items_coded f (product_of l p) ∙ simp (product_of_coded, append_assoc)

-- a reader with other steps
abbrev with_steps : Reader → List Step → Option Reader
with_steps r steps = Some (record r { steps = steps })

same_steps : (r : Reader) (a b : List Step) → a ≡ b → with_steps r a ≡ with_steps r b
same_steps r a b e = ap (with_steps r) e

-- ---- a token, by what was read

abbrev Commutes : State → ℕ → Kind → Type 0
Commutes s n k = token_read (shape s) (token k n) ≡ option_map shape (step_at s n k)

operand_commutes : (l : Lefts) (o : Around) (n : ℕ) (k : Kind) → Commutes (Wants l o) n k
operand_commutes l o n (Name x) = same_steps (held o l [] BehindAtom) _ _ (append_assoc (outside o) (before l) (Load x false ∷ []))
operand_commutes l o n Point = same_steps (held o l [] BehindAtom) _ _ (append_assoc (outside o) (before l) (LoadAll ∷ []))
operand_commutes l o n Open = same_steps (held (Inside (Leads Bare) n l o) no_lefts [] Opening) _ _ (ap (λ (x : List Step). outside o ++ x) (sym (append-nil (before l))))
operand_commutes l o n k = refl

-- a parenthesis is open
one_open : (w : Level) (ws : List Level) → (length (w ∷ ws) == 0) ≡ false
one_open w ws = grind (arith, nat_tests)

-- what needs every parenthesis closed
none_inside : (w : Level) (ws : List Level) (q : Option Reader) → cond (length (w ∷ ws) == 0) q None ≡ None
none_inside w ws q = rw one_open refl

leading_commutes : (o : Around) (x : Sign) (n : ℕ) → sign_read (shape (Fresh o)) (around_operator o) x n ≡ option_map shape (led o x n)
leading_commutes (Bottom h (Leads Bare)) x n = refl
leading_commutes (Inside (Leads Bare) p l o) x n = same_steps (held (Inside (Leads (Led x n)) p l o) no_lefts [] Opening) _ _ (simp (append_assoc, append-nil))
leading_commutes o x n = refl

zero_commutes : (o : Around) (n : ℕ) → intercept_read (shape (Fresh o)) false ≡ option_map shape (item o n (Nil n))
zero_commutes (Bottom h (Leads (Led Plus m))) n = refl
zero_commutes (Bottom h (After j Plus m)) n = same_steps (items_held h (Then j Plus m (Nil n)) BehindItem) _ _ (append-nil (items_code j))
zero_commutes (Bottom h (After j Minus m)) n = same_steps (items_held h (Then j Minus m (Nil n)) BehindItem) _ _ (append-nil (items_code j))
zero_commutes (Inside f p l o) n = none_inside (level_of o l) (outer_of o) _
zero_commutes o n = refl

unity_commutes : (o : Around) (n : ℕ) → intercept_read (shape (Fresh o)) true ≡ option_map shape (item o n (Intercept n))
unity_commutes (Bottom h (Leads (Led Plus m))) n = refl
unity_commutes (Bottom h (After j Plus m)) n = same_steps (items_held h (Then j Plus m (Intercept n)) BehindItem) _ _ (append-nil (items_code j))
unity_commutes (Bottom h (After j Minus m)) n = same_steps (items_held h (Then j Minus m (Intercept n)) BehindItem) _ _ (append-nil (items_code j))
unity_commutes (Inside f p l o) n = none_inside (level_of o l) (outer_of o) _
unity_commutes o n = refl

smooth_commutes : (o : Around) (n : ℕ) → part_read (shape (Fresh o)) SmoothOpen ≡ option_map shape (part (Smooth1 n) o)
smooth_commutes (Bottom h (Leads (Led Plus m))) n = refl
smooth_commutes (Bottom h (After j Plus m)) n = same_steps (part_held h (BehindItems j m) SmoothOpen) _ _ (append-nil (items_code j))
smooth_commutes (Inside f p l o) n = none_inside (level_of o l) (outer_of o) _
smooth_commutes o n = refl

offset_commutes : (o : Around) (n : ℕ) → part_read (shape (Fresh o)) OffsetOpen ≡ option_map shape (part (Offset1 n) o)
offset_commutes (Bottom h (Leads (Led Plus m))) n = refl
offset_commutes (Bottom h (After j Plus m)) n = same_steps (part_held h (BehindItems j m) OffsetOpen) _ _ (append-nil (items_code j))
offset_commutes (Inside f p l o) n = none_inside (level_of o l) (outer_of o) _
offset_commutes o n = refl

-- an operand may stand where a sign or an item may
fresh_operand : (o : Around) (k : Kind) → operand_read (held o no_lefts (outside o) Opening) k ≡ operand_read (held o no_lefts (outside o ++ []) Operand) k
fresh_operand o (Name x) = same_steps (held o no_lefts [] BehindAtom) _ _ (ap (λ (x' : List Step). x' ++ (Load x false ∷ [])) (sym (append-nil (outside o))))
fresh_operand o Point = same_steps (held o no_lefts [] BehindAtom) _ _ (ap (λ (x : List Step). x ++ (LoadAll ∷ [])) (sym (append-nil (outside o))))
fresh_operand o FactorWord = same_steps (held o no_lefts [] FactorOpen) _ _ (sym (append-nil (outside o)))
fresh_operand o ArithWord = same_steps (held o no_lefts [] ArithOpen) _ _ (sym (append-nil (outside o)))
fresh_operand o Open = same_steps (record (held o no_lefts [] Opening) { level = bare; outer = level_of o no_lefts ∷ outer_of o }) _ _ (sym (append-nil (outside o)))
fresh_operand o k = refl

fresh_commutes : (o : Around) (n : ℕ) (k : Kind) → Commutes (Fresh o) n k
fresh_commutes o n (Signed x) = leading_commutes o x n
fresh_commutes o n (Number (Digits Zero)) = zero_commutes o n
fresh_commutes o n (Number (Digits Unity)) = unity_commutes o n
fresh_commutes o n QssWord = smooth_commutes o n
fresh_commutes o n OffsetWord = offset_commutes o n
fresh_commutes o n k = fresh_operand o k ∙ operand_commutes no_lefts o n k

-- ---- behind a power

abbrev powered : Power → Lefts → Around → List Step
powered p l o = outside o ++ (before l ++ power_code p)

regroup_bottom : (s a b c d e : List Step) → (s ++ (a ++ b)) ++ ((c ++ d) ++ e) ≡ s ++ (a ++ (b ++ ((c ++ d) ++ e)))
regroup_bottom s a b c d e = simp append_assoc

in_bottom : (f : Front Items) (l : Lefts) (p : Power) (h : Head) → powered p l (Bottom h f) ++ sum_end (level_of (Bottom h f) l) ≡ items_code (onto_items f (Term (product_of l p)))
in_bottom f l p h = regroup_bottom (items_before f) (before l) (power_code p) (inter_end (level_of (Bottom h f) l)) (step_of Multiply (place_of l.product)) (sum_step (operator_of f)) ∙ sym (items_of_coded f l p)

regroup_inside : (o q s a b c : List Step) → ((o ++ (q ++ s)) ++ (a ++ b)) ++ c ≡ o ++ (q ++ (s ++ (a ++ (b ++ c))))
regroup_inside o q s a b c = simp append_assoc

inside : (f : Front Sum) (m : ℕ) (q : Lefts) (o : Around) (l : Lefts) (p : Power)
    → powered p l (Inside f m q o) ++ sum_end (level_of (Inside f m q o) l) ≡ outside o ++ (before q ++ sum_code (onto_sum f (product_of l p)))
inside f m q o l p =
    regroup_inside (outside o) (before q) (sum_before f) (before l) (power_code p) (sum_end (level_of (Inside f m q o) l))
    ∙ ap (λ (x : List Step). outside o ++ (before q ++ x)) (sym (sum_of_coded f l p))

behind_commutes : (p : Power) (l : Lefts) (o : Around) (n : ℕ) (k : Kind) (q : Phase) → power_read (held o l (powered p l o) q) n k ≡ option_map shape (behind p l o n k)
behind_commutes p l o n Colon q = same_steps (held o (record { product = l.product; inter = Some (record { tree = onto_inter l.inter p; place = n }) }) [] Operand) _ _ (simp (inter_coded, append_assoc))
behind_commutes p l o n Star q = same_steps (held o (record { product = Some (record { tree = product_of l p; place = n }); inter = None }) [] Operand) _ _ (simp (product_of_coded, append_assoc, append-nil))
behind_commutes p l (Bottom h (Leads Bare)) n (Signed x) q = same_steps (shape (Fresh (Bottom h (After (onto_items (Leads Bare) (Term (product_of l p))) x n)))) _ _ (in_bottom (Leads Bare) l p h)
behind_commutes p l (Bottom h (Leads (Led y m))) n (Signed x) q = same_steps (shape (Fresh (Bottom h (After (onto_items (Leads (Led y m)) (Term (product_of l p))) x n)))) _ _ (in_bottom (Leads (Led y m)) l p h)
behind_commutes p l (Bottom h (After j y m)) n (Signed x) q = same_steps (shape (Fresh (Bottom h (After (onto_items (After j y m) (Term (product_of l p))) x n)))) _ _ (in_bottom (After j y m) l p h)
behind_commutes p l (Inside f m r o) n (Signed x) q = same_steps (shape (Fresh (Inside (After (onto_sum f (product_of l p)) x n) m r o))) _ _ (inside f m r o l p)
behind_commutes p l (Inside f m r o) n Close q = same_steps (shape (Has (Plain (Group m (onto_sum f (product_of l p)) n)) r o)) _ _ (inside f m r o l p)
behind_commutes p l (Bottom h (Leads Bare)) n End q = same_steps (items_held h (onto_items (Leads Bare) (Term (product_of l p))) Ended) _ _ (in_bottom (Leads Bare) l p h)
behind_commutes p l (Bottom h (Leads (Led y m))) n End q = same_steps (items_held h (onto_items (Leads (Led y m)) (Term (product_of l p))) Ended) _ _ (in_bottom (Leads (Led y m)) l p h)
behind_commutes p l (Bottom h (After j y m)) n End q = same_steps (items_held h (onto_items (After j y m) (Term (product_of l p))) Ended) _ _ (in_bottom (After j y m) l p h)
behind_commutes p l (Inside f m r o) n End q = none_inside (level_of o r) (outer_of o) _
behind_commutes p l o n k q = refl

smooth_end_commutes : (w p : ℕ) (x : Span) (m c : ℕ) (v : Numeral) (q : ℕ) (h : Head) (f : PartFront) (n : ℕ) → Commutes (Smooth5 w p x m c v q h f) n Close
smooth_end_commutes w p x m c v q h Nowhere n = refl
smooth_end_commutes w p x m c v q h (BehindPlus k) n = refl
smooth_end_commutes w p x m c v q h (BehindItems j k) n = ap (λ (x' : List ArithPart). let r : Reader =
    record (items_held h (ThenPart j k (Smoothing (record { word = w; opened = p; name = x; place = m; comma = c; lambda = v; at = q; closed = n }))) BehindItem) { offsets = x' } in Some r) (sym (append-nil (offsets_of j)))

-- ---- inside an arithmetic

-- the reader behind an arithmetic that ended
abbrev slot_behind : Slot → ArithPart → Reader
slot_behind (TermSlot w p l o) a = held o l ((outside o ++ before l) ++ (LoadArith a ∷ [])) BehindAtom
slot_behind (OffsetSlot w p h f) a = record (part_held h f BehindItem) { offsets = offsets_before f ++ (a ∷ []) }

slot_reads : (c : Slot) (s : ArithState) (n : ℕ) (k : Kind)
    → token_read (shape (Computing c s)) (token k n) ≡ cond (arith_ends_at (arith_shape s) k) (Some (slot_behind c (arith_part (arith_shape s)))) (with_arith (shape (Computing c s)) (arith_read (arith_shape s) (token k n)))
slot_reads (TermSlot w p l o) s n k = refl
slot_reads (OffsetSlot w p h f) s n k = refl

slot_ended : (c : Slot) (a : Arith) (n : ℕ) → slot_behind c (part_of a) ≡ shape (slot_end c a n)
slot_ended (TermSlot w p l o) a n = ap (λ (x : List Step). held o l x BehindAtom) (append_assoc (outside o) (before l) (LoadArith (part_of a) ∷ []))
slot_ended (OffsetSlot w p h Nowhere) a n = refl
slot_ended (OffsetSlot w p h (BehindPlus m)) a n = refl
slot_ended (OffsetSlot w p h (BehindItems j m)) a n = ap (λ (x : List SmoothPart). record (items_held h (ThenPart j m (Offsetting (record { word = w; opened = p; arith = a; closed = n }))) BehindItem) { smooths = x })
    (sym (append-nil (smooths_of j)))

with_arith_is : (c : Slot) (s : ArithState) (q : Option ArithState) → with_arith (shape (Computing c s)) (option_map arith_shape q) ≡ option_map shape (slot_step c 0 None q)
with_arith_is c s None = refl
with_arith_is c s (Some m) = refl

slot_step_none : (c : Slot) (n : ℕ) (q : Option ArithState) → slot_step c n None q ≡ slot_step c 0 None q
slot_step_none c n None = refl
slot_step_none c n (Some s) = refl

slot_goes : (c : Slot) (s : ArithState) (n : ℕ) (k : Kind) (a : Option Arith) → arith_ending s k ≡ a
    → cond (is_some a) (Some (slot_behind c (arith_part (arith_shape s)))) (with_arith (shape (Computing c s)) (arith_read (arith_shape s) (token k n))) ≡ option_map shape (slot_step c n a (arith_step s n k))
slot_goes c s n k (Some a) e = ap (λ (x : ArithPart). Some (slot_behind c x)) (arith_part_is s k a e) ∙ ap (λ (x : Reader). Some x) (slot_ended c a n)
slot_goes c s n k None e =
    ap (with_arith (shape (Computing c s))) (arith_commutes s n k)
    ∙ with_arith_is c s (arith_step s n k)
    ∙ ap (option_map shape) (sym (slot_step_none c n (arith_step s n k)))

slot_commutes : (c : Slot) (s : ArithState) (n : ℕ) (k : Kind) → Commutes (Computing c s) n k
slot_commutes c s n k =
    slot_reads c s n k
    ∙ ap (λ (b : Bool). cond b (Some (slot_behind c (arith_part (arith_shape s)))) (with_arith (shape (Computing c s)) (arith_read (arith_shape s) (token k n)))) (arith_ends s k)
    ∙ slot_goes c s n k (arith_ending s k) refl

-- The reader goes where the reading goes.
pub commutes : (s : State) (n : ℕ) (k : Kind) → Commutes s n k
commutes Begin n (Name x) = refl
commutes (Named x m) n Tilde = refl
commutes (Fresh o) n k = fresh_commutes o n k
commutes (Wants l o) n k = operand_commutes l o n k
commutes (Factor1 w l o) n Open = refl
commutes (Factor2 w p l o) n (Name x) = refl
commutes (Factor3 w p x m l o) n Close = same_steps (held o l [] BehindAtom) _ _ (append_assoc (outside o) (before l) (Load x true ∷ []))
commutes (Arith1 w l o) n Open = refl
commutes (Offset1 w h f) n Open = refl
commutes (Computing c s) n k = slot_commutes c s n k
commutes (Has (Plain a) l o) n Caret = refl
commutes (Has (Plain a) l o) n k = behind_commutes (Plain a) l o n k BehindAtom
commutes (Raising a c l o) n (Number (Digits e)) = same_steps (held o l [] BehindPower) _ _ (simp append_assoc)
commutes (Has p l o) n k = behind_commutes p l o n k BehindPower
commutes (Smooth1 w h f) n Open = refl
commutes (Smooth2 w p h f) n (Name x) = refl
commutes (Smooth3 w p x m h f) n Comma = refl
commutes (Smooth4 w p x m c h f) n (Number v) = refl
commutes (Smooth5 w p x m c v q h f) n Close = smooth_end_commutes w p x m c v q h f n
commutes (HasItems i h) n (Signed x) = refl
commutes s n k = refl
