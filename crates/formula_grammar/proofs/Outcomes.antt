-- What a reader holds behind some tokens, and what the next token does.
use Rattle.std.proofs.Common.{◌≡◌, ◌<◌, ◌≤◌, ◌⊎◌, ℕ, ◌+◌, zero, suc, Bool, true, false, List, [], ◌∷◌, ◌++◌, Option, Some, None}
use Rattle.std.proofs.Common.{IfSome, option_map, option_and_then, inl, inr, nat_le, refl, sym, ◌∙◌, ap, arith, below_more, cond, drop, get_or, length, subst, take}
use Rattle.std.proofs.lemmas.List.{get_or_default, take-append-drop, take_more, take_all}
use Rattle.formula_grammar.specs.Words.{Kind, Number, Caret, Open, End, Numeral, Digits, Token, Reading}
use Rattle.formula_grammar.specs.Faults.{ReadFault, OutOfMemory, Syntax, TooDeep, PowerRange, NumberTooWide, token_at, depth_behind, depth_from, depth, is_power, number_fault, last_from, last_kind}
use Rattle.formula_grammar.specs.Faults.{limit_fault, limit_at, IsFaultAt, IsCleanBelow, IsFirstFault, IsFormula, IsReading, IsFault, EndText, OneFault, NoFormulaHasFaults, FormulaOrFault, FormulasKeepLimits}
use Rattle.formula_grammar.specs.Machine.{Reader, token_read, Reads}
use Rattle.formula_grammar.specs.Numerals.{is_wide}
use Rattle.formula_grammar.specs.Grammar.{Formula, Plain, token, formula_tokens, Begins}
use Rattle.formula_grammar.specs.Arithmetics.{Plain as PlainApow, Raised as RaisedApow}
use Rattle.formula_grammar.proofs.ArithAutomaton.{Top, ArithState, Needs, Raises}
use Rattle.formula_grammar.proofs.ArithAutomaton.{Begins as ArithBegins, Holds as ArithHolds}
use Rattle.formula_grammar.proofs.Automaton.{Slot, State, Computing, Begin, Fresh, Has, HasItems, Done, Bottom, step, step_at, run}
use Rattle.formula_grammar.proofs.Shown.{begins, begins_not, run_append, reads_only, some_is}
use Rattle.formula_grammar.proofs.Shapes.{shape, commutes}

-- what a reader holds behind some tokens
pub record Holds (ts : List Token) (r : Reader) : Type 0 where
  pub state : State
  pub is : run Begin ts ≡ Some state
  pub shaped : r ≡ shape state

run_more : (ts : List Token) (t : Token) (s : State) → run Begin ts ≡ Some s → run Begin (ts ++ (t ∷ [])) ≡ option_and_then (λ q. Some q) (step s t)
run_more ts t s e = run_append Begin ts (t ∷ []) ∙ ap (option_and_then (λ q. run q (t ∷ []))) e

record Mapped (q : Option State) (r : Reader) : Type 0 where
  state : State
  is : q ≡ Some state
  shaped : r ≡ shape state

mapped : (q : Option State) (r : Reader) → option_map shape q ≡ Some r → Mapped q r
mapped None r e = cc
mapped (Some s) r e = record { state = s; is = refl; shaped = cc }

unmapped : (q : Option State) → option_map shape q ≡ None → q ≡ None
unmapped None e = refl
unmapped (Some s) e = cc

read_at : (s : State) (t : Token) (r : Reader) (q : Option Reader) → r ≡ shape s → token_read r t ≡ q → option_map shape (step s t) ≡ q
read_at s t r q e h = sym (commutes s t.at t.kind) ∙ ap (λ x. token_read x t) (sym e) ∙ h

goes_behind : (ts : List Token) (t : Token) (r r' : Reader) → Holds ts r → token_read r t ≡ Some r' → Holds (ts ++ (t ∷ [])) r'
goes_behind ts t r r' h e =
    let m = mapped (step h.state t) r' (read_at h.state t r (Some r') h.shaped e) in
    record { state = m.state; is = run_more ts t h.state h.is ∙ ap (option_and_then (λ q. Some q)) m.is; shaped = m.shaped }

pub nothing_held : (r : Reader) → r ≡ shape Begin → Holds [] r
nothing_held r e = record { state = Begin; is = refl; shaped = e }

-- the tokens up to one and that one
up_to : (ts : List Token) (i : ℕ) (t : Token) → i < length ts → t ≡ get_or ts i t → take (i + 1) ts ≡ take i ts ++ (t ∷ [])
up_to ts i t lt is = take_more ts i t lt ∙ ap (λ (u : Token). take i ts ++ (u ∷ [])) (sym is)

pub goes : (ts : List Token) (i : ℕ) (t : Token) (r r' : Reader) → i < length ts → t ≡ get_or ts i t → Holds (take i ts) r → Reads (token_read r t) true r' → Holds (take (i + 1) ts) r'
goes ts i t r r' lt is h e = let P : List Token → Type 0 = λ x. Holds x r' in subst P (sym (up_to ts i t lt is)) (goes_behind (take i ts) t r r' h e)

pub held_begins : (ts : List Token) (r : Reader) → Holds ts r → Begins ts
held_begins ts r h = begins ts h.state h.is

at_index : (ts : List Token) (i : ℕ) (t : Token) → i < length ts → t ≡ get_or ts i t → token_at ts i ≡ t
at_index ts i t lt is = get_or_default ts i (token End 0) t lt ∙ sym is

-- no formula can have the token there
stopped : (ts : List Token) (i : ℕ) (s : State) → i < length ts → run Begin (take i ts) ≡ Some s → step s (token_at ts i) ≡ None → IsCleanBelow ts i → IsFirstFault ts (Syntax (token_at ts i).at)
stopped ts i s lt is e clean =
    let none : run Begin (take i ts ++ (token_at ts i ∷ [])) ≡ None = run_more (take i ts) (token_at ts i) s is ∙ ap (option_and_then (λ q. Some q)) e in
    record { index = i; there = lt; here = (begins (take i ts) s is, λ b. begins_not (take i ts ++ (token_at ts i ∷ [])) none (subst Begins (take_more ts i (token End 0) lt) b), refl); first = clean }

pub wrong : (ts : List Token) (i : ℕ) (t : Token) (r r' : Reader) → i < length ts → t ≡ get_or ts i t → Holds (take i ts) r → IsCleanBelow ts i
    → Reads (token_read r t) false r' → IsFirstFault ts (Syntax t.at)
wrong ts i t r r' lt is h clean e =
    let same = at_index ts i t lt is in
    let none = unmapped (step h.state (token_at ts i)) (read_at h.state (token_at ts i) r None h.shaped (ap (token_read r) same ∙ e)) in
    subst (λ (u : Token). IsFirstFault ts (Syntax u.at)) same (stopped ts i h.state lt h.is none clean)

-- ---- limits

depth_more : (n : ℕ) (ts : List Token) (t : Token) → depth_from n (ts ++ (t ∷ [])) ≡ depth_behind t.kind (depth_from n ts)
depth_more n [] t = refl
depth_more n (u ∷ ts) t = depth_more (depth_behind u.kind n) ts t

last_more : (k : Kind) (ts : List Token) (t : Token) → last_from k (ts ++ (t ∷ [])) ≡ t.kind
last_more k [] t = refl
last_more k (u ∷ ts) t = last_more u.kind ts t

pub depth_next : (ts : List Token) (i : ℕ) (t : Token) (n m : ℕ) → i < length ts → t ≡ get_or ts i t → n ≡ depth (take i ts) → m ≡ depth_behind t.kind n → m ≡ depth (take (i + 1) ts)
depth_next ts i t n m lt is e f = f ∙ ap (depth_behind t.kind) e ∙ sym (depth_more 0 (take i ts) t) ∙ ap depth (sym (up_to ts i t lt is))

pub last_next : (ts : List Token) (i : ℕ) (t : Token) (k : Kind) → i < length ts → t ≡ get_or ts i t → k ≡ t.kind → k ≡ last_kind (take (i + 1) ts)
last_next ts i t k lt is e = e ∙ sym (last_more End (take i ts) t) ∙ ap last_kind (sym (up_to ts i t lt is))

limits_at : (ts : List Token) (i : ℕ) (t : Token) (n : ℕ) (k : Kind) (fault : Option ReadFault) → i < length ts → t ≡ get_or ts i t → n ≡ depth (take i ts) → k ≡ last_kind (take i ts)
    → fault ≡ limit_fault t.kind t.at n k → limit_at ts i ≡ fault
limits_at ts i t n k fault lt is e f g =
    ap (λ (u : Token). limit_fault u.kind u.at (depth (take i ts)) (last_kind (take i ts))) (at_index ts i t lt is)
    ∙ ap (λ (m : ℕ). limit_fault t.kind t.at m (last_kind (take i ts))) (sym e)
    ∙ ap (limit_fault t.kind t.at n) (sym f)
    ∙ sym g

abbrev IsLimit : ReadFault → Type 0
IsLimit OutOfMemory = ⊥
IsLimit (Syntax n) = ⊥
IsLimit fault = Unit {0}

either_limit : (b : Bool) (x y : Option ReadFault) → IfSome x IsLimit → IfSome y IsLimit → IfSome (cond b x y) IsLimit
either_limit true x y h k = h
either_limit false x y h k = k

number_limit : (before : Kind) (x : Numeral) (n : ℕ) → IfSome (number_fault before x n) IsLimit
number_limit Caret (Digits k) n = either_limit (is_power k) None (Some (PowerRange n)) tt tt
number_limit before x n = either_limit (is_wide x) (Some (NumberTooWide n)) None tt tt

any_limit : (k : Kind) (n opened : ℕ) (before : Kind) → IfSome (limit_fault k n opened before) IsLimit
any_limit Open n opened before = either_limit (nat_le 64 opened) (Some (TooDeep n)) None tt tt
any_limit (Number x) n opened before = number_limit before x n
any_limit k n opened before = tt

limit_is : (ts : List Token) (i : ℕ) (fault : ReadFault) → limit_at ts i ≡ Some fault → IsLimit fault
limit_is ts i fault e = subst (λ (o : Option ReadFault). IfSome o IsLimit) e (any_limit (token_at ts i).kind (token_at ts i).at (depth (take i ts)) (last_kind (take i ts)))

-- a limit that is passed is a fault
limit_here : (ts : List Token) (i : ℕ) (fault : ReadFault) → Begins (take (i + 1) ts) → limit_at ts i ≡ Some fault → IsFaultAt ts i fault
limit_here ts i OutOfMemory b e = limit_is ts i OutOfMemory e
limit_here ts i (Syntax n) b e = absurd (limit_is ts i (Syntax n) e)
limit_here ts i fault b e = (b, e)

-- a token that can stand there and passes no limit has no fault
none_here : (ts : List Token) (i : ℕ) → Begins (take (i + 1) ts) → limit_at ts i ≡ None → (fault : ReadFault) → IsFaultAt ts i fault → ⊥
none_here ts i b e OutOfMemory f = f
none_here ts i b e (Syntax n) f = f.1 b
none_here ts i b e fault f = let h : Some fault ≡ None = sym f.1 ∙ e in absurd (cc)

clean_more : (ts : List Token) (i : ℕ) → IsCleanBelow ts i → ((fault : ReadFault) → IsFaultAt ts i fault → ⊥) → IsCleanBelow ts (i + 1)
clean_more ts i clean here j lt =
    let P : ℕ → Type 0 = λ j. (fault : ReadFault) → IsFaultAt ts j fault → ⊥ in
    below_more P i clean here j lt

pub clean_next : (ts : List Token) (i : ℕ) (t : Token) (r : Reader) (n : ℕ) (k : Kind) → i < length ts → t ≡ get_or ts i t → Holds (take (i + 1) ts) r → IsCleanBelow ts i
    → n ≡ depth (take i ts) → k ≡ last_kind (take i ts) → None ≡ limit_fault t.kind t.at n k → IsCleanBelow ts (i + 1)
clean_next ts i t r n k lt is h clean e f g =
    clean_more ts i clean (none_here ts i (held_begins (take (i + 1) ts) r h) (limits_at ts i t n k None lt is e f g))

pub passed : (ts : List Token) (i : ℕ) (t : Token) (r : Reader) (n : ℕ) (k : Kind) (fault : ReadFault) → i < length ts → t ≡ get_or ts i t → Holds (take (i + 1) ts) r → IsCleanBelow ts i
    → n ≡ depth (take i ts) → k ≡ last_kind (take i ts) → Some fault ≡ limit_fault t.kind t.at n k → IsFirstFault ts fault
passed ts i t r n k fault lt is h clean e f g = record {
  index = i;
  there = lt;
  here = limit_here ts i fault (held_begins (take (i + 1) ts) r h) (limits_at ts i t n k (Some fault) lt is e f g);
  first = clean;
}

pub first_is_fault : (ts : List Token) (fault : ReadFault) → IsFirstFault ts fault → IsFault ts fault
first_is_fault ts OutOfMemory f = tt
first_is_fault ts fault f = f

-- ---- the end

-- the end of the text ends a formula
record Ended (s : State) : Type 0 where
  formula : Formula
  is : s ≡ Done formula

done : (f : Formula) (s : State) → Some (Done f) ≡ Some s → Ended s
done f s e = record { formula = f; is = sym (some_is e) }

-- inside an arithmetic it can't stand
never_inside : (c : Slot) (s : ArithState) (n : ℕ) → step_at (Computing c s) n End ≡ None
never_inside c (ArithBegins h) n = refl
never_inside c (Needs l f h) n = refl
never_inside c (ArithHolds (PlainApow a) l f Top) n = refl
never_inside c (ArithHolds (PlainApow a) l f h) n = refl
never_inside c (ArithHolds (RaisedApow a i e m) l f Top) n = refl
never_inside c (ArithHolds (RaisedApow a i e m) l f h) n = refl
never_inside c (Raises a i l f h) n = refl

ended : (s : State) (n : ℕ) (s' : State) → step_at s n End ≡ Some s' → Ended s'
ended (Has (Plain a) l (Bottom h f)) n s' e = done _ s' e
ended (Has p l (Bottom h f)) n s' e = done _ s' e
ended (HasItems i h) n s' e = done _ s' e
ended (Fresh (Bottom h f)) n s' e = cc
ended (Computing c s) n s' e = absurd (cc (sym (never_inside c s n) ∙ e))
ended s n s' e = cc

step_ended : (q : Option State) (n : ℕ) (s' : State) → option_and_then (λ s. option_and_then (λ s. Some s) (step_at s n End)) q ≡ Some s' → Ended s'
step_ended None n s' e = cc
step_ended (Some s) n s' e =
    elim (step_at s n End) as (λ x. step_at s n End ≡ x → option_and_then (λ s. Some s) x ≡ Some s' → Ended s') [
      | None ↦ λ d e. cc
      | Some m ↦ λ d e. ended s n s' (d ∙ e)
    ] refl e

whole_ended : (ts : List Token) (s : State) → EndText ts → run Begin ts ≡ Some s → Ended s
whole_ended ts s w e = step_ended (run Begin w.front) w.ended s (sym (run_append Begin w.front (token End w.ended ∷ [])) ∙ ap (run Begin) (sym w.is) ∙ e)

pub whole_held : (ts : List Token) (i : ℕ) (r : Reader) → length ts ≤ i → Holds (take i ts) r → Holds ts r
whole_held ts i r le h = let P : List Token → Type 0 = λ x. Holds x r in subst P (take_all i ts le) h

is_formula : (ts : List Token) (s : State) (i : ℕ) → EndText ts → run Begin ts ≡ Some s → length ts ≤ i → IsCleanBelow ts i → (f : Formula) × (s ≡ Done f) × IsFormula ts f
is_formula ts s i w e le clean =
    let d = whole_ended ts s w e in
    (d.formula, d.is, record { reads = reads_only ts d.formula (e ∙ ap (λ (x : State). Some x) d.is); clean = λ j lt. clean j (omega arith) })

pub reading_held : (ts : List Token) (i : ℕ) (r : Reader) → EndText ts → length ts ≤ i → Holds (take i ts) r → IsCleanBelow ts i
    → IsReading ts (record { response = r.response; intercept = r.intercept; steps = r.steps; smooths = r.smooths; offsets = r.offsets })
reading_held ts i r w le h clean =
    let held = whole_held ts i r le h in
    let f = is_formula ts held.state i w held.is le clean in
    record {
      formula = f.0;
      is = f.2;
      code = ap (λ (x : Reader). let y : Reading = record { response = x.response; intercept = x.intercept; steps = x.steps; smooths = x.smooths; offsets = x.offsets } in y) (held.shaped ∙ ap shape f.1);
    }

-- ---- one outcome

-- the faults of one token are one
same_fault : (ts : List Token) (i : ℕ) (a b : ReadFault) → IsFaultAt ts i a → IsFaultAt ts i b → a ≡ b
same_fault ts i OutOfMemory b f g = absurd f
same_fault ts i a OutOfMemory f g = absurd g
same_fault ts i (Syntax n) (Syntax m) f g = ap (λ (x : ℕ). Syntax x) (f.2 ∙ sym g.2)
same_fault ts i (Syntax n) b f g = absurd (f.1 g.0)
same_fault ts i a (Syntax m) f g = absurd (g.1 f.0)
same_fault ts i a b f g = some_is (sym f.1 ∙ g.1)

same_index : (i j : ℕ) → (i < j → ⊥) → (j < i → ⊥) → i ≡ j
same_index i j f g = omega (arith, f, g)

pub one_fault : OneFault
one_fault ts a b f g =
    let e : f.index ≡ g.index = same_index f.index g.index (λ lt. g.first f.index lt a f.here) (λ lt. f.first g.index lt b g.here) in
    same_fault ts g.index a b (subst (λ (i : ℕ). IsFaultAt ts i a) e f.here) g.here

pub no_formula_has_faults : NoFormulaHasFaults
no_formula_has_faults ts f fault w g = w.clean g.index g.there fault g.here

-- the first so many tokens begin a formula and have no fault
record Goes (ts : List Token) (i : ℕ) : Type 0 where
  state : State
  is : run Begin (take i ts) ≡ Some state
  clean : IsCleanBelow ts i

goes_or_stops : (ts : List Token) (i : ℕ) → i < length ts → Goes ts i → Goes ts (i + 1) ⊎ ((fault : ReadFault) × IsFirstFault ts fault)
goes_or_stops ts i lt g =
    let t : Token = token_at ts i in
    let more : take (i + 1) ts ≡ take i ts ++ (t ∷ []) = take_more ts i (token End 0) lt in
    let next = run_more (take i ts) t g.state g.is in
    elim (step g.state t) as (λ q. step g.state t ≡ q → Goes ts (i + 1) ⊎ ((fault : ReadFault) × IsFirstFault ts fault)) [
      | None ↦ λ e. inr (Syntax t.at, stopped ts i g.state lt g.is e g.clean)
      | Some s ↦ λ e.
          let is : run Begin (take (i + 1) ts) ≡ Some s = ap (run Begin) more ∙ next ∙ ap (option_and_then (λ s. Some s)) e in
          let b = begins (take (i + 1) ts) s is in
          elim (limit_at ts i) as (λ l. limit_at ts i ≡ l → Goes ts (i + 1) ⊎ ((fault : ReadFault) × IsFirstFault ts fault)) [
            | None ↦ λ d. inl (record { state = s; is = is; clean = clean_more ts i g.clean (none_here ts i b d) })
            | Some fault ↦ λ d. inr (fault, record { index = i; there = lt; here = limit_here ts i fault b d; first = g.clean })
          ] refl
    ] refl

pub clean_none : (ts : List Token) → IsCleanBelow ts 0
clean_none ts i lt = absurd (omega (arith, lt))

begun : (ts : List Token) → Goes ts 0
begun ts = record { state = Begin; is = refl; clean = clean_none ts }

goes_on : (ts : List Token) (i : ℕ) → i ≤ length ts → Goes ts i ⊎ ((fault : ReadFault) × IsFirstFault ts fault)
goes_on ts zero le = inl (begun ts)
goes_on ts (suc i) le =
    elim (goes_on ts i (omega arith)) [
      | inl g ↦ let e : i + 1 ≡ suc i = omega arith in subst (λ (j : ℕ). Goes ts j ⊎ ((fault : ReadFault) × IsFirstFault ts fault)) e (goes_or_stops ts i (omega arith) g)
      | inr f ↦ inr f
    ]

pub formula_or_fault : FormulaOrFault
formula_or_fault ts w =
    elim (goes_on ts (length ts) (omega arith)) [
      | inl g ↦
          let is : run Begin ts ≡ Some g.state = ap (run Begin) (sym (take_all (length ts) ts (omega arith))) ∙ g.is in
          let f = is_formula ts g.state (length ts) w is (omega arith) g.clean in
          inl (f.0, f.2)
      | inr f ↦ inr f
    ]

-- ---- what a formula keeps

-- so many tokens of a formula begin one
front_begins : (ts : List Token) (f : Formula) (i : ℕ) → ts ≡ formula_tokens f → Begins (take i ts)
front_begins ts f i e = record { formula = f; rest = drop i ts; whole = take-append-drop i ts ∙ e }

pub keeps_limits : FormulasKeepLimits
keeps_limits ts f w i lt =
    elim (limit_at ts i) as (λ l. limit_at ts i ≡ l → l ≡ None) [
      | None ↦ λ e. refl
      | Some fault ↦ λ e. absurd (w.clean i lt fault (limit_here ts i fault (front_begins ts f (i + 1) w.reads) e))
    ] refl
