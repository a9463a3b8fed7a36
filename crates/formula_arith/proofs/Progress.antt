-- Code that was followed up to a place: what is left does with the stack what the whole does with none.
use Rattle.std.proofs.Common.{◌≡◌, ◌<◌, ◌≤◌, ◌+◌, ◌-◌, ◌^◌, ℕ, List, [], ◌∷◌, ◌++◌, add-one, append-nil, append_assoc, ap, arith, drop, drop-cons}
use Rattle.std.proofs.Common.{get_or, length, length-append, map, refl, subst, sym, ◌∙◌, Result, Ok, Err, IfErr, IfOk, OnOk, true, false, nat_lt}
use Rattle.std.proofs.lemmas.Bool.{le-ltb, lt-ltb}
use Rattle.std.proofs.lemmas.List.{drop_all}
use Rattle.rational_laws.specs.Rational.{ℚ}
use Rattle.frac_core.specs.declared.frac128.Frac128.{Frac128}
use Rattle.frac_core.specs.declared.arith.Arith.{Arith}
use Rattle.frac_core.specs.declared.arith.ArithOp.{ArithOp}
use Rattle.frac_core.specs.declared.arith.ArithOp.TheVariants.{Add, Sub, Mul, Power}
use Rattle.frac_core.specs.Values.{exact}
use Rattle.formula_arith.specs.declared.fault.ArithFault.{ArithFault}
use Rattle.formula_arith.specs.declared.fault.ArithFault.TheVariants.{OutOfMemory, Overflow}
use Rattle.formula_arith.specs.Arithmetics.{distinct_names}
use Rattle.formula_arith.specs.Codes.{numbered, numbered_in}
use Rattle.formula_arith.specs.Values.{Operation}
use Rattle.formula_arith.specs.Evaluations.{IsCause, IsFirstOverflow, IsValue, NoneOverflows, operations_at}
use Rattle.formula_arith.specs.Machine.{Halts, act, code_operations, exec, step_operations, top}
use Rattle.formula_arith.proofs.Overflows.{first_within, fits_append, multiplications_counted}
use Rattle.formula_arith.proofs.Runs.{whole_operations, whole_runs}

-- the code was followed up to its step i, by so many operations, none of which overflows
pub record Underway (values : List ℚ) (code : List ArithOp) (i : ℕ) (stack : List ℚ) (count : ℕ) : Type 0 where
  pub rest : exec values (drop i code) stack ≡ exec values code []
  pub done : List Operation
  pub all : code_operations values code [] ≡ done ++ code_operations values (drop i code) stack
  pub fits : NoneOverflows done
  pub counted : count ≡ length done
  pub room : count + numbered_in (drop i code) ≡ numbered_in code

-- at first nothing was done
pub begins : (values : List ℚ) (code : List ArithOp) (stack : List ℚ) → stack ≡ [] → Underway values code 0 stack 0
begins values code stack e =
    subst (λ (s : List ℚ). Underway values code 0 s 0) (sym e)
    (record { rest = refl; done = []; all = refl; fits = tt; counted = refl; room = omega arith })

-- how many operations a step has
steps_counted : (op : ArithOp) (stack : List ℚ) → length (step_operations op stack) ≡ numbered op
steps_counted Add stack = refl
steps_counted Sub stack = refl
steps_counted Mul stack = refl
steps_counted (Power k) stack = multiplications_counted (k - 1) (top stack)
steps_counted op stack = refl

-- what is left, as its first step and what follows that
split_at : (code : List ArithOp) (i : ℕ) (op : ArithOp) → i < length code → op ≡ get_or code i op → drop i code ≡ op ∷ drop (i + 1) code
split_at code i op lt is = drop-cons code i op lt ∙ ap (λ (n : ℕ). get_or code i op ∷ drop n code) (sym (add-one i)) ∙ ap (λ (o : ArithOp). o ∷ drop (i + 1) code) (sym is)

-- one more step is counted, or 32 bits don't count it
pub count_more : (code : List ArithOp) (i : ℕ) (op : ArithOp) (count : ℕ) → i < length code → op ≡ get_or code i op → count + numbered_in (drop i code) ≡ numbered_in code
    → (count + numbered op) + numbered_in (drop (i + 1) code) ≡ numbered_in code
count_more code i op count lt is h = omega (arith, h, ap numbered_in (split_at code i op lt is))

-- all steps are counted
pub all_counted : (code : List ArithOp) (i count : ℕ) → length code ≤ i → count + numbered_in (drop i code) ≡ numbered_in code → count < 2 ^ 32 → true ≡ nat_lt (numbered_in code) (2 ^ 32)
all_counted code i count ended h short =
    let all : numbered_in code < 2 ^ 32 = omega (arith, h, short, ap numbered_in (drop_all i code ended)) in
    sym (lt-ltb (numbered_in code) (2 ^ 32) all)

pub uncounted : (code : List ArithOp) (i : ℕ) (op : ArithOp) (count more : ℕ) → i < length code → op ≡ get_or code i op → count + numbered_in (drop i code) ≡ numbered_in code → more ≡ numbered op
    → (count + more < 2 ^ 32 → ⊥) → false ≡ nat_lt (numbered_in code) (2 ^ 32)
uncounted code i op count more lt is h counts full =
    let over : 2 ^ 32 ≤ count + more = omega (arith, full) in
    let all : 2 ^ 32 ≤ numbered_in code = omega (arith, over, counts, count_more code i op count lt is h) in
    sym (le-ltb (numbered_in code) (2 ^ 32) all)

module _ (values : List ℚ) (code : List ArithOp) (i : ℕ) (op : ArithOp) (stack : List ℚ) (count : ℕ) (within : i < length code) (is : op ≡ get_or code i op) (h : Underway values code i stack count) where
  -- the operations that are left begin with those of the step
  left_operations : code_operations values code [] ≡ h.done ++ (step_operations op stack ++ code_operations values (drop (i + 1) code) (act values op stack))
  left_operations = h.all ∙ ap (λ (c : List ArithOp). h.done ++ code_operations values c stack) (split_at code i op within is)

  -- the step is done
  pub goes_on : (next : List ℚ) (more : ℕ) → next ≡ act values op stack → more ≡ numbered op → NoneOverflows (step_operations op stack) → Underway values code (i + 1) next (count + more)
  goes_on next more e counts fits = record {
    rest = ap (λ (s : List ℚ). exec values (drop (i + 1) code) s) e ∙ sym (ap (λ (c : List ArithOp). exec values c stack) (split_at code i op within is)) ∙ h.rest;
    done = h.done ++ step_operations op stack;
    all = left_operations ∙ sym (append_assoc h.done (step_operations op stack) (code_operations values (drop (i + 1) code) (act values op stack)))
        ∙ ap (λ (s : List ℚ). (h.done ++ step_operations op stack) ++ code_operations values (drop (i + 1) code) s) (sym e);
    fits = fits_append h.done (step_operations op stack) h.fits fits;
    counted = omega (arith, counts, h.counted, length-append h.done (step_operations op stack), steps_counted op stack);
    room = omega (arith, counts, count_more code i op count within is h.room);
  }

  -- the step stops, and so does the code
  pub stops : (fault : ArithFault) → Halts count (step_operations op stack) fault → Halts 0 (code_operations values code []) fault
  stops OutOfMemory halts = tt
  stops (Overflow term o) halts =
      let first = first_within (code_operations values code []) h.done (step_operations op stack) (code_operations values (drop (i + 1) code) (act values op stack)) halts.0 o left_operations h.fits halts.1 in
      (length h.done + halts.0, first, omega (arith, halts.2, h.counted))

-- at the end the stack is what the whole code leaves
pub leaves : (values : List ℚ) (code : List ArithOp) (i : ℕ) (stack : List ℚ) (count : ℕ) → length code ≤ i → Underway values code i stack count → stack ≡ exec values code []
leaves values code i stack count ended h = sym (ap (λ (c : List ArithOp). exec values c stack) (drop_all i code ended)) ∙ h.rest

-- and none of its operations overflows
pub all_fit : (values : List ℚ) (code : List ArithOp) (i : ℕ) (stack : List ℚ) (count : ℕ) → length code ≤ i → Underway values code i stack count → NoneOverflows (code_operations values code [])
all_fit values code i stack count ended h =
    let done = h.all ∙ ap (λ (c : List ArithOp). h.done ++ code_operations values c stack) (drop_all i code ended) ∙ append-nil h.done in
    subst NoneOverflows (sym done) h.fits

-- ---- of a tree

-- the fault of the code is that of each arithmetic that it is of
is_cause : (a : Arith) (values : List Frac128) (fault : ArithFault) → Halts 0 (code_operations (map exact values) a.code []) fault → IsCause a values fault
is_cause a values OutOfMemory halts tree is = tt
is_cause a values (Overflow term o) halts tree is =
    let vs = map exact values in
    let all : code_operations vs a.code [] ≡ operations_at tree vs = ap (λ (c : List ArithOp). code_operations vs c []) is.code ∙ whole_operations (distinct_names tree) vs tree in
    let counted : halts.0 ≡ term = omega (arith, halts.2) in
    subst (λ (n : ℕ). IsFirstOverflow (operations_at tree vs) n o) counted
    (subst (λ (os : List Operation). IsFirstOverflow os halts.0 o) all halts.1)

-- so is its value, where nothing overflows
is_value : (a : Arith) (values : List Frac128) (x : Frac128) → exact x ≡ top (exec (map exact values) a.code []) → NoneOverflows (code_operations (map exact values) a.code []) → IsValue a values x
is_value a values x e fits tree is =
    let vs = map exact values in
    record {
      is = e ∙ ap top (ap (λ (c : List ArithOp). exec vs c []) is.code ∙ whole_runs (distinct_names tree) vs tree);
      fits = subst NoneOverflows (ap (λ (c : List ArithOp). code_operations vs c []) is.code ∙ whole_operations (distinct_names tree) vs tree) fits;
    }

-- both of what was run
pub run_value : (a : Arith) (values : List Frac128) (code : List ArithOp) (result : Result Frac128 ArithFault) → code ≡ a.code → IfOk result (λ x. exact x ≡ top (exec (map exact values) code []))
    → OnOk result (NoneOverflows (code_operations (map exact values) code [])) → IfOk result (IsValue a values)
run_value a values code (Err e) same is fits = tt
run_value a values code (Ok x) same is fits =
    is_value a values x (is ∙ ap (λ (c : List ArithOp). top (exec (map exact values) c [])) same) (subst (λ (c : List ArithOp). NoneOverflows (code_operations (map exact values) c [])) same fits)

pub run_cause : (a : Arith) (values : List Frac128) (code : List ArithOp) (result : Result Frac128 ArithFault) → code ≡ a.code → IfErr result (Halts 0 (code_operations (map exact values) code []))
    → IfErr result (IsCause a values)
run_cause a values code (Ok x) same halts = tt
run_cause a values code (Err fault) same halts =
    is_cause a values fault (subst (λ (c : List ArithOp). Halts 0 (code_operations (map exact values) c []) fault) same halts)
