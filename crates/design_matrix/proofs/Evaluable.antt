-- Arithmetics that can be evaluated: what they come to, and those of a formula.
use Rattle.std.proofs.Common.{◌≡◌, ℕ, Bool, true, false, List, [], ◌∷◌, ◌++◌, Option, Some, None, All, IfOk, IfErr, OnOk, IfSome, Result, Ok, Err, cond, flat_map, map, option_to_list, sym, subst, ap, ◌∙◌}
use Rattle.std.specs.Prelude.{bytes_eq}
use Rattle.std.specs.List.{list_any}
use Rattle.std.proofs.lemmas.List.Elements.{All-cons, All-head, All-nil, All-push, All-tail, All-weaker}
use Rattle.frac_core.specs.declared.arith.Arith.{Arith}
use Rattle.frac_core.specs.declared.frac128.Frac128.{Frac128}
use Rattle.frac_core.specs.Values.{exact}
use Rattle.formula_arith.specs.declared.fault.ArithFault.{ArithFault}
use Rattle.formula_arith.specs.declared.fault.ArithFault.TheVariants.{OutOfMemory, Overflow}
use Rattle.formula_arith.specs.Arithmetics.{distinct_names}
use Rattle.formula_arith.specs.Evaluations.{IsCause, IsFirstOverflow, IsValue, NoneOverflows, operations_at, value_at}
use Rattle.formula_arith.specs.Machine.{code_operations, exec, top}
use Rattle.formula_arith.specs.Values.{Operation}
use Rattle.formula_arith.proofs.Runs.{whole_operations, whole_runs}
use Rattle.formula_parser.specs.Held.{IsHeld, ariths_of, term_ariths}
use Rattle.formula_parser.specs.declared.formula.Formula.{Formula}
use Rattle.data_frame.specs.Records.{Text}
use Rattle.design_matrix.specs.Cells.{Table}
use Rattle.design_matrix.specs.Computed.{CanEvaluate, HasArithCause, arith_at, arith_operations, expressions, named_values, texts_once, with_text}
use Rattle.design_matrix.specs.Laws.{ArithmeticsHaveTheirValues}

-- ---- what one comes to

module _ (table : Table) (a : Arith) (i : ℕ) (can : CanEvaluate a) where
  at_is : arith_at table a i ≡ value_at can.tree (named_values table a i)
  unfolding arith_at
  at_is = ap (λ c. top (exec (named_values table a i) c [])) can.is.code ∙ ap top (whole_runs (distinct_names can.tree) (named_values table a i) can.tree)

  operations_are : arith_operations table a i ≡ operations_at can.tree (named_values table a i)
  unfolding arith_operations
  operations_are = ap (λ c. code_operations (named_values table a i) c []) can.is.code ∙ whole_operations (distinct_names can.tree) (named_values table a i) can.tree

  module _ (values : List Frac128) (same : map exact values ≡ named_values table a i) where
    pub evaluated : (r : Result Frac128 ArithFault) → IfOk r (IsValue a values) → IfOk r (λ x. exact x ≡ arith_at table a i)
    evaluated (Ok x) h = (h can.tree can.is).is ∙ ap (value_at can.tree) same ∙ sym at_is
    evaluated (Err e) h = tt

    pub fitted : (r : Result Frac128 ArithFault) → IfOk r (IsValue a values) → OnOk r (NoneOverflows (arith_operations table a i))
    fitted (Ok x) h = subst NoneOverflows (ap (operations_at can.tree) same ∙ sym operations_are) (h can.tree can.is).fits
    fitted (Err e) h = tt

    pub caused_by : (r : Result Frac128 ArithFault) → IfErr r (IsCause a values) → IfErr r (HasArithCause table a i)
    caused_by (Ok x) h = tt
    caused_by (Err OutOfMemory) h = tt
    caused_by (Err (Overflow term op)) h =
        subst (λ (os : List Operation). IsFirstOverflow os term op) (ap (operations_at can.tree) same ∙ sym operations_are) (h can.tree can.is)

pub values_of_arithmetics : ArithmeticsHaveTheirValues
values_of_arithmetics table a i can = (at_is table a i can, operations_are table a i can)

-- ---- those of a formula

module _ {A : Type 0} (P : A → Type 0) where
  pub first_part : (xs ys : List A) → All P (xs ++ ys) → All P xs
  first_part [] ys h = All-nil P
  first_part (x ∷ xs) ys h = All-cons P x xs (All-head P x (xs ++ ys) h) (first_part xs ys (All-tail P x (xs ++ ys) h))

  pub second_part : (xs ys : List A) → All P (xs ++ ys) → All P ys
  second_part [] ys h = h
  second_part (x ∷ xs) ys h = second_part xs ys (All-tail P x (xs ++ ys) h)

  pub each_part : {X : Type 0} (f : X → List A) (xs : List X) → All P (flat_map f xs) → All (λ x. All P (f x)) xs
  each_part f [] h = All-nil (λ x. All P (f x))
  each_part f (x ∷ xs) h = All-cons (λ x. All P (f x)) x xs (first_part (f x) (flat_map f xs) h) (each_part f xs (second_part (f x) (flat_map f xs) h))

  pub each_one : {X : Type 0} (f : X → A) (xs : List X) → All P (map f xs) → All (λ x. P (f x)) xs
  each_one f [] h = All-nil (λ x. P (f x))
  each_one f (x ∷ xs) h = All-cons (λ x. P (f x)) x xs (All-head P (f x) (map f xs) h) (each_one f xs (All-tail P (f x) (map f xs) h))

  pub if_some : (o : Option A) → All P (option_to_list o) → IfSome o P
  if_some None h = tt
  if_some (Some a) h = All-head P a [] h

with_all : (P : Arith → Type 0) (b : Bool) (found : List Arith) (a : Arith) → All P found → P a → All P (cond b found (found ++ a ∷ []))
with_all P true found a h p = h
with_all P false found a h p = All-push P found a h p

once_all : (P : Arith → Type 0) (found all : List Arith) → All P found → All P all → All P (texts_once found all)
once_all P found [] h k = h
once_all P found (a ∷ all) h k =
    once_all P (with_text found a) all (with_all P (list_any (λ b. bytes_eq b.text a.text) found) found a h (All-head P a all k)) (All-tail P a all k)

pub expressions_all : (P : Arith → Type 0) (model : Formula) → All P (ariths_of model) → All P (expressions model)
unfolding expressions
expressions_all P model h = once_all P [] (ariths_of model) (All-nil P) h

-- they can be evaluated
pub held_can : (names : List Text) (all : List Arith) → All (IsHeld names) all → All CanEvaluate all
held_can names all h = All-weaker (IsHeld names) CanEvaluate (λ a k. record { tree = k.tree; is = k.is; short = k.short }) all h

-- so can those of its variables
pub variables_can : (model : Formula) → All CanEvaluate (ariths_of model) → All (λ t. All (λ v. IfSome v.arith CanEvaluate) t.variables) model.terms
variables_can model h =
    All-weaker (λ t. All CanEvaluate (term_ariths t)) (λ t. All (λ v. IfSome v.arith CanEvaluate) t.variables)
    (λ t k. All-weaker (λ v. All CanEvaluate (option_to_list v.arith)) (λ v. IfSome v.arith CanEvaluate) (λ v p. if_some CanEvaluate v.arith p) t.variables (each_part CanEvaluate (λ v. option_to_list v.arith) t.variables k))
    model.terms (each_part CanEvaluate term_ariths model.terms (first_part CanEvaluate (flat_map term_ariths model.terms) model.offsets h))

-- and its offsets
pub offsets_can : (model : Formula) → All CanEvaluate (ariths_of model) → All CanEvaluate model.offsets
offsets_can model h = second_part CanEvaluate (flat_map term_ariths model.terms) model.offsets h
