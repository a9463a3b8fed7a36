-- The code of a tree leaves its value, by its operations.
use Rattle.std.proofs.Common.{◌≡◌, ◌-◌, List, [], ◌∷◌, ◌++◌, append-nil, refl, sym, ◌∙◌, ap, append_assoc, subst}
use Rattle.rational_laws.specs.Rational.{ℚ, ◌*ℚ◌, neg_ℚ}
use Rattle.frac_core.specs.declared.arith.ArithOp.{ArithOp}
use Rattle.frac_core.specs.declared.arith.ArithOp.TheVariants.{Negate, Mul}
use Rattle.frac_core.specs.declared.arith.ArithOp.TheVariants.{Power as Raise}
use Rattle.formula_arith.specs.Arithmetics.{Text, Sign, Plus, Minus, Bare, Led, Arithmetic, First, More, Product, One, Times, Power, Plain, Raised, Atom, Named, Number, Group}
use Rattle.formula_arith.specs.Codes.{arithmetic_code, atom_code, power_code, product_code, signed_op}
use Rattle.formula_arith.specs.Values.{Operation, arithmetic_operations, arithmetic_value, atom_operations, atom_value, combined, multiplication}
use Rattle.formula_arith.specs.Values.{power_multiplications, power_operations, power_value, product_operations, product_value, raised_by, signed_operation}
use Rattle.formula_arith.specs.Evaluations.{given_by}
use Rattle.formula_arith.specs.Machine.{act, code_operations, exec, step_operations}

module _ (names : List Text) (values : List ℚ) where
  -- the code puts this value on the stack, by these operations, whatever follows it
  abbrev Does : List ArithOp → ℚ → List Operation → Type 0
  Does code v os =
      (rest : List ArithOp) (stack : List ℚ) → (exec values (code ++ rest) stack ≡ exec values rest (v ∷ stack))
      × (code_operations values (code ++ rest) stack ≡ os ++ code_operations values rest (v ∷ stack))

  -- from operations of a step on, where it puts v there by these operations
  goes : (op : ArithOp) (v : ℚ) (new : List Operation) (rest : List ArithOp) (stack below : List ℚ) → act values op stack ≡ v ∷ below → step_operations op stack ≡ new
      → (exec values (op ∷ rest) stack ≡ exec values rest (v ∷ below)) × (code_operations values (op ∷ rest) stack ≡ new ++ code_operations values rest (v ∷ below))
  goes op v new rest stack below acts by = (
    ap (λ (s : List ℚ). exec values rest s) acts,
    ap (λ (s : List ℚ). step_operations op stack ++ code_operations values rest s) acts ∙ ap (λ (os : List Operation). os ++ code_operations values rest (v ∷ below)) by,
  )

  -- an operand and then a step
  ends : (c : List ArithOp) (op : ArithOp) (v w : ℚ) (os new : List Operation) → Does c v os
      → ((s : List ℚ) → act values op (v ∷ s) ≡ w ∷ s) → ((s : List ℚ) → step_operations op (v ∷ s) ≡ new)
      → Does (c ++ (op ∷ [])) w (os ++ new)
  ends c op v w os new h acts by rest stack =
      let g = goes op w new rest (v ∷ stack) stack (acts stack) (by stack) in (
        ap (λ (x : List ArithOp). exec values x stack) (append_assoc c (op ∷ []) rest) ∙ (h (op ∷ rest) stack).0 ∙ g.0,
        ap (λ (x : List ArithOp). code_operations values x stack) (append_assoc c (op ∷ []) rest)
            ∙ (h (op ∷ rest) stack).1
            ∙ ap (λ (x : List Operation). os ++ x) g.1
            ∙ sym (append_assoc os new (code_operations values rest (w ∷ stack))),
      )

  -- both operands and then the step
  two : (ca cb : List ArithOp) (op : ArithOp) (a b w : ℚ) (oa ob new : List Operation) → Does ca a oa → Does cb b ob
      → ((s : List ℚ) → act values op (b ∷ a ∷ s) ≡ w ∷ s) → ((s : List ℚ) → step_operations op (b ∷ a ∷ s) ≡ new)
      → Does (ca ++ (cb ++ (op ∷ []))) w (oa ++ (ob ++ new))
  two ca cb op a b w oa ob new ha hb acts by rest stack =
      let g = goes op w new rest (b ∷ a ∷ stack) stack (acts stack) (by stack) in
      let code = append_assoc ca (cb ++ (op ∷ [])) rest ∙ ap (λ (x : List ArithOp). ca ++ x) (append_assoc cb (op ∷ []) rest) in
      let left = ha (cb ++ (op ∷ rest)) stack in
      let right = hb (op ∷ rest) (a ∷ stack) in
      let end = code_operations values rest (w ∷ stack) in (
        ap (λ (x : List ArithOp). exec values x stack) code ∙ left.0 ∙ right.0 ∙ g.0,
        ap (λ (x : List ArithOp). code_operations values x stack) code
            ∙ left.1
            ∙ ap (λ (x : List Operation). oa ++ x) (right.1 ∙ ap (λ (x : List Operation). ob ++ x) g.1 ∙ sym (append_assoc ob new end))
            ∙ sym (append_assoc oa (ob ++ new) end),
      )

  -- nothing follows the operand
  alone : (c : List ArithOp) (v : ℚ) (os : List Operation) → Does c v os → Does (c ++ []) v os
  alone c v os h = subst (λ (x : List ArithOp). Does x v os) (sym (append-nil c)) h

  -- a step that isn't numbered
  silent : (c : List ArithOp) (v : ℚ) (os : List Operation) → Does c v (os ++ []) → Does c v os
  silent c v os h = subst (λ (x : List Operation). Does c v x) (append-nil os) h

  signed_acts : (s : Sign) (a b : ℚ) (stack : List ℚ) → act values (signed_op s) (b ∷ a ∷ stack) ≡ combined s a b ∷ stack
  signed_acts Plus a b stack = refl
  signed_acts Minus a b stack = refl

  signed_by : (s : Sign) (a b : ℚ) (stack : List ℚ) → step_operations (signed_op s) (b ∷ a ∷ stack) ≡ signed_operation s a b ∷ []
  signed_by Plus a b stack = refl
  signed_by Minus a b stack = refl

  abbrev given : Text → ℚ
  given = given_by names values

  mutual
    arithmetic_runs : (t : Arithmetic) → Does (arithmetic_code names t) (arithmetic_value given t) (arithmetic_operations given t)
    arithmetic_runs (First Bare p) = alone (product_code names p) (product_value given p) (product_operations given p) (product_runs p)
    arithmetic_runs (First (Led Plus) p) = alone (product_code names p) (product_value given p) (product_operations given p) (product_runs p)
    arithmetic_runs (First (Led Minus) p) =
        silent (product_code names p ++ (Negate ∷ [])) (neg_ℚ (product_value given p)) (product_operations given p)
        (ends (product_code names p) Negate (product_value given p) (neg_ℚ (product_value given p)) (product_operations given p) [] (product_runs p) (λ s. refl) (λ s. refl))
    arithmetic_runs (More t s p) =
        two (arithmetic_code names t) (product_code names p) (signed_op s) (arithmetic_value given t) (product_value given p) (combined s (arithmetic_value given t) (product_value given p))
        (arithmetic_operations given t) (product_operations given p) (signed_operation s (arithmetic_value given t) (product_value given p) ∷ [])
        (arithmetic_runs t) (product_runs p) (λ k. signed_acts s _ _ k) (λ k. signed_by s _ _ k)

    product_runs : (p : Product) → Does (product_code names p) (product_value given p) (product_operations given p)
    product_runs (One p) = power_runs p
    product_runs (Times a p) =
        two (product_code names a) (power_code names p) Mul (product_value given a) (power_value given p) (product_value given a *ℚ power_value given p)
        (product_operations given a) (power_operations given p) (multiplication (product_value given a) (power_value given p) ∷ [])
        (product_runs a) (power_runs p) (λ k. refl) (λ k. refl)

    power_runs : (p : Power) → Does (power_code names p) (power_value given p) (power_operations given p)
    power_runs (Plain a) = atom_runs a
    power_runs (Raised a k) =
        ends (atom_code names a) (Raise k) (atom_value given a) (raised_by (k - 1) (atom_value given a)) (atom_operations given a) (power_multiplications (k - 1) (atom_value given a))
        (atom_runs a) (λ s. refl) (λ s. refl)

    atom_runs : (a : Atom) → Does (atom_code names a) (atom_value given a) (atom_operations given a)
    atom_runs (Named q x) = λ rest stack. (refl, refl)
    atom_runs (Number v) = λ rest stack. (refl, refl)
    atom_runs (Group t) = arithmetic_runs t

  -- All of its code leaves its value.
  pub whole_runs : (t : Arithmetic) → exec values (arithmetic_code names t) [] ≡ arithmetic_value given t ∷ []
  whole_runs t = ap (λ (c : List ArithOp). exec values c []) (sym (append-nil (arithmetic_code names t))) ∙ (arithmetic_runs t [] []).0

  -- And its operations are those of the code.
  pub whole_operations : (t : Arithmetic) → code_operations values (arithmetic_code names t) [] ≡ arithmetic_operations given t
  whole_operations t =
      ap (λ (c : List ArithOp). code_operations values c []) (sym (append-nil (arithmetic_code names t)))
      ∙ (arithmetic_runs t [] []).1
      ∙ append-nil (arithmetic_operations given t)
