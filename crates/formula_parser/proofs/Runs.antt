-- The code of a tree does what the tree means.
use Rattle.std.proofs.Common.{◌≡◌, ◌<◌, ◌≤◌, ◌+◌, ℕ, length, drop, get_or, Bool, List, [], ◌∷◌, ◌++◌, append-nil, Result, Ok, Err, refl, sym, ◌∙◌, ap, append_assoc}
use Rattle.std.proofs.lemmas.List.{drop_all}
use Rattle.formula_parser.specs.Words.{Span, Sign, Plus, Minus, ArithPart, Step, Multiply, Interact, Raise}
use Rattle.formula_grammar.specs.Numerals.{power_of}
use Rattle.formula_grammar.specs.Arithmetics.{Bare, Led}
use Rattle.formula_grammar.specs.Grammar.{Sum, First, More, Product, One, Times, Inter, Lone, Cross, Power, Plain, Raised, Atom, Group, Items, Start, Then, ThenPart}
use Rattle.formula_grammar.specs.Grammar.{Term as TermItem}
use Rattle.formula_grammar.specs.Codes.{signed_step, sum_code, product_code, inter_code, power_code, atom_code, items_code}
use Rattle.formula_parser.specs.Terms.{Term, Terms, cross, raised, times}
use Rattle.formula_parser.specs.Meaning.{◌>>=◌, limited, combined, sum_meaning, product_meaning, inter_meaning, power_meaning, atom_meaning, items_meaning}
use Rattle.formula_parser.proofs.Unions.{split_at}
use Rattle.formula_parser.specs.Stack.{Halt, OutOfMemory, TooManyTerms, Halts, act, exec, pushed, run_steps, top}

bind_assoc : {A B C : Type 0} (r : Result A ℕ) (f : A → Result B ℕ) (g : B → Result C ℕ) → ((r >>= f) >>= g) ≡ (r >>= λ x. f x >>= g)
bind_assoc (Ok x) f g = refl
bind_assoc (Err e) f g = refl

bind_same : {A B : Type 0} (r : Result A ℕ) (f g : A → Result B ℕ) → ((x : A) → f x ≡ g x) → (r >>= f) ≡ (r >>= g)
bind_same (Ok x) f g h = h x
bind_same (Err e) f g h = refl

module _ (only : Span → Bool → Term) (computed : ArithPart → Term) (all : Terms) where
  abbrev Does : List Step → Result Terms ℕ → Type 0
  Does code meaning = (rest : List Step) (stack : List Terms) → exec only computed all (code ++ rest) stack ≡ (meaning >>= λ v. exec only computed all rest (v ∷ stack))

  -- an operand and then an operator, which gives what the operand means under f
  ends : (c : List Step) (i : Step) (b : Result Terms ℕ) (f : Terms → Result Terms ℕ) (rest : List Step) (stack below : List Terms) → Does c b
      → ((y : Terms) → act only computed all i (y ∷ stack) ≡ (f y >>= λ v. pushed below v))
      → exec only computed all ((c ++ (i ∷ [])) ++ rest) stack ≡ ((b >>= f) >>= λ v. exec only computed all rest (v ∷ below))
  ends c i b f rest stack below hb hi =
      ap (λ (x : List Step). exec only computed all x stack) (append_assoc c (i ∷ []) rest)
      ∙ hb (i ∷ rest) stack
      ∙ bind_same b _ _ (λ y. ap (λ (r : Result (List Terms) ℕ). r >>= λ s. exec only computed all rest s) (hi y) ∙ bind_assoc (f y) (λ v. pushed below v) (λ s. exec only computed all rest s))
      ∙ sym (bind_assoc b f (λ v. exec only computed all rest (v ∷ below)))

  -- both operands and then the operator
  two : (ca cb : List Step) (i : Step) (a b : Result Terms ℕ) (f : Terms → Terms → Result Terms ℕ) → Does ca a → Does cb b
      → ((x y : Terms) (s : List Terms) → act only computed all i (y ∷ x ∷ s) ≡ (f x y >>= λ v. pushed s v))
      → Does (ca ++ (cb ++ (i ∷ []))) (a >>= λ x. b >>= f x)
  two ca cb i a b f ha hb hi rest stack =
      ap (λ (c : List Step). exec only computed all c stack) (append_assoc ca (cb ++ (i ∷ [])) rest)
      ∙ ha ((cb ++ (i ∷ [])) ++ rest) stack
      ∙ bind_same a _ _ (λ x. ends cb i b (f x) rest (x ∷ stack) stack hb (λ y. hi x y stack))
      ∙ sym (bind_assoc a (λ x. b >>= f x) (λ v. exec only computed all rest (v ∷ stack)))

  signed_acts : (x : Sign) (n : ℕ) (a b : Terms) (s : List Terms) → act only computed all (signed_step x n) (b ∷ a ∷ s) ≡ (limited n (combined x a b) >>= λ v. pushed s v)
  signed_acts Plus n a b s = refl
  signed_acts Minus n a b s = refl

  mutual
    sum_runs : (s : Sum) → Does (sum_code s) (sum_meaning only computed all s)
    sum_runs (First Bare p) rest stack = product_runs p rest stack
    sum_runs (First (Led x n) p) rest stack =
        ends (product_code p) (signed_step x n) (product_meaning only computed all p) (λ b. limited n (combined x [] b)) rest ([] ∷ stack) stack (λ r k. product_runs p r k) (λ y. signed_acts x n [] y stack)
    sum_runs (More s x n p) rest stack =
        two (sum_code s) (product_code p) (signed_step x n) (sum_meaning only computed all s) (product_meaning only computed all p) (λ a b. limited n (combined x a b)) (λ r k. sum_runs s r k) (λ r k. product_runs p r k)
        (λ a b k. signed_acts x n a b k) rest stack

    product_runs : (p : Product) → Does (product_code p) (product_meaning only computed all p)
    product_runs (One i) rest stack = inter_runs i rest stack
    product_runs (Times p n i) rest stack =
        two (product_code p) (inter_code i) (Multiply n) (product_meaning only computed all p) (inter_meaning only computed all i) (λ a b. limited n (times a b)) (λ r k. product_runs p r k) (λ r k. inter_runs i r k)
        (λ a b k. refl) rest stack

    inter_runs : (i : Inter) → Does (inter_code i) (inter_meaning only computed all i)
    inter_runs (Lone p) rest stack = power_runs p rest stack
    inter_runs (Cross i n p) rest stack =
        two (inter_code i) (power_code p) (Interact n) (inter_meaning only computed all i) (power_meaning only computed all p) (λ a b. limited n (cross a b)) (λ r k. inter_runs i r k) (λ r k. power_runs p r k) (λ a b k. refl) rest stack

    power_runs : (p : Power) → Does (power_code p) (power_meaning only computed all p)
    power_runs (Plain a) rest stack = atom_runs a rest stack
    power_runs (Raised a n k m) rest stack =
        ends (atom_code a) (Raise (power_of k) n) (atom_meaning only computed all a) (λ b. limited n (raised (power_of k) b)) rest stack stack (λ r s. atom_runs a r s) (λ y. refl)

    atom_runs : (a : Atom) → Does (atom_code a) (atom_meaning only computed all a)
    atom_runs (Group o s c) rest stack = sum_runs s rest stack
    atom_runs a rest stack = refl

  items_runs : (j : Items) → Does (items_code j) (items_meaning only computed all j)
  items_runs (Start Bare (TermItem p)) rest stack = product_runs p rest stack
  items_runs (Start (Led x n) (TermItem p)) rest stack = sum_runs (First (Led x n) p) rest stack
  items_runs (Then j x n (TermItem p)) rest stack =
      two (items_code j) (product_code p) (signed_step x n) (items_meaning only computed all j) (product_meaning only computed all p) (λ a b. limited n (combined x a b)) (λ r k. items_runs j r k) (λ r k. product_runs p r k)
      (λ a b k. signed_acts x n a b k) rest stack
  items_runs (Then j x n i) rest stack = items_runs j rest stack
  items_runs (ThenPart j n s) rest stack = items_runs j rest stack
  items_runs j rest stack = refl

  itself : (r : Result Terms ℕ) → ((r >>= λ v. Ok (v ∷ [])) >>= λ s. Ok (top s)) ≡ r
  itself (Ok v) = refl
  itself (Err e) = refl

  -- The steps of a formula leave what its items mean.
  pub whole_runs : (j : Items) → run_steps only computed all (items_code j) ≡ items_meaning only computed all j
  whole_runs j =
      ap (λ (c : List Step). exec only computed all c [] >>= λ s. Ok (top s)) (sym (append-nil (items_code j)))
      ∙ ap (λ (r : Result (List Terms) ℕ). r >>= λ s. Ok (top s)) (items_runs j [] [])
      ∙ itself (items_meaning only computed all j)

  -- a step is done, and the rest goes on from what it leaves
  pub goes_on : (code : List Step) (i : ℕ) (d : Step) (stack next : List Terms) (r : Result (List Terms) ℕ) → i < length code → d ≡ get_or code i d → act only computed all d stack ≡ Ok next
      → exec only computed all (drop i code) stack ≡ r → exec only computed all (drop (i + 1) code) next ≡ r
  goes_on code i d stack next r within is acts before =
      sym (ap (λ (q : Result (List Terms) ℕ). q >>= λ s. exec only computed all (drop (i + 1) code) s) (ap (λ (s : Step). act only computed all s stack) (sym is) ∙ acts))
      ∙ sym (ap (λ (l : List Step). exec only computed all l stack) (split_at code i d within))
      ∙ before

  -- a step stops, and so do the steps
  pub stops_at : (code : List Step) (i : ℕ) (d : Step) (stack : List Terms) (h : Halt) → i < length code → d ≡ get_or code i d → Halts (act only computed all d stack) h
      → exec only computed all (drop i code) stack ≡ exec only computed all code [] → Halts (run_steps only computed all code) h
  stops_at code i d stack OutOfMemory within is halts before = tt
  stops_at code i d stack (TooManyTerms n) within is halts before =
      ap (λ (q : Result (List Terms) ℕ). q >>= λ s. Ok (top s))
      (sym before
      ∙ ap (λ (l : List Step). exec only computed all l stack) (split_at code i d within)
      ∙ ap (λ (q : Result (List Terms) ℕ). q >>= λ s. exec only computed all (drop (i + 1) code) s) (ap (λ (s : Step). act only computed all s stack) (sym is) ∙ halts))

  -- all steps are done
  pub leaves : (code : List Step) (i : ℕ) (stack : List Terms) → length code ≤ i → exec only computed all (drop i code) stack ≡ exec only computed all code [] → run_steps only computed all code ≡ Ok (top stack)
  leaves code i stack done before =
      ap (λ (q : Result (List Terms) ℕ). q >>= λ s. Ok (top s)) (sym before ∙ ap (λ (l : List Step). exec only computed all l stack) (drop_all i code done))
