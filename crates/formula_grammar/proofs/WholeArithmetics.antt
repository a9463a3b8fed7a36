-- Every arithmetic is read.
use Rattle.std.proofs.Common.{◌≡◌, ℕ, List, [], ◌∷◌, ◌++◌, Option, Some, None, option_and_then, refl, sym, ◌∙◌, ap, append_assoc, append-nil}
use Rattle.formula_grammar.specs.Words.{Sign, Digits, Kind, Number, Signed, Star, Caret, Close, Token}
use Rattle.formula_grammar.specs.Arithmetics.{token, Bare, Led, Arith, First, More, Aprod, One, Times, Apow, Plain, Raised, Aatom, Leaf, Constant, Group, arith_tokens, aprod_tokens, apow_tokens, aatom_tokens}
use Rattle.formula_grammar.proofs.ArithAutomaton.{ArithLeft, ArithFront, ArithLeads, ArithAfter, Hole, Within, ArithState, Begins, Needs, Holds, onto_aprod, onto_arith, arith_behind, arith_run}

abbrev last_aprod : Aprod → Apow
last_aprod (One p) = p
last_aprod (Times a n p) = p

abbrev left_aprod : Aprod → Option ArithLeft
left_aprod (One p) = None
left_aprod (Times a n p) = Some (record { tree = a; place = n })

abbrev last_arith : Arith → Aprod
last_arith (First l p) = p
last_arith (More a x n p) = p

abbrev front_arith : Arith → ArithFront
front_arith (First l p) = ArithLeads l
front_arith (More a x n p) = ArithAfter a x n

whole_aprod : (p : Aprod) → onto_aprod (left_aprod p) (last_aprod p) ≡ p
whole_aprod (One p) = refl
whole_aprod (Times a n p) = refl

whole_arith : (a : Arith) → onto_arith (front_arith a) (last_arith a) ≡ a
whole_arith (First l p) = refl
whole_arith (More a x n p) = refl

-- what has been read behind a whole product, and behind a whole arithmetic
abbrev holds_aprod : Aprod → ArithFront → Hole → ArithState
holds_aprod p f h = Holds (last_aprod p) (left_aprod p) f h

abbrev pub holds_arith : Arith → Hole → ArithState
holds_arith a h = holds_aprod (last_arith a) (front_arith a) h

pub so_far : (a : Arith) → onto_arith (front_arith a) (onto_aprod (left_aprod (last_arith a)) (last_aprod (last_arith a))) ≡ a
so_far a = ap (onto_arith (front_arith a)) (whole_aprod (last_arith a)) ∙ whole_arith a

-- every token but `^` does the same behind a power, whether it is an atom or has an exponent
abbrev IsBehind : Kind → Type 0
IsBehind Caret = ⊥
IsBehind k = Unit {0}

power_next : (p : Apow) (l : Option ArithLeft) (f : ArithFront) (h : Hole) (n : ℕ) (k : Kind) (rest : List Token) → IsBehind k
    → arith_run (Holds p l f h) (token k n ∷ rest) ≡ option_and_then (λ s. arith_run s rest) (arith_behind p l f h n k)
power_next p l f h n Caret rest w = absurd w
power_next (Plain a) l f h n k rest w = refl
power_next (Raised a c e m) l f h n k rest w = refl

signed_next : (a : Arith) (h : Hole) (x : Sign) (n : ℕ) (rest : List Token) → arith_run (holds_arith a h) (token (Signed x) n ∷ rest) ≡ arith_run (Needs None (ArithAfter a x n) h) rest
signed_next a h x n rest =
    power_next (last_aprod (last_arith a)) (left_aprod (last_arith a)) (front_arith a) h n (Signed x) rest tt
    ∙ ap (λ (b : Arith). arith_run (Needs None (ArithAfter b x n) h) rest) (so_far a)

star_next : (p : Aprod) (f : ArithFront) (h : Hole) (n : ℕ) (rest : List Token) → arith_run (holds_aprod p f h) (token Star n ∷ rest) ≡ arith_run (Needs (Some (record { tree = p; place = n })) f h) rest
star_next p f h n rest =
    power_next (last_aprod p) (left_aprod p) f h n Star rest tt
    ∙ ap (λ (q : Aprod). arith_run (Needs (Some (record { tree = q; place = n })) f h) rest) (whole_aprod p)

close_next : (a : Arith) (m : ℕ) (l : Option ArithLeft) (f : ArithFront) (h : Hole) (n : ℕ) (rest : List Token)
    → arith_run (holds_arith a (Within m l f h)) (token Close n ∷ rest) ≡ arith_run (Holds (Plain (Group m a n)) l f h) rest
close_next a m l f h n rest =
    power_next (last_aprod (last_arith a)) (left_aprod (last_arith a)) (front_arith a) (Within m l f h) n Close rest tt
    ∙ ap (λ (b : Arith). arith_run (Holds (Plain (Group m b n)) l f h) rest) (so_far a)

-- an operand may stand where a sign may
opens_atom : (a : Aatom) (h : Hole) (rest : List Token) → arith_run (Begins h) (aatom_tokens a ++ rest) ≡ arith_run (Needs None (ArithLeads Bare) h) (aatom_tokens a ++ rest)
opens_atom (Leaf x n) h rest = refl
opens_atom (Constant v n) h rest = refl
opens_atom (Group o a c) h rest = refl

opens_power : (p : Apow) (h : Hole) (rest : List Token) → arith_run (Begins h) (apow_tokens p ++ rest) ≡ arith_run (Needs None (ArithLeads Bare) h) (apow_tokens p ++ rest)
opens_power (Plain a) h rest = opens_atom a h rest
opens_power (Raised a n k m) h rest = rw append_assoc (opens_atom a h ((token Caret n ∷ token (Number (Digits k)) m ∷ []) ++ rest))

opens : (p : Aprod) (h : Hole) (rest : List Token) → arith_run (Begins h) (aprod_tokens p ++ rest) ≡ arith_run (Needs None (ArithLeads Bare) h) (aprod_tokens p ++ rest)
opens (One p) h rest = opens_power p h rest
opens (Times a n p) h rest = rw append_assoc (opens a h ((token Star n ∷ apow_tokens p) ++ rest))

mutual
  reads_arith : (a : Arith) (h : Hole) (rest : List Token) → arith_run (Begins h) (arith_tokens a ++ rest) ≡ arith_run (holds_arith a h) rest
  reads_arith (First Bare p) h rest = opens p h rest ∙ reads_aprod p (ArithLeads Bare) h rest
  reads_arith (First (Led x n) p) h rest = reads_aprod p (ArithLeads (Led x n)) h rest
  reads_arith (More a x n p) h rest =
      ap (arith_run (Begins h)) (append_assoc (arith_tokens a) (token (Signed x) n ∷ aprod_tokens p) rest)
      ∙ reads_arith a h (token (Signed x) n ∷ (aprod_tokens p ++ rest))
      ∙ signed_next a h x n (aprod_tokens p ++ rest)
      ∙ reads_aprod p (ArithAfter a x n) h rest

  reads_aprod : (p : Aprod) (f : ArithFront) (h : Hole) (rest : List Token) → arith_run (Needs None f h) (aprod_tokens p ++ rest) ≡ arith_run (holds_aprod p f h) rest
  reads_aprod (One p) f h rest = reads_apow p None f h rest
  reads_aprod (Times a n p) f h rest =
      ap (arith_run (Needs None f h)) (append_assoc (aprod_tokens a) (token Star n ∷ apow_tokens p) rest)
      ∙ reads_aprod a f h (token Star n ∷ (apow_tokens p ++ rest))
      ∙ star_next a f h n (apow_tokens p ++ rest)
      ∙ reads_apow p (Some (record { tree = a; place = n })) f h rest

  reads_apow : (p : Apow) (l : Option ArithLeft) (f : ArithFront) (h : Hole) (rest : List Token) → arith_run (Needs l f h) (apow_tokens p ++ rest) ≡ arith_run (Holds p l f h) rest
  reads_apow (Plain a) l f h rest = reads_aatom a l f h rest
  reads_apow (Raised a n k m) l f h rest =
      ap (arith_run (Needs l f h)) (append_assoc (aatom_tokens a) (token Caret n ∷ token (Number (Digits k)) m ∷ []) rest)
      ∙ reads_aatom a l f h (token Caret n ∷ token (Number (Digits k)) m ∷ rest)

  reads_aatom : (a : Aatom) (l : Option ArithLeft) (f : ArithFront) (h : Hole) (rest : List Token) → arith_run (Needs l f h) (aatom_tokens a ++ rest) ≡ arith_run (Holds (Plain a) l f h) rest
  reads_aatom (Leaf x n) l f h rest = refl
  reads_aatom (Constant v n) l f h rest = refl
  reads_aatom (Group m a c) l f h rest =
      ap (arith_run (Begins (Within m l f h))) (append_assoc (arith_tokens a) (token Close c ∷ []) rest)
      ∙ reads_arith a (Within m l f h) (token Close c ∷ rest)
      ∙ close_next a m l f h c rest

-- Every arithmetic is read.
pub arith_is_read : (a : Arith) (h : Hole) → arith_run (Begins h) (arith_tokens a) ≡ Some (holds_arith a h)
arith_is_read a h = ap (arith_run (Begins h)) (sym (append-nil (arith_tokens a))) ∙ reads_arith a h []
