-- The reader of an arithmetic holds what was read of it.
use Rattle.std.proofs.Common.{◌==◌, arith, length, ◌≡◌, ℕ, false, List, [], ◌∷◌, ◌++◌, Option, Some, None, is_some, option_map, refl, sym, ◌∙◌, ap, append_assoc, append-nil}
use Rattle.std.proofs.lemmas.Bool.Decides.{nat_tests}
use Rattle.formula_grammar.specs.Words.{Sign, Plus, Minus, Digits, Kind, Name, Number, Signed, Star, Caret, Open, Close, Token, ArithPart, ArithStep}
use Rattle.formula_grammar.specs.declared.reading.ArithStep.TheVariants as step
use Rattle.formula_grammar.specs.Arithmetics.{token, Bare, Led, Arith, Aprod, Apow, Plain, Raised, Group, arith_tokens}
use Rattle.formula_grammar.specs.ArithCodes.{arith_code, aprod_code, apow_code, aatom_code, part_of}
use Rattle.formula_grammar.specs.ArithMachine.{ArithLevel, ArithPhase, ArithReader, ArithSign, Between, Leading, arith_ends_at, arith_part, arith_read, arith_sign_step, arith_sum_end, product_step}
use Rattle.formula_grammar.specs.declared.arith_reader.ArithPhase.TheVariants as phase
use Rattle.formula_grammar.proofs.ArithAutomaton.{ArithLeft, ArithFront, ArithLeads, ArithAfter, Hole, Top, Within, ArithState, Begins, Needs, Holds, Raises, onto_aprod, onto_arith, arith_so_far, arith_step, arith_ending}
use Rattle.formula_grammar.proofs.ArithShown.{arith_shown, arith_shows, ending_shown, some_is}

abbrev pending : ArithFront → Option ArithSign
pending (ArithLeads Bare) = None
pending (ArithLeads (Led x n)) = Some (Leading x)
pending (ArithAfter a x n) = Some (Between x)

abbrev arith_level : Option ArithLeft → ArithFront → ArithLevel
arith_level l f = record { sum = pending f; product = is_some l }

abbrev arith_outer : Hole → List ArithLevel
arith_outer Top = []
arith_outer (Within m l f h) = arith_level l f ∷ arith_outer h

abbrev left_steps : Option ArithLeft → List ArithStep
left_steps None = []
left_steps (Some l) = aprod_code l.tree

abbrev front_steps : ArithFront → List ArithStep
front_steps (ArithLeads l) = []
front_steps (ArithAfter a x n) = arith_code a

abbrev hole_steps : Hole → List ArithStep
hole_steps Top = []
hole_steps (Within m l f h) = hole_steps h ++ (front_steps f ++ left_steps l)

abbrev before : Option ArithLeft → ArithFront → Hole → List ArithStep
before l f h = hole_steps h ++ (front_steps f ++ left_steps l)

abbrev arith_held : List Token → List ArithStep → Option ArithLeft → ArithFront → Hole → ArithPhase → ArithReader
arith_held ts steps l f h p = record { tokens = ts; steps = steps; level = arith_level l f; outer = arith_outer h; phase = p }

abbrev phase_behind : Apow → ArithPhase
phase_behind (Plain a) = phase.BehindAtom
phase_behind (Raised a c e m) = phase.BehindPower

-- the same, with these tokens
abbrev shaped : List Token → ArithState → ArithReader
shaped ts (Begins h) = arith_held ts (hole_steps h) None (ArithLeads Bare) h phase.Opening
shaped ts (Needs l f h) = arith_held ts (before l f h) l f h phase.Operand
shaped ts (Holds p l f h) = arith_held ts (before l f h ++ apow_code p) l f h (phase_behind p)
shaped ts (Raises a c l f h) = arith_held ts (before l f h ++ aatom_code a) l f h phase.Exponent

abbrev pub arith_shape : ArithState → ArithReader
arith_shape s = shaped (arith_shown s) s

aprod_coded : (l : Option ArithLeft) (p : Apow) → aprod_code (onto_aprod l p) ≡ left_steps l ++ (apow_code p ++ product_step (is_some l))
aprod_coded None p = sym (append-nil (apow_code p))
aprod_coded (Some l) p = refl

onto_coded : (f : ArithFront) (p : Aprod) → arith_code (onto_arith f p) ≡ front_steps f ++ (aprod_code p ++ arith_sign_step (pending f))
onto_coded (ArithLeads Bare) p = refl
onto_coded (ArithLeads (Led Plus n)) p = refl
onto_coded (ArithLeads (Led Minus n)) p = refl
onto_coded (ArithAfter a x n) p = refl

regroup : (h f l p e s : List ArithStep) → h ++ (f ++ ((l ++ (p ++ e)) ++ s)) ≡ ((h ++ (f ++ l)) ++ p) ++ (e ++ s)
regroup h f l p e s = simp append_assoc

-- the sum so far, behind what is around it
so_far_coded : (p : Apow) (l : Option ArithLeft) (f : ArithFront) (h : Hole) → hole_steps h ++ arith_code (arith_so_far p l f) ≡ (before l f h ++ apow_code p) ++ arith_sum_end (arith_level l f)
so_far_coded p l f h =
    ap (λ (x : List ArithStep). hole_steps h ++ x) (onto_coded f (onto_aprod l p) ∙ ap (λ (x : List ArithStep). front_steps f ++ (x ++ arith_sign_step (pending f))) (aprod_coded l p))
    ∙ regroup (hole_steps h) (front_steps f) (left_steps l) (apow_code p) (product_step (is_some l)) (arith_sign_step (pending f))

regroup_product : (h f l p e : List ArithStep) → h ++ (f ++ (l ++ (p ++ e))) ≡ ((h ++ (f ++ l)) ++ p) ++ e
regroup_product h f l p e = simp append_assoc

-- the product so far
product_coded : (p : Apow) (l : Option ArithLeft) (f : ArithFront) (h : Hole) (n : ℕ)
    → before (Some (record { tree = onto_aprod l p; place = n })) f h ≡ (before l f h ++ apow_code p) ++ product_step (is_some l)
product_coded p l f h n =
    ap (λ (x : List ArithStep). hole_steps h ++ (front_steps f ++ x)) (aprod_coded l p)
    ∙ regroup_product (hole_steps h) (front_steps f) (left_steps l) (apow_code p) (product_step (is_some l))

-- a reader with other steps
abbrev with_steps : ArithReader → List ArithStep → Option ArithReader
with_steps r steps = Some (record r { steps = steps })

same_steps : (r : ArithReader) (a b : List ArithStep) → a ≡ b → with_steps r a ≡ with_steps r b
same_steps r a b e = ap (with_steps r) e

-- ---- a token, by what was read; the tokens are one more

abbrev Goes : ArithState → ℕ → Kind → Type 0
Goes s n k = (ts : List Token) → arith_read (shaped ts s) (token k n) ≡ option_map (shaped (ts ++ (token k n ∷ []))) (arith_step s n k)

signed_goes : (p : Apow) (l : Option ArithLeft) (f : ArithFront) (h : Hole) (x : Sign) (n : ℕ) (us : List Token)
    → with_steps (shaped us (Needs None (ArithAfter (arith_so_far p l f) x n) h)) ((before l f h ++ apow_code p) ++ arith_sum_end (arith_level l f)) ≡ Some (shaped us (Needs None (ArithAfter (arith_so_far p l f) x n) h))
signed_goes p l f h x n us =
    same_steps (shaped us (Needs None (ArithAfter (arith_so_far p l f) x n) h)) _ _
    (sym (so_far_coded p l f h) ∙ ap (λ (y : List ArithStep). hole_steps h ++ y) (sym (append-nil (arith_code (arith_so_far p l f)))))

star_goes : (p : Apow) (l : Option ArithLeft) (f : ArithFront) (h : Hole) (n : ℕ) (us : List Token)
    → with_steps (shaped us (Needs (Some (record { tree = onto_aprod l p; place = n })) f h)) ((before l f h ++ apow_code p) ++ product_step (is_some l)) ≡ Some (shaped us (Needs (Some (record { tree = onto_aprod l p; place = n })) f h))
star_goes p l f h n us = same_steps (shaped us (Needs (Some (record { tree = onto_aprod l p; place = n })) f h)) _ _ (sym (product_coded p l f h n))

close_goes : (p : Apow) (l : Option ArithLeft) (f : ArithFront) (m : ℕ) (q : Option ArithLeft) (g : ArithFront) (h : Hole) (n : ℕ) (us : List Token)
    → with_steps (shaped us (Holds (Plain (Group m (arith_so_far p l f) n)) q g h)) ((before l f (Within m q g h) ++ apow_code p) ++ arith_sum_end (arith_level l f))
    ≡ Some (shaped us (Holds (Plain (Group m (arith_so_far p l f) n)) q g h))
close_goes p l f m q g h n us = same_steps (shaped us (Holds (Plain (Group m (arith_so_far p l f) n)) q g h)) _ _ (sym (so_far_coded p l f (Within m q g h)))

begins_steps : (h : Hole) (more : List ArithStep) → hole_steps h ++ more ≡ before None (ArithLeads Bare) h ++ more
begins_steps h more = ap (λ (x : List ArithStep). x ++ more) (sym (append-nil (hole_steps h)))

goes : (s : ArithState) (n : ℕ) (k : Kind) → Goes s n k
goes (Begins h) n (Signed x) ts = same_steps (shaped (ts ++ (token (Signed x) n ∷ [])) (Needs None (ArithLeads (Led x n)) h)) _ _ (sym (append-nil (hole_steps h)))
goes (Begins h) n (Name x) ts = same_steps (arith_held (ts ++ (token (Name x) n ∷ [])) [] None (ArithLeads Bare) h phase.BehindAtom) _ _ (begins_steps h (step.Load x ∷ []))
goes (Begins h) n (Number v) ts = same_steps (arith_held (ts ++ (token (Number v) n ∷ [])) [] None (ArithLeads Bare) h phase.BehindAtom) _ _ (begins_steps h (step.Constant v ∷ []))
goes (Begins h) n Open ts = same_steps (shaped (ts ++ (token Open n ∷ [])) (Begins (Within n None (ArithLeads Bare) h))) _ _ (sym (append-nil (hole_steps h)))
goes (Begins h) n k ts = refl
goes (Needs l f h) n (Name x) ts = refl
goes (Needs l f h) n (Number v) ts = refl
goes (Needs l f h) n Open ts = refl
goes (Needs l f h) n k ts = refl
goes (Holds (Plain a) l f h) n Caret ts = refl
goes (Holds (Plain a) l f h) n Star ts = star_goes (Plain a) l f h n (ts ++ (token Star n ∷ []))
goes (Holds (Plain a) l f h) n (Signed x) ts = signed_goes (Plain a) l f h x n (ts ++ (token (Signed x) n ∷ []))
goes (Holds (Plain a) l f (Within m q g h)) n Close ts = close_goes (Plain a) l f m q g h n (ts ++ (token Close n ∷ []))
goes (Holds (Plain a) l f h) n k ts = refl
goes (Holds (Raised a c e i) l f h) n Star ts = star_goes (Raised a c e i) l f h n (ts ++ (token Star n ∷ []))
goes (Holds (Raised a c e i) l f h) n (Signed x) ts = signed_goes (Raised a c e i) l f h x n (ts ++ (token (Signed x) n ∷ []))
goes (Holds (Raised a c e i) l f (Within m q g h)) n Close ts = close_goes (Raised a c e i) l f m q g h n (ts ++ (token Close n ∷ []))
goes (Holds (Raised a c e i) l f h) n k ts = refl
goes (Raises a c l f h) n (Number (Digits e)) ts = same_steps (arith_held (ts ++ (token (Number (Digits e)) n ∷ [])) [] l f h phase.BehindPower) _ _ (append_assoc (before l f h) (aatom_code a) _)
goes (Raises a c l f h) n k ts = refl

-- tokens that are shown
retold : (s : ArithState) (n : ℕ) (k : Kind) (q : Option ArithState) → arith_step s n k ≡ q → option_map (shaped (arith_shown s ++ (token k n ∷ []))) q ≡ option_map arith_shape q
retold s n k None e = refl
retold s n k (Some s') e = ap (λ (ts : List Token). Some (shaped ts s')) (sym (arith_shows s n k s' e))

-- The reader goes where the reading goes.
pub arith_commutes : (s : ArithState) (n : ℕ) (k : Kind) → arith_read (arith_shape s) (token k n) ≡ option_map arith_shape (arith_step s n k)
arith_commutes s n k = goes s n k (arith_shown s) ∙ retold s n k (arith_step s n k) refl

one_open : (w : ArithLevel) (ws : List ArithLevel) → (length (w ∷ ws) == 0) ≡ false
one_open w ws = grind (arith, nat_tests)

-- It ends where the reading ends.
pub arith_ends : (s : ArithState) (k : Kind) → arith_ends_at (arith_shape s) k ≡ is_some (arith_ending s k)
arith_ends (Holds (Plain a) l f Top) Close = refl
arith_ends (Holds (Raised a c e m) l f Top) Close = refl
arith_ends (Holds (Plain a) l f (Within m q g h)) Close = one_open (arith_level q g) (arith_outer h)
arith_ends (Holds (Raised a c e i) l f (Within m q g h)) Close = one_open (arith_level q g) (arith_outer h)
arith_ends (Holds (Plain a) l f h) k = refl
arith_ends (Holds (Raised a c e m) l f h) k = refl
arith_ends s k = refl

-- and then it holds the arithmetic
pub arith_part_is : (s : ArithState) (k : Kind) (a : Arith) → arith_ending s k ≡ Some a → arith_part (arith_shape s) ≡ part_of a
arith_part_is (Holds p l f Top) Close a e =
    let same : Some (arith_so_far p l f) ≡ Some a = e in
    ap (λ (ts : List Token). let r : ArithPart = record { tokens = ts; steps = (before l f Top ++ apow_code p) ++ arith_sum_end (arith_level l f) } in r) (ending_shown (Holds p l f Top) Close (arith_so_far p l f) refl)
    ∙ ap (λ (ss : List ArithStep). let r : ArithPart = record { tokens = arith_tokens (arith_so_far p l f); steps = ss } in r) (sym (so_far_coded p l f Top))
    ∙ ap part_of (some_is same)
arith_part_is s k a e = cc
