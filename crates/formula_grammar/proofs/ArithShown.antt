-- What is read of an arithmetic is an arithmetic.
use Rattle.std.proofs.Common.{◌≡◌, ℕ, List, [], ◌∷◌, ◌++◌, Option, Some, None, refl, sym, ◌∙◌, ap, append_assoc, append-nil}
use Rattle.formula_grammar.specs.Words.{Sign, Digits, Kind, Name, Number, Signed, Star, Caret, Open, Close, Token}
use Rattle.formula_grammar.specs.Arithmetics.{token, Bare, Arith, Aprod, Apow, Plain, Raised, Group, lead_tokens, arith_tokens, aprod_tokens, apow_tokens, aatom_tokens}
use Rattle.formula_grammar.proofs.ArithAutomaton.{ArithLeft, ArithFront, ArithLeads, ArithAfter, Hole, Top, Within, ArithState, Begins, Needs}
use Rattle.formula_grammar.proofs.ArithAutomaton.{Holds, Raises, onto_aprod, onto_arith, arith_so_far, arith_operand, arith_behind, arith_step, arith_ending}

abbrev left_tokens : Option ArithLeft → List Token
left_tokens None = []
left_tokens (Some l) = aprod_tokens l.tree ++ (token Star l.place ∷ [])

abbrev front_tokens : ArithFront → List Token
front_tokens (ArithLeads l) = lead_tokens l
front_tokens (ArithAfter a x n) = arith_tokens a ++ (token (Signed x) n ∷ [])

abbrev hole_tokens : Hole → List Token
hole_tokens Top = []
hole_tokens (Within m l f h) = (hole_tokens h ++ (front_tokens f ++ left_tokens l)) ++ (token Open m ∷ [])

-- what stands before an operand
abbrev needed : Option ArithLeft → ArithFront → Hole → List Token
needed l f h = hole_tokens h ++ (front_tokens f ++ left_tokens l)

abbrev pub arith_shown : ArithState → List Token
arith_shown (Begins h) = hole_tokens h
arith_shown (Needs l f h) = needed l f h
arith_shown (Holds p l f h) = needed l f h ++ apow_tokens p
arith_shown (Raises a c l f h) = needed l f h ++ (aatom_tokens a ++ (token Caret c ∷ []))

aprod_shown : (l : Option ArithLeft) (p : Apow) → aprod_tokens (onto_aprod l p) ≡ left_tokens l ++ apow_tokens p
aprod_shown None p = refl
aprod_shown (Some l) p = sym (append_assoc (aprod_tokens l.tree) (token Star l.place ∷ []) (apow_tokens p))

onto_shown : (f : ArithFront) (p : Aprod) → arith_tokens (onto_arith f p) ≡ front_tokens f ++ aprod_tokens p
onto_shown (ArithLeads l) p = refl
onto_shown (ArithAfter a x n) p = sym (append_assoc (arith_tokens a) (token (Signed x) n ∷ []) (aprod_tokens p))

-- the sum so far, behind what is around it
so_far_shown : (p : Apow) (l : Option ArithLeft) (f : ArithFront) (h : Hole) → hole_tokens h ++ arith_tokens (arith_so_far p l f) ≡ needed l f h ++ apow_tokens p
so_far_shown p l f h =
    ap (λ (x : List Token). hole_tokens h ++ x) (onto_shown f (onto_aprod l p) ∙ ap (λ (x : List Token). front_tokens f ++ x) (aprod_shown l p))
    ∙ simp append_assoc

pub some_is : {A : Type 0} {x y : A} → Some x ≡ Some y → x ≡ y
some_is h = cc

abbrev Shows : ArithState → ℕ → Kind → ArithState → Type 0
Shows s n k s' = arith_shown s' ≡ arith_shown s ++ (token k n ∷ [])

operand_shows : (l : Option ArithLeft) (f : ArithFront) (h : Hole) (n : ℕ) (k : Kind) (s : ArithState) → arith_operand l f h n k ≡ Some s → Shows (Needs l f h) n k s
operand_shows l f h n (Name x) s e = ap arith_shown (sym (some_is e))
operand_shows l f h n (Number v) s e = ap arith_shown (sym (some_is e))
operand_shows l f h n Open s e = ap arith_shown (sym (some_is e))
operand_shows l f h n k s e = cc

-- no sign and no left operand
nothing_needed : (h : Hole) → needed None (ArithLeads Bare) h ≡ hole_tokens h
nothing_needed h = append-nil (hole_tokens h)

star_shows : (p : Apow) (l : Option ArithLeft) (f : ArithFront) (h : Hole) (n : ℕ) → needed (Some (record { tree = onto_aprod l p; place = n })) f h ≡ (needed l f h ++ apow_tokens p) ++ (token Star n ∷ [])
star_shows p l f h n =
    ap (λ (x : List Token). hole_tokens h ++ (front_tokens f ++ (x ++ (token Star n ∷ [])))) (aprod_shown l p)
    ∙ simp append_assoc

signed_shows : (p : Apow) (l : Option ArithLeft) (f : ArithFront) (h : Hole) (x : Sign) (n : ℕ) → needed None (ArithAfter (arith_so_far p l f) x n) h ≡ (needed l f h ++ apow_tokens p) ++ (token (Signed x) n ∷ [])
signed_shows p l f h x n =
    ap (λ (y : List Token). hole_tokens h ++ y) (append-nil (arith_tokens (arith_so_far p l f) ++ (token (Signed x) n ∷ [])))
    ∙ sym (append_assoc (hole_tokens h) (arith_tokens (arith_so_far p l f)) (token (Signed x) n ∷ []))
    ∙ ap (λ (y : List Token). y ++ (token (Signed x) n ∷ [])) (so_far_shown p l f h)

close_shows : (p : Apow) (l : Option ArithLeft) (f : ArithFront) (m : ℕ) (q : Option ArithLeft) (g : ArithFront) (h : Hole) (n : ℕ)
    → arith_shown (Holds (Plain (Group m (arith_so_far p l f) n)) q g h) ≡ (needed l f (Within m q g h) ++ apow_tokens p) ++ (token Close n ∷ [])
close_shows p l f m q g h n =
    sym (append_assoc (needed q g h) (token Open m ∷ []) (arith_tokens (arith_so_far p l f) ++ (token Close n ∷ [])))
    ∙ sym (append_assoc (hole_tokens (Within m q g h)) (arith_tokens (arith_so_far p l f)) (token Close n ∷ []))
    ∙ ap (λ (y : List Token). y ++ (token Close n ∷ [])) (so_far_shown p l f (Within m q g h))

behind_shows : (p : Apow) (l : Option ArithLeft) (f : ArithFront) (h : Hole) (n : ℕ) (k : Kind) (s : ArithState) → arith_behind p l f h n k ≡ Some s
    → arith_shown s ≡ (needed l f h ++ apow_tokens p) ++ (token k n ∷ [])
behind_shows p l f h n Star s e = ap arith_shown (sym (some_is e)) ∙ star_shows p l f h n
behind_shows p l f h n (Signed x) s e = ap arith_shown (sym (some_is e)) ∙ signed_shows p l f h x n
behind_shows p l f (Within m q g h) n Close s e = ap arith_shown (sym (some_is e)) ∙ close_shows p l f m q g h n
behind_shows p l f h n k s e = cc

-- A token that goes on is shown behind the others.
pub arith_shows : (s : ArithState) (n : ℕ) (k : Kind) (s' : ArithState) → arith_step s n k ≡ Some s' → Shows s n k s'
arith_shows (Begins h) n (Signed x) s e = ap arith_shown (sym (some_is e)) ∙ ap (λ (y : List Token). hole_tokens h ++ y) (append-nil (token (Signed x) n ∷ []))
arith_shows (Begins h) n k s e = operand_shows None (ArithLeads Bare) h n k s e ∙ ap (λ (y : List Token). y ++ (token k n ∷ [])) (nothing_needed h)
arith_shows (Needs l f h) n k s e = operand_shows l f h n k s e
arith_shows (Holds (Plain a) l f h) n Caret s e = ap arith_shown (sym (some_is e)) ∙ sym (append_assoc (needed l f h) (aatom_tokens a) (token Caret n ∷ []))
arith_shows (Holds p l f h) n k s e = behind_shows p l f h n k s e
arith_shows (Raises a c l f h) n (Number (Digits x)) s e = ap arith_shown (sym (some_is e)) ∙ simp append_assoc
arith_shows s n k s' e = cc

-- where an arithmetic ends, it is all that is shown
pub ending_shown : (s : ArithState) (k : Kind) (a : Arith) → arith_ending s k ≡ Some a → arith_shown s ≡ arith_tokens a
ending_shown (Holds p l f Top) Close a e = sym (so_far_shown p l f Top) ∙ ap arith_tokens (some_is e)
ending_shown s k a e = cc

-- and the token is a parenthesis
pub ending_closes : (s : ArithState) (k : Kind) (a : Arith) → arith_ending s k ≡ Some a → k ≡ Close
ending_closes (Holds p l f Top) Close a e = refl
ending_closes s k a e = cc

-- no arithmetic ends before a token that goes on
pub no_ending : (s : ArithState) (n : ℕ) (k : Kind) (s' : ArithState) → arith_step s n k ≡ Some s' → arith_ending s k ≡ None
no_ending (Holds (Plain b) l f Top) n Close s' e = cc
no_ending (Holds (Raised b c x m) l f Top) n Close s' e = cc
no_ending s n k s' e = refl
