-- Operators with too many terms.
use Rattle.std.proofs.Common.{◌≡◌, ◌<◌, ◌≤◌, ◌-◌, ℕ, true, Err, length, nat_lt, arith, refl, sym, ◌∙◌, ap, subst}
use Rattle.std.proofs.lemmas.Bool.Decides.{nat_tests}
use Rattle.formula_parser.specs.Terms.{Terms, plus, times, unions, raised, raised_by}
use Rattle.formula_parser.specs.Meaning.{limited}
use Rattle.formula_parser.proofs.Unions.{times_is, raised_too_many}

pub over : (n : ℕ) (ts : Terms) → 4096 < length ts → limited n ts ≡ Err n
unfolding limited
over n ts h = let test : nat_lt 4096 (length ts) ≡ true = grind (arith, nat_tests) in rw test refl

-- A * B from the sum and the terms of A
pub times_from : (a b sum before right : Terms) → sum ≡ plus a b → before ≡ a → right ≡ b → plus sum (unions before right) ≡ times a b
times_from a b sum before right e f g =
    ap (λ (x : Terms). plus x (unions before right)) e
    ∙ ap (λ (x : Terms). plus (plus a b) (unions x right)) f
    ∙ ap (λ (x : Terms). plus (plus a b) (unions a x)) g
    ∙ sym (times_is a b)

pub times_over : (n : ℕ) (a b all : Terms) → all ≡ times a b → 4096 < length all → limited n (times a b) ≡ Err n
times_over n a b all e h = over n (times a b) (subst (λ (x : Terms). 4096 < length x) e h)

pub raised_over : (n i k : ℕ) (a p before factor : Terms) → 1 ≤ i → i < k → p ≡ raised_by (i - 1) a → before ≡ p → factor ≡ a → 4096 < length (plus p (unions before factor)) → limited n (raised k a) ≡ Err n
raised_over n i k a p before factor one lt e f g h =
    let same : plus p (unions before factor) ≡ plus p (unions p a) = ap (λ (x : Terms). plus p (unions x factor)) f ∙ ap (λ (x : Terms). plus p (unions p x)) g in
    over n (raised k a) (raised_too_many i k a p 4096 one lt e (subst (λ (x : Terms). 4096 < length x) same h))
