-- Lists of terms that grow.
use Rattle.std.proofs.Common.{◌≡◌, ◌<◌, ◌≤◌, ◌+◌, ◌∷◌, ◌++◌, [], ℕ, zero, suc, ◌-◌, Bool, true, false, List, cond}
use Rattle.std.proofs.Common.{length, length-append, map, drop, drop-cons, get_or, add-one, refl, sym, ◌∙◌, ap, arith, append_assoc, not, ◌||◌, if◌then◌else◌}
use mathlib.Core.Bool.{beq, or-true}
use Rattle.std.specs.Cmp.Lexicographic.{pointwise}
use Rattle.formula_parser.specs.Terms.{Term, Terms, is_in, plus, minus, cross, union, unions, with_term, raised, raised_by, times}

with_grows : (found : Terms) (t : Term) → length found ≤ length (with_term found t)
with_grows found t = elim (is_in t found) as (λ b. length found ≤ length (cond b found (found ++ t ∷ []))) [
  | true ↦ omega arith
  | false ↦ omega (arith, length-append found (t ∷ []))
]

pub plus_grows : (a b : Terms) → length a ≤ length (plus a b)
plus_grows a [] = omega arith
plus_grows a (t ∷ ts) = omega (arith, with_grows a t, plus_grows (with_term a t) ts)

pub plus_append : (a b c : Terms) → plus a (b ++ c) ≡ plus (plus a b) c
plus_append a [] c = refl
plus_append a (t ∷ b) c = plus_append (with_term a t) b c

-- what is left of a list, as the item at its place and what is left behind that
pub split_at : {A : Type 0} (xs : List A) (i : ℕ) (d : A) → i < length xs → drop i xs ≡ get_or xs i d ∷ drop (i + 1) xs
split_at xs i d lt = drop-cons xs i d lt ∙ ap (λ (n : ℕ). get_or xs i d ∷ drop n xs) (sym (add-one i))

-- one more union
pub union_added : (first : Term) (right found found' : Terms) (i : ℕ) (d : Term) (all : Terms) → i < length right → found' ≡ with_term found (union first (get_or right i d))
    → plus found (map (union first) (drop i right)) ≡ all → plus found' (map (union first) (drop (i + 1) right)) ≡ all
union_added first right found found' i d all lt e h =
    ap (λ (x : Terms). plus x (map (union first) (drop (i + 1) right))) e
    ∙ ap (λ (x : Terms). plus found (map (union first) x)) (sym (split_at right i d lt))
    ∙ h

-- too many already
pub too_many : (found rest all : Terms) (most : ℕ) → most < length found → plus found rest ≡ all → most < length all
too_many found rest all most h e = omega (arith, plus_grows found rest, ap length e)

-- one more term of the first list has met the whole second list
pub term_crossed : (left right found found' : Terms) (i : ℕ) (d : Term) (all : Terms) → i < length left → found' ≡ plus found (map (union (get_or left i d)) right)
    → plus found (unions (drop i left) right) ≡ all → plus found' (unions (drop (i + 1) left) right) ≡ all
term_crossed left right found found' i d all lt e h =
    ap (λ (x : Terms). plus x (unions (drop (i + 1) left) right)) e
    ∙ sym (plus_append found (map (union (get_or left i d)) right) (unions (drop (i + 1) left) right))
    ∙ ap (λ (x : Terms). plus found (unions x right)) (sym (split_at left i d lt))
    ∙ h

pub crossed_too_many : (left right found : Terms) (i : ℕ) (d : Term) (all : Terms) (most : ℕ) → i < length left → most < length (plus found (map (union (get_or left i d)) right))
    → plus found (unions (drop i left) right) ≡ all → most < length all
crossed_too_many left right found i d all most lt h e =
    too_many (plus found (map (union (get_or left i d)) right)) (unions (drop (i + 1) left) right) all most h
    (term_crossed left right found (plus found (map (union (get_or left i d)) right)) i d all lt refl e)

-- ---- terms that are left

minus_first : (t : Term) (ts b : Terms) → minus (t ∷ ts) b ≡ minus (t ∷ []) b ++ minus ts b
minus_first t ts b = elim (not (is_in t b)) as (λ keep. (if keep then t ∷ minus ts b else minus ts b) ≡ (if keep then t ∷ [] else []) ++ minus ts b) [ true ↦ refl | false ↦ refl ]

pub term_left : (a b left left' all : Terms) (i : ℕ) (d : Term) → i < length a → left' ≡ left ++ minus (get_or a i d ∷ []) b → left ++ minus (drop i a) b ≡ all
    → left' ++ minus (drop (i + 1) a) b ≡ all
term_left a b left left' all i d lt e h =
    ap (λ (x : Terms). x ++ minus (drop (i + 1) a) b) e
    ∙ append_assoc left (minus (get_or a i d ∷ []) b) (minus (drop (i + 1) a) b)
    ∙ ap (λ (x : Terms). left ++ x) (sym (minus_first (get_or a i d) (drop (i + 1) a) b))
    ∙ ap (λ (x : Terms). left ++ minus x b) (sym (split_at a i d lt))
    ∙ h

-- ---- products and powers

-- equal Bool lists are in the same lists
same_list : (a b : Term) → pointwise beq a b ≡ true → a ≡ b
same_list [] [] h = refl
same_list (true ∷ a) (true ∷ b) h = ap (λ (t : Term). true ∷ t) (same_list a b h)
same_list (false ∷ a) (false ∷ b) h = ap (λ (t : Term). false ∷ t) (same_list a b h)
same_list a b h = absurd (cc h)

same_terms : (u t : Term) → pointwise beq u t ≡ true → (found : Terms) → is_in u found ≡ true → is_in t found ≡ true
same_terms u t e found h = let same = same_list u t e in rw (← same) h

is_in_with : (t u : Term) (found : Terms) → is_in t found ≡ true → is_in t (with_term found u) ≡ true
is_in_with t u found h = go (is_in u found)
  where
    appended : (ts : Terms) → is_in t ts ≡ true → is_in t (ts ++ u ∷ []) ≡ true
    appended [] h = absurd (cc h)
    appended (v ∷ ts) h = first (pointwise beq v t) (appended ts) h
      where
        first : (b : Bool) → (is_in t ts ≡ true → is_in t (ts ++ u ∷ []) ≡ true) → (b || is_in t ts) ≡ true → (b || is_in t (ts ++ u ∷ [])) ≡ true
        first true more h = refl
        first false more h = more h

    go : (b : Bool) → is_in t (cond b found (found ++ u ∷ [])) ≡ true
    go true = h
    go false = appended found h

is_in_plus : (t : Term) (a b : Terms) → is_in t a ≡ true → is_in t (plus a b) ≡ true
is_in_plus t a [] h = h
is_in_plus t a (u ∷ b) h = is_in_plus t (with_term a u) b (is_in_with t u a h)

-- a term that is put in is there
with_is_in : (t u : Term) (found : Terms) → pointwise beq u t ≡ true → is_in t (with_term found u) ≡ true
with_is_in t u found e = go (is_in u found) refl
  where
    appended : (ts : Terms) → is_in t (ts ++ u ∷ []) ≡ true
    appended [] = rw e refl
    appended (v ∷ ts) = ap (λ (x : Bool). pointwise beq v t || x) (appended ts) ∙ or-true (pointwise beq v t)

    go : (b : Bool) → is_in u found ≡ b → is_in t (cond b found (found ++ u ∷ [])) ≡ true
    go true d = same_terms u t e found d
    go false d = appended found

is_in_plus_right : (t : Term) (f g : Terms) → is_in t g ≡ true → is_in t (plus f g) ≡ true
is_in_plus_right t f [] h = absurd (cc h)
is_in_plus_right t f (u ∷ g) h = go (pointwise beq u t) refl (is_in_plus_right t (with_term f u) g) h
  where
    go : (b : Bool) → pointwise beq u t ≡ b → (is_in t g ≡ true → is_in t (plus (with_term f u) g) ≡ true) → (b || is_in t g) ≡ true → is_in t (plus (with_term f u) g) ≡ true
    go true e more h = is_in_plus t (with_term f u) g (with_is_in t u f e)
    go false e more h = more h

-- what is found once more adds nothing
pub plus_onto : (f g us : Terms) → plus f (plus g us) ≡ plus (plus f g) us
plus_onto f g [] = refl
plus_onto f g (u ∷ us) = plus_onto f (with_term g u) us ∙ ap (λ (x : Terms). plus x us) (go (is_in u g) refl)
  where
    go : (b : Bool) → is_in u g ≡ b → plus f (cond b g (g ++ u ∷ [])) ≡ with_term (plus f g) u
    go true e = let there = is_in_plus_right u f g e in rw there refl
    go false e = plus_append f g (u ∷ [])

-- A * B in one go
pub times_is : (a b : Terms) → times a b ≡ plus (plus a b) (unions a b)
times_is a b = plus_onto (plus a b) [] (unions a b)

pub raised_next : (n : ℕ) (a : Terms) → raised_by (suc n) a ≡ plus (raised_by n a) (unions (raised_by n a) a)
raised_next n a = plus_onto (raised_by n a) [] (unions (raised_by n a) a)

raised_grows : (k n : ℕ) (a : Terms) → length (raised_by n a) ≤ length (raised_by (k + n) a)
raised_grows zero n a = let e : 0 + n ≡ n = omega arith in rw e (omega arith)
raised_grows (suc k) n a =
    let e : suc k + n ≡ suc (k + n) = omega arith in
    let step = plus_grows (raised_by (k + n) a) (cross (raised_by (k + n) a) a) in
    rw e (omega (arith, raised_grows k n a, step))

-- a power with too many terms already
pub raised_too_many : (i k : ℕ) (a p : Terms) (most : ℕ) → 1 ≤ i → i < k → p ≡ raised_by (i - 1) a → most < length (plus p (unions p a)) → most < length (raised k a)
raised_too_many i k a p most one lt e h =
    let next : i ≡ suc (i - 1) = omega arith in
    let power : plus p (unions p a) ≡ raised_by i a = ap (λ (x : Terms). plus x (unions x a)) e ∙ sym (raised_next (i - 1) a) ∙ ap (λ (n : ℕ). raised_by n a) (sym next) in
    let size : (k - 1 - i) + i ≡ k - 1 = omega arith in
    let grows : length (raised_by i a) ≤ length (raised_by (k - 1) a) = rw size at (raised_grows (k - 1 - i) i a) in
    omega (arith, grows, ap length power)

pub raised_more : (i : ℕ) (a p p' : Terms) → 1 ≤ i → p ≡ raised_by (i - 1) a → p' ≡ plus p (unions p a) → p' ≡ raised_by (i + 1 - 1) a
raised_more i a p p' one e f =
    let next : i + 1 - 1 ≡ suc (i - 1) = omega arith in
    f ∙ ap (λ (x : Terms). plus x (unions x a)) e ∙ sym (raised_next (i - 1) a) ∙ ap (λ (n : ℕ). raised_by n a) (sym next)

-- a sum goes on from its first term
pub plus_on : (other seen : Terms) (i : ℕ) (x : Term) (all next r : Terms) → seen ≡ other → i < length seen → x ≡ get_or seen i x → next ≡ with_term all x
    → plus all (drop i other) ≡ r → plus next (drop (i + 1) other) ≡ r
plus_on other seen i x all next r same within here new before =
    let lt : i < length other = omega (arith, ap length same) in
    ap (λ (a : Terms). plus a (drop (i + 1) other)) (new ∙ ap (with_term all) (here ∙ ap (λ (l : Terms). get_or l i x) same))
    ∙ ap (plus all) (sym (split_at other i x lt))
    ∙ before
