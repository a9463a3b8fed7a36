-- Stated. Identities of whole numbers, proved by computing both sides as polynomials.
--
-- Both sides are written as a `Term`: `v0` to `v9` (or `var k`) are variables by their place in a
-- list of values, `number z` is a whole number, and `⊞`, `⊟`, `⊠` and `negated` stand for the
-- operations. `value vs t` is what the term is worth, and computes to the expression meant. The
-- polynomials are compared by computation, so the proof that they agree is `refl`.
--
--     identity vs a b refl                 value vs a ≡ value vs b
--     from1 vs a b k l r refl h            the same from h : value vs l ≡ value vs r,
--                                          where a - b = k * (l - r)
--     from2 vs a b k l r k' l' r' refl h h'    from two equations,
--                                          where a - b = k * (l - r) + k' * (l' - r')
--
-- For (x + y) * (x - y) = x * x - y * y, and for x * z = y * z from h : x ≡ y:
--
--     identity (x ∷ y ∷ []) ((v0 ⊞ v1) ⊠ (v0 ⊟ v1)) (v0 ⊠ v0 ⊟ v1 ⊠ v1) refl
--     from1 (x ∷ y ∷ z ∷ []) (v0 ⊠ v2) (v1 ⊠ v2) v2 v0 v1 refl h
--
-- It stands among the definitions since the sum and the product of ℚ are defined with proofs by it.
-- `proofs.Polynomials` does the same over any commutative ring, and `proofs.RationalLaws` over ℚ.
use Rattle.std.specs.Prelude.{◌≡◌, ℕ, Bool, true, false, cond, ◌&&◌, ltb, eqb, List, [], ◌∷◌, get_or, ℤ, pos, negsuc, ◌+ℤ◌, ◌-ℤ◌, ◌*ℤ◌, neg_ℤ}
use Rattle.std.proofs.Common.{arith, refl, sym, ap, ◌∙◌}
use Rattle.std.proofs.lemmas.Int.{ints}
use borrow.Author.Tests.{eqb-true}
use Rattle.rational_laws.specs.Integers.{is_diff, diffs, same_diff, mul-add, add-mul, mul_assoc}

-- what is to be computed: variables by number
pub data Term : Type 0 where
  var : ℕ → Term
  number : ℤ → Term
  plus : Term → Term → Term
  minus : Term → Term → Term
  times : Term → Term → Term
  negated : Term → Term

-- what a term is worth where vs are the values of the variables
abbrev pub value : List ℤ → Term → ℤ
value vs (var i) = get_or vs i (pos 0)
value vs (number z) = z
value vs (plus a b) = value vs a +ℤ value vs b
value vs (minus a b) = value vs a -ℤ value vs b
value vs (times a b) = value vs a *ℤ value vs b
value vs (negated a) = neg_ℤ (value vs a)

-- a number times a product of variables, ascending
pub record Monomial : Type 0 where
  pub factor : ℤ
  pub vars : List ℕ

-- the product of the variables
abbrev pub power : List ℤ → List ℕ → ℤ
power vs [] = pos 1
power vs (i ∷ is) = get_or vs i (pos 0) *ℤ power vs is

-- the sum of a polynomial's monomials
abbrev pub total : List ℤ → List Monomial → ℤ
total vs [] = pos 0
total vs (m ∷ ms) = (m.factor *ℤ power vs m.vars) +ℤ total vs ms

-- one more variable, in ascending order
abbrev pub put : ℕ → List ℕ → List ℕ
put i [] = i ∷ []
put i (j ∷ js) = cond (ltb j i) (j ∷ put i js) (i ∷ j ∷ js)

-- both lists of variables
abbrev pub merge : List ℕ → List ℕ → List ℕ
merge [] js = js
merge (i ∷ is) js = put i (merge is js)

-- whether two lists of variables are the same
abbrev pub same : List ℕ → List ℕ → Bool
same [] [] = true
same [] (j ∷ js) = false
same (i ∷ is) [] = false
same (i ∷ is) (j ∷ js) = eqb i j && same is js

-- the order of monomials: by their variables
abbrev pub before : List ℕ → List ℕ → Bool
before [] js = true
before (i ∷ is) [] = false
before (i ∷ is) (j ∷ js) = cond (eqb i j) (before is js) (ltb i j)

-- one more monomial, added to the one with its variables
abbrev pub insert : Monomial → List Monomial → List Monomial
insert m [] = m ∷ []
insert m (n ∷ ns) =
    cond (same m.vars n.vars) (record { factor = m.factor +ℤ n.factor; vars = n.vars } ∷ ns)
    (cond (before m.vars n.vars) (m ∷ n ∷ ns) (n ∷ insert m ns))

-- the sum of two polynomials
abbrev pub joined : List Monomial → List Monomial → List Monomial
joined [] ns = ns
joined (m ∷ ms) ns = insert m (joined ms ns)

-- a polynomial times a number
abbrev pub scaled : ℤ → List Monomial → List Monomial
scaled z [] = []
scaled z (m ∷ ms) = record { factor = z *ℤ m.factor; vars = m.vars } ∷ scaled z ms

-- a polynomial times a monomial
abbrev pub spread : Monomial → List Monomial → List Monomial
spread m [] = []
spread m (n ∷ ns) = insert (record { factor = m.factor *ℤ n.factor; vars = merge m.vars n.vars }) (spread m ns)

-- the product of two polynomials
abbrev pub multiplied : List Monomial → List Monomial → List Monomial
multiplied [] ns = []
multiplied (m ∷ ms) ns = joined (spread m ns) (multiplied ms ns)

-- a term as a polynomial: equal monomials joined, in order
abbrev pub normal : Term → List Monomial
normal (var i) = record { factor = pos 1; vars = i ∷ [] } ∷ []
normal (number z) = record { factor = z; vars = [] } ∷ []
normal (plus a b) = joined (normal a) (normal b)
normal (minus a b) = joined (normal a) (scaled (negsuc 0) (normal b))
normal (times a b) = multiplied (normal a) (normal b)
normal (negated a) = scaled (negsuc 0) (normal a)

-- whether a number is 0
abbrev pub is_zero : ℤ → Bool
is_zero (pos n) = eqb n 0
is_zero (negsuc n) = false

-- whether all factors are 0
abbrev pub vanishes : List Monomial → Bool
vanishes [] = true
vanishes (m ∷ ms) = is_zero m.factor && vanishes ms

-- ---- each step keeps the value

turn3 : (x y z : ℤ) → y *ℤ (x *ℤ z) ≡ x *ℤ (y *ℤ z)
turn3 x y z = rw (← is_diff x, ← is_diff y, ← is_diff z) (simp diffs (same_diff _ _ _ _ (omega arith)))

put_at : (vs : List ℤ) (i j : ℕ) (js : List ℕ) (t : Bool) → power vs (put i js) ≡ get_or vs i (pos 0) *ℤ power vs js
    → power vs (cond t (j ∷ put i js) (i ∷ j ∷ js)) ≡ get_or vs i (pos 0) *ℤ (get_or vs j (pos 0) *ℤ power vs js)
put_at vs i j js true h = ap (λ z. get_or vs j (pos 0) *ℤ z) h ∙ turn3 (get_or vs i (pos 0)) (get_or vs j (pos 0)) (power vs js)
put_at vs i j js false h = refl

power-put : (vs : List ℤ) (i : ℕ) (js : List ℕ) → power vs (put i js) ≡ get_or vs i (pos 0) *ℤ power vs js
power-put vs i [] = refl
power-put vs i (j ∷ js) = put_at vs i j js (ltb j i) (power-put vs i js)

power-merge : (vs : List ℤ) (is js : List ℕ) → power vs (merge is js) ≡ power vs is *ℤ power vs js
power-merge vs [] js = omega (arith, ints)
power-merge vs (i ∷ is) js =
    power-put vs i (merge is js) ∙ ap (λ z. get_or vs i (pos 0) *ℤ z) (power-merge vs is js)
    ∙ sym (mul_assoc (get_or vs i (pos 0)) (power vs is) (power vs js))

pub and-true : (a b : Bool) → (a && b) ≡ true → (a ≡ true) × (b ≡ true)
and-true true b h = (refl, h)
and-true false b h = absurd (cc)

pub same-true : (is js : List ℕ) → same is js ≡ true → is ≡ js
same-true [] [] h = refl
same-true [] (j ∷ js) h = cc
same-true (i ∷ is) [] h = cc
same-true (i ∷ is) (j ∷ js) h =
    let two = and-true (eqb i j) (same is js) h in
    let a : i ≡ j = eqb-true i j two.0 in
    let b : is ≡ js = same-true is js two.1 in
    cc

insert_at : (vs : List ℤ) (m n : Monomial) (ns : List Monomial) (s b : Bool) → same m.vars n.vars ≡ s
    → total vs (insert m ns) ≡ (m.factor *ℤ power vs m.vars) +ℤ total vs ns
    → total vs (cond s (record { factor = m.factor +ℤ n.factor; vars = n.vars } ∷ ns) (cond b (m ∷ n ∷ ns) (n ∷ insert m ns))) ≡ (m.factor *ℤ power vs m.vars)
    +ℤ ((n.factor *ℤ power vs n.vars) +ℤ total vs ns)
insert_at vs m n ns true b e h = rw (same-true m.vars n.vars e) (omega (arith, ints, add-mul m.factor n.factor (power vs n.vars)))
insert_at vs m n ns false true e h = refl
insert_at vs m n ns false false e h = omega (arith, ints)

total-insert : (vs : List ℤ) (m : Monomial) (ns : List Monomial) → total vs (insert m ns) ≡ (m.factor *ℤ power vs m.vars) +ℤ total vs ns
total-insert vs m [] = refl
total-insert vs m (n ∷ ns) = insert_at vs m n ns (same m.vars n.vars) (before m.vars n.vars) refl (total-insert vs m ns)

total-joined : (vs : List ℤ) (ms ns : List Monomial) → total vs (joined ms ns) ≡ total vs ms +ℤ total vs ns
total-joined vs [] ns = omega (arith, ints)
total-joined vs (m ∷ ms) ns = omega (arith, ints, total-insert vs m (joined ms ns), total-joined vs ms ns)

total-scaled : (vs : List ℤ) (z : ℤ) (ms : List Monomial) → total vs (scaled z ms) ≡ z *ℤ total vs ms
total-scaled vs z [] = omega (arith, ints)
total-scaled vs z (m ∷ ms) = omega (
  arith,
  ints,
  total-scaled vs z ms,
  mul_assoc z m.factor (power vs m.vars),
  mul-add z (m.factor *ℤ power vs m.vars) (total vs ms),
)

total-spread : (vs : List ℤ) (m : Monomial) (ns : List Monomial) → total vs (spread m ns) ≡ (m.factor *ℤ power vs m.vars) *ℤ total vs ns
total-spread vs m [] = omega (arith, ints)
total-spread vs m (n ∷ ns) =
    total-insert vs (record { factor = m.factor *ℤ n.factor; vars = merge m.vars n.vars }) (spread m ns)
    ∙ ap (λ z. ((m.factor *ℤ n.factor) *ℤ z) +ℤ total vs (spread m ns)) (power-merge vs m.vars n.vars)
    ∙ ap (λ z. ((m.factor *ℤ n.factor) *ℤ (power vs m.vars *ℤ power vs n.vars)) +ℤ z) (total-spread vs m ns)
    ∙ turn m.factor n.factor (power vs m.vars) (power vs n.vars) (total vs ns)
  where
    turn : (a b p q t : ℤ) → ((a *ℤ b) *ℤ (p *ℤ q)) +ℤ ((a *ℤ p) *ℤ t) ≡ (a *ℤ p) *ℤ ((b *ℤ q) +ℤ t)
    turn a b p q t = rw (← is_diff a, ← is_diff b, ← is_diff p, ← is_diff q, ← is_diff t) (simp diffs (same_diff _ _ _ _ (omega arith)))

total-multiplied : (vs : List ℤ) (ms ns : List Monomial) → total vs (multiplied ms ns) ≡ total vs ms *ℤ total vs ns
total-multiplied vs [] ns = omega (arith, ints)
total-multiplied vs (m ∷ ms) ns =
    omega (
      arith,
      ints,
      total-joined vs (spread m ns) (multiplied ms ns),
      total-spread vs m ns,
      total-multiplied vs ms ns,
      add-mul (m.factor *ℤ power vs m.vars) (total vs ms) (total vs ns),
    )

total-normal : (vs : List ℤ) (t : Term) → total vs (normal t) ≡ value vs t
total-normal vs (var i) = omega (arith, ints)
total-normal vs (number z) = omega (arith, ints)
total-normal vs (plus a b) = omega (arith, ints, total-joined vs (normal a) (normal b), total-normal vs a, total-normal vs b)
total-normal vs (minus a b) = omega (
  arith,
  ints,
  total-joined vs (normal a) (scaled (negsuc 0) (normal b)),
  total-scaled vs (negsuc 0) (normal b),
  total-normal vs a,
  total-normal vs b,
)
total-normal vs (times a b) = rw (← total-normal vs a, ← total-normal vs b) (total-multiplied vs (normal a) (normal b))
total-normal vs (negated a) = omega (arith, ints, total-scaled vs (negsuc 0) (normal a), total-normal vs a)

pub zero_is : (z : ℤ) → is_zero z ≡ true → z ≡ pos 0
zero_is (pos n) h = ap pos (eqb-true n 0 h)
zero_is (negsuc n) h = cc

total-vanishes : (vs : List ℤ) (ms : List Monomial) → vanishes ms ≡ true → total vs ms ≡ pos 0
total-vanishes vs [] h = refl
total-vanishes vs (m ∷ ms) h =
    let two = and-true (is_zero m.factor) (vanishes ms) h in
    rw (zero_is m.factor two.0) (omega (arith, ints, total-vanishes vs ms two.1))

-- two terms with the same polynomial are equal at all values
pub identity : (vs : List ℤ) (a b : Term) → vanishes (normal (minus a b)) ≡ true → value vs a ≡ value vs b
identity vs a b h = omega (arith, ints, total-vanishes vs (normal (minus a b)) h, total-normal vs (minus a b))

-- and where their difference is a multiple of that of two equal terms
pub from1 : (vs : List ℤ) (a b k l r : Term) → vanishes (normal (minus (minus a b) (times k (minus l r)))) ≡ true → value vs l ≡ value vs r
    → value vs a ≡ value vs b
from1 vs a b k l r h e =
    let same : value vs a -ℤ value vs b ≡ value vs k *ℤ (value vs l -ℤ value vs r) = identity vs (minus a b) (times k (minus l r)) h in
    let gone : value vs l -ℤ value vs r ≡ pos 0 = omega (arith, ints, e) in
    let zero : value vs k *ℤ (value vs l -ℤ value vs r) ≡ pos 0 = ap (λ z. value vs k *ℤ z) gone ∙ omega (arith, ints) in
    omega (arith, ints, same, zero)

-- the same with two pairs of equal terms
pub from2 : (vs : List ℤ) (a b k l r k' l' r' : Term) → vanishes (normal (minus (minus a b) (plus (times k (minus l r)) (times k' (minus l' r'))))) ≡ true
    → value vs l ≡ value vs r → value vs l' ≡ value vs r' → value vs a ≡ value vs b
from2 vs a b k l r k' l' r' h e f =
    let same : value vs a -ℤ value vs b ≡ (value vs k *ℤ (value vs l -ℤ value vs r)) +ℤ (value vs k' *ℤ (value vs l' -ℤ value vs r')) =
    identity vs (minus a b) (plus (times k (minus l r)) (times k' (minus l' r'))) h in
    let gone : value vs l -ℤ value vs r ≡ pos 0 = omega (arith, ints, e) in
    let gone' : value vs l' -ℤ value vs r' ≡ pos 0 = omega (arith, ints, f) in
    let zero : value vs k *ℤ (value vs l -ℤ value vs r) ≡ pos 0 = ap (λ z. value vs k *ℤ z) gone ∙ omega (arith, ints) in
    let zero' : value vs k' *ℤ (value vs l' -ℤ value vs r') ≡ pos 0 = ap (λ z. value vs k' *ℤ z) gone' ∙ omega (arith, ints) in
    omega (arith, ints, same, zero, zero')

-- the terms' operators
infixl 6 ◌⊞◌
abbrev pub ◌⊞◌ : Term → Term → Term
a ⊞ b = plus a b

infixl 6 ◌⊟◌
abbrev pub ◌⊟◌ : Term → Term → Term
a ⊟ b = minus a b

infixl 7 ◌⊠◌
abbrev pub ◌⊠◌ : Term → Term → Term
a ⊠ b = times a b

-- the variables by place
abbrev pub v0 : Term
v0 = var 0

abbrev pub v1 : Term
v1 = var 1

abbrev pub v2 : Term
v2 = var 2

abbrev pub v3 : Term
v3 = var 3

abbrev pub v4 : Term
v4 = var 4

abbrev pub v5 : Term
v5 = var 5

abbrev pub v6 : Term
v6 = var 6

abbrev pub v7 : Term
v7 = var 7

abbrev pub v8 : Term
v8 = var 8

abbrev pub v9 : Term
v9 = var 9
