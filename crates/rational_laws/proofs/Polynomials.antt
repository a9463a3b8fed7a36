-- Identities of any commutative ring, by computing both sides as polynomials with whole
-- coefficients.
--
-- A ring is given by its operations and an embedding of the whole numbers; `IsRing` says that they
-- obey the laws. The terms are those of `specs.Solver`, and `worth` is what one is worth.
--
--     ring add mul neg embed r vs a b refl               worth vs a ≡ worth vs b
--     ring_by add mul neg embed r vs a b k l l' refl h   the same from h : worth vs l ≡ worth vs l',
--                                                        where a - b = k * (l - l')
--
-- Over ℚ write `ring_ℚ` and `ring_by_ℚ` of `proofs.RationalLaws`.
use Rattle.std.specs.Prelude.{◌≡◌, ℕ, Bool, true, false, cond, ltb, List, [], ◌∷◌, get_or, ℤ, pos, negsuc, ◌+ℤ◌, ◌*ℤ◌}
use Rattle.std.proofs.Common.{refl, sym, ap, ◌∙◌}
use Rattle.rational_laws.specs.Solver.{Term, var, number, plus, minus, times, negated, Monomial, put, merge, same, before, insert, joined, scaled, spread, multiplied, normal, is_zero, vanishes, same-true, and-true, zero_is}

-- a commutative ring with the whole numbers in it
pub record IsRing {A : Type 0} (add mul : A → A → A) (neg : A → A) (embed : ℤ → A) : Type 0 where
  pub add_assoc : (x y z : A) → add (add x y) z ≡ add x (add y z)
  pub add_comm : (x y : A) → add x y ≡ add y x
  pub zero_add : (x : A) → add (embed (pos 0)) x ≡ x
  pub add_neg : (x : A) → add x (neg x) ≡ embed (pos 0)
  pub mul_assoc : (x y z : A) → mul (mul x y) z ≡ mul x (mul y z)
  pub mul_comm : (x y : A) → mul x y ≡ mul y x
  pub one_mul : (x : A) → mul (embed (pos 1)) x ≡ x
  pub mul_add : (x y z : A) → mul x (add y z) ≡ add (mul x y) (mul x z)
  pub embed_add : (x y : ℤ) → embed (x +ℤ y) ≡ add (embed x) (embed y)
  pub embed_mul : (x y : ℤ) → embed (x *ℤ y) ≡ mul (embed x) (embed y)

module _ {A : Type 0} (add mul : A → A → A) (neg : A → A) (embed : ℤ → A) where
  -- what a term is worth in the ring
  abbrev pub worth : List A → Term → A
  worth vs (var i) = get_or vs i (embed (pos 0))
  worth vs (number z) = embed z
  worth vs (plus a b) = add (worth vs a) (worth vs b)
  worth vs (minus a b) = add (worth vs a) (neg (worth vs b))
  worth vs (times a b) = mul (worth vs a) (worth vs b)
  worth vs (negated a) = neg (worth vs a)

  -- the product of the variables
  abbrev power : List A → List ℕ → A
  power vs [] = embed (pos 1)
  power vs (i ∷ is) = mul (get_or vs i (embed (pos 0))) (power vs is)

  -- the sum of a polynomial's monomials
  abbrev sum : List A → List Monomial → A
  sum vs [] = embed (pos 0)
  sum vs (m ∷ ms) = add (mul (embed m.factor) (power vs m.vars)) (sum vs ms)

  module _ (r : IsRing add mul neg embed) where
    add_left : (x y z : A) → add x (add y z) ≡ add y (add x z)
    add_left x y z = sym (r.add_assoc x y z) ∙ ap (λ w. add w z) (r.add_comm x y) ∙ r.add_assoc y x z

    mul_left : (x y z : A) → mul x (mul y z) ≡ mul y (mul x z)
    mul_left x y z = sym (r.mul_assoc x y z) ∙ ap (λ w. mul w z) (r.mul_comm x y) ∙ r.mul_assoc y x z

    add_mul : (x y z : A) → mul (add x y) z ≡ add (mul x z) (mul y z)
    add_mul x y z = r.mul_comm (add x y) z ∙ r.mul_add z x y ∙ ap (λ w. add w (mul z y)) (r.mul_comm z x) ∙ ap (add (mul x z)) (r.mul_comm z y)

    add_zero : (x : A) → add x (embed (pos 0)) ≡ x
    add_zero x = r.add_comm x (embed (pos 0)) ∙ r.zero_add x

    mul_one : (x : A) → mul x (embed (pos 1)) ≡ x
    mul_one x = r.mul_comm x (embed (pos 1)) ∙ r.one_mul x

    cancel : (x y z : A) → add x y ≡ add x z → y ≡ z
    cancel x y z h = sym (back y) ∙ ap (add (neg x)) h ∙ back z
      where
        back : (w : A) → add (neg x) (add x w) ≡ w
        back w = sym (r.add_assoc (neg x) x w) ∙ ap (λ v. add v w) (r.add_comm (neg x) x ∙ r.add_neg x) ∙ r.zero_add w

    mul_zero : (x : A) → mul x (embed (pos 0)) ≡ embed (pos 0)
    mul_zero x = cancel (mul x (embed (pos 0))) (mul x (embed (pos 0))) (embed (pos 0)) (sym (r.mul_add x (embed (pos 0)) (embed (pos 0))) ∙ ap (mul x) (r.zero_add (embed (pos 0))) ∙ sym (add_zero (mul x (embed (pos 0)))))

    minus_one : (x : A) → mul (embed (negsuc 0)) x ≡ neg x
    minus_one x =
        cancel x (mul (embed (negsuc 0)) x) (neg x)
        (ap (λ w. add w (mul (embed (negsuc 0)) x)) (sym (r.one_mul x)) ∙ sym (add_mul (embed (pos 1)) (embed (negsuc 0)) x) ∙ ap (λ w. mul w x) (sym (r.embed_add (pos 1) (negsuc 0))) ∙ r.mul_comm (embed (pos 0)) x ∙ mul_zero x
        ∙ sym (r.add_neg x))

    put_at : (vs : List A) (i j : ℕ) (js : List ℕ) (t : Bool) → power vs (put i js) ≡ mul (get_or vs i (embed (pos 0))) (power vs js)
        → power vs (cond t (j ∷ put i js) (i ∷ j ∷ js)) ≡ mul (get_or vs i (embed (pos 0))) (mul (get_or vs j (embed (pos 0))) (power vs js))
    put_at vs i j js true h = ap (mul (get_or vs j (embed (pos 0)))) h ∙ mul_left (get_or vs j (embed (pos 0))) (get_or vs i (embed (pos 0))) (power vs js)
    put_at vs i j js false h = refl

    power-put : (vs : List A) (i : ℕ) (js : List ℕ) → power vs (put i js) ≡ mul (get_or vs i (embed (pos 0))) (power vs js)
    power-put vs i [] = refl
    power-put vs i (j ∷ js) = put_at vs i j js (ltb j i) (power-put vs i js)

    power-merge : (vs : List A) (is js : List ℕ) → power vs (merge is js) ≡ mul (power vs is) (power vs js)
    power-merge vs [] js = sym (r.one_mul (power vs js))
    power-merge vs (i ∷ is) js =
        power-put vs i (merge is js) ∙ ap (mul (get_or vs i (embed (pos 0)))) (power-merge vs is js)
        ∙ sym (r.mul_assoc (get_or vs i (embed (pos 0))) (power vs is) (power vs js))

    insert_at : (vs : List A) (m n : Monomial) (ns : List Monomial) (s b : Bool) → same m.vars n.vars ≡ s → sum vs (insert m ns) ≡ add (mul (embed m.factor) (power vs m.vars)) (sum vs ns)
        → sum vs (cond s (record { factor = m.factor +ℤ n.factor; vars = n.vars } ∷ ns) (cond b (m ∷ n ∷ ns) (n ∷ insert m ns))) ≡ add (mul (embed m.factor) (power vs m.vars)) (add (mul (embed n.factor) (power vs n.vars)) (sum vs ns))
    insert_at vs m n ns true b e h =
        ap (λ w. add (mul w (power vs n.vars)) (sum vs ns)) (r.embed_add m.factor n.factor)
        ∙ ap (λ w. add w (sum vs ns)) (add_mul (embed m.factor) (embed n.factor) (power vs n.vars))
        ∙ r.add_assoc _ _ _
        ∙ ap (λ is. add (mul (embed m.factor) (power vs is)) (add (mul (embed n.factor) (power vs n.vars)) (sum vs ns))) (sym (same-true m.vars n.vars e))
    insert_at vs m n ns false true e h = refl
    insert_at vs m n ns false false e h = ap (add (mul (embed n.factor) (power vs n.vars))) h ∙ add_left _ _ _

    sum-insert : (vs : List A) (m : Monomial) (ns : List Monomial) → sum vs (insert m ns) ≡ add (mul (embed m.factor) (power vs m.vars)) (sum vs ns)
    sum-insert vs m [] = refl
    sum-insert vs m (n ∷ ns) = insert_at vs m n ns (same m.vars n.vars) (before m.vars n.vars) refl (sum-insert vs m ns)

    sum-joined : (vs : List A) (ms ns : List Monomial) → sum vs (joined ms ns) ≡ add (sum vs ms) (sum vs ns)
    sum-joined vs [] ns = sym (r.zero_add (sum vs ns))
    sum-joined vs (m ∷ ms) ns = sum-insert vs m (joined ms ns) ∙ ap (add (mul (embed m.factor) (power vs m.vars))) (sum-joined vs ms ns) ∙ sym (r.add_assoc _ _ _)

    sum-scaled : (vs : List A) (z : ℤ) (ms : List Monomial) → sum vs (scaled z ms) ≡ mul (embed z) (sum vs ms)
    sum-scaled vs z [] = sym (mul_zero (embed z))
    sum-scaled vs z (m ∷ ms) =
        ap (λ w. add (mul w (power vs m.vars)) (sum vs (scaled z ms))) (r.embed_mul z m.factor)
        ∙ ap (λ w. add w (sum vs (scaled z ms))) (r.mul_assoc (embed z) (embed m.factor) (power vs m.vars))
        ∙ ap (add (mul (embed z) (mul (embed m.factor) (power vs m.vars)))) (sum-scaled vs z ms)
        ∙ sym (r.mul_add (embed z) _ _)

    sum-spread : (vs : List A) (m : Monomial) (ns : List Monomial) → sum vs (spread m ns) ≡ mul (mul (embed m.factor) (power vs m.vars)) (sum vs ns)
    sum-spread vs m [] = sym (mul_zero _)
    sum-spread vs m (n ∷ ns) =
        sum-insert vs (record { factor = m.factor *ℤ n.factor; vars = merge m.vars n.vars }) (spread m ns)
        ∙ ap (λ w. add (mul w (power vs (merge m.vars n.vars))) (sum vs (spread m ns))) (r.embed_mul m.factor n.factor)
        ∙ ap (λ w. add (mul (mul (embed m.factor) (embed n.factor)) w) (sum vs (spread m ns))) (power-merge vs m.vars n.vars)
        ∙ ap (λ w. add w (sum vs (spread m ns))) (medial (embed m.factor) (embed n.factor) (power vs m.vars) (power vs n.vars))
        ∙ ap (add (mul (mul (embed m.factor) (power vs m.vars)) (mul (embed n.factor) (power vs n.vars)))) (sum-spread vs m ns)
        ∙ sym (r.mul_add _ _ _)
      where
        medial : (a b c d : A) → mul (mul a b) (mul c d) ≡ mul (mul a c) (mul b d)
        medial a b c d = r.mul_assoc a b (mul c d) ∙ ap (mul a) (mul_left b c d) ∙ sym (r.mul_assoc a c (mul b d))

    sum-multiplied : (vs : List A) (ms ns : List Monomial) → sum vs (multiplied ms ns) ≡ mul (sum vs ms) (sum vs ns)
    sum-multiplied vs [] ns = sym (r.mul_comm (embed (pos 0)) (sum vs ns) ∙ mul_zero (sum vs ns))
    sum-multiplied vs (m ∷ ms) ns =
        sum-joined vs (spread m ns) (multiplied ms ns)
        ∙ ap (λ w. add w (sum vs (multiplied ms ns))) (sum-spread vs m ns)
        ∙ ap (add (mul (mul (embed m.factor) (power vs m.vars)) (sum vs ns))) (sum-multiplied vs ms ns)
        ∙ sym (add_mul _ _ _)

    sum-normal : (vs : List A) (t : Term) → sum vs (normal t) ≡ worth vs t
    sum-normal vs (var i) = add_zero _ ∙ r.one_mul _ ∙ mul_one _
    sum-normal vs (number z) = add_zero _ ∙ mul_one _
    sum-normal vs (plus a b) = sum-joined vs (normal a) (normal b) ∙ ap (λ w. add w (sum vs (normal b))) (sum-normal vs a) ∙ ap (add (worth vs a)) (sum-normal vs b)
    sum-normal vs (minus a b) =
        sum-joined vs (normal a) (scaled (negsuc 0) (normal b)) ∙ ap (λ w. add w (sum vs (scaled (negsuc 0) (normal b)))) (sum-normal vs a)
        ∙ ap (add (worth vs a)) (sum-scaled vs (negsuc 0) (normal b) ∙ minus_one _ ∙ ap neg (sum-normal vs b))
    sum-normal vs (times a b) = sum-multiplied vs (normal a) (normal b) ∙ ap (λ w. mul w (sum vs (normal b))) (sum-normal vs a) ∙ ap (mul (worth vs a)) (sum-normal vs b)
    sum-normal vs (negated a) = sum-scaled vs (negsuc 0) (normal a) ∙ minus_one _ ∙ ap neg (sum-normal vs a)

    sum-vanishes : (vs : List A) (ms : List Monomial) → vanishes ms ≡ true → sum vs ms ≡ embed (pos 0)
    sum-vanishes vs [] h = refl
    sum-vanishes vs (m ∷ ms) h =
        let two = and-true (is_zero m.factor) (vanishes ms) h in
        ap (λ z. add (mul (embed z) (power vs m.vars)) (sum vs ms)) (zero_is m.factor two.0)
        ∙ ap (λ w. add w (sum vs ms)) (r.mul_comm (embed (pos 0)) (power vs m.vars) ∙ mul_zero _)
        ∙ r.zero_add _ ∙ sum-vanishes vs ms two.1

    equal_from : (x y : A) → add x (neg y) ≡ embed (pos 0) → x ≡ y
    equal_from x y h = cancel (neg y) x y (r.add_comm (neg y) x ∙ h ∙ sym (r.add_comm (neg y) y ∙ r.add_neg y))

    zero_from : (x y : A) → x ≡ y → add x (neg y) ≡ embed (pos 0)
    zero_from x y h = ap (λ w. add w (neg y)) h ∙ r.add_neg y

    -- two terms with the same polynomial are equal at all values
    pub ring : (vs : List A) (a b : Term) → vanishes (normal (minus a b)) ≡ true → worth vs a ≡ worth vs b
    ring vs a b h = equal_from _ _ (sym (sum-normal vs (minus a b)) ∙ sum-vanishes vs (normal (minus a b)) h)

    -- and where their difference is a multiple of that of two equal terms
    pub ring_by : (vs : List A) (a b k l l' : Term) → vanishes (normal (minus (minus a b) (times k (minus l l')))) ≡ true → worth vs l ≡ worth vs l' → worth vs a ≡ worth vs b
    ring_by vs a b k l l' h e =
        equal_from _ _ (ring vs (minus a b) (times k (minus l l')) h ∙ ap (mul (worth vs k)) (zero_from _ _ e) ∙ mul_zero _)
