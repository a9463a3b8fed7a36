-- Laws of lists that are compared at the first entry that differs.
--
--     lex_cmp n u v ≡ Equal, Less           lex_cmp-Equal and same_from-lex_cmp; less_at and first_less
--     the other way round                   lex_cmp_swap
--     where the first difference is known   lex_cmp-first
--     with further entries                  lex_cmp-longer
--     an order                              less-trans, less-total
use Rattle.std.specs.Prelude.{◌≡◌, ◌≢◌, ◌⊎◌, ℕ, zero, suc, ◌<◌, ◌≤◌, Bool, true, false, ◌==◌}
use Rattle.std.specs.Ordering.{ordering_then, ordering_reverse}
use Rattle.std.specs.Cmp.{then_flip}
use Rattle.std.specs.declared.cmp.Ordering.{Ordering}
use Rattle.std.specs.declared.cmp.Ordering.TheVariants.{Less, Equal, Greater}
use Rattle.std.proofs.Common.{arith, refl, sym, ap, ap₂, subst, ◌∙◌, inl, inr}
use Rattle.std.proofs.lemmas.Bool.{cases_lt}
use borrow.Author.Tests.{eqb-true, eqb-false}
use Rattle.rational_laws.specs.Rational.{ℚ, ◌≤ℚ◌}
use Rattle.rational_laws.proofs.RationalLaws.{≤ℚ_trans}
use Rattle.rational_laws.specs.Order.{cmp_ℚ}
use Rattle.rational_laws.proofs.OrderLaws.{cmp_ℚ-Less, cmp_ℚ-Equal, cmp_ℚ_swap, le_from_not}
use Rattle.basis_model.specs.Lexicographic.{lex_cmp, IsLessAt}

pub lex_cmp-Equal : (n : ℕ) (u v : ℕ → ℚ) → ((i : ℕ) → i < n → u i ≡ v i) → lex_cmp n u v ≡ Equal
lex_cmp-Equal zero u v h = refl
lex_cmp-Equal (suc n) u v h =
    ap (λ o. ordering_then o (cmp_ℚ (u n) (v n))) (lex_cmp-Equal n u v (λ i l. h i (omega arith)))
    ∙ (cmp_ℚ-Equal (u n) (v n)).1 (h n (omega arith))

pub lex_cmp_swap : (n : ℕ) (u v : ℕ → ℚ) → lex_cmp n v u ≡ ordering_reverse (lex_cmp n u v)
lex_cmp_swap zero u v = refl
lex_cmp_swap (suc n) u v =
    ap₂ ordering_then (lex_cmp_swap n u v) (cmp_ℚ_swap (u n) (v n)) ∙ then_flip (lex_cmp n u v) (cmp_ℚ (u n) (v n))

kept : (o p : Ordering) → o ≢ Equal → ordering_then o p ≡ o
kept Less p h = refl
kept Equal p h = absurd (h refl)
kept Greater p h = refl

-- the first place at which lists differ decides
pub lex_cmp-first : (n m : ℕ) (u v : ℕ → ℚ) → m < n → ((i : ℕ) → i < m → u i ≡ v i) → u m ≢ v m → lex_cmp n u v ≡ cmp_ℚ (u m) (v m)
lex_cmp-first zero m u v l same differ = absurd (omega arith)
lex_cmp-first (suc n) m u v l same differ = by (m == n) refl (λ below. lex_cmp-first n m u v below same differ)
  where
    by : (t : Bool) → (m == n) ≡ t → (m < n → lex_cmp n u v ≡ cmp_ℚ (u m) (v m)) → ordering_then (lex_cmp n u v) (cmp_ℚ (u n) (v n)) ≡ cmp_ℚ (u m) (v m)
    by true e ih =
        let here : m ≡ n = eqb-true m n e in
        ap (λ o. ordering_then o (cmp_ℚ (u n) (v n))) (lex_cmp-Equal n u v (λ i li. same i (omega arith)))
        ∙ ap (λ k. cmp_ℚ (u k) (v k)) (sym here)
    by false e ih =
        let other : m ≢ n = eqb-false m n e in
        ap (λ o. ordering_then o (cmp_ℚ (u n) (v n))) (ih (omega arith))
        ∙ kept (cmp_ℚ (u m) (v m)) (cmp_ℚ (u n) (v n)) (λ s. differ ((cmp_ℚ-Equal (u m) (v m)).0 s))

-- further entries change nothing where the first ones differ
pub lex_cmp-longer : (n m : ℕ) (u v : ℕ → ℚ) → n ≤ m → lex_cmp n u v ≢ Equal → lex_cmp m u v ≡ lex_cmp n u v
lex_cmp-longer n zero u v l h = ap (λ k. lex_cmp k u v) (none n l)
  where
    none : (n : ℕ) → n ≤ 0 → zero ≡ n
    none n l = omega arith
lex_cmp-longer n (suc m) u v l h = by (n == suc m) refl (λ below. lex_cmp-longer n m u v below h)
  where
    by : (t : Bool) → (n == suc m) ≡ t → (n ≤ m → lex_cmp m u v ≡ lex_cmp n u v) → ordering_then (lex_cmp m u v) (cmp_ℚ (u m) (v m)) ≡ lex_cmp n u v
    by true e ih = sym (ap (λ k. lex_cmp k u v) (eqb-true n (suc m) e))
    by false e ih =
        let other : n ≢ suc m = eqb-false n (suc m) e in
        ap (λ o. ordering_then o (cmp_ℚ (u m) (v m))) (ih (omega arith)) ∙ kept (lex_cmp n u v) (cmp_ℚ (u m) (v m)) h

pub same_from-lex_cmp : (n : ℕ) (u v : ℕ → ℚ) → lex_cmp n u v ≡ Equal → (i : ℕ) → i < n → u i ≡ v i
same_from-lex_cmp zero u v h i l = absurd (omega arith)
same_from-lex_cmp (suc n) u v h i l = by (lex_cmp n u v) refl (λ e. same_from-lex_cmp n u v e)
  where
    at : ((i : ℕ) → i < n → u i ≡ v i) → u n ≡ v n → (t : Bool) → (i == n) ≡ t → u i ≡ v i
    at below last true e = ap u (eqb-true i n e) ∙ last ∙ ap v (sym (eqb-true i n e))
    at below last false e = let other : i ≢ n = eqb-false i n e in below i (omega arith)

    by : (o : Ordering) → lex_cmp n u v ≡ o → (lex_cmp n u v ≡ Equal → (i : ℕ) → i < n → u i ≡ v i) → u i ≡ v i
    by Less e ih = absurd (cc (sym (ap (λ o. ordering_then o (cmp_ℚ (u n) (v n))) e) ∙ h))
    by Equal e ih = at (ih e) ((cmp_ℚ-Equal (u n) (v n)).0 (sym (ap (λ o. ordering_then o (cmp_ℚ (u n) (v n))) e) ∙ h)) (i == n) refl
    by Greater e ih = absurd (cc (sym (ap (λ o. ordering_then o (cmp_ℚ (u n) (v n))) e) ∙ h))

pub less_at : (n place : ℕ) (u v : ℕ → ℚ) → place < n → IsLessAt u v place → lex_cmp n u v ≡ Less
less_at n place u v l h =
    let less : cmp_ℚ (u place) (v place) ≡ Less = (cmp_ℚ-Less (u place) (v place)).1 h.less in
    lex_cmp-first n place u v l h.same (λ e. cc (sym less ∙ (cmp_ℚ-Equal (u place) (v place)).1 e)) ∙ less

pub first_less : (n : ℕ) (u v : ℕ → ℚ) → lex_cmp n u v ≡ Less → (place : ℕ) × (place < n) × IsLessAt u v place
first_less zero u v h = absurd (cc h)
first_less (suc n) u v h = by (lex_cmp n u v) refl (λ e. first_less n u v e)
  where
    by : (o : Ordering) → lex_cmp n u v ≡ o → (lex_cmp n u v ≡ Less → (place : ℕ) × (place < n) × IsLessAt u v place) → (place : ℕ) × (place < suc n) × IsLessAt u v place
    by Less e ih = let found : (place : ℕ) × (place < n) × IsLessAt u v place = ih e in (found.0, omega (arith, found.1), found.2)
    by Equal e ih = (
      n,
      omega arith,
      record { same = same_from-lex_cmp n u v e; less = (cmp_ℚ-Less (u n) (v n)).0 (sym (ap (λ o. ordering_then o (cmp_ℚ (u n) (v n))) e) ∙ h) },
    )
    by Greater e ih = absurd (cc (sym (ap (λ o. ordering_then o (cmp_ℚ (u n) (v n))) e) ∙ h))

pub less-trans : (n : ℕ) (u v w : ℕ → ℚ) → lex_cmp n u v ≡ Less → lex_cmp n v w ≡ Less → lex_cmp n u w ≡ Less
less-trans n u v w h k = by (first_less n u v h) (first_less n v w k)
  where
    by : (place : ℕ) × (place < n) × IsLessAt u v place → (place : ℕ) × (place < n) × IsLessAt v w place → lex_cmp n u w ≡ Less
    by (p, lp, a) (q, lq, b) = at (cases_lt p q) (cases_lt q p)
      where
        at : (p < q) ⊎ (q ≤ p) → (q < p) ⊎ (p ≤ q) → lex_cmp n u w ≡ Less
        at (inl before) c =
            less_at n p u w lp (record {
              same = λ i l. a.same i l ∙ b.same i (omega arith);
              less = λ back. a.less (subst (λ z. z ≤ℚ u p) (sym (b.same p before)) back);
            })
        at (inr past) (inl before) =
            less_at n q u w lq (record {
              same = λ i l. a.same i (omega arith) ∙ b.same i l;
              less = λ back. b.less (subst (λ z. w q ≤ℚ z) (a.same q before) back);
            })
        at (inr past) (inr rest) =
            let together : q ≡ p = omega arith in
            less_at n p u w lp (record {
              same = λ i l. a.same i l ∙ b.same i (omega arith);
              less = λ back. b.less (subst (λ m. w m ≤ℚ v m) (sym together) (≤ℚ_trans (w p) (u p) (v p) back (le_from_not (u p) (v p) a.less)));
            })

-- lists that differ somewhere are one below the other
pub less-total : (n m : ℕ) (u v : ℕ → ℚ) → m < n → u m ≢ v m → (lex_cmp n u v ≡ Less) ⊎ (lex_cmp n v u ≡ Less)
less-total n m u v l differ = by (lex_cmp n u v) refl
  where
    by : (o : Ordering) → lex_cmp n u v ≡ o → (lex_cmp n u v ≡ Less) ⊎ (lex_cmp n v u ≡ Less)
    by Less e = inl e
    by Equal e = absurd (differ (same_from-lex_cmp n u v e m l))
    by Greater e = inr (lex_cmp_swap n u v ∙ ap ordering_reverse e)
