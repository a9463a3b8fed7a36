-- There is one greedy start.
use Rattle.std.specs.Prelude.{◌≡◌, ◌⊎◌, ℕ, zero, suc, Bool, true, false, List, Option, Some, slice_set}
use Rattle.std.proofs.Common.{arith, refl, sym, ap, subst, ◌∙◌, inl, inr}
use Rattle.std.proofs.lemmas.Bool.{ltb-false}
use Rattle.std.specs.Prelude.{nat_lt}
use borrow.Author.Tests.{ltb-true}
use Rattle.loss_model.specs.Sample.{Sample}
use Rattle.loss_model.specs.Greedy.{Enters, Passes, IsLeastTaken, StartIsUnique}

-- there is one least position
one_least : (p : Sample) (start : List (Option ℕ)) (i q r : ℕ) → IsLeastTaken p start i q → IsLeastTaken p start i r → q ≡ r
one_least p start i q r h k = by (nat_lt q r) refl (nat_lt r q) refl
  where
    by : (s : Bool) → nat_lt q r ≡ s → (t : Bool) → nat_lt r q ≡ t → q ≡ r
    by true e t f = absurd (k.least q (ltb-true q r e) h.takes)
    by false e true f = absurd (h.least r (ltb-true r q f) k.takes)
    by false e false f = omega (arith, ltb-false q r e, ltb-false r q f)

one_next : (p : Sample) (i : ℕ) (before start other : List (Option ℕ)) → Passes p i before start ⊎ Enters p i before start → Passes p i before other ⊎ Enters p i before other → start ≡ other
one_next p i before start other (inl h) (inl k) = h.same ∙ sym k.same
one_next p i before start other (inl h) (inr k) = absurd (k.new h.spanned)
one_next p i before start other (inr h) (inl k) = absurd (h.new k.spanned)
one_next p i before start other (inr h) (inr k) =
    h.put ∙ ap (λ (q : ℕ). slice_set before q (Some i)) (one_least p before i h.position k.position h.least k.least) ∙ sym k.put

pub one_start : StartIsUnique
one_start p zero start other h k = h ∙ sym k
one_start p (suc i) start other (before, (h, next)) (before', (k, next')) =
    let P : List (Option ℕ) → Type 0 = λ b. Passes p i b other ⊎ Enters p i b other in
    one_next p i before start other next (subst P (sym (one_start p i before before' h k)) next')
