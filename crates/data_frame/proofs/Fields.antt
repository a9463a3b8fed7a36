-- On the fields of a record.
use Rattle.std.proofs.Common.{◌≡◌, ℕ, zero, suc, List, [], ◌∷◌, Some, None, get_or, refl}
use Rattle.csv.specs.Records.{field_at}

pub field_is : (fs : List (List ℕ)) (i : ℕ) (x : List ℕ) → field_at fs i ≡ Some x → get_or fs i [] ≡ x
unfolding field_at
field_is [] i x e = absurd (cc e)
field_is (f ∷ fs) zero x e = cc e
field_is (f ∷ fs) (suc i) x e = field_is fs i x e

pub field_none : (fs : List (List ℕ)) (i : ℕ) → field_at fs i ≡ None → get_or fs i [] ≡ []
unfolding field_at
field_none [] zero e = refl
field_none [] (suc i) e = refl
field_none (f ∷ fs) zero e = absurd (cc e)
field_none (f ∷ fs) (suc i) e = field_none fs i e
