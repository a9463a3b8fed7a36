-- Which answer of a comparison a test of it tells.
use Rattle.std.proofs.Common.{◌≡◌, ◌≢◌, true, false, refl, Ordering, Less, Equal, Greater, is_lt, is_eq, is_gt}
use Rattle.std.specs.Ordering.{is_ne}

pub is_less : (o : Ordering) → is_lt o ≡ true → o ≡ Less
is_less Less h = refl
is_less Equal h = absurd (cc)
is_less Greater h = absurd (cc)

pub is_equal : (o : Ordering) → is_eq o ≡ true → o ≡ Equal
is_equal Less h = absurd (cc h)
is_equal Equal h = refl
is_equal Greater h = absurd (cc h)

pub is_greater : (o : Ordering) → is_gt o ≡ true → o ≡ Greater
is_greater Less h = absurd (cc)
is_greater Equal h = absurd (cc)
is_greater Greater h = refl

pub not_equal : (o : Ordering) → is_eq o ≡ false → o ≢ Equal
not_equal Less h e = absurd (cc e)
not_equal Equal h e = absurd (cc h)
not_equal Greater h e = absurd (cc e)

pub differs : (o : Ordering) → is_ne o ≡ true → o ≢ Equal
differs Less h e = absurd (cc e)
differs Equal h e = absurd (cc h)
differs Greater h e = absurd (cc e)
