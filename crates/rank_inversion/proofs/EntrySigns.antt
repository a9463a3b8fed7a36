-- The direction in which a dual value moves by an entry, by how that compares with 0.
use Rattle.std.specs.Prelude.{◌≡◌, true, pos}
use Rattle.std.specs.Ordering.{is_eq}
use Rattle.std.specs.declared.cmp.Ordering.{Ordering}
use Rattle.std.specs.declared.cmp.Ordering.TheVariants.{Less, Equal, Greater}
use Rattle.std.proofs.Common.{sym}
use Rattle.rational_laws.specs.Rational.{ℚ, whole}
use Rattle.rational_laws.specs.Order.{cmp_ℚ}
use Rattle.rational_laws.proofs.OrderLaws.{cmp_ℚ-Equal}

pub stays_by : (x : ℚ) (o : Ordering) → o ≡ cmp_ℚ x (whole (pos 0)) → is_eq o ≡ true → x ≡ whole (pos 0)
stays_by x Less e h = absurd (cc h)
stays_by x Greater e h = absurd (cc h)
stays_by x Equal e h = (cmp_ℚ-Equal x (whole (pos 0))).0 (sym e)
