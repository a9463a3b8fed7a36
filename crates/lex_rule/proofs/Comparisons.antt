-- Perturbed ratios compared entry by entry.
use Rattle.std.specs.Prelude.{◌≡◌, ◌≢◌, ◌↔◌, ◌⊎◌, ℕ, zero, suc, ◌<◌, ◌≤◌, Bool, true, false, not, IsTrue, pos}
use Rattle.std.specs.Ordering.{is_ne, is_lt, ordering_reverse}
use Rattle.std.specs.declared.cmp.Ordering.{Ordering}
use Rattle.std.specs.declared.cmp.Ordering.TheVariants.{Less, Equal, Greater}
use Rattle.std.proofs.Common.{arith, refl, sym, ap, ap₂, subst, ◌∙◌, inl, inr}
use Rattle.std.proofs.lemmas.Bool.{cases_lt}
use Rattle.rational_laws.specs.Fraction.{Fraction, rational}
use Rattle.rational_laws.specs.Rational.{ℚ, ◌*ℚ◌, neg_ℚ, inverse, whole}
use Rattle.rational_laws.specs.Order.{cmp_ℚ}
use Rattle.rational_laws.proofs.OrderLaws.{cmp_ℚ-Equal, cmp_ℚ_swap}
use Rattle.rational_laws.proofs.Comparisons.{differs}
use Rattle.loss_model.specs.declared.vertex.Side.{Side}
use Rattle.loss_model.specs.declared.vertex.Side.TheVariants.{Up, Down}
use Rattle.loss_model.specs.declared.spill.Spill.{Spill}
use Rattle.basis_model.specs.Lexicographic.{lex_cmp}
use Rattle.basis_model.proofs.LexicographicLaws.{lex_cmp-first, lex_cmp-longer, same_from-lex_cmp}
use Rattle.basis_model.specs.Perturbed.{Nonbasic, IsOutside, perturbed, turned, side_of, ratio_on}
use Rattle.basis_model.proofs.PerturbedLaws.{perturbed-other, held_coordinate-at}
use Rattle.basis_model.proofs.Ratios.{ratio-none, ratio-own, own-up, own-down}
use Rattle.basis_model.specs.RatioSpill.{ratio_site, IsRatioEntrySpill}
use Rattle.lex_rule.specs.declared.quotient.Divisor.{Divisor}
use Rattle.lex_rule.specs.Divisor.{entry_over, IsDivisorSpill}
use Rattle.lex_rule.specs.Compared.{IsDivisorOf}
use Rattle.lex_rule.specs.Scan.{AreZeroBetween}

pub equal_from : (o : Ordering) → is_ne o ≡ false → o ≡ Equal
equal_from Less h = absurd (cc h)
equal_from Equal h = refl
equal_from Greater h = absurd (cc h)

-- ---- an entry of a ratio

module _ {F : Type 0} (value : F → Fraction) (n : ℕ) (at : ℕ → ℕ) (j : ℕ) (u : Nonbasic) (by : Divisor F) (d : IsDivisorOf value j u by) (m : ℕ) (x : F) (is : rational (value x) ≡ perturbed n at u m) where
  pub entry_is : entry_over value by x ≡ ratio_on by.side n at j u m
  entry_is = ap₂ (λ z w. turned by.side (z *ℚ inverse w)) is d.size

  pub entry_spill : (range : ℕ) (s : Spill F) → IsDivisorSpill value range by m x s → IsRatioEntrySpill value range n at j u m s
  entry_spill range s h =
      record {
        named = h.named ∙ ap₂ (λ r p. ratio_site r p m) d.row d.position;
        is_left = h.is_left ∙ is;
        is_right = h.is_right ∙ d.size;
        overflows = h.overflows;
      }

-- the entry of the row that position k of the basis holds
pub held_entry : (n : ℕ) (at : ℕ → ℕ) (u : Nonbasic) (k : ℕ) → IsOutside n at u.row → k < n → neg_ℚ (u.coord k) ≡ perturbed n at u (suc (at k))
held_entry n at u k out l = sym (perturbed-other n at u (at k) (out.outside k l) ∙ ap neg_ℚ (held_coordinate-at n at u.coord k out.apart l))

-- ---- two ratios

module _ (s t : Side) (n : ℕ) (at : ℕ → ℕ) (j : ℕ) (u v : Nonbasic) where
  abbrev pub AgreeBefore : ℕ → Type 0
  AgreeBefore m = (i : ℕ) → i < m → ratio_on s n at j u i ≡ ratio_on t n at j v i

  -- they agree at the entries of rows in a range in which no row of the basis has a coordinate
  pub agree_between : (from to : ℕ) → to ≤ u.row → to ≤ v.row → AreZeroBetween n at u.coord v.coord from to → AgreeBefore (suc from) → AgreeBefore (suc to)
  agree_between from to lu lv none agree zero l = agree 0 (omega arith)
  agree_between from to lu lv none agree (suc m) l = by (cases_lt m from)
    where
      by : (m < from) ⊎ (from ≤ m) → ratio_on s n at j u (suc m) ≡ ratio_on t n at j v (suc m)
      by (inl below) = agree (suc m) (omega arith)
      by (inr past) =
          let other : m ≢ u.row = omega arith in
          let apart : m ≢ v.row = omega arith in
          ratio-none s n at j u m other (λ k lk e. (none k lk (omega (arith, e)) (omega (arith, e))).left)
          ∙ sym (ratio-none t n at j v m apart (λ k lk e. (none k lk (omega (arith, e)) (omega (arith, e))).right))

  pub agree_more : (m : ℕ) → AgreeBefore m → ratio_on s n at j u m ≡ ratio_on t n at j v m → AgreeBefore (suc m)
  agree_more m agree here i l = by (cases_lt i m)
    where
      by : (i < m) ⊎ (m ≤ i) → ratio_on s n at j u i ≡ ratio_on t n at j v i
      by (inl below) = agree i below
      by (inr past) = let same : m ≡ i = omega arith in subst (λ i. ratio_on s n at j u i ≡ ratio_on t n at j v i) same here

  -- an entry that differs decides
  pub decided : (count m : ℕ) (o : Ordering) (x y : ℚ) → m < count → AgreeBefore m → x ≡ ratio_on s n at j u m → y ≡ ratio_on t n at j v m → o ≡ cmp_ℚ x y → o ≢ Equal → o ≡ lex_cmp count (ratio_on s n at j u) (ratio_on t n at j v)
  decided count m o x y l agree p q is some =
      is ∙ ap₂ cmp_ℚ p q
      ∙ sym (lex_cmp-first count m (ratio_on s n at j u) (ratio_on t n at j v) l agree
      (λ e. some (is ∙ (cmp_ℚ-Equal x y).1 (p ∙ e ∙ sym q))))

  -- and else the entry agrees
  pub same_entry : (m : ℕ) (o : Ordering) (x y : ℚ) → x ≡ ratio_on s n at j u m → y ≡ ratio_on t n at j v m → o ≡ cmp_ℚ x y → o ≡ Equal → ratio_on s n at j u m ≡ ratio_on t n at j v m
  same_entry m o x y p q is e = sym p ∙ (cmp_ℚ-Equal x y).0 (sym is ∙ e) ∙ q

  -- where all entries before them agree, the entry of the lesser row's own decides
  pub by_left : (rows : ℕ) → u.row < v.row → u.row < rows → IsOutside n at u.row → u.coord j ≢ whole (pos 0) → AgreeBefore (suc u.row)
      → lex_cmp (suc rows) (ratio_on s n at j u) (ratio_on t n at j v) ≡ cmp_ℚ (ratio_on s n at j u (suc u.row)) (whole (pos 0))
  by_left rows less l out some agree =
      let other : u.row ≢ v.row = omega arith in
      let none : ratio_on t n at j v (suc u.row) ≡ whole (pos 0) = ratio-none t n at j v u.row other (λ k lk e. absurd (out.outside k lk e)) in
      lex_cmp-first (suc rows) (suc u.row) (ratio_on s n at j u) (ratio_on t n at j v) (omega arith) agree (λ e. ratio-own s n at j u some (e ∙ none))
      ∙ ap (cmp_ℚ (ratio_on s n at j u (suc u.row))) none

  pub by_right : (rows : ℕ) → v.row < u.row → v.row < rows → IsOutside n at v.row → v.coord j ≢ whole (pos 0) → AgreeBefore (suc v.row)
      → lex_cmp (suc rows) (ratio_on s n at j u) (ratio_on t n at j v) ≡ cmp_ℚ (whole (pos 0)) (ratio_on t n at j v (suc v.row))
  by_right rows less l out some agree =
      let other : v.row ≢ u.row = omega arith in
      let none : ratio_on s n at j u (suc v.row) ≡ whole (pos 0) = ratio-none s n at j u v.row other (λ k lk e. absurd (out.outside k lk e)) in
      lex_cmp-first (suc rows) (suc v.row) (ratio_on s n at j u) (ratio_on t n at j v) (omega arith) agree (λ e. ratio-own t n at j v some (sym e ∙ none))
      ∙ ap (λ z. cmp_ℚ z (ratio_on t n at j v (suc v.row))) none

-- ---- what the last test tells

lt_less : (o : Ordering) → IsTrue (is_lt o) ↔ (o ≡ Less)
lt_less Less = (λ yes. refl, λ e. refl)
lt_less Equal = (λ yes. absurd (cc yes), λ e. absurd (cc e))
lt_less Greater = (λ yes. absurd (cc yes), λ e. absurd (cc e))

-- lists that differ at their first entries compare in the same way with the others
pub less_from_first : (rows end : ℕ) (o : Ordering) (f g : ℕ → ℚ) → end ≤ rows → o ≡ lex_cmp (suc end) f g → is_ne o ≡ true → IsTrue (is_lt o) ↔ (lex_cmp (suc rows) f g ≡ Less)
less_from_first rows end o f g l is differ =
    let same : o ≡ lex_cmp (suc rows) f g = is ∙ sym (lex_cmp-longer (suc end) (suc rows) f g (omega arith) (λ e. differs o differ (is ∙ e))) in
    subst (λ p. IsTrue (is_lt o) ↔ (p ≡ Less)) same (lt_less o)

pub side_cases : (o : Ordering) → (side_of o ≡ Up) ⊎ (side_of o ≡ Down)
side_cases Less = inr refl
side_cases Equal = inr refl
side_cases Greater = inl refl

module _ (n : ℕ) (at : ℕ → ℕ) (j : ℕ) (u : Nonbasic) (some : u.coord j ≢ whole (pos 0)) (s : Side) (b : Bool) (test : IsTrue b ↔ (s ≡ Down)) where
  pub below_zero : (s ≡ Up) ⊎ (s ≡ Down) → IsTrue b ↔ (cmp_ℚ (ratio_on s n at j u (suc u.row)) (whole (pos 0)) ≡ Less)
  below_zero (inl up) = (
    λ yes. cc (sym up ∙ test.0 yes),
    λ less. cc (sym (own-up s n at j u some up) ∙ less),
  )
  below_zero (inr down) = (λ yes. own-down s n at j u some down, λ less. test.1 down)

  pub above_zero : (s ≡ Up) ⊎ (s ≡ Down) → IsTrue (not b) ↔ (cmp_ℚ (whole (pos 0)) (ratio_on s n at j u (suc u.row)) ≡ Less)
  above_zero c = by c b refl
    where
      by : (s ≡ Up) ⊎ (s ≡ Down) → (t : Bool) → b ≡ t → IsTrue (not t) ↔ (cmp_ℚ (whole (pos 0)) (ratio_on s n at j u (suc u.row)) ≡ Less)
      by (inl up) true e = absurd (cc (sym up ∙ test.0 e))
      by (inl up) false e = (
        λ yes. cmp_ℚ_swap (ratio_on s n at j u (suc u.row)) (whole (pos 0)) ∙ ap ordering_reverse (own-up s n at j u some up),
        λ less. refl,
      )
      by (inr down) true e = (
        λ yes. absurd (cc yes),
        λ less. absurd (cc (sym less ∙ cmp_ℚ_swap (ratio_on s n at j u (suc u.row)) (whole (pos 0)) ∙ ap ordering_reverse (own-down s n at j u some down))),
      )
      by (inr down) false e = absurd (cc (sym (test.1 down) ∙ e))

-- where two ratios agree before the entry of the lesser row's own, the side of that row decides
module _ (rows n : ℕ) (at : ℕ → ℕ) (j : ℕ) (u v : Nonbasic) (s t : Side) (b : Bool) where
  pub left_decides : (end : ℕ) → end ≡ u.row → u.row < v.row → u.row < rows → IsOutside n at u.row → u.coord j ≢ whole (pos 0)
      → (IsTrue b ↔ (s ≡ Down)) → (s ≡ Up) ⊎ (s ≡ Down) → Equal ≡ lex_cmp (suc end) (ratio_on s n at j u) (ratio_on t n at j v)
      → IsTrue b ↔ (lex_cmp (suc rows) (ratio_on s n at j u) (ratio_on t n at j v) ≡ Less)
  left_decides end here less l out some test cases same =
      let first = by_left s t n at j u v rows less l out some (λ i li. same_from-lex_cmp (suc end) (ratio_on s n at j u) (ratio_on t n at j v) (sym same) i (omega arith)) in
      subst (λ o. IsTrue b ↔ (o ≡ Less)) (sym first) (below_zero n at j u some s b test cases)

  pub right_decides : (end : ℕ) → end ≡ v.row → v.row < u.row → v.row < rows → IsOutside n at v.row → v.coord j ≢ whole (pos 0)
      → (IsTrue b ↔ (t ≡ Down)) → (t ≡ Up) ⊎ (t ≡ Down) → Equal ≡ lex_cmp (suc end) (ratio_on s n at j u) (ratio_on t n at j v)
      → IsTrue (not b) ↔ (lex_cmp (suc rows) (ratio_on s n at j u) (ratio_on t n at j v) ≡ Less)
  right_decides end here less l out some test cases same =
      let first = by_right s t n at j u v rows less l out some (λ i li. same_from-lex_cmp (suc end) (ratio_on s n at j u) (ratio_on t n at j v) (sym same) i (omega arith)) in
      subst (λ o. IsTrue (not b) ↔ (o ≡ Less)) (sym first) (above_zero n at j v some t b test cases)
