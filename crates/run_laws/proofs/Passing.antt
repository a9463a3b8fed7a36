-- Sound segments make the conditions on the segments of a certificate true.
use Rattle.std.proofs.Common.{◌≡◌, ℕ, zero, suc, ◌+◌, ◌-◌, ◌<◌, ◌⊎◌, Bool, true, false, eqb, List, ◌++◌, All, length, slice_get, Option, Some, pos, if◌then◌else◌, inl, inr, arith, refl, sym, ap, subst, ◌∙◌}
use Rattle.std.specs.Option.{option_map_or}
use Rattle.std.specs.declared.cmp.Ordering.TheVariants.{Less}
use Rattle.std.proofs.lemmas.Int.{ints}
use Rattle.std.proofs.lemmas.Bool.{cases_lt, eq-eqb, eqb-true}
use Rattle.std.proofs.lemmas.Option.{slice_get_within}
use Rattle.rational_laws.specs.Fraction.{Fraction, rational}
use Rattle.rational_laws.specs.Order.{cmp_ℚ}
use Rattle.rational_laws.specs.Rational.{ℚ, ◌*ℚ◌, neg_ℚ, whole, ◌≤ℚ◌}
use Rattle.rational_laws.proofs.OrderLaws.{cmp_ℚ-Less, le_from_not}
use Rattle.rational_laws.proofs.RationalLaws.{≤ℚ_refl}
use Rattle.rational_laws.proofs.RationalSumLaws.{sum_ℚ-same}
use Rattle.rational_laws.proofs.WholeNumbers.{whole-le}
use Rattle.frac_core.specs.declared.frac128.Frac128.{Frac128}
use Rattle.frac_core.specs.Values.{value as value128}
use Rattle.loss_model.specs.declared.problem.Problem.{Problem}
use Rattle.loss_model.specs.declared.problem.Row.{Row}
use Rattle.loss_model.specs.declared.process.Segment.{Segment}
use Rattle.loss_model.specs.declared.vertex.Side.{Side}
use Rattle.loss_model.specs.declared.vertex.Side.TheVariants.{Up, Down, Basic}
use Rattle.loss_model.specs.Problem.{sample, number_at}
use Rattle.loss_model.specs.Sample.{up_cost, down_cost}
use Rattle.loss_model.specs.Segment.{Covers, of_segment, segments_of}
use Rattle.loss_model.specs.Strict.{◌<ℚ◌}
use Rattle.loss_model.specs.Vertex.{dual_value}
use Rattle.cert_checker.specs.Formulas as formula
use Rattle.cert_checker.specs.Formulas.{given, worth}
use Rattle.cert_checker.specs.Tests.{Holds, Test, AreTrue, one}
use Rattle.cert_checker.specs.declared.relation.Relation.TheVariants.{AtMost, Below, Equal}
use Rattle.cert_checker.specs.Conditions.{each, End, low_of, high_of, side_in, dual_at_row, bound_test, bounds, balance, balance_tests, balances, objective, loss_tests}
use Rattle.cert_checker.specs.Conditions.{losses, costs, ends, first_end, order_of_ends, joint_end, joint_tests, joints, lo_at, hi_at, row_costs, row_form, segment_form}
use Rattle.cert_checker.proofs.Decided.{joined}
use Rattle.cert_checker.proofs.Shown.{row_dual}
use Rattle.cert_checker.proofs.Worths.{worth-sum, worth-loss}
use Rattle.cert_checker.proofs.Wholes.{true_upto}
use Rattle.run_laws.specs.Sound.{IsSoundEnd, IsSoundSegment, AreCosts, AreSound}
use Rattle.run_laws.proofs.Made.{item_at, all_each, all_of}

-- ---- form

rows_formed : (p : Problem Frac128) → All (λ (r : Row Frac128). length r.x ≡ p.columns) p.rows → AreTrue (each p.rows (row_form p))
rows_formed p entries =
    all_each p.rows (row_form p) (λ i r e. ((ap (λ (n : ℕ). whole (pos n)) (item_at (λ (r : Row Frac128). length r.x ≡ p.columns) p.rows entries i r e), tt), tt))

segment_formed : (p : Problem Frac128) (j : ℕ) (s : Segment) → IsSoundSegment p s → AreTrue (segment_form p j s)
segment_formed p j s h =
    let count : (a b : ℕ) → a ≡ b → whole (pos a) ≡ whole (pos b) = λ a b e. ap (λ (n : ℕ). whole (pos n)) e in (
      (count _ _ h.vertex.coef, tt),
      (
        (count _ _ h.vertex.sides, tt),
        (
          (count _ _ h.vertex.size, tt),
          ((count _ _ (h.at_lo.size ∙ h.vertex.size), tt), ((count _ _ (h.at_hi.size ∙ h.vertex.size), tt), tt)),
        ),
      ),
    )

-- ---- costs

costs_true : (p : Problem Frac128) (lo hi : ℚ) → lo ≤ℚ hi → AreCosts p lo → AreCosts p hi → AreTrue (costs (sample value128 p) lo hi)
costs_true p lo hi ordered low high = (
  (ordered, tt),
  true_upto (length p.rows) (row_costs (sample value128 p) lo hi) (λ i l.
      let a = low i l in
      let b = high i l in
      ((a.0, tt), ((a.1, tt), ((b.0, tt), ((b.1, tt), tt))))),
)

-- ---- ends

order_true : (b : Bool) (x y : ℚ) → x ≤ℚ y → (b ≡ false → x <ℚ y) → Holds (if b then AtMost else Below) x y
order_true true x y h k = h
order_true false x y h k = k refl

not_both : (n : ℕ) → eqb n 1 ≡ false → n ≡ 1 → ⊥
not_both n e f = absurd (cc (sym (eq-eqb n 1 f) ∙ e))

chosen : (b : Bool) (xs ys : List Test) → (b ≡ true → AreTrue xs) → (b ≡ false → AreTrue ys) → AreTrue (if b then xs else ys)
chosen true xs ys h k = h refl
chosen false xs ys h k = k refl

module _ (p : Problem Frac128) (from to : ℚ) (segments : List Segment) (c : Covers (length p.rows) from to (segments_of value128 p segments)) where
  strict : (j : ℕ) → cmp_ℚ (lo_at segments j) (hi_at segments j) ≡ Less → lo_at segments j <ℚ hi_at segments j
  strict j e = (cmp_ℚ-Less (lo_at segments j) (hi_at segments j)).0 e

  -- a single segment has the ends of the range
  point : (j : ℕ) → j < length segments → length segments ≡ 1 → from ≡ to → lo_at segments j ≤ℚ hi_at segments j
  point j l one same =
      let zeroth : j ≡ 0 = omega (arith, l, one) in
      let last : length segments - 1 ≡ j = omega (arith, l, one) in
      let low : lo_at segments j ≡ from = ap (lo_at segments) zeroth ∙ c.first in
      let high : hi_at segments j ≡ to = ap (hi_at segments) (sym last) ∙ c.last in
      subst (λ z. lo_at segments j ≤ℚ z) (low ∙ same ∙ sym high) (≤ℚ_refl (lo_at segments j))

  in_order : (j : ℕ) → j < length segments → AreTrue (order_of_ends segments j)
  in_order j l = ((by (c.proper j l), tt), tt)
    where
      by : (cmp_ℚ (lo_at segments j) (hi_at segments j) ≡ Less) ⊎ ((length segments ≡ 1) × (from ≡ to))
          → Holds (if eqb (length segments) 1 then AtMost else Below) (lo_at segments j) (hi_at segments j)
      by (inl e) = order_true (eqb (length segments) 1) _ _ (le_from_not (lo_at segments j) (hi_at segments j) (strict j e)) (λ _. strict j e)
      by (inr e) = order_true (eqb (length segments) 1) _ _ (point j l e.0 e.1) (λ f. absurd (not_both (length segments) f e.0))

  begins : (j : ℕ) → AreTrue (first_end segments from j)
  begins zero = ((c.first, tt), tt)
  begins (suc j) = tt

  joined_at : (j : ℕ) → j < length segments → AreTrue (joint_end segments to j)
  joined_at j l =
      chosen (eqb (j + 1) (length segments)) _ _
      (λ e.
      let last : j ≡ length segments - 1 = omega (arith, eqb-true (j + 1) (length segments) e) in
      ((ap (hi_at segments) last ∙ c.last, tt), tt))
      (λ e. ((c.joined j (before e), tt), tt))
    where
      before : eqb (j + 1) (length segments) ≡ false → j + 1 < length segments
      before e = elim (cases_lt (j + 1) (length segments)) [
        | inl below ↦ below
        | inr above ↦ absurd (cc (sym (eq-eqb (j + 1) (length segments) (omega (arith, above, l))) ∙ e))
      ]

  ends_true : AreTrue (ends segments from to)
  ends_true =
      let some = c.some in (
        (whole-le (pos 1) (pos (length segments)) (omega (arith, ints, some)), tt),
        true_upto (length segments) (λ j. first_end segments from j ++ (order_of_ends segments j ++ joint_end segments to j))
            (λ j l. joined (first_end segments from j) _ (begins j) (joined (order_of_ends segments j) (joint_end segments to j) (in_order j l) (joined_at j l))),
      )

-- ---- one end

module _ (p : Problem Frac128) (e : End) (sides : length e.vertex.sides ≡ length p.rows) where
  -- the dual value of a row, as the formulas have it
  dual_is : (i : ℕ) → i < length p.rows → worth (dual_at_row (sample value128 p) e i) ≡ dual_value value128 p e.vertex e.basic e.theta i
  dual_is i l = row_dual p e i (omega (arith, sides, l))

  bound_true : (condition j i : ℕ) (s : Side)
      → worth (dual_at_row (sample value128 p) e i) ≤ℚ up_cost (sample value128 p) e.theta i
      → neg_ℚ (down_cost (sample value128 p) e.theta i) ≤ℚ worth (dual_at_row (sample value128 p) e i)
      → AreTrue (bound_test condition j (sample value128 p) e i s)
  bound_true condition j i Up h k = tt
  bound_true condition j i Down h k = tt
  bound_true condition j i Basic h k = ((h, (k, tt)), tt)

  module _ (stated : Fraction) (sound : IsSoundEnd p e.vertex e.theta e.basic stated) where
    bounds_true : (condition j : ℕ) → AreTrue (bounds condition (sample value128 p) j e)
    bounds_true condition j =
        true_upto (length p.rows) (λ i. bound_test condition j (sample value128 p) e i (side_in e.vertex i)) (λ i l.
        bound_true condition j i (side_in e.vertex i)
        (subst (λ z. z ≤ℚ up_cost (sample value128 p) e.theta i) (sym (dual_is i l)) (sound.dual.feasible.upper i l))
        (subst (λ z. neg_ℚ (down_cost (sample value128 p) e.theta i) ≤ℚ z) (sym (dual_is i l)) (sound.dual.feasible.lower i l)))

    balance_is : (k : ℕ) → k < p.columns → worth (balance (sample value128 p) e k) ≡ whole (pos 0)
    balance_is k l =
        let x = (sample value128 p).x in
        worth-sum (length p.rows) (λ i. formula.times (dual_at_row (sample value128 p) e i) (given (x i k)))
        ∙ sum_ℚ-same (length p.rows) (λ i. worth (dual_at_row (sample value128 p) e i) *ℚ x i k) (λ i. dual_value value128 p e.vertex e.basic e.theta i *ℚ x i k)
        (λ i m. ap (λ z. z *ℚ x i k) (dual_is i m))
        ∙ sound.dual.feasible.balanced k l

    balances_true : (j before : ℕ) → AreTrue (balance_tests (sample value128 p) j before e)
    balances_true j before =
        true_upto p.columns (λ k. one 6 j (before + k + 1) (balance (sample value128 p) e k) Equal (given (whole (pos 0)))) (λ k l. ((balance_is k l, tt), tt))

    objective_is : worth (objective (sample value128 p) e) ≡ rational stated
    objective_is =
        let y = (sample value128 p).y in
        worth-sum (length p.rows) (λ i. formula.times (given (y i)) (dual_at_row (sample value128 p) e i))
        ∙ sum_ℚ-same (length p.rows) (λ i. y i *ℚ worth (dual_at_row (sample value128 p) e i)) (λ i. y i *ℚ dual_value value128 p e.vertex e.basic e.theta i)
        (λ i m. ap (λ z. y i *ℚ z) (dual_is i m))
        ∙ sym sound.dual.equal ∙ sym sound.lost

    losses_true : (j inner : ℕ) → AreTrue (loss_tests (sample value128 p) j e stated inner)
    losses_true j inner =
        ((sound.lost ∙ sym (worth-loss (sample value128 p) e.theta (number_at e.vertex.coef)), tt), ((sym objective_is, tt), tt))

-- ---- all segments

-- a number of segment j
number_of : (segments : List Segment) (f : Segment → ℚ) (j : ℕ) (s : Segment) → slice_get segments j ≡ Some s → of_segment segments f j ≡ f s
number_of segments f j s e = ap (λ (o : Option Segment). option_map_or f o (whole (pos 0))) e

module _ (p : Problem Frac128) (lo hi : Frac128) (segments : List Segment) (h : AreSound p lo hi segments) where
  sound : (j : ℕ) (s : Segment) → slice_get segments j ≡ Some s → IsSoundSegment p s
  sound j s e = item_at (IsSoundSegment p) segments h.each j s e

  pub are_rows : AreTrue (each p.rows (row_form p))
  are_rows = rows_formed p h.shaped.entries

  pub are_formed : AreTrue (each segments (segment_form p))
  are_formed = all_each segments (segment_form p) (λ j s e. segment_formed p (j + 1) s (sound j s e))

  pub are_costs : AreTrue (costs (sample value128 p) (rational (value128 lo)) (rational (value128 hi)))
  are_costs = costs_true p (rational (value128 lo)) (rational (value128 hi)) h.ordered h.costs_lo h.costs_hi

  pub are_ends : AreTrue (ends segments (rational (value128 lo)) (rational (value128 hi)))
  are_ends = ends_true p (rational (value128 lo)) (rational (value128 hi)) segments h.covers

  pub are_bounds_lo : AreTrue (each segments (λ j s. bounds 4 (sample value128 p) j (low_of s)))
  are_bounds_lo =
      all_each segments (λ j s. bounds 4 (sample value128 p) j (low_of s)) (λ j s e.
      let right = sound j s e in bounds_true p (low_of s) right.vertex.sides s.loss_lo right.at_lo 4 (j + 1))

  pub are_bounds_hi : AreTrue (each segments (λ j s. bounds 5 (sample value128 p) j (high_of s)))
  are_bounds_hi =
      all_each segments (λ j s. bounds 5 (sample value128 p) j (high_of s)) (λ j s e.
      let right = sound j s e in bounds_true p (high_of s) right.vertex.sides s.loss_hi right.at_hi 5 (j + 1))

  pub are_balances : AreTrue (each segments (balances (sample value128 p)))
  are_balances =
      all_each segments (balances (sample value128 p)) (λ j s e.
      let right = sound j s e in
      joined (balance_tests (sample value128 p) (j + 1) 0 (low_of s)) (balance_tests (sample value128 p) (j + 1) p.columns (high_of s))
      (balances_true p (low_of s) right.vertex.sides s.loss_lo right.at_lo (j + 1) 0)
      (balances_true p (high_of s) right.vertex.sides s.loss_hi right.at_hi (j + 1) p.columns))

  pub are_losses : AreTrue (each segments (losses (sample value128 p)))
  are_losses =
      all_each segments (losses (sample value128 p)) (λ j s e.
      let right = sound j s e in
      joined (loss_tests (sample value128 p) (j + 1) (low_of s) s.loss_lo 1) (loss_tests (sample value128 p) (j + 1) (high_of s) s.loss_hi 3)
      (losses_true p (low_of s) right.vertex.sides s.loss_lo right.at_lo (j + 1) 1)
      (losses_true p (high_of s) right.vertex.sides s.loss_hi right.at_hi (j + 1) 3))

  -- where two segments meet
  meets : (j : ℕ) (s next : Segment) → slice_get segments j ≡ Some s → slice_get segments (j + 1) ≡ Some next → AreTrue (joint_tests (sample value128 p) (j + 1) s next)
  meets j s next here behind =
      true_upto (length p.rows)
      (λ i. one 8 (j + 1) (i + 1) (dual_at_row (sample value128 p) (high_of s) i) Equal (dual_at_row (sample value128 p) (low_of next) i))
      (λ i l.
      let low = low_of next in
      let high = high_of s in
      let at_hi = number_of segments (λ s. dual_value value128 p s.vertex s.basic_hi (rational s.hi) i) j s here in
      let at_lo = number_of segments (λ s. dual_value value128 p s.vertex s.basic_lo (rational s.lo) i) (j + 1) next behind in
      let same = h.covers.same j i (slice_get_within segments (j + 1) next behind) l in
      ((dual_is p high (sound j s here).vertex.sides i l ∙ sym at_hi ∙ same ∙ at_lo ∙ sym (dual_is p low (sound (j + 1) next behind).vertex.sides i l), tt), tt))

  pub are_joints : AreTrue (each segments (joints (sample value128 p) segments))
  are_joints =
      all_each segments (joints (sample value128 p) segments) (λ j s e.
      all_of segments (j + 1) (joint_tests (sample value128 p) (j + 1) s) (λ next behind. meets j s next e behind))
