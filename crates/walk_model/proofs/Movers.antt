-- The row that enters: over quantiles some row moves, and of rows that move one is the first.
use Rattle.std.specs.Prelude.{◌≡◌, ◌≢◌, ◌⊎◌, ℕ, zero, suc, ◌<◌, Bool, true, false, ◌==◌, if◌then◌else◌, [], ◌∷◌, pos}
use Rattle.std.specs.Ordering.{is_lt}
use Rattle.std.proofs.Common.{arith, refl, sym, ap, subst, ◌∙◌, inl, inr}
use borrow.Author.Tests.{eqb-true, eqb-false}
use Rattle.rational_laws.specs.Solver.{number, ◌⊞◌, v0}
use Rattle.rational_laws.specs.Rational.{ℚ, ◌+ℚ◌, whole, ◌≤ℚ◌}
use Rattle.rational_laws.proofs.RationalLaws.{ring_ℚ}
use Rattle.rational_laws.specs.RationalSums.{sum_ℚ}
use Rattle.rational_laws.proofs.RationalSumLaws.{sum_ℚ-same, sum_ℚ-zero}
use Rattle.rational_laws.proofs.OrderLaws.{cmp_ℚ-Less}
use Rattle.loss_model.specs.Sample.{Sample}
use Rattle.pivot_model.specs.declared.direction.Direction.{Direction}
use Rattle.pivot_model.specs.Basis.{IsBasis}
use Rattle.pivot_model.specs.Duals.{HasCosts, ◌<ℚ◌}
use Rattle.pivot_model.specs.Steps.{slope, moves, is_before, passing}
use Rattle.pivot_model.proofs.Entering.{enough}
use Rattle.pivot_model.proofs.Passing.{mover_order, before_trans, no}
use Rattle.walk_model.specs.Families.{over_quantiles}
use Rattle.walk_model.specs.Walks.{IsFirstMover, IsNextBreak, IsWalkingStep}
use Rattle.walk_model.specs.WalkTrails.{is_below}
use Rattle.walk_model.proofs.Slopes.{slope_is}

-- the first of the numbers below n that pass a test, by an order
pub record IsFirstOf (test : ℕ → Bool) (before : ℕ → ℕ → Bool) (n r : ℕ) : Type 0 where
  pub within : r < n
  pub passes : test r ≡ true
  pub least : (i : ℕ) → i < n → test i ≡ true → i ≢ r → before r i ≡ true

module _ (test : ℕ → Bool) (before : ℕ → ℕ → Bool) (rows : ℕ)
    (total : (i r : ℕ) → i < rows → test i ≡ true → i ≢ r → (before i r ≡ true) ⊎ (before r i ≡ true))
    (trans : (i r s : ℕ) → before i r ≡ true → before r s ≡ true → before i s ≡ true) where
  pub first_or_none : (n : ℕ) → (n < suc rows) → ((r : ℕ) × IsFirstOf test before n r) ⊎ ((i : ℕ) → i < n → test i ≡ false)
  first_or_none zero l = inr (λ i li. absurd (omega arith))
  first_or_none (suc n) l = by (first_or_none n (omega arith)) (test n) refl
    where
      last : (i : ℕ) → i < suc n → i ≢ n → i < n
      last i li other = omega arith

      by : ((r : ℕ) × IsFirstOf test before n r) ⊎ ((i : ℕ) → i < n → test i ≡ false) → (s : Bool) → test n ≡ s
          → ((r : ℕ) × IsFirstOf test before (suc n) r) ⊎ ((i : ℕ) → i < suc n → test i ≡ false)
      by (inr none) false e = inr (λ i li. at i li (i == n) refl)
        where
          at : (i : ℕ) → i < suc n → (s : Bool) → (i == n) ≡ s → test i ≡ false
          at i li true h = ap test (eqb-true i n h) ∙ e
          at i li false h = none i (last i li (eqb-false i n h))
      by (inr none) true e =
          inl (
            n,
            record {
              within = omega arith;
              passes = e;
              least = λ i li h other. absurd (no (sym h ∙ none i (last i li other)));
            },
          )
      by (inl (r, f)) false e =
          inl (
            r,
            record {
              within = let below : r < n = f.within in omega arith;
              passes = f.passes;
              least = λ i li h other. f.least i (last i li (λ s. no (sym h ∙ ap test s ∙ e))) h other;
            },
          )
      by (inl (r, f)) true e = at (total r n (let below : r < n = f.within in omega arith) f.passes differ)
        where
          differ : r ≢ n
          differ s = let below : r < n = f.within in omega arith

          at : (before r n ≡ true) ⊎ (before n r ≡ true) → ((r : ℕ) × IsFirstOf test before (suc n) r) ⊎ ((i : ℕ) → i < suc n → test i ≡ false)
          at (inl earlier) =
              inl (
                r,
                record {
                  within = let below : r < n = f.within in omega arith;
                  passes = f.passes;
                  least = λ i li h other. keep i li h other (i == n) refl;
                },
              )
            where
              keep : (i : ℕ) → i < suc n → test i ≡ true → i ≢ r → (s : Bool) → (i == n) ≡ s → before r i ≡ true
              keep i li h other true q = ap (before r) (eqb-true i n q) ∙ earlier
              keep i li h other false q = f.least i (last i li (eqb-false i n q)) h other
          at (inr earlier) =
              inl (
                n,
                record {
                  within = omega arith;
                  passes = e;
                  least = λ i li h other. keep i (last i li other) h (i == r) refl;
                },
              )
            where
              keep : (i : ℕ) → i < n → test i ≡ true → (s : Bool) → (i == r) ≡ s → before n i ≡ true
              keep i li h true q = ap (before n) (eqb-true i r q) ∙ earlier
              keep i li h false q = trans n r i earlier (f.least i li h (eqb-false i r q))

module _ (p : Sample) (at : ℕ → ℕ) (a : ℕ → ℕ → ℚ) (basis : IsBasis p at a) (j : ℕ) (d : Direction) where
  pub first_mover : ((r : ℕ) × IsFirstMover p at a j d r) ⊎ ((i : ℕ) → i < p.rows → moves p at a j d i ≡ false)
  first_mover = by (first_or_none (moves p at a j d) (is_before p at a j) p.rows (λ i r li h other. mover_order p at a j basis d i r li h other) (before_trans p at a j) p.rows (omega arith))
    where
      by : ((r : ℕ) × IsFirstOf (moves p at a j d) (is_before p at a j) p.rows r) ⊎ ((i : ℕ) → i < p.rows → moves p at a j d i ≡ false)
          → ((r : ℕ) × IsFirstMover p at a j d r) ⊎ ((i : ℕ) → i < p.rows → moves p at a j d i ≡ false)
      by (inl (r, f)) = inl (r, record { row = f.within; mover = f.passes; least = f.least })
      by (inr none) = inr none

  -- where no row moves, the slope at any value with costs is not negative
  pub stuck : (later : ℚ) → HasCosts p later → j < p.columns → ((i : ℕ) → i < p.rows → moves p at a j d i ≡ false) → whole (pos 0) ≤ℚ slope p at a later j d
  stuck later costs lj none =
      subst (λ z. whole (pos 0) ≤ℚ z) (ap (λ z. slope p at a later j d +ℚ z) nothing ∙ ring_ℚ (slope p at a later j d ∷ []) (v0 ⊞ number (pos 0)) v0 refl)
      (enough p at a later costs j d (basis.distinct.within j lj))
    where
      nothing : sum_ℚ p.rows (λ i. if moves p at a j d i then passing p at a later j i else whole (pos 0)) ≡ whole (pos 0)
      nothing =
          sum_ℚ-same p.rows (λ i. if moves p at a j d i then passing p at a later j i else whole (pos 0)) (λ i. whole (pos 0)) (λ i li. ap (λ s. if s then passing p at a later j i else whole (pos 0)) (none i li))
          ∙ sum_ℚ-zero p.rows

  pub enters_over_quantiles : (later : ℚ) → HasCosts p later → j < p.columns → slope p at a later j d <ℚ whole (pos 0) → (r : ℕ) × IsFirstMover p at a j d r
  enters_over_quantiles later costs lj below = by first_mover
    where
      by : ((r : ℕ) × IsFirstMover p at a j d r) ⊎ ((i : ℕ) → i < p.rows → moves p at a j d i ≡ false) → (r : ℕ) × IsFirstMover p at a j d r
      by (inl found) = found
      by (inr none) = absurd (below (stuck later costs lj none))

  pub some_row : (later : ℚ) → HasCosts p later → j < p.columns → slope p at a later j d <ℚ whole (pos 0) → (i : ℕ) × (i < p.rows) × (moves p at a j d i ≡ true)
  some_row later costs lj below =
      let found : (r : ℕ) × IsFirstMover p at a j d r = enters_over_quantiles later costs lj below in
      (found.0, found.1.row, found.1.mover)

pub walk_never_sticks : (p : Sample) (at : ℕ → ℕ) (a : ℕ → ℕ → ℚ) (from t hi : ℚ) (j : ℕ) (d : Direction) → IsBasis p at a → HasCosts p hi
    → IsNextBreak (over_quantiles p) at a from t j d → t <ℚ hi → (r : ℕ) × IsWalkingStep (over_quantiles p) at a (is_below hi) from t j r
walk_never_sticks p at a from t hi j d basis costs next before =
    let falls : slope p at a hi j d <ℚ whole (pos 0) = λ h. next.crosses.beyond hi before (subst (λ z. whole (pos 0) ≤ℚ z) (sym (slope_is p at a hi j d)) h) in
    let found : (r : ℕ) × IsFirstMover p at a j d r = enters_over_quantiles p at a basis j d hi costs next.position falls in (
      found.0,
      record {
        direction = d;
        break = next;
        within = ap is_lt ((cmp_ℚ-Less t hi).1 before);
        entering = found.1;
      },
    )
