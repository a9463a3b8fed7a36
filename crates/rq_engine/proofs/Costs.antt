-- Data rows and penalty rows have costs at every quantile.
use Rattle.std.proofs.Common.{◌≡◌, ◌<◌, ℕ, [], ◌∷◌, length, pos, inl, inr, refl, sym, ap, subst, ◌∙◌}
use Rattle.std.proofs.lemmas.Bool.{cases_lt}
use Rattle.rational_laws.proofs.OrderLaws.{cmp_ℚ-Less, le_from_not, ≤ℚ-minus}
use Rattle.rational_laws.specs.Fraction.{rational}
use Rattle.rational_laws.specs.Rational.{ℚ, ◌+ℚ◌, ◌*ℚ◌, whole, ◌≤ℚ◌}
use Rattle.rational_laws.proofs.RationalLaws.{≤ℚ_trans, ring_ℚ}
use Rattle.rational_laws.specs.Solver.{number, ◌⊞◌, ◌⊟◌, ◌⊠◌, v0, v1}
use Rattle.frac_core.specs.Values.{value}
use Rattle.loss_model.specs.Problem.{sample}
use Rattle.loss_model.specs.Sample.{Sample, up_cost, down_cost}
use Rattle.pivot_model.specs.Duals.{HasCosts}
use Rattle.pivot_model.proofs.DataRows.{IsCosted, row_costs}
use Rattle.rq_words.specs.declared.job.FitJob.{FitJob}
use Rattle.rq_program.specs.Costs.{IsPenaltyRow}
use Rattle.rq_input.specs.Rows.{HasRows}
use Rattle.rq_input.specs.declared.input.Input.{Input}
use Rattle.rq_engine.specs.Asks.{IsFitAsk}

-- a number above 0 and itself again are above 0
twice_above : (x : ℚ) → ¬ (x ≤ℚ whole (pos 0)) → ¬ ((x +ℚ x) ≤ℚ whole (pos 0))
twice_above x above h =
    above (≤ℚ_trans x (x +ℚ x) (whole (pos 0)) ((≤ℚ-minus x (x +ℚ x)).1 (subst (λ z. whole (pos 0) ≤ℚ z) (sym (ring_ℚ (x ∷ []) (v0 ⊞ v0 ⊟ v0) v0 refl)) (le_from_not (whole (pos 0)) x above))) h)

penalty_costs : (p : Sample) (theta : ℚ) (i : ℕ) → IsPenaltyRow p i → IsCosted p theta i
penalty_costs p theta i row =
    record {
      up = subst (λ z. whole (pos 0) ≤ℚ z) (sym up) lambda;
      down = subst (λ z. whole (pos 0) ≤ℚ z) (sym down) lambda;
      some = λ h. twice_above (p.up0 i) above (subst (λ z. z ≤ℚ whole (pos 0)) (ap (λ z. z +ℚ down_cost p theta i) up ∙ ap (λ z. p.up0 i +ℚ z) down) h);
    }
  where
    above : ¬ (p.up0 i ≤ℚ whole (pos 0))
    above = (cmp_ℚ-Less (whole (pos 0)) (p.up0 i)).0 row.weighted

    lambda : whole (pos 0) ≤ℚ p.up0 i
    lambda = le_from_not (whole (pos 0)) (p.up0 i) above

    -- a cost that doesn't change with theta
    steady : (x : ℚ) → x +ℚ (whole (pos 0) *ℚ theta) ≡ x
    steady x = ring_ℚ (x ∷ theta ∷ []) (v0 ⊞ number (pos 0) ⊠ v1) v0 refl

    up : up_cost p theta i ≡ p.up0 i
    up = ap (λ z. p.up0 i +ℚ (z *ℚ theta)) row.up1 ∙ steady (p.up0 i)

    down : down_cost p theta i ≡ p.up0 i
    down = ap (λ z. z +ℚ (p.down1 i *ℚ theta)) row.down0 ∙ ap (λ z. p.up0 i +ℚ (z *ℚ theta)) row.down1 ∙ steady (p.up0 i)

-- at a quantile the costs of an input's rows are not negative, and their sums are above 0
pub input_costs : (input : Input) (theta : ℚ) → whole (pos 0) ≤ℚ theta → theta ≤ℚ whole (pos 1) → HasRows input → HasCosts (sample value input.problem) theta
input_costs input theta low high rows =
    record { up = λ i l. (costed i l).up; down = λ i l. (costed i l).down; some = λ i l. (costed i l).some }
  where
    p : Sample
    p = sample value input.problem

    costed : (i : ℕ) → i < length input.problem.rows → IsCosted p theta i
    costed i l = elim (cases_lt i (length input.design.rows)) [
      | inl before ↦ row_costs p theta i low high (rows.are_data i before)
      | inr behind ↦ penalty_costs p theta i (rows.are_penalties i behind l)
    ]

-- so at both ends of the range that a job asks for
module _ (job : FitJob) (ask : IsFitAsk job) (input : Input) (rows : HasRows input) where
  pub low_costs : HasCosts (sample value input.problem) (rational (value job.lo))
  low_costs = input_costs input (rational (value job.lo)) ask.low (≤ℚ_trans (rational (value job.lo)) (rational (value job.hi)) (whole (pos 1)) ask.ordered ask.high) rows

  pub high_costs : HasCosts (sample value input.problem) (rational (value job.hi))
  high_costs = input_costs input (rational (value job.hi)) (≤ℚ_trans (whole (pos 0)) (rational (value job.lo)) (rational (value job.hi)) ask.low ask.ordered) ask.high rows
