-- What is shown of a segment and the next one, from what is shown of its ends.
use Rattle.std.specs.Prelude.{◌≡◌, ℕ, ◌+◌, ◌<◌, List, length, slice_get, Some, None}
use Rattle.std.proofs.Common.{sym, ap, subst, ◌∙◌}
use Rattle.std.proofs.lemmas.Option.{same_Some, none-some}
use Rattle.rational_laws.specs.Fraction.{rational}
use Rattle.rational_laws.specs.Rational.{◌*ℚ◌}
use Rattle.rational_laws.proofs.RationalSumLaws.{sum_ℚ-same}
use Rattle.frac_core.specs.declared.frac128.Frac128.{Frac128}
use Rattle.frac_core.specs.Values.{value as value128}
use Rattle.loss_model.specs.declared.problem.Problem.{Problem}
use Rattle.loss_model.specs.declared.process.Segment.{Segment}
use Rattle.loss_model.specs.Problem.{number_at, sample}
use Rattle.loss_model.specs.Sample.{residual}
use Rattle.loss_model.specs.Vertex.{basic_value, IsOn}
use Rattle.cert_sums.specs.Duals.{side_in}
use Rattle.cert_sums.specs.Ends.{low_dual, high_dual, DoMeet, IsBegun, IsEnded, IsHeld, IsHeldAt}
use Rattle.cert_sums.proofs.Losses.{lost_by_sides}

-- what holds of the item at a place
pub same_item : {A : Type 0} (xs : List A) (i : ℕ) (x y : A) (P : A → Type 0) → slice_get xs i ≡ Some x → slice_get xs i ≡ Some y → P x → P y
same_item xs i x y P e f h = subst P (same_Some x y (sym e ∙ f)) h

module _ (p : Problem Frac128) where
  -- the next segment begins as this one ends
  pub begun_next : (s next : Segment) → IsEnded p s → DoMeet p s next → rational s.loss_hi ≡ rational next.loss_lo → IsBegun p next
  begun_next s next h meet loss = record {
    balanced = λ k l. sym (sum_ℚ-same (length p.rows) (λ i. high_dual p s i *ℚ (sample value128 p).x i k) (λ i. low_dual p next i *ℚ (sample value128 p).x i k) (λ i m. ap (λ z. z *ℚ (sample value128 p).x i k) (meet i m))) ∙ h.balanced k l;
    objective = sym loss ∙ h.objective ∙ sum_ℚ-same (length p.rows) (λ i. (sample value128 p).y i *ℚ high_dual p s i) (λ i. (sample value128 p).y i *ℚ low_dual p next i) (λ i m. ap (λ z. (sample value128 p).y i *ℚ z) (meet i m));
  }

  -- residuals on their sides, and both ends
  pub held_from : (s : Segment) → ((i : ℕ) → i < length p.rows → IsOn (side_in s.vertex i) (residual (sample value128 p) (number_at s.vertex.coef) i)) → IsBegun p s → IsEnded p s → IsHeld p s
  held_from s on low high = record {
    low_balanced = low.balanced;
    high_balanced = high.balanced;
    low_loss = record {
      lost = low.objective ∙ sym (lost_by_sides (sample value128 p) (rational s.lo) (number_at s.vertex.coef) (basic_value s.vertex s.basic_lo) (side_in s.vertex) low.balanced on);
      objective = low.objective;
    };
    high_loss = record {
      lost = high.objective ∙ sym (lost_by_sides (sample value128 p) (rational s.hi) (number_at s.vertex.coef) (basic_value s.vertex s.basic_hi) (side_in s.vertex) high.balanced on);
      objective = high.objective;
    };
  }

  module _ (segments : List Segment) (place : ℕ) (s : Segment) (here : slice_get segments place ≡ Some s) where
    -- where another segment stands behind it
    pub held_before : (next : Segment) → slice_get segments (place + 1) ≡ Some next → IsHeld p s → DoMeet p s next → IsHeldAt p segments place
    held_before next behind h meet = record {
      held = λ t e. same_item segments place s t (IsHeld p) here e h;
      joint = λ t u e f. same_item segments place s t (λ t. DoMeet p t u) here e (same_item segments (place + 1) next u (λ u. DoMeet p s u) behind f meet);
    }

    -- where none does
    pub held_last : slice_get segments (place + 1) ≡ None → IsHeld p s → IsHeldAt p segments place
    held_last none h = record {
      held = λ t e. same_item segments place s t (IsHeld p) here e h;
      joint = λ t u e f. absurd (none-some u (sym none ∙ f));
    }
