-- Sums of terms that are put one after the other.
use Rattle.std.specs.Prelude.{◌≡◌, ℕ, ◌+◌, List, [], ◌∷◌, ◌++◌}
use Rattle.std.proofs.Common.{refl, sym, ap, ap₂, ◌∙◌}
use Rattle.rational_laws.specs.Fraction.{Fraction, rational}
use Rattle.rational_laws.specs.Rational.{ℚ, ◌+ℚ◌}
use Rattle.rational_laws.specs.RationalSums.{sum_ℚ}
use Rattle.rational_laws.specs.Solver.{◌⊞◌, v0, v1, v2}
use Rattle.rational_laws.proofs.RationalLaws.{ring_ℚ}
use Rattle.rational_laws.proofs.RationalSumLaws.{sum_ℚ-next}
use Rattle.ratio.specs.Sums.{total}
use Rattle.ratio.proofs.Totals.{total_push}

-- one more of the terms f
pub term_more : (f : ℕ → ℚ) (first : ℚ) (k : ℕ) (terms grown : List Fraction) (x : Fraction) → total terms ≡ first +ℚ sum_ℚ k f → rational x ≡ f k → grown ≡ terms ++ x ∷ [] → total grown ≡ first +ℚ sum_ℚ (k + 1) f
term_more f first k terms grown x before is pushed =
    ap total pushed ∙ total_push terms x ∙ ap₂ (λ a b. a +ℚ b) before is
    ∙ ring_ℚ (first ∷ sum_ℚ k f ∷ f k ∷ []) ((v0 ⊞ v1) ⊞ v2) (v0 ⊞ (v1 ⊞ v2)) refl
    ∙ ap (λ z. first +ℚ z) (sym (sum_ℚ-next k f))
