-- Law. What a problem loses, in the subject's words: the weighted check loss of the records (Koenker 2005, chapter 1), and
-- what the penalties cost (Koenker, Ng and Portnoy 1994).
use Rattle.std.specs.Prelude.{◌≡◌, ℕ, ◌+◌, List, [], ◌∷◌, length, map, zip, pos}
use Rattle.rational_laws.specs.Rational.{ℚ, ◌+ℚ◌, ◌-ℚ◌, ◌*ℚ◌, whole}
use Rattle.rational_laws.specs.RationalSums.{positive_ℚ, negative_ℚ}
use Rattle.frac_core.specs.declared.frac128.Frac128.{Frac128}
use Rattle.frac_core.specs.Values.{exact, value}
use Rattle.loss_model.specs.declared.problem.Problem.{Problem}
use Rattle.loss_model.specs.Problem.{sample, IsWellShaped}
use Rattle.loss_model.specs.Sample.{loss}
use Rattle.loss_model.specs.Values.{exact_row}
use Rattle.design_matrix.specs.declared.design.Design.{Design}
use Rattle.design_matrix.specs.declared.design.DesignRow.{DesignRow}
use Rattle.tv_penalty.specs.declared.Smoothing.{Smoothing}
use Rattle.tv_penalty.specs.Smoothings.{exact_smoothing}
use Rattle.tv_penalty.specs.Variation.{along, penalty}
use Rattle.rq_program.specs.Programs.{AreTogether, rows_of}

-- the check loss of a residual at theta: theta times it above the fit, and 1 - theta times it below
abbrev pub check_loss : ℚ → ℚ → ℚ
check_loss theta r = (theta *ℚ positive_ℚ r) +ℚ ((whole (pos 1) -ℚ theta) *ℚ negative_ℚ r)

-- the residual of a record, where the design's columns have the coefficients b and those of the smooths c
abbrev pub record_residual : DesignRow × List Frac128 → (ℕ → ℚ) → (ℕ → ℚ) → ℚ
record_residual (r, smooth) b c = exact r.y -ℚ (along (map exact r.x) b +ℚ along (map exact smooth) c)

-- the weights times the check losses of these records, added
abbrev pub records_loss : List (DesignRow × List Frac128) → ℚ → (ℕ → ℚ) → (ℕ → ℚ) → ℚ
records_loss [] theta b c = whole (pos 0)
records_loss (q ∷ qs) theta b c = (exact q.0.weight *ℚ check_loss theta (record_residual q b c)) +ℚ records_loss qs theta b c

-- the coefficients of the smooths, which stand behind those of the design
abbrev pub smooth_part : Design → (ℕ → ℚ) → ℕ → ℚ
smooth_part design b j = b (length design.names + j)

-- a problem loses what its records lose and what its penalties cost
abbrev pub LossIsPenalised : Type 0
LossIsPenalised =
    (design : Design) (smoothing : Smoothing) (p : Problem Frac128) (theta : ℚ) (b : ℕ → ℚ)
    → AreTogether design smoothing → IsWellShaped p → map exact_row p.rows ≡ rows_of design smoothing
    → loss (sample value p) theta b
    ≡ records_loss (zip design.rows smoothing.columns) theta b (smooth_part design b) +ℚ penalty (exact_smoothing smoothing).rows (smooth_part design b)
