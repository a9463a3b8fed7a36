-- Stated. The problem of a design and of what smooths add to it (Koenker 2005, chapter 1; Koenker, Ng and
-- Portnoy 1994).
use Rattle.std.specs.Prelude.{◌≡◌, ℕ, ◌+◌, ◌<◌, List, ◌++◌, All, length, map, replicate, zip, pos}
use Rattle.rational_laws.specs.Rational.{ℚ, neg_ℚ, whole}
use Rattle.frac_core.specs.declared.frac128.Frac128.{Frac128}
use Rattle.frac_core.specs.Values.{exact}
use Rattle.loss_model.specs.declared.problem.Row.{Row}
use Rattle.design_matrix.specs.declared.design.Design.{Design}
use Rattle.design_matrix.specs.declared.design.DesignRow.{DesignRow}
use Rattle.tv_penalty.specs.declared.PenaltyRow.{PenaltyRow}
use Rattle.tv_penalty.specs.declared.Smoothing.{Smoothing}

-- a data row: the entries of the design and those of the smooths, and a cost of the weight times the
-- quantile above the fit, and of the weight times what the quantile leaves of 1 below it
abbrev pub data_row : DesignRow × List Frac128 → Row ℚ
data_row (r, smooth) = record {
  x = map exact r.x ++ map exact smooth;
  y = exact r.y;
  up0 = whole (pos 0);
  up1 = exact r.weight;
  down0 = exact r.weight;
  down1 = neg_ℚ (exact r.weight);
}

-- a penalty row: no entry in the design's columns, the response 0, and a cost of lambda on both
-- sides, whatever the quantile
abbrev pub penalty_row : ℕ → PenaltyRow → Row ℚ
penalty_row width r = record {
  x = replicate width (whole (pos 0)) ++ map exact r.x;
  y = whole (pos 0);
  up0 = exact r.lambda;
  up1 = whole (pos 0);
  down0 = exact r.lambda;
  down1 = whole (pos 0);
}

-- the rows of the design, and then the penalty rows
abbrev pub rows_of : Design → Smoothing → List (Row ℚ)
rows_of design smoothing =
    map data_row (zip design.rows smoothing.columns) ++ map (penalty_row (length design.names)) smoothing.rows

-- the columns of the design and those of the smooths
abbrev pub columns_of : Design → Smoothing → ℕ
columns_of design smoothing = length design.names + length smoothing.names

-- the entries go with the names, and there is a column
pub record AreTogether (design : Design) (smoothing : Smoothing) : Type 0 where
  pub entries : All (λ r. length r.x ≡ length design.names) design.rows
  pub lists : length smoothing.columns ≡ length design.rows
  pub smooth : All (λ xs. length xs ≡ length smoothing.names) smoothing.columns
  pub penalties : All (λ r. length r.x ≡ length smoothing.names) smoothing.rows
  pub some : 0 < columns_of design smoothing
