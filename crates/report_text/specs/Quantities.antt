-- Stated. The texts of a quantity and of an operation.
use Rattle.std.specs.Prelude.{ℕ, ◌+◌, List, codes}
use Rattle.frac_core.specs.declared.exact.OpKind.{OpKind}
use Rattle.frac_core.specs.declared.exact.OpKind.TheVariants.{Add, Sub, Mul, Div}
use Rattle.loss_model.specs.declared.spill.Quantity.{Quantity}
use Rattle.loss_model.specs.declared.spill.Quantity.TheVariants as quantities
use Rattle.loss_model.specs.declared.spill.Site.{Site}
use Rattle.report_text.specs.declared.quantity.PrintedIndices.{PrintedIndices}
use Rattle.report_text.specs.declared.quantity.PrintedIndices.TheVariants.{One, Two, Three}

-- the name of an operation
abbrev pub op_name : OpKind → List ℕ
op_name Add = codes "add"
op_name Sub = codes "sub"
op_name Mul = codes "mul"
op_name Div = codes "div"

-- the name of a quantity
abbrev pub quantity_name : Quantity → List ℕ
quantity_name quantities.Coordinate = codes "coordinate"
quantity_name quantities.Coefficient = codes "coefficient"
quantity_name quantities.Residual = codes "residual"
quantity_name quantities.NonbasicTotal = codes "nonbasic-total"
quantity_name quantities.BasicDual = codes "basic-dual"
quantity_name quantities.DualValue = codes "dual-value"
quantity_name quantities.CostValue = codes "cost-value"
quantity_name quantities.Slope = codes "slope"
quantity_name quantities.CostSum = codes "cost-sum"
quantity_name quantities.Crossing = codes "crossing"
quantity_name quantities.PerturbedRatio = codes "perturbed-ratio"
quantity_name quantities.ExchangedEntry = codes "exchanged-entry"
quantity_name quantities.Loss = codes "loss"
quantity_name quantities.Score = codes "score"
quantity_name quantities.ScaledEntry = codes "scaled-entry"
quantity_name quantities.Gram = codes "gram"
quantity_name quantities.Projection = codes "projection"
quantity_name quantities.SquaredLength = codes "squared-length"
quantity_name quantities.Ray = codes "ray"
quantity_name quantities.Statistic = codes "statistic"
quantity_name quantities.DesignEntry = codes "design-entry"
quantity_name quantities.PenaltyEntry = codes "penalty-entry"
quantity_name quantities.CheckSum = codes "check-sum"
quantity_name quantities.Prediction = codes "prediction"
quantity_name quantities.PathCost = codes "path-cost"
quantity_name quantities.ArithValue = codes "arith-value"
quantity_name quantities.OffsetResponse = codes "offset-response"

-- the indices i, j and k of a quantity as they are printed. Records, parts and ends, the entries of
-- perturbed ratios and the indices of a check-sum stand as they are; all others are counted from 1
abbrev pub printed : Quantity → ℕ → ℕ → ℕ → PrintedIndices
printed quantities.Coordinate i j k = Two (i + 1) (j + 1)
printed quantities.Coefficient i j k = One (i + 1)
printed quantities.Residual i j k = One (i + 1)
printed quantities.CostSum i j k = One (i + 1)
printed quantities.PerturbedRatio i j k = Three (i + 1) (j + 1) k
printed quantities.ExchangedEntry i j k = Two (i + 1) (j + 1)
printed quantities.Loss i j k = One i
printed quantities.Score i j k = Three (i + 1) j (k + 1)
printed quantities.ScaledEntry i j k = Two (i + 1) (j + 1)
printed quantities.Gram i j k = Two (i + 1) (j + 1)
printed quantities.Projection i j k = One (i + 1)
printed quantities.SquaredLength i j k = One (i + 1)
printed quantities.Ray i j k = Two (i + 1) (j + 1)
printed quantities.Statistic i j k = One i
printed quantities.DesignEntry i j k = Two i (j + 1)
printed quantities.PenaltyEntry i j k = Two (i + 1) (j + 1)
printed quantities.CheckSum i j k = Three i j k
printed quantities.Prediction i j k = Two i (j + 1)
printed quantities.ArithValue i j k = Two i (j + 1)
printed quantities.OffsetResponse i j k = One i
printed other i j k = Two (i + 1) j

-- the indices of a site as they are printed
abbrev pub indices : Site → PrintedIndices
indices s = printed s.quantity s.first s.second s.third
