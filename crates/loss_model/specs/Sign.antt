-- Inner. Products of the items of two lists, the left ones taken as they are or negated.
use Rattle.std.specs.Prelude.{List, length}
use Rattle.rational_laws.specs.Fraction.{Fraction, rational}
use Rattle.rational_laws.specs.Rational.{ℚ, neg_ℚ}
use Rattle.loss_model.specs.Problem.{value_at}
use Rattle.loss_model.specs.Spill.{Products}
use Rattle.loss_model.specs.declared.sites.Sign.{Sign}
use Rattle.loss_model.specs.declared.sites.Sign.TheVariants.{Plus, Minus}

-- a number with a sign
abbrev pub signed : Sign → ℚ → ℚ
signed Plus x = x
signed Minus x = neg_ℚ x

-- the products of two lists behind a first value
abbrev pub products_of : {F : Type 0} → (F → Fraction) → F → Sign → List F → List F → Products
products_of value first sign xs ys =
    record {
      first = rational (value first);
      count = length xs;
      left = λ k. signed sign (value_at value xs k);
      right = value_at value ys;
    }
