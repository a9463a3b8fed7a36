-- Inner. The weighted columns and the rows of the Gram matrix, as lists.
use Rattle.std.specs.Prelude.{◌≡◌, ℕ, ◌<◌, List, length, slice_get, All, Some}
use Rattle.rational_laws.specs.Fraction.{Fraction}
use Rattle.loss_model.specs.declared.problem.Problem.{Problem}
use Rattle.loss_model.specs.declared.problem.Row.{Row}
use Rattle.loss_model.specs.Problem.{value_at, sample}
use Rattle.basis_inverse.specs.Square.{entries}
use Rattle.rank_model.specs.Gram.{gram}
use Rattle.gram_matrix.specs.Grams.{scaled}

module _ {F : Type 0} (value : F → Fraction) (p : Problem F) where
  -- the lists have the weighted entries of the first columns, one list for a column
  pub record AreScaledBelow (n : ℕ) (lists : List (List F)) : Type 0 where
    pub size : length lists ≡ n
    pub square : All (λ xs. length xs ≡ length p.rows) lists
    pub each : (k i : ℕ) → k < n → i < length p.rows → entries value lists k i ≡ scaled (sample value p) i k

  -- of all columns
  abbrev pub AreScaled : List (List F) → Type 0
  AreScaled lists = AreScaledBelow p.columns lists

  -- the row is row k of the Gram matrix
  pub record IsGramRow (k : ℕ) (r : Row F) : Type 0 where
    pub width : length r.x ≡ p.columns
    pub each : (l : ℕ) → l < p.columns → value_at value r.x l ≡ gram (sample value p) k l

  -- the rows are its first ones
  abbrev pub AreGramRows : List (Row F) → Type 0
  AreGramRows rows = (k : ℕ) (r : Row F) → slice_get rows k ≡ Some r → IsGramRow k r
