-- Stated. The statistic of nested models (Gutenbrunner, Jurečková, Koenker and Portnoy 1993): are the coefficients of some columns
-- 0? The tested columns are at 0, .., at (n - 1), and b are rank scores of the rows.
use Rattle.std.specs.Prelude.{◌≡◌, ℕ, ◌<◌, false, if◌then◌else◌, List, length, slice_index, pos}
use Rattle.rational_laws.specs.Fraction.{Fraction}
use Rattle.rational_laws.specs.Rational.{ℚ, ◌-ℚ◌, ◌*ℚ◌, whole}
use Rattle.rational_laws.specs.RationalSums.{sum_ℚ}
use Rattle.rational_laws.specs.Selections.{is_among}
use Rattle.loss_model.specs.declared.problem.Problem.{Problem}
use Rattle.loss_model.specs.Problem.{value_at, sample}
use Rattle.loss_model.specs.Sample.{Sample}
use Rattle.gram_matrix.specs.Grams.{scaled}

-- the score of column k: its weighted entries times the scores of the rows, added
abbrev pub column_score : Sample → (ℕ → ℚ) → ℕ → ℚ
column_score p b k = sum_ℚ p.rows (λ i. scaled p i k *ℚ b i)

-- the list has the scores of the first n tested columns, as fractions of any size
pub record AreScoresBelow {F : Type 0} (value : F → Fraction) (n : ℕ) (p : Problem F) (tested : List ℕ) (b : ℕ → ℚ) (scores : List Fraction) : Type 0 where
  pub size : length scores ≡ n
  pub each : (j : ℕ) → j < n → value_at (λ x. x) scores j ≡ column_score (sample value p) b (slice_index tested j)

-- those of all of them
abbrev pub AreScores : {F : Type 0} → (F → Fraction) → Problem F → List ℕ → (ℕ → ℚ) → List Fraction → Type 0
AreScores value p tested b scores = AreScoresBelow value (length tested) p tested b scores

module _ (p : Sample) (at : ℕ → ℕ) (n : ℕ) where
  -- the tested columns by the factors v, minus the other columns by the factors u
  abbrev pub rest : (ℕ → ℚ) → (ℕ → ℚ) → ℕ → ℚ
  rest v u i =
      sum_ℚ n (λ j. scaled p i (at j) *ℚ v (at j))
      -ℚ sum_ℚ p.columns (λ k. if is_among at n k then whole (pos 0) else scaled p i k *ℚ u k)

  -- it is orthogonal to each other weighted column, and has with each tested one the product s k
  pub record AreNestedFactors (s v u : ℕ → ℚ) : Type 0 where
    pub orthogonal : (k : ℕ) → k < p.columns → is_among at n k ≡ false → sum_ℚ p.rows (λ i. rest v u i *ℚ scaled p i k) ≡ whole (pos 0)
    pub product : (j : ℕ) → j < n → sum_ℚ p.rows (λ i. rest v u i *ℚ scaled p i (at j)) ≡ s (at j)

  -- 12 times the sum of scores times factors
  abbrev pub nested_statistic : (ℕ → ℚ) → (ℕ → ℚ) → ℚ
  nested_statistic s v = whole (pos 12) *ℚ sum_ℚ n (λ j. s (at j) *ℚ v (at j))

  -- z is the statistic for the scores s: there are such factors, and with any of them it comes to z
  pub record IsNestedStatistic (s : ℕ → ℚ) (z : ℚ) : Type 0 where
    pub v : ℕ → ℚ
    pub u : ℕ → ℚ
    pub factors : AreNestedFactors s v u
    pub every : (v u : ℕ → ℚ) → AreNestedFactors s v u → z ≡ nested_statistic s v
