-- The rows of the problem of an input: observations first, and with an intercept a first column of ones.
use Rattle.std.specs.Prelude.{◌≡◌, ◌<◌, ◌≤◌, ℕ, zero, suc, ◌+◌, true, List, [], ◌∷◌, ◌++◌, All, Option, None, length, map, replicate, slice_get, zip, pos}
use Rattle.std.specs.Option.{option_map_or}
use Rattle.std.specs.declared.cmp.Ordering.TheVariants.{Less}
use Rattle.std.proofs.Common.{arith, refl, sym, ap, subst, ◌∙◌}
use Rattle.std.proofs.lemmas.List.{length-map}
use Rattle.std.proofs.lemmas.List.Elements.{All-head, All-tail, All-cons, All-nil}
use Rattle.rational_laws.specs.Rational.{ℚ, neg_ℚ, whole}
use Rattle.rational_laws.specs.Fraction.{rational}
use Rattle.rational_laws.specs.Order.{cmp_ℚ}
use Rattle.rational_laws.proofs.Inverses.{one-zero}
use Rattle.rational_laws.specs.Terms.{delta}
use Rattle.rational_laws.proofs.TermLaws.{sum_ℚ-delta}
use Rattle.frac_core.specs.declared.frac128.Frac128.{Frac128}
use Rattle.frac_core.specs.Values.{exact, value}
use Rattle.contrasts.specs.declared.Coding.{Coding}
use Rattle.loss_model.specs.declared.problem.Row.{Row}
use Rattle.loss_model.specs.Dual.{IsDataRow}
use Rattle.loss_model.specs.Problem.{of_row, sample, value_at}
use Rattle.loss_model.specs.Sample.{fitted}
use Rattle.loss_model.specs.Values.{exact_row}
use Rattle.formula_parser.specs.declared.formula.Formula.{Formula}
use Rattle.design_matrix.specs.Cells.{Column, Table, kept, weights_in}
use Rattle.design_matrix.specs.Designs.{RowOf as DesignRowOf, design_of, exact_row as exact_design_row}
use Rattle.design_matrix.specs.Lists.{each}
use Rattle.design_matrix.specs.Parts.{columns_of}
use Rattle.design_matrix.specs.declared.design.Design.{Design}
use Rattle.design_matrix.specs.declared.design.DesignRow.{DesignRow}
use Rattle.design_matrix.proofs.Shapes.{shaped}
use Rattle.tv_penalty.specs.Smoothings.{exact_smoothing, smoothing_by, smoothing_of}
use Rattle.tv_penalty.specs.declared.PenaltyRow.{PenaltyRow}
use Rattle.tv_penalty.specs.declared.Smoothing.{Smoothing}
use Rattle.rq_program.specs.Programs.{data_row, penalty_row, rows_of}
use Rattle.rq_words.specs.declared.job.FitJob.{FitJob}
use Rattle.rq_input.specs.Inputs.{IsModelInput}
use Rattle.rq_input.specs.declared.input.Input.{Input}
use Rattle.rq_input.proofs.Intercepts.{front_value}
use Rattle.quantile_laws.specs.Counts.{HasIntercept}
use Rattle.quantile_laws.specs.Monotonicity.{AreObservations}

-- ---- numbers of a list of rows

-- a number of row i, or 0 beyond the last
abbrev number_at : List (Row ℚ) → (Row ℚ → ℚ) → ℕ → ℚ
number_at rows number i = option_map_or number (slice_get rows i) (whole (pos 0))

seen : (rows : List (Row Frac128)) (of : Row Frac128 → ℚ) (number : Row ℚ → ℚ) → ((r : Row Frac128) → of r ≡ number (exact_row r)) → (i : ℕ) → of_row rows of i ≡ number_at (map exact_row rows) number i
seen [] of number same i = refl
seen (r ∷ rs) of number same zero = same r
seen (r ∷ rs) of number same (suc i) = seen rs of number same i

-- what a row of an observation is
record IsObservation (rows : List (Row ℚ)) (i : ℕ) : Type 0 where
  weighted : cmp_ℚ (whole (pos 0)) (number_at rows (λ q. q.up1) i) ≡ Less
  up0 : number_at rows (λ q. q.up0) i ≡ whole (pos 0)
  down0 : number_at rows (λ q. q.down0) i ≡ number_at rows (λ q. q.up1) i
  down1 : number_at rows (λ q. q.down1) i ≡ neg_ℚ (number_at rows (λ q. q.up1) i)

observation : (ds : List DesignRow) (ss : List (List Frac128)) (ps : List (Row ℚ)) → length ss ≡ length ds → All (λ r. cmp_ℚ (whole (pos 0)) (exact r.weight) ≡ Less) ds
    → (i : ℕ) → i < length ds → IsObservation (map data_row (zip ds ss) ++ ps) i
observation [] ss ps same above i l = absurd (omega (arith, l))
observation (d ∷ ds) [] ps same above i l = absurd (omega (arith, same))
observation (d ∷ ds) (s ∷ ss) ps same above zero l = record { weighted = All-head (λ r. cmp_ℚ (whole (pos 0)) (exact r.weight) ≡ Less) d ds above; up0 = refl; down0 = refl; down1 = refl }
observation (d ∷ ds) (s ∷ ss) ps same above (suc i) l =
    let below = observation ds ss ps (omega (arith, same)) (All-tail (λ r. cmp_ℚ (whole (pos 0)) (exact r.weight) ≡ Less) d ds above) i (omega (arith, l)) in
    record { weighted = below.weighted; up0 = below.up0; down0 = below.down0; down1 = below.down1 }

-- the number of a row behind the first rows is one of the rows there
behind : (ds : List DesignRow) (ss : List (List Frac128)) (ps : List (Row ℚ)) (number : Row ℚ → ℚ) (x : ℚ) → length ss ≡ length ds → ((i : ℕ) → number_at ps number i ≡ x)
    → (i : ℕ) → length ds ≤ i → number_at (map data_row (zip ds ss) ++ ps) number i ≡ x
behind [] ss ps number x same h i l = h i
behind (d ∷ ds) [] ps number x same h i l = absurd (omega (arith, same))
behind (d ∷ ds) (s ∷ ss) ps number x same h zero l = absurd (omega (arith, l))
behind (d ∷ ds) (s ∷ ss) ps number x same h (suc i) l = behind ds ss ps number x (omega (arith, same)) h i (omega (arith, l))

-- one of the penalty rows is 0
penalty_zero : (w : ℕ) (ps : List PenaltyRow) (number : Row ℚ → ℚ) → ((p : PenaltyRow) → number (penalty_row w p) ≡ whole (pos 0)) → (i : ℕ) → number_at (map (penalty_row w) ps) number i ≡ whole (pos 0)
penalty_zero w [] number h i = refl
penalty_zero w (p ∷ ps) number h zero = h p
penalty_zero w (p ∷ ps) number h (suc i) = penalty_zero w ps number h i

-- a number of an observation by its row of the design
at_data : (ds : List DesignRow) (ss : List (List Frac128)) (ps : List (Row ℚ)) (number : Row ℚ → ℚ) (x : ℚ) → length ss ≡ length ds → All (λ d. (s : List Frac128) → number (data_row (d, s)) ≡ x) ds
    → (i : ℕ) → i < length ds → number_at (map data_row (zip ds ss) ++ ps) number i ≡ x
at_data [] ss ps number x same h i l = absurd (omega (arith, l))
at_data (d ∷ ds) [] ps number x same h i l = absurd (omega (arith, same))
at_data (d ∷ ds) (s ∷ ss) ps number x same h zero l = All-head (λ d. (s : List Frac128) → number (data_row (d, s)) ≡ x) d ds h s
at_data (d ∷ ds) (s ∷ ss) ps number x same h (suc i) l =
    at_data ds ss ps number x (omega (arith, same)) (All-tail (λ d. (s : List Frac128) → number (data_row (d, s)) ≡ x) d ds h) i (omega (arith, l))

-- ---- the first entry of a row

-- the first of some numbers, or 0
abbrev front : List ℚ → ℚ
front [] = whole (pos 0)
front (x ∷ xs) = x

front_joined : (xs ys : List ℚ) → front xs ≡ whole (pos 1) → front (xs ++ ys) ≡ whole (pos 1)
front_joined [] ys h = absurd (one-zero (sym h))
front_joined (x ∷ xs) ys h = h

front_zeros : (n : ℕ) (xs : List ℚ) → 1 ≤ n → front (replicate n (whole (pos 0)) ++ xs) ≡ whole (pos 0)
front_zeros zero xs h = absurd (omega (arith, h))
front_zeros (suc n) xs h = refl

-- where a formula has an intercept, the first column of its design is the product of nothing
ones_of_each : (f : ℕ → ℕ → DesignRowOf) → ((k i : ℕ) → front (f k i).x ≡ whole (pos 1)) → (k : ℕ) (records : List ℕ) → All (λ q. front q.x ≡ whole (pos 1)) (each f k records)
ones_of_each f h k [] = All-nil (λ q. front q.x ≡ whole (pos 1))
ones_of_each f h k (i ∷ is) = All-cons (λ q. front q.x ≡ whole (pos 1)) (f k i) (each f (k + 1) is) (h k i) (ones_of_each f h (k + 1) is)

ones_of_design : (table : Table) (model : Formula) (coding : Coding) (weights : Option Column) (records : List ℕ) → model.intercept ≡ true
    → All (λ q. front q.x ≡ whole (pos 1)) (design_of table model coding weights records).rows
unfolding design_of columns_of
ones_of_design table model coding weights records intercept = ones_of_each _ (λ k i. rw intercept refl) 0 records

some_names : (table : Table) (model : Formula) (coding : Coding) (weights : Option Column) (records : List ℕ) → model.intercept ≡ true → 1 ≤ length (design_of table model coding weights records).names
unfolding design_of columns_of
some_names table model coding weights records intercept = rw intercept (omega arith)

-- what holds of the images holds of what they are images of
unmapped : (P : DesignRowOf → Type 0) (ds : List DesignRow) → All P (map exact_design_row ds) → All (λ d. P (exact_design_row d)) ds
unmapped P [] h = All-nil (λ d. P (exact_design_row d))
unmapped P (d ∷ ds) h =
    All-cons (λ d. P (exact_design_row d)) d ds (All-head P (exact_design_row d) (map exact_design_row ds) h) (unmapped P ds (All-tail P (exact_design_row d) (map exact_design_row ds) h))

-- without weights each row has the weight 1
unit_of_each : (f : ℕ → ℕ → DesignRowOf) → ((k i : ℕ) → (f k i).weight ≡ whole (pos 1)) → (k : ℕ) (records : List ℕ) → All (λ q. q.weight ≡ whole (pos 1)) (each f k records)
unit_of_each f h k [] = All-nil (λ q. q.weight ≡ whole (pos 1))
unit_of_each f h k (i ∷ is) = All-cons (λ q. q.weight ≡ whole (pos 1)) (f k i) (each f (k + 1) is) (h k i) (unit_of_each f h (k + 1) is)

unit_weights : (table : Table) (model : Formula) (coding : Coding) (records : List ℕ) → All (λ q. q.weight ≡ whole (pos 1)) (design_of table model coding None records).rows
unfolding design_of
unit_weights table model coding records = unit_of_each _ (λ k i. refl) 0 records

lists_same : (table : Table) (design : Design) (model : Formula) (s : Smoothing) → exact_smoothing s ≡ smoothing_by true table design model → length s.columns ≡ length design.rows
unfolding smoothing_of
lists_same table design model s is = sym (length-map s.columns (map exact)) ∙ ap (λ z. length z.columns) is ∙ length-map design.rows _

-- ---- the problem of an input

module _ (job : FitJob) (table : Table) (model : Formula) (input : Input) (is : IsModelInput job table model input) where
  abbrev rows : List (Row ℚ)
  rows = rows_of input.design input.smoothing

  n : ℕ
  n = length input.design.rows

  lists : length input.smoothing.columns ≡ length input.design.rows
  lists = lists_same table input.design model input.smoothing is.smoothed.added

  weights_above : All (λ r. cmp_ℚ (whole (pos 0)) (exact r.weight) ≡ Less) input.design.rows
  weights_above = (shaped table model job.coding job.weights input.design is.designed).weighted

  number_is : (of : Row Frac128 → ℚ) (number : Row ℚ → ℚ) → ((r : Row Frac128) → of r ≡ number (exact_row r)) → (i : ℕ) → of_row input.problem.rows of i ≡ number_at rows number i
  number_is of number same i = seen input.problem.rows of number same i ∙ ap (λ q. number_at q number i) is.problem.rows

  up0 : (i : ℕ) → (sample value input.problem).up0 i ≡ number_at rows (λ q. q.up0) i
  up0 = number_is (λ r. rational (value r.up0)) (λ q. q.up0) (λ r. refl)

  up1 : (i : ℕ) → (sample value input.problem).up1 i ≡ number_at rows (λ q. q.up1) i
  up1 = number_is (λ r. rational (value r.up1)) (λ q. q.up1) (λ r. refl)

  down0 : (i : ℕ) → (sample value input.problem).down0 i ≡ number_at rows (λ q. q.down0) i
  down0 = number_is (λ r. rational (value r.down0)) (λ q. q.down0) (λ r. refl)

  down1 : (i : ℕ) → (sample value input.problem).down1 i ≡ number_at rows (λ q. q.down1) i
  down1 = number_is (λ r. rational (value r.down1)) (λ q. q.down1) (λ r. refl)

  is_data : (i : ℕ) → i < length input.design.rows → IsDataRow (sample value input.problem) i
  is_data i l =
      let o = observation input.design.rows input.smoothing.columns (map (penalty_row (length input.design.names)) input.smoothing.rows) lists weights_above i l in
      record {
        weighted = ap (cmp_ℚ (whole (pos 0))) (up1 i) ∙ o.weighted;
        up0 = up0 i ∙ o.up0;
        down0 = down0 i ∙ o.down0 ∙ sym (up1 i);
        down1 = down1 i ∙ o.down1 ∙ ap neg_ℚ (sym (up1 i));
      }

  later : (number : Row ℚ → ℚ) → ((p : PenaltyRow) → number (penalty_row (length input.design.names) p) ≡ whole (pos 0)) → (i : ℕ) → length input.design.rows ≤ i → number_at rows number i ≡ whole (pos 0)
  later number h i l =
      behind input.design.rows input.smoothing.columns (map (penalty_row (length input.design.names)) input.smoothing.rows) number (whole (pos 0)) lists
      (penalty_zero (length input.design.names) input.smoothing.rows number h) i l

  -- the records stand first, each with a row
  first_rows : (ds : List DesignRow) (ss : List (List Frac128)) (ps : List (Row ℚ)) → length ss ≡ length ds → length ds ≤ length (map data_row (zip ds ss) ++ ps)
  first_rows [] ss ps same = omega arith
  first_rows (d ∷ ds) [] ps same = absurd (omega (arith, same))
  first_rows (d ∷ ds) (s ∷ ss) ps same = let below = first_rows ds ss ps (omega (arith, same)) in omega (arith, below)

  within : length input.design.rows ≤ length input.problem.rows
  within =
      let size = sym (length-map input.problem.rows exact_row) ∙ ap length is.problem.rows in
      let first = first_rows input.design.rows input.smoothing.columns (map (penalty_row (length input.design.names)) input.smoothing.rows) lists in
      omega (arith, size, first)

  pub observations : AreObservations (sample value input.problem) (length input.design.rows)
  observations =
      record {
        within = within;
        observed = is_data;
        later = λ i k l. (up1 i ∙ later (λ q. q.up1) (λ p. refl) i k, down1 i ∙ later (λ q. q.down1) (λ p. refl) i k);
      }

  -- ---- the intercept

  module _ (intercept : model.intercept ≡ true) (some : 1 ≤ input.problem.columns) where
    entry : (i : ℕ) → (sample value input.problem).x i 0 ≡ number_at rows (λ q. front q.x) i
    entry = number_is (λ r. value_at value r.x 0) (λ q. front q.x) (λ r. front_value r.x)

    first_is : (i : ℕ) → fitted (sample value input.problem) (λ k. delta k 0) i ≡ (sample value input.problem).x i 0
    first_is i = sum_ℚ-delta input.problem.columns ((sample value input.problem).x i) 0 some

    one_each : All (λ d. front (map exact d.x) ≡ whole (pos 1)) input.design.rows
    one_each =
        unmapped (λ q. front q.x ≡ whole (pos 1)) input.design.rows
        (subst (λ (qs : List DesignRowOf). All (λ q. front q.x ≡ whole (pos 1)) qs) (sym (ap (λ d. d.rows) is.designed.design_is.exact))
        (ones_of_design table model job.coding (weights_in table job.weights) (kept table model job.weights) intercept))

    names : 1 ≤ length input.design.names
    names = subst (λ (d : _). 1 ≤ length d) (sym (ap (λ d. d.names) is.designed.design_is.exact)) (some_names table model job.coding (weights_in table job.weights) (kept table model job.weights) intercept)

    pub has_intercept : HasIntercept (sample value input.problem) (length input.design.rows) (λ k. delta k 0)
    has_intercept =
        record {
          within = within;
          observed = is_data;
          ones = λ i l.
              first_is i ∙ entry i
              ∙ at_data input.design.rows input.smoothing.columns (map (penalty_row (length input.design.names)) input.smoothing.rows) (λ q. front q.x) (whole (pos 1)) lists
              (λ k d l s. front_joined (map exact _) (map exact s) (one_each k d l)) i l;
          zeros = λ i k l. first_is i ∙ entry i ∙ later (λ q. front q.x) (λ p. front_zeros (length input.design.names) (map exact p.x) names) i k;
        }

  -- ---- weights

  pub units : job.weights ≡ None → (i : ℕ) → i < length input.design.rows → (sample value input.problem).up1 i ≡ whole (pos 1)
  units unweighted i l =
      up1 i
      ∙ at_data input.design.rows input.smoothing.columns (map (penalty_row (length input.design.names)) input.smoothing.rows) (λ q. q.up1) (whole (pos 1)) lists (λ k d l s. one_each k d l) i l
    where
      one_each : All (λ d. exact d.weight ≡ whole (pos 1)) input.design.rows
      one_each =
          unmapped (λ q. q.weight ≡ whole (pos 1)) input.design.rows
          (subst (λ (qs : List DesignRowOf). All (λ q. q.weight ≡ whole (pos 1)) qs) (sym (ap (λ d. d.rows) is.designed.design_is.exact))
          (subst (λ (w : Option Column). All (λ q. q.weight ≡ whole (pos 1)) (design_of table model job.coding w (kept table model job.weights)).rows) (sym (ap (weights_in table) unweighted))
          (unit_weights table model job.coding (kept table model job.weights))))
