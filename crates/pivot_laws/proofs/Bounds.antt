-- The number of steps of a solve, of a process and of an interval.
use Rattle.std.specs.Prelude.{◌≡◌, ℕ, suc, ◌+◌, ◌*◌, ◌<◌, ◌≤◌, Bool, List, [], ◌∷◌, ◌++◌, length, slice_index, slice_set, pos}
use Rattle.std.specs.declared.cmp.Ordering.TheVariants.{Less}
use Rattle.std.proofs.Common.{arith, refl, sym, ap, subst, ◌∙◌, inl, inr}
use Rattle.rational_laws.specs.Rational.{ℚ, neg_ℚ, whole}
use Rattle.rational_laws.specs.Solver.{negated, ◌⊟◌, v0, v1}
use Rattle.rational_laws.proofs.RationalLaws.{ring_ℚ}
use Rattle.rational_laws.specs.Selections.{is_among}
use Rattle.loss_model.specs.declared.process.Exchange.{Exchange}
use Rattle.loss_model.specs.declared.process.Trail.{Trail}
use Rattle.loss_model.specs.Sample.{Sample, up_cost, down_cost}
use Rattle.basis_model.specs.Lexicographic.{lex_cmp}
use Rattle.basis_model.specs.Basis.{IsBasis}
use Rattle.basis_model.specs.PerturbedLoss.{perturbed_loss, change_list, perturbed_coefficient}
use Rattle.pivot_model.specs.Duals.{HasCosts}
use Rattle.pivot_model.specs.Trails.{AtBasis, basis_after, AreSolvingSteps, IsSolvingTrail, HasSolvingStep, ReachesLimit}
use Rattle.walk_model.specs.Families.{over_quantiles, rising_value, falling_value}
use Rattle.walk_model.specs.WalkTrails.{AreWalkingSteps, value_after, HasWalkingStep, HasTestedStep, is_below, is_within, theta_value}
use Rattle.walk_model.specs.WalkTrails.{negated_theta, IsProcessTrail, ReachesProcessLimit, ReachesWalkLimit, IsIntervalTrail, ReachesIntervalLimit}
use Rattle.walk_model.proofs.Alike.{sum_same, coefficient_same}
use Rattle.walk_model.proofs.Lists.{cmp_by, lex_cmp-by}
use Rattle.pivot_laws.specs.BoundLaws.{rows_along, NoneTwice, further_bases}
use Rattle.pivot_laws.specs.Choose.{choose, AreApart}
use Rattle.pivot_laws.specs.ImprovingTrails.{Improvement, Along, LowersLoss, LowersChange, RaisesCoefficient, LowersCoefficient}
use Rattle.pivot_laws.proofs.Along.{solved, walked, solving_along, over_step, rise_step, fall_step, quantiles_along, rising_along, falling_along}
use Rattle.pivot_laws.proofs.Chains.{all_rows, IsBelow, Chain, chain_apart, chain_few}

joined : {A : Type 0} (xs ys : List A) → length (xs ++ ys) ≡ length xs + length ys
joined [] ys = omega arith
joined (x ∷ xs) ys = let rest : length (xs ++ ys) ≡ length xs + length ys = joined xs ys in omega (arith, rest)

-- the bases that steps make, and then those of a list
abbrev later : List ℕ → List Exchange → List (List ℕ) → List (List ℕ)
later basis [] tail = tail
later basis (s ∷ steps) tail = slice_set basis s.position s.row ∷ later (slice_set basis s.position s.row) steps tail

later_length : (basis : List ℕ) (steps : List Exchange) (tail : List (List ℕ)) → length (later basis steps tail) ≡ length steps + length tail
later_length basis [] tail = omega arith
later_length basis (s ∷ steps) tail =
    let rest : length (later (slice_set basis s.position s.row) steps tail) ≡ length steps + length tail = later_length (slice_set basis s.position s.row) steps tail in
    omega (arith, rest)

along_is : (n : ℕ) (basis : List ℕ) (steps : List Exchange) → all_rows n (basis ∷ later basis steps []) ≡ rows_along n basis steps
along_is n basis [] = refl
along_is n basis (s ∷ steps) = ap (λ rest. is_among (slice_index basis) n ∷ rest) (along_is n (slice_set basis s.position s.row) steps)

-- steps that each lower a measure
module _ (p : Sample) (measure : (ℕ → ℕ) → (ℕ → ℕ → ℚ) → ℕ → ℚ)
    (alike : (at next : ℕ → ℕ) (a b : ℕ → ℕ → ℚ) → IsBasis p at a → IsBasis p next b → ((i : ℕ) → is_among next p.columns i ≡ is_among at p.columns i) → (m : ℕ) → measure next b m ≡ measure at a m)
    (P : Improvement) (lowers : (theta : ℚ) (at : ℕ → ℕ) (a : ℕ → ℕ → ℚ) (next : ℕ → ℕ) (b : ℕ → ℕ → ℚ) → P theta at a next b → lex_cmp (suc p.rows) (measure next b) (measure at a) ≡ Less) where
  below : (theta : ℚ) (basis next : List ℕ) → AtBasis p basis (λ a. AtBasis p next (λ b. P theta (slice_index basis) a (slice_index next) b)) → IsBelow p measure alike next basis
  below theta basis next h =
      record {
        size = h.size;
        a = h.a;
        is_basis = h.is_basis;
        ends = h.ends;
        holds = record {
          size = h.holds.size;
          a = h.holds.a;
          is_basis = h.holds.is_basis;
          ends = h.holds.ends;
          holds = lowers theta (slice_index basis) h.a (slice_index next) h.holds.a h.holds.holds;
        };
      }

  chained : (basis : List ℕ) (steps : List Exchange) (tail : List (List ℕ)) → Along p P basis steps → Chain p measure alike (basis_after basis steps) tail → Chain p measure alike basis (later basis steps tail)
  chained basis [] tail h last = last
  chained basis (s ∷ steps) tail h last =
      (below _ basis (slice_set basis s.position s.row) h.0, chained (slice_set basis s.position s.row) steps tail h.1 last)

  none_twice : (basis : List ℕ) (steps : List Exchange) → Along p P basis steps → NoneTwice p basis steps
  none_twice basis steps h =
      subst (AreApart p.rows) (along_is p.columns basis steps) (chain_apart p measure alike basis (later basis steps []) (chained basis steps [] h tt))

  -- from a basis on
  few : {Q : (ℕ → ℕ → ℚ) → Type 0} (basis : List ℕ) (steps : List Exchange) → AtBasis p basis Q → Along p P basis steps → suc (length steps) ≤ choose p.rows p.columns
  few basis steps first h =
      let total : length (later basis steps []) ≡ length steps + 0 = later_length basis steps [] in
      let most : suc (length (later basis steps [])) ≤ choose p.rows p.columns = chain_few p measure alike basis first.a first.is_basis (later basis steps []) (chained basis steps [] h tt) in
      omega (arith, total, most)

  -- and with one more step
  few_more : {Q : (ℕ → ℕ → ℚ) → Type 0} (theta : ℚ) (basis : List ℕ) (steps : List Exchange) (next : List ℕ) → AtBasis p basis Q → Along p P basis steps
      → AtBasis p (basis_after basis steps) (λ a. AtBasis p next (λ b. P theta (slice_index (basis_after basis steps)) a (slice_index next) b))
      → suc (suc (length steps)) ≤ choose p.rows p.columns
  few_more theta basis steps next first h more =
      let total : length (later basis steps (next ∷ [])) ≡ length steps + 1 = later_length basis steps (next ∷ []) in
      let most : suc (length (later basis steps (next ∷ []))) ≤ choose p.rows p.columns = chain_few p measure alike basis first.a first.is_basis (later basis steps (next ∷ []))
      (chained basis steps (next ∷ []) h (below theta (basis_after basis steps) next more, tt)) in
      omega (arith, total, most)

-- where steps lead to a basis they begin at one
begins : {Q : (ℕ → ℕ → ℚ) → Type 0} (p : Sample) (P : Improvement) (basis : List ℕ) (steps : List Exchange) → Along p P basis steps → AtBasis p (basis_after basis steps) Q
    → AtBasis p basis (λ a. Unit {0})
begins p P basis [] h last = record { size = last.size; a = last.a; is_basis = last.is_basis; ends = last.ends; holds = tt }
begins p P basis (s ∷ steps) h last = record { size = h.0.size; a = h.0.a; is_basis = h.0.is_basis; ends = h.0.ends; holds = tt }

-- ---- solving steps

module _ (p : Sample) (theta : ℚ) (costs : HasCosts p theta) where
  abbrev loss_list : (ℕ → ℕ) → (ℕ → ℕ → ℚ) → ℕ → ℚ
  loss_list at a = perturbed_loss p at a theta

  abbrev Lowers : Improvement
  Lowers x = LowersLoss p theta

  loss_alike : (at next : ℕ → ℕ) (a b : ℕ → ℕ → ℚ) → IsBasis p at a → IsBasis p next b → ((i : ℕ) → is_among next p.columns i ≡ is_among at p.columns i) → (m : ℕ) → loss_list next b m ≡ loss_list at a m
  loss_alike at next a b u v same m = sum_same p at next a b u v same (up_cost p theta) (down_cost p theta) m

  lowers : (x : ℚ) (at : ℕ → ℕ) (a : ℕ → ℕ → ℚ) (next : ℕ → ℕ) (b : ℕ → ℕ → ℚ) → Lowers x at a next b → lex_cmp (suc p.rows) (loss_list next b) (loss_list at a) ≡ Less
  lowers x at a next b h = h

  along : (basis : List ℕ) (steps : List Exchange) → AreSolvingSteps p theta basis steps → Along p Lowers basis steps
  along = solving_along p theta costs Lowers (λ x at a next b e less. less)

  pub solve_apart : (basis : List ℕ) (steps : List Exchange) → AreSolvingSteps p theta basis steps → NoneTwice p basis steps
  solve_apart basis steps h = none_twice p loss_list loss_alike Lowers lowers basis steps (along basis steps h)

  pub solve_few : (basis : List ℕ) (steps : List Exchange) → AreSolvingSteps p theta basis steps → length steps ≤ further_bases p
  solve_few basis [] h = omega arith
  solve_few basis (s ∷ steps) h =
      let most : suc (suc (length steps)) ≤ choose p.rows p.columns = few p loss_list loss_alike Lowers lowers basis (s ∷ steps) h.1 (along basis (s ∷ steps) h) in
      omega (arith, most)

  pub solve_more_few : (basis : List ℕ) (steps : List Exchange) → AreSolvingSteps p theta basis steps → HasSolvingStep p theta (basis_after basis steps) → suc (suc (length steps)) ≤ choose p.rows p.columns
  solve_more_few basis steps h more =
      few_more p loss_list loss_alike Lowers lowers theta basis steps (slice_set (basis_after basis steps) more.holds.0 more.holds.1)
      (begins p Lowers basis steps (along basis steps h) more) (along basis steps h)
      (solved p theta costs (λ a b. LowersLoss p theta (slice_index (basis_after basis steps)) a (slice_index (slice_set (basis_after basis steps) more.holds.0 more.holds.1)) b) (basis_after basis steps) more.holds.0 more.holds.1
      (record { size = more.size; a = more.a; is_basis = more.is_basis; ends = more.ends; holds = more.holds.2 }) (λ a b less. less))

  limit_few : (limit : ℕ) (trail : Trail) → ReachesLimit p theta limit trail → suc (suc limit) ≤ choose p.rows p.columns
  limit_few limit trail h =
      let u : IsSolvingTrail p theta trail h.basis = h.lawful in
      subst (λ n. suc (suc n) ≤ choose p.rows p.columns) h.count (solve_more_few u.first trail.steps u.lawful (subst (HasSolvingStep p theta) (sym u.leads) h.more))

  pub solve_within : (limit : ℕ) (trail : Trail) → further_bases p ≤ limit → ¬ ReachesLimit p theta limit trail
  solve_within limit trail long h = let most : suc (suc limit) ≤ choose p.rows p.columns = limit_few limit trail h in omega (arith, most, long)

-- ---- walks

module _ (p : Sample) (reach : ℚ → Bool) where
  change_alike : (at next : ℕ → ℕ) (a b : ℕ → ℕ → ℚ) → IsBasis p at a → IsBasis p next b → ((i : ℕ) → is_among next p.columns i ≡ is_among at p.columns i) → (m : ℕ) → change_list p next b m ≡ change_list p at a m
  change_alike at next a b u v same m = sum_same p at next a b u v same p.up1 p.down1 m

  changes : (x : ℚ) (at : ℕ → ℕ) (a : ℕ → ℕ → ℚ) (next : ℕ → ℕ) (b : ℕ → ℕ → ℚ) → LowersChange p x at a next b → lex_cmp (suc p.rows) (change_list p next b) (change_list p at a) ≡ Less
  changes x at a next b h = h.1

  walk_apart : (from : ℚ) (basis : List ℕ) (steps : List Exchange) → AreWalkingSteps theta_value (over_quantiles p) reach from basis steps → NoneTwice p basis steps
  walk_apart from basis steps h = none_twice p (change_list p) change_alike (LowersChange p) changes basis steps (quantiles_along p reach from basis steps h)

  walk_few : {Q : (ℕ → ℕ → ℚ) → Type 0} (from : ℚ) (basis : List ℕ) (steps : List Exchange) → AtBasis p basis Q → AreWalkingSteps theta_value (over_quantiles p) reach from basis steps
      → suc (length steps) ≤ choose p.rows p.columns
  walk_few from basis steps first h = few p (change_list p) change_alike (LowersChange p) changes basis steps first (quantiles_along p reach from basis steps h)

  walk_more_few : {Q : (ℕ → ℕ → ℚ) → Type 0} (from now : ℚ) (basis : List ℕ) (steps : List Exchange) → AtBasis p basis Q → AreWalkingSteps theta_value (over_quantiles p) reach from basis steps
      → HasWalkingStep theta_value (over_quantiles p) reach now (basis_after basis steps) → suc (suc (length steps)) ≤ choose p.rows p.columns
  walk_more_few from now basis steps first h more =
      let last : List ℕ = basis_after basis steps in
      few_more p (change_list p) change_alike (LowersChange p) changes more.holds.0 basis steps (slice_set last more.holds.1 more.holds.2) first (quantiles_along p reach from basis steps h)
      (walked p theta_value (over_quantiles p) reach (λ a b. LowersChange p more.holds.0 (slice_index last) a (slice_index (slice_set last more.holds.1 more.holds.2)) b) now more.holds.0 last more.holds.1 more.holds.2
      (record { size = more.size; a = more.a; is_basis = more.is_basis; ends = more.ends; holds = more.holds.3 })
      (λ a b u v ex step. over_step p reach now more.holds.0 (slice_index last) (slice_index (slice_set last more.holds.1 more.holds.2)) a b more.holds.1 more.holds.2 u v ex step))

  module _ (tau : ℚ) (c : ℕ) (lc : c < p.columns) where
    abbrev coefficient_list : (ℕ → ℕ) → (ℕ → ℕ → ℚ) → ℕ → ℚ
    coefficient_list at a m = perturbed_coefficient p at a c m

    abbrev negated_list : (ℕ → ℕ) → (ℕ → ℕ → ℚ) → ℕ → ℚ
    negated_list at a m = neg_ℚ (perturbed_coefficient p at a c m)

    falling_alike : (at next : ℕ → ℕ) (a b : ℕ → ℕ → ℚ) → IsBasis p at a → IsBasis p next b → ((i : ℕ) → is_among next p.columns i ≡ is_among at p.columns i) → (m : ℕ) → coefficient_list next b m ≡ coefficient_list at a m
    falling_alike at next a b u v same m = coefficient_same p at next a b u v same c lc m

    rising_alike : (at next : ℕ → ℕ) (a b : ℕ → ℕ → ℚ) → IsBasis p at a → IsBasis p next b → ((i : ℕ) → is_among next p.columns i ≡ is_among at p.columns i) → (m : ℕ) → negated_list next b m ≡ negated_list at a m
    rising_alike at next a b u v same m = ap neg_ℚ (falling_alike at next a b u v same m)

    falls : (x : ℚ) (at : ℕ → ℕ) (a : ℕ → ℕ → ℚ) (next : ℕ → ℕ) (b : ℕ → ℕ → ℚ) → LowersCoefficient p c x at a next b → lex_cmp (suc p.rows) (coefficient_list next b) (coefficient_list at a) ≡ Less
    falls x at a next b h = h

    -- what rises falls where it is negated
    rises : (x : ℚ) (at : ℕ → ℕ) (a : ℕ → ℕ → ℚ) (next : ℕ → ℕ) (b : ℕ → ℕ → ℚ) → RaisesCoefficient p c x at a next b → lex_cmp (suc p.rows) (negated_list next b) (negated_list at a) ≡ Less
    rises x at a next b h =
        lex_cmp-by (suc p.rows) (negated_list next b) (negated_list at a) (coefficient_list at a) (coefficient_list next b)
        (λ m. cmp_by (negated_list next b m) (negated_list at a m) (coefficient_list at a m) (coefficient_list next b m)
        (ring_ℚ (coefficient_list at a m ∷ coefficient_list next b m ∷ []) (negated v0 ⊟ negated v1) (v1 ⊟ v0) refl))
        ∙ h

    rise_apart : (from : ℚ) (basis : List ℕ) (steps : List Exchange) → AreWalkingSteps negated_theta (rising_value p tau c) reach from basis steps → NoneTwice p basis steps
    rise_apart from basis steps h = none_twice p negated_list rising_alike (RaisesCoefficient p c) rises basis steps (rising_along p reach tau c lc from basis steps h)

    fall_apart : (from : ℚ) (basis : List ℕ) (steps : List Exchange) → AreWalkingSteps theta_value (falling_value p tau c) reach from basis steps → NoneTwice p basis steps
    fall_apart from basis steps h = none_twice p coefficient_list falling_alike (LowersCoefficient p c) falls basis steps (falling_along p reach tau c lc from basis steps h)

    rise_few : {Q : (ℕ → ℕ → ℚ) → Type 0} (from : ℚ) (basis : List ℕ) (steps : List Exchange) → AtBasis p basis Q → AreWalkingSteps negated_theta (rising_value p tau c) reach from basis steps
        → suc (length steps) ≤ choose p.rows p.columns
    rise_few from basis steps first h = few p negated_list rising_alike (RaisesCoefficient p c) rises basis steps first (rising_along p reach tau c lc from basis steps h)

    rise_more_few : {Q : (ℕ → ℕ → ℚ) → Type 0} (from now : ℚ) (basis : List ℕ) (steps : List Exchange) → AtBasis p basis Q → AreWalkingSteps negated_theta (rising_value p tau c) reach from basis steps
        → HasWalkingStep negated_theta (rising_value p tau c) reach now (basis_after basis steps) → suc (suc (length steps)) ≤ choose p.rows p.columns
    rise_more_few from now basis steps first h more =
        let last : List ℕ = basis_after basis steps in
        few_more p negated_list rising_alike (RaisesCoefficient p c) rises more.holds.0 basis steps (slice_set last more.holds.1 more.holds.2) first (rising_along p reach tau c lc from basis steps h)
        (walked p negated_theta (rising_value p tau c) reach (λ a b. RaisesCoefficient p c more.holds.0 (slice_index last) a (slice_index (slice_set last more.holds.1 more.holds.2)) b) now more.holds.0 last more.holds.1
        more.holds.2
        (record { size = more.size; a = more.a; is_basis = more.is_basis; ends = more.ends; holds = more.holds.3 })
        (λ a b u v ex step. rise_step p reach tau c lc now more.holds.0 (slice_index last) (slice_index (slice_set last more.holds.1 more.holds.2)) a b more.holds.1 more.holds.2 u v ex step))

    fall_more_few : {Q : (ℕ → ℕ → ℚ) → Type 0} (from now : ℚ) (basis : List ℕ) (steps : List Exchange) → AtBasis p basis Q → AreWalkingSteps theta_value (falling_value p tau c) reach from basis steps
        → HasWalkingStep theta_value (falling_value p tau c) reach now (basis_after basis steps) → suc (suc (length steps)) ≤ choose p.rows p.columns
    fall_more_few from now basis steps first h more =
        let last : List ℕ = basis_after basis steps in
        few_more p coefficient_list falling_alike (LowersCoefficient p c) falls more.holds.0 basis steps (slice_set last more.holds.1 more.holds.2) first (falling_along p reach tau c lc from basis steps h)
        (walked p theta_value (falling_value p tau c) reach (λ a b. LowersCoefficient p c more.holds.0 (slice_index last) a (slice_index (slice_set last more.holds.1 more.holds.2)) b) now more.holds.0 last more.holds.1
        more.holds.2
        (record { size = more.size; a = more.a; is_basis = more.is_basis; ends = more.ends; holds = more.holds.3 })
        (λ a b u v ex step. fall_step p reach tau c lc now more.holds.0 (slice_index last) (slice_index (slice_set last more.holds.1 more.holds.2)) a b more.holds.1 more.holds.2 u v ex step))

-- ---- the trails

module _ (p : Sample) where
  pub process_apart : (lo hi now : ℚ) (trail : Trail) (basis : List ℕ) → HasCosts p lo → (u : IsProcessTrail p lo hi trail basis now)
      → NoneTwice p u.first u.solving × NoneTwice p (basis_after u.first u.solving) u.walking
  process_apart lo hi now trail basis costs u =
      (solve_apart p lo costs u.first u.solving u.solved, walk_apart p (is_below hi) lo (basis_after u.first u.solving) u.walking u.walked)

  pub interval_apart : (tau : ℚ) (c : ℕ) (bound : ℚ) (trail : Trail) (basis : List ℕ) → HasCosts p tau → c < p.columns → (u : IsIntervalTrail p tau c bound trail basis)
      → NoneTwice p u.first trail.steps × NoneTwice p basis trail.rise × NoneTwice p basis trail.fall
  interval_apart tau c bound trail basis costs lc u = (
    solve_apart p tau costs u.first trail.steps u.solved,
    rise_apart p (is_within bound) tau c lc (whole (pos 0)) basis trail.rise u.rose,
    fall_apart p (is_within bound) tau c lc (whole (pos 0)) basis trail.fall u.fell,
  )

  pub process_few : (lo hi now : ℚ) (trail : Trail) (basis : List ℕ) → HasCosts p lo → IsProcessTrail p lo hi trail basis now → length trail.steps ≤ 2 * further_bases p
  process_few lo hi now trail basis costs u =
      let solving : length u.solving ≤ further_bases p = solve_few p lo costs u.first u.solving u.solved in
      let walking : suc (length u.walking) ≤ choose p.rows p.columns = walk_few p (is_below hi) lo (basis_after u.first u.solving) u.walking u.optimal u.walked in
      let total : length trail.steps ≡ length u.solving + length u.walking = ap length u.all ∙ joined u.solving u.walking in
      omega (arith, solving, walking, total)

  pub process_within : (lo hi : ℚ) (limit : ℕ) (trail : Trail) → HasCosts p lo → (2 * further_bases p) ≤ limit → ¬ ReachesProcessLimit p lo hi limit trail
  process_within lo hi limit trail costs long (inl h) = solve_within p lo costs limit trail (omega (arith, long)) h
  process_within lo hi limit trail costs long (inr h) = walk_limit h
    where
      walk_limit : ReachesWalkLimit p lo hi limit trail → ⊥
      walk_limit h =
          let u : IsProcessTrail p lo hi trail h.basis h.now = h.lawful in
          let solving : length u.solving ≤ further_bases p = solve_few p lo costs u.first u.solving u.solved in
          let walking : suc (suc (length u.walking)) ≤ choose p.rows p.columns =
          walk_more_few p (is_below hi) lo h.now (basis_after u.first u.solving) u.walking u.optimal u.walked
          (subst (HasWalkingStep theta_value (over_quantiles p) (is_below hi) h.now) (sym u.leads) h.more) in
          let total : limit ≡ length u.solving + length u.walking = sym h.count ∙ ap length u.all ∙ joined u.solving u.walking in
          omega (arith, solving, walking, total, long)

  pub interval_within : (tau : ℚ) (c : ℕ) (bound : ℚ) (limit : ℕ) (trail : Trail) → HasCosts p tau → c < p.columns → (3 * further_bases p) ≤ limit → ¬ ReachesIntervalLimit p tau c bound limit trail
  interval_within tau c bound limit trail costs lc long (inl h) = solve_within p tau costs limit trail (omega (arith, long)) h
  interval_within tau c bound limit trail costs lc long (inr h) = by h.more
    where
      u : IsIntervalTrail p tau c bound trail h.basis
      u = h.lawful

      solving : length trail.steps ≤ further_bases p
      solving = solve_few p tau costs u.first trail.steps u.solved

      total : length trail.steps + length trail.rise + length trail.fall ≡ limit
      total = h.count

      by : HasTestedStep p tau c bound trail h.basis → ⊥
      by (inl more) =
          let rose : suc (suc (length trail.rise)) ≤ choose p.rows p.columns =
          rise_more_few p (is_within bound) tau c lc (whole (pos 0)) (value_after negated_theta (rising_value p tau c) (is_within bound) (whole (pos 0)) trail.rise) h.basis trail.rise u.optimal u.rose more.1 in
          let none : length trail.fall ≡ 0 = ap length more.0 in
          omega (arith, solving, rose, none, total, long)
      by (inr more) =
          let rose : suc (length trail.rise) ≤ choose p.rows p.columns = rise_few p (is_within bound) tau c lc (whole (pos 0)) h.basis trail.rise u.optimal u.rose in
          let fell : suc (suc (length trail.fall)) ≤ choose p.rows p.columns =
          fall_more_few p (is_within bound) tau c lc (whole (pos 0)) (value_after theta_value (falling_value p tau c) (is_within bound) (whole (pos 0)) trail.fall) h.basis trail.fall u.optimal u.fell more.1 in
          omega (arith, solving, rose, fell, total, long)
