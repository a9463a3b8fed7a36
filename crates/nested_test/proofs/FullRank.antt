-- Without tested columns the others stay independent: coefficients of these, spread over all columns with 0 at the tested
-- ones, fit the same.
use Rattle.std.specs.Prelude.{◌≡◌, ℕ, zero, suc, ◌+◌, ◌-◌, ◌<◌, Bool, true, false, if◌then◌else◌, List, [], ◌∷◌, option_map, length, get_or, slice_get, Some, pos}
use Rattle.std.specs.Option.{option_map_or}
use Rattle.std.proofs.Common.{arith, inl, inr, refl, sym, ap, ap₂, ◌∙◌}
use Rattle.std.proofs.lemmas.List.{length-map}
use Rattle.std.proofs.lemmas.Option.{slice_get-map, slice_get_cases}
use Rattle.rational_laws.specs.Fraction.{Fraction, rational}
use Rattle.rational_laws.specs.Solver.{number, ◌⊞◌, ◌⊠◌, v0, v1}
use Rattle.rational_laws.specs.Rational.{ℚ, ◌+ℚ◌, ◌*ℚ◌, whole}
use Rattle.rational_laws.proofs.RationalLaws.{ring_ℚ}
use Rattle.rational_laws.specs.RationalSums.{sum_ℚ}
use Rattle.rational_laws.proofs.RationalSumLaws.{sum_ℚ-first}
use Rattle.loss_model.specs.declared.problem.Problem.{Problem}
use Rattle.loss_model.specs.declared.problem.Row.{Row}
use Rattle.loss_model.specs.FullRank.{HasFullRank}
use Rattle.loss_model.specs.Problem.{IsWellShaped, value_at, sample}
use Rattle.loss_model.specs.Sample.{fitted}
use Rattle.nested_test.specs.Restricted.{AreTested, is_tested, without, restricted_row, restricted_problem}
use Rattle.nested_test.specs.Laws.{RestrictedHasFullRank}
use Rattle.nested_test.proofs.Restrictions.{size_without}

-- some list of this length
noughts : ℕ → List ℕ
noughts zero = []
noughts (suc n) = 0 ∷ noughts n

length-noughts : (n : ℕ) → length (noughts n) ≡ n
unfolding noughts
length-noughts zero = refl
length-noughts (suc n) = ap suc (length-noughts n)

-- coefficients of the columns that aren't tested, the first of which is c 0, as coefficients of the columns from k on
spread : List ℕ → ℕ → (ℕ → ℚ) → ℕ → ℚ
spread tested k c zero = if is_tested tested k then whole (pos 0) else c 0
spread tested k c (suc j) = if is_tested tested k then spread tested (k + 1) c j else spread tested (k + 1) (λ m. c (suc m)) j

-- where all of them are 0, so are those
all_zero : (tested : List ℕ) (k n : ℕ) (c : ℕ → ℚ) → ((j : ℕ) → j < n → spread tested k c j ≡ whole (pos 0)) → (m : ℕ) → m < length (without tested k (noughts n)) → c m ≡ whole (pos 0)
unfolding spread noughts
all_zero tested k zero c h m l = absurd (omega (arith, l))
all_zero tested k (suc n) c h m l = by (is_tested tested k) m (all_zero tested (k + 1) n) (h 0 (omega arith)) (λ j lj. h (suc j) (omega (arith, lj))) l
  where
    by : (t : Bool) (m : ℕ)
        → ((d : ℕ → ℚ) → ((j : ℕ) → j < n → spread tested (k + 1) d j ≡ whole (pos 0)) → (m : ℕ) → m < length (without tested (k + 1) (noughts n)) → d m ≡ whole (pos 0))
        → (if t then whole (pos 0) else c 0) ≡ whole (pos 0)
        → ((j : ℕ) → j < n → (if t then spread tested (k + 1) c j else spread tested (k + 1) (λ m. c (suc m)) j) ≡ whole (pos 0))
        → m < length (if t then without tested (k + 1) (noughts n) else 0 ∷ without tested (k + 1) (noughts n)) → c m ≡ whole (pos 0)
    by true m more first rest l = more c rest m l
    by false zero more first rest l = first
    by false (suc m) more first rest l = more (λ m. c (suc m)) rest m (omega (arith, l))

module _ {F : Type 0} (value : F → Fraction) where
  -- entries times coefficients, added from the front
  along : List F → (ℕ → ℚ) → ℚ
  along [] b = whole (pos 0)
  along (x ∷ xs) b = (rational (value x) *ℚ b 0) +ℚ along xs (λ j. b (suc j))

  sum_is : (xs : List F) (b : ℕ → ℚ) → sum_ℚ (length xs) (λ k. value_at value xs k *ℚ b k) ≡ along xs b
  unfolding along
  sum_is [] b = refl
  sum_is (x ∷ xs) b =
      sum_ℚ-first (length xs) (λ k. value_at value (x ∷ xs) k *ℚ b k)
      ∙ ap (λ z. (rational (value x) *ℚ b 0) +ℚ z) (sum_is xs (λ j. b (suc j)))

  spread_fits : (tested : List ℕ) (k : ℕ) (xs : List F) (c : ℕ → ℚ) → along xs (spread tested k c) ≡ along (without tested k xs) c
  unfolding along spread
  spread_fits tested k [] c = refl
  spread_fits tested k (x ∷ xs) c = by (is_tested tested k) (spread_fits tested (k + 1) xs)
    where
      by : (t : Bool) → ((c : ℕ → ℚ) → along xs (spread tested (k + 1) c) ≡ along (without tested (k + 1) xs) c)
          → (rational (value x) *ℚ (if t then whole (pos 0) else c 0)) +ℚ along xs (λ j. if t then spread tested (k + 1) c j else spread tested (k + 1) (λ m. c (suc m)) j)
          ≡ along (if t then without tested (k + 1) xs else x ∷ without tested (k + 1) xs) c
      by true more = ring_ℚ (rational (value x) ∷ along xs (spread tested (k + 1) c) ∷ []) (v0 ⊠ number (pos 0) ⊞ v1) v1 refl ∙ more c
      by false more = ap (λ z. (rational (value x) *ℚ c 0) +ℚ z) (more (λ m. c (suc m)))

  module _ (p : Problem F) (tested : List ℕ) (shaped : IsWellShaped p) (h : AreTested p.columns tested) (c : ℕ → ℚ) where
    -- a row fits as it does without the tested columns
    row_fits : (i : ℕ) → i < length p.rows → fitted (sample value p) (spread tested 0 c) i ≡ fitted (sample value (restricted_problem tested p)) c i
    row_fits i l = elim (slice_get_cases p.rows i).1 [ inl w ↦ at w.0 w.2 w.3 | inr w ↦ absurd (omega (arith, l)) ]
      where
        at : (r : Row F) → slice_get p.rows i ≡ Some r → get_or p.rows i r ≡ r → fitted (sample value p) (spread tested 0 c) i ≡ fitted (sample value (restricted_problem tested p)) c i
        at r there is =
            let wide : length r.x ≡ p.columns = ap (λ s. length s.x) (sym is) ∙ shaped.entries i r l in
            let left : length (without tested 0 r.x) ≡ p.columns - length tested = size_without tested p.columns r.x h wide in
            let here : slice_get (restricted_problem tested p).rows i ≡ Some (restricted_row tested r) = slice_get-map (restricted_row tested) p.rows i ∙ ap (option_map (restricted_row tested)) there in
            ap₂ (λ n o. sum_ℚ n (λ k. option_map_or (λ s. value_at value s.x k) o (whole (pos 0)) *ℚ spread tested 0 c k)) (sym wide) there
            ∙ sum_is r.x (spread tested 0 c) ∙ spread_fits tested 0 r.x c ∙ sym (sum_is (without tested 0 r.x) c)
            ∙ ap₂ (λ n o. sum_ℚ n (λ k. option_map_or (λ s. value_at value s.x k) o (whole (pos 0)) *ℚ c k)) left (sym here)

    none_left : HasFullRank (sample value p) → ((i : ℕ) → i < length (restricted_problem tested p).rows → fitted (sample value (restricted_problem tested p)) c i ≡ whole (pos 0)) → (m : ℕ) → m < p.columns - length tested
        → c m ≡ whole (pos 0)
    none_left full none m l =
        all_zero tested 0 p.columns c
        (full (spread tested 0 c) (λ i li. row_fits i li ∙ none i (omega (arith, li, length-map p.rows (restricted_row {F = F} tested)))))
        m (omega (arith, l, size_without tested p.columns (noughts p.columns) h (length-noughts p.columns)))

pub restricted_has_full_rank : {F : Type 0} (value : F → Fraction) (p : Problem F) → RestrictedHasFullRank value p
restricted_has_full_rank value p tested shaped h full c none m l = none_left value p tested shaped h c full none m l
