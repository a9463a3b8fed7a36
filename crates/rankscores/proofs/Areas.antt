-- Cross products of the rankscore of a row, one segment after another, and the place of a row.
use Rattle.std.proofs.Common.{◌≡◌, ◌<◌, ◌≤◌, ◌+◌, ◌-◌, ℕ, zero, suc, Bool, true, false, nat_lt, MatchResult, List, Option, Some, Contains}
use Rattle.std.proofs.Common.{Result, Ok, Err, IsOk, add-one, get_or, length, slice_get, pos, arith, refl, sym, ap, ap₂, subst, ◌∙◌, []}
use Rattle.std.specs.List.Sorted.{IsBinarySearchResult, IsStrictlyIncreasing}
use Rattle.std.specs.Ordering.{nat_cmp}
use Rattle.std.specs.Option.{option_map_or}
use Rattle.std.proofs.lemmas.Bool.{ltb-false, ltb-true}
use Rattle.std.proofs.lemmas.List.Sorted.{searched}
use Rattle.std.proofs.lemmas.Option.{slice_get-get_or, slice_get_read}
use Rattle.rational_laws.specs.Solver.{number, ◌⊞◌}
use Rattle.rational_laws.specs.Rational.{ℚ, ◌+ℚ◌, whole}
use Rattle.rational_laws.specs.Fraction.{Fraction, rational}
use Rattle.rational_laws.proofs.RationalLaws.{ring_ℚ}
use Rattle.rational_laws.proofs.RationalSumLaws.{sum_ℚ-next}
use Rattle.loss_model.specs.declared.problem.Problem.{Problem}
use Rattle.loss_model.specs.declared.process.Segment.{Segment}
use Rattle.loss_model.specs.Dual.{rankscore}
use Rattle.loss_model.specs.Problem.{sample}
use Rattle.loss_model.specs.Segment.{dual_at, segments_of}
use Rattle.loss_model.proofs.Vertices.{ascending}
use Rattle.rankscores.specs.Rows.{cross, cross_to, open_end, score_cross, segment_cross, IsIntegrable}

module _ {F : Type 0} (value : F → Fraction) (p : Problem F) (segments : List Segment) (i : ℕ) where
  -- a number of a segment, if there is one
  abbrev of : Option Segment → (Segment → ℚ) → ℚ
  of o part = option_map_or part o (whole (pos 0))

  abbrev low : Option Segment → ℚ
  low o = of o (λ s. rational s.lo)

  abbrev high : Option Segment → ℚ
  high o = of o (λ s. rational s.hi)

  abbrev low_score : Option Segment → ℚ
  low_score o = rankscore (sample value p) (low o) (λ i. of o (λ s. dual_at value p s.vertex s.basic_lo s.lo i)) i

  abbrev high_score : Option Segment → ℚ
  high_score o = rankscore (sample value p) (high o) (λ i. of o (λ s. dual_at value p s.vertex s.basic_hi s.hi i)) i

  -- where the first j segments end
  abbrev ended : ℕ → ℚ
  ended zero = whole (pos 0)
  ended (suc j) = (segments_of value p segments).hi j

  -- the terms of the first j segments, behind which a run may be open
  abbrev pub IsCrossedTo : ℕ → ℚ → Bool → Type 0
  IsCrossedTo j t is_open = t +ℚ open_end is_open (ended j) ≡ cross_to value p segments i j

  pub crossed_none : (t : ℚ) → t ≡ whole (pos 0) → IsCrossedTo 0 t false
  crossed_none t e = ap (λ z. z +ℚ whole (pos 0)) e ∙ ring_ℚ [] (number (pos 0) ⊞ number (pos 0)) (number (pos 0)) refl

  module _ (ok : IsIntegrable value p segments i) where
    -- a segment begins where those before it end
    begins : (j : ℕ) → j < length segments → ended j ≡ (segments_of value p segments).lo j
    begins zero l = sym ok.covers.first
    begins (suc j) l = ok.covers.joined j (omega (arith, l)) ∙ ap (segments_of value p segments).lo (add-one j)

    module _ (j : ℕ) (s : Segment) (within : j < length segments) (there : slice_get segments j ≡ Some s) where
      cross_is : score_cross (sample value p) (segments_of value p segments) i j ≡ segment_cross value p s i
      cross_is = ap (λ o. cross (low o) (high o) (low_score o) (high_score o)) there

      pub cross_more : (t u : ℚ) (is_open next : Bool) → IsCrossedTo j t is_open → u +ℚ open_end next (rational s.hi) ≡ (t +ℚ open_end is_open (rational s.lo)) +ℚ segment_cross value p s i → IsCrossedTo (j + 1) u next
      cross_more t u is_open next h e =
          ap (λ z. u +ℚ open_end next z) (ap ended (add-one j) ∙ ap high there) ∙ e
          ∙ ap₂ (λ a b. a +ℚ b) (ap (λ z. t +ℚ open_end is_open z) (sym (begins j within ∙ ap low there)) ∙ h) (sym cross_is)
          ∙ sym (sum_ℚ-next j (score_cross (sample value p) (segments_of value p segments) i))

    -- the last segment ends them
    pub crossed_all : (j : ℕ) (last : Segment) (t u : ℚ) (is_open : Bool) → j ≡ length segments → last ≡ get_or segments (length segments - 1) last → IsCrossedTo j t is_open → u ≡ t +ℚ open_end is_open (rational last.hi)
        → u ≡ cross_to value p segments i (length segments)
    crossed_all j last t u is_open end is h closed =
        let all : suc (length segments - 1) ≡ length segments = omega (arith, ok.covers.some) in
        closed
        ∙ ap (λ z. t +ℚ open_end is_open z)
        (sym (ap high (slice_get_read segments (length segments) (length segments - 1) last refl (omega (arith, ok.covers.some)) is)) ∙ ap ended (all ∙ sym end))
        ∙ h ∙ ap (cross_to value p segments i) end

-- ---- the place of a row

not_after : (xs : List ℕ) → IsStrictlyIncreasing xs → (i j : ℕ) → i ≤ j → j < length xs → get_or xs i 0 ≤ get_or xs j 0
not_after xs up i j le l = by (nat_lt i j) refl
  where
    by : (t : Bool) → nat_lt i j ≡ t → get_or xs i 0 ≤ get_or xs j 0
    by true e = omega (arith, ascending xs up i j (ltb-true i j e) l)
    by false e = let same : i ≡ j = omega (arith, ltb-false i j e, le) in subst (λ k. get_or xs i 0 ≤ get_or xs k 0) same (omega arith)

-- a row that is there is found
pub search_finds : (xs : List ℕ) (x : ℕ) (r : Result ℕ ℕ) → IsStrictlyIncreasing xs → Contains xs x → IsBinarySearchResult (λ y. nat_cmp y x) xs r → IsOk r
search_finds xs x r up there found = by r (searched xs x r found (not_after xs up))
  where
    at : get_or xs there.0 0 ≡ x
    at = cc (sym (slice_get-get_or xs there.0 0 there.1) ∙ slice_get-get_or xs there.0 x there.1) ∙ there.2

    by : (r : Result ℕ ℕ) → MatchResult r (λ i. (i < length xs) × (get_or xs i 0 ≡ x)) (λ i. (i ≤ length xs) × ((k : ℕ) → k < i → get_or xs k 0 < x) × ((k : ℕ) → i ≤ k → k < length xs → x < get_or xs k 0)) → IsOk r
    by (Ok i) m = refl
    by (Err i) m = absurd (grind (arith, m.1 there.0, m.2 there.0, there.1, at))
