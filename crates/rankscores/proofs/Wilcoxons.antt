-- Wilcoxon scores of many rows, one after another.
use Rattle.std.proofs.Common.{◌≡◌, ◌+◌, ◌<◌, ℕ, Bool, true, false, nat_lt, List, [], ◌∷◌, ◌++◌, length, pos, arith, refl, sym, ap, subst, ◌∙◌}
use Rattle.std.specs.Option.{option_map_or}
use Rattle.std.proofs.lemmas.Bool.{ltb-false, ltb-true}
use Rattle.std.proofs.lemmas.List.{length-append}
use Rattle.rational_laws.specs.Rational.{◌-ℚ◌, whole}
use Rattle.rational_laws.specs.Fraction.{Fraction, rational}
use Rattle.rational_laws.proofs.Lists.{pushed_before, pushed_last}
use Rattle.loss_model.specs.declared.problem.Problem.{Problem}
use Rattle.loss_model.specs.declared.process.Segment.{Segment}
use Rattle.loss_model.specs.Problem.{number_at, sample}
use Rattle.loss_model.specs.Segment.{Covers, segments_of}
use Rattle.rankscores.specs.Rows.{area_to}
use Rattle.rankscores.specs.Wilcoxon.{half, AreWilcoxon, IsWilcoxon}
use Rattle.rankscores.proofs.WilcoxonLaws.{is_sum, proper}

module _ {F : Type 0} (value : F → Fraction) (p : Problem F) (segments : List Segment) where
  -- the scores of the first k rows
  pub record AreFirst (k : ℕ) (scores : List Fraction) : Type 0 where
    pub size : length scores ≡ k
    pub each : (i : ℕ) → i < k → IsWilcoxon (sample value p) (segments_of value p segments) i (number_at scores i)

  pub first_none : AreFirst 0 []
  first_none = record { size = refl; each = λ i l. absurd (omega (arith, l)) }

  pub first_more : Covers (length p.rows) (whole (pos 0)) (whole (pos 1)) (segments_of value p segments)
      → (k : ℕ) (scores next : List Fraction) (x : Fraction) → AreFirst k scores → rational x ≡ area_to value p segments k (length segments) -ℚ half
      → next ≡ scores ++ x ∷ [] → AreFirst (k + 1) next
  first_more covers k scores next x so_far is grown =
      subst (AreFirst (k + 1)) (sym grown) (record {
        size = length-append scores (x ∷ []) ∙ ap (λ n. n + 1) so_far.size;
        each = λ i l. by i (nat_lt i k) refl l;
      })
    where
      new : IsWilcoxon (sample value p) (segments_of value p segments) k (rational x)
      new = (is_sum (sample value p) (segments_of value p segments) k (rational x) (proper (length p.rows) (segments_of value p segments) covers)).1 is

      by : (i : ℕ) (t : Bool) → nat_lt i k ≡ t → i < k + 1 → IsWilcoxon (sample value p) (segments_of value p segments) i (number_at (scores ++ x ∷ []) i)
      by i true e l =
          let before : i < k = ltb-true i k e in
          subst (IsWilcoxon (sample value p) (segments_of value p segments) i) (ap (λ o. option_map_or (λ y. rational y) o (whole (pos 0))) (sym (pushed_before scores x i (omega (arith, before, so_far.size))))) (so_far.each i before)
      by i false e l =
          let same : length scores ≡ i = omega (arith, ltb-false i k e, l, so_far.size) in
          let row : k ≡ i = omega (arith, ltb-false i k e, l) in
          subst (λ n. IsWilcoxon (sample value p) (segments_of value p segments) n (number_at (scores ++ x ∷ []) n)) row
          (subst (λ n. IsWilcoxon (sample value p) (segments_of value p segments) k (number_at (scores ++ x ∷ []) n)) so_far.size
          (subst (IsWilcoxon (sample value p) (segments_of value p segments) k) (ap (λ o. option_map_or (λ y. rational y) o (whole (pos 0))) (sym (pushed_last scores x))) new))

  pub first_all : (k : ℕ) (scores : List Fraction) → k ≡ length p.rows → AreFirst k scores → AreWilcoxon value p segments scores
  first_all k scores end all =
      record { size = all.size ∙ end; each = subst (λ n. (i : ℕ) → i < n → IsWilcoxon (sample value p) (segments_of value p segments) i (number_at scores i)) end all.each }
