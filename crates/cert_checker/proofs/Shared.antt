-- What a run of segments shares, and the tests of all segments condition by condition.
use Rattle.std.specs.Prelude.{◌≡◌, ℕ, ◌+◌, ◌<◌, ◌≤◌, ◌++◌, List, [], length, slice_get, Option, Some, None, Result, Err, ⊤}
use Rattle.std.specs.Option.{option_map_or}
use Rattle.std.proofs.Common.{arith, refl, subst}
use Rattle.std.proofs.lemmas.Option.{slice_get_within}
use Rattle.frac_core.specs.declared.frac128.Frac128.{Frac128}
use Rattle.frac_core.specs.Values.{value as value128}
use Rattle.loss_model.specs.declared.problem.Problem.{Problem}
use Rattle.loss_model.specs.declared.process.Segment.{Segment}
use Rattle.loss_model.specs.Problem.{sample}
use Rattle.cert_sums.specs.Ends.{IsHeldAt}
use Rattle.cert_checker.specs.Tests.{Test, AreTrue, upto}
use Rattle.cert_checker.specs.Conditions.{each, item_tests, balances, losses, joint_tests, joints}
use Rattle.cert_checker.specs.Given.{AllGiven}
use Rattle.cert_checker.specs.Verdicts.{Settles}
use Rattle.cert_checker.specs.Views.{IsSmall, IsTabled}
use Rattle.cert_checker.specs.declared.verdict.Halt.{Halt}
use Rattle.cert_checker.specs.Runs.{sum_tests, all_sum_tests, IsSumGiven}
use Rattle.cert_checker.specs.declared.quick.Quick.{Quick}
use Rattle.cert_checker.proofs.Decided.{joined}
use Rattle.cert_checker.proofs.Decided.{front, behind}
use Rattle.cert_checker.proofs.Extracts.{split, at}
use Rattle.cert_checker.proofs.Wholes.{true_upto, balanced_segment, lost_segment, met_segment}

-- ---- three conditions of each item

module _ {A : Type 0} (f g h : ℕ → A → List Test) where
  of_one : (o : Option A) (j : ℕ) → AreTrue (option_map_or (λ x. f j x ++ (g j x ++ h j x)) o [])
      → AreTrue (option_map_or (f j) o []) × AreTrue (option_map_or (g j) o []) × AreTrue (option_map_or (h j) o [])
  of_one None j k = (tt, tt, tt)
  of_one (Some x) j k =
      let a = split (f j x) (g j x ++ h j x) k in
      let b = split (g j x) (h j x) a.1 in
      (a.0, b.0, b.1)

  pub apart : (xs : List A) → AreTrue (each xs (λ j x. f j x ++ (g j x ++ h j x))) → AreTrue (each xs f ++ (each xs g ++ each xs h))
  apart xs k =
      let one = λ (i : ℕ) (l : i < length xs). of_one (slice_get xs i) (i + 1) (at (length xs) (item_tests xs (λ j x. f j x ++ (g j x ++ h j x))) k i l) in
      joined (each xs f) (each xs g ++ each xs h) (true_upto (length xs) (item_tests xs f) (λ i l. (one i l).0))
      (joined (each xs g) (each xs h) (true_upto (length xs) (item_tests xs g) (λ i l. (one i l).1)) (true_upto (length xs) (item_tests xs h) (λ i l. (one i l).2)))

-- ---- a run of segments

module _ (p : Problem Frac128) (own : List Segment) where
  joint_of : (i : ℕ) (s : Segment) → slice_get own i ≡ Some s → IsHeldAt p own i → (o : Option Segment) → slice_get own (i + 1) ≡ o
      → AreTrue (option_map_or (joint_tests (sample value128 p) (i + 1) s) o [])
  joint_of i s here h None e = tt
  joint_of i s here h (Some next) e = met_segment p s next (h.joint s next here e) (i + 1)

  held_item : (i : ℕ) (s : Segment) → slice_get own i ≡ Some s → IsHeldAt p own i → AreTrue (sum_tests p own (i + 1) s)
  held_item i s here h =
      let k = h.held s here in
      joined (balances (sample value128 p) (i + 1) s) (losses (sample value128 p) (i + 1) s ++ joints (sample value128 p) own (i + 1) s) (balanced_segment p s k.low_balanced k.high_balanced (i + 1))
      (joined (losses (sample value128 p) (i + 1) s) (joints (sample value128 p) own (i + 1) s) (lost_segment p s k.low_loss k.high_loss (i + 1)) (joint_of i s here h (slice_get own (i + 1)) refl))

-- the segments of a list, each of which is the one at its place of the list that was tested
pub run_true : (q : Quick) (own list : List Segment) (first : ℕ) → AllGiven list (IsSumGiven q own)
    → ((j : ℕ) → j < first + 64 → j < length own → first ≤ j → IsHeldAt q.problem.now own j)
    → AreTrue (upto 64 (λ i. item_tests list (sum_tests q.problem.now own) (first + i)))
run_true q own list first given held = true_upto 64 _ (λ i l. item i l (slice_get list (first + i)) refl)
  where
    item : (i : ℕ) → i < 64 → (o : Option Segment) → slice_get list (first + i) ≡ o → AreTrue (option_map_or (sum_tests q.problem.now own (first + i + 1)) o [])
    item i l None e = tt
    item i l (Some s) e =
        let here = (given (first + i) s e).2 (first + i) refl in
        held_item q.problem.now own (first + i) s here (held (first + i) (omega (arith, l)) (slice_get_within own (first + i) s here) (omega arith))

-- ---- conditions 6 to 8, one after the other

module _ (p : Problem Frac128) (segments : List Segment) where
  abbrev balanced : List Test
  balanced = each segments (balances (sample value128 p))

  abbrev lost : List Test
  lost = each segments (losses (sample value128 p))

  abbrev jointed : List Test
  jointed = each segments (joints (sample value128 p) segments)

  pub at_balances : (halt : Halt) → Settles balanced (Err halt) → Settles (all_sum_tests p segments) (Err halt)
  at_balances halt h = front balanced (lost ++ jointed) halt h

  pub at_losses : AreTrue balanced → (halt : Halt) → Settles lost (Err halt) → Settles (all_sum_tests p segments) (Err halt)
  at_losses k halt h = behind balanced (lost ++ jointed) k (Err halt) (front lost jointed halt h)

  pub at_joints : AreTrue balanced → AreTrue lost → (r : Result ⊤ Halt) → Settles jointed r → Settles (all_sum_tests p segments) r
  at_joints k l r h = behind balanced (lost ++ jointed) k r (behind lost jointed l r h)

  -- and all of them of one segment after the other
  pub all_apart : AreTrue (each segments (sum_tests p segments)) → AreTrue (all_sum_tests p segments)
  all_apart h = apart (balances (sample value128 p)) (losses (sample value128 p)) (joints (sample value128 p) segments) segments h

  -- a list's segments are those at their places
  pub all_given : (q : Quick) → IsSmall q.problem.now → IsTabled q → AllGiven segments (IsSumGiven q segments)
  all_given q small table j s e = (small, table, λ k f. let same : j ≡ k = omega (arith, f) in subst (λ k. slice_get segments k ≡ Some s) same e)

-- ---- and of a segment

module _ (p : Problem Frac128) (segments : List Segment) (j : ℕ) (s : Segment) where
  pub of_balances : (halt : Halt) → Settles (balances (sample value128 p) j s) (Err halt) → Settles (sum_tests p segments j s) (Err halt)
  of_balances halt h = front (balances (sample value128 p) j s) (losses (sample value128 p) j s ++ joints (sample value128 p) segments j s) halt h

  pub of_losses : AreTrue (balances (sample value128 p) j s) → (halt : Halt) → Settles (losses (sample value128 p) j s) (Err halt) → Settles (sum_tests p segments j s) (Err halt)
  of_losses k halt h =
      behind (balances (sample value128 p) j s) (losses (sample value128 p) j s ++ joints (sample value128 p) segments j s) k (Err halt)
      (front (losses (sample value128 p) j s) (joints (sample value128 p) segments j s) halt h)

  pub of_joints : AreTrue (balances (sample value128 p) j s) → AreTrue (losses (sample value128 p) j s) → (r : Result ⊤ Halt) → Settles (joints (sample value128 p) segments j s) r → Settles (sum_tests p segments j s) r
  of_joints k l r h =
      behind (balances (sample value128 p) j s) (losses (sample value128 p) j s ++ joints (sample value128 p) segments j s) k r
      (behind (losses (sample value128 p) j s) (joints (sample value128 p) segments j s) l r h)
