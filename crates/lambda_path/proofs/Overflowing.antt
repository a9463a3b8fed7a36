-- Operations of costs that overflow, and those that don't.
use Rattle.std.proofs.Common.{◌≡◌, ◌^◌, ◌-◌, ◌+◌, ◌<◌, ◌++◌, ℕ, suc, List, [], ◌∷◌, length, get_or, take, drop, length-take-le, take-append-drop, append_assoc, arith, inl, inr, refl, sym, ap, subst, ◌∙◌}
use Rattle.std.proofs.lemmas.List.{take_more, drop_more}
use Rattle.rational_laws.specs.Rational.{ℚ}
use Rattle.frac_core.specs.Overflow.{Overflows as OverflowsAt}
use Rattle.frac_core.specs.declared.exact.OpKind.{OpKind}
use Rattle.frac_core.specs.declared.frac128.Frac128.{Frac128}
use Rattle.frac_core.specs.Values.{exact, value}
use Rattle.loss_model.specs.declared.problem.Row.{Row}
use Rattle.loss_model.specs.declared.spill.Site.{Site}
use Rattle.loss_model.specs.declared.spill.Spill.{Spill}
use Rattle.tv_penalty.specs.Operations.{SitedOperation, IsSpillOf, NoneOverflows, OverflowsFirst}
use Rattle.lambda_path.specs.declared.fault.PathFault.{PathFault}
use Rattle.lambda_path.specs.declared.fault.PathFault.TheVariants.{OutOfMemory, TooManyRows, Overflow}
use Rattle.lambda_path.specs.Faults.{cost_operations, operations_from}
use Rattle.lambda_path.specs.Steps.{IsCostFault}

-- the spill of an operation on these numbers, which overflows; its site is the one before, with its kind
pub spilt : (from site : Site) (kind : OpKind) (l r : Frac128) (left right : ℚ) (s : Spill Frac128) → from ≡ site → exact l ≡ left → exact r ≡ right → s ≡ record { site = record from { kind = kind }; left = l; right = r }
    → OverflowsAt (2 ^ 127 - 1) kind (value l) (value r)
    → IsSpillOf (record { site = record site { kind = kind }; left = left; right = right }) s
spilt from site kind l r left right s same el er is over =
    subst (IsSpillOf (record { site = record site { kind = kind }; left = left; right = right })) (sym (is ∙ (λ i. record { site = record (same i) { kind = kind }; left = l; right = r })))
    (record { named = refl; is_left = el; is_right = er; overflows = over })

-- ---- row by row

fits_append : (xs ys : List SitedOperation) → NoneOverflows xs → NoneOverflows ys → NoneOverflows (xs ++ ys)
fits_append [] ys h k = k
fits_append (x ∷ xs) ys h k = (h.0, fits_append xs ys h.1 k)

first_here : (xs ys : List SitedOperation) (s : Spill Frac128) → OverflowsFirst xs s → OverflowsFirst (xs ++ ys) s
first_here [] ys s h = absurd h
first_here (x ∷ xs) ys s (inl h) = inl h
first_here (x ∷ xs) ys s (inr h) = inr (h.0, first_here xs ys s h.1)

first_behind : (xs ys : List SitedOperation) (s : Spill Frac128) → NoneOverflows xs → OverflowsFirst ys s → OverflowsFirst (xs ++ ys) s
first_behind [] ys s h k = k
first_behind (x ∷ xs) ys s h k = inr (h.0, first_behind xs ys s h.1 k)

module _ (tau : ℚ) where
  operations_append : (i : ℕ) (xs ys : List (Row Frac128)) → operations_from i tau (xs ++ ys) ≡ operations_from i tau xs ++ operations_from (i + length xs) tau ys
  operations_append i [] ys = ap (λ n. operations_from n tau ys) (let e : i ≡ i + 0 = omega arith in e)
  operations_append i (x ∷ xs) ys =
      ap (λ z. cost_operations i (exact x.up1) tau ++ z) (operations_append (i + 1) xs ys ∙ ap (λ n. operations_from (i + 1) tau xs ++ operations_from n tau ys) (let e : i + 1 + length xs ≡ i + suc (length xs) = omega arith in e))
      ∙ sym (append_assoc (cost_operations i (exact x.up1) tau) (operations_from (i + 1) tau xs) (operations_from (i + length (x ∷ xs)) tau ys))

  module _ (rows : List (Row Frac128)) (k : ℕ) (r : Row Frac128) (within : k < length rows) (here : r ≡ get_or rows k r) where
    taken : 0 + length (take k rows) ≡ k
    taken = omega (arith, length-take-le k rows (omega (arith, within)))

    -- one more row without an overflow
    pub fits_more : NoneOverflows (operations_from 0 tau (take k rows)) → NoneOverflows (cost_operations k (exact r.up1) tau) → NoneOverflows (operations_from 0 tau (take (k + 1) rows))
    fits_more before now =
        subst NoneOverflows
        (sym (ap (operations_from 0 tau) (take_more rows k r within ∙ ap (λ z. take k rows ++ z ∷ []) (sym here)) ∙ operations_append 0 (take k rows) (r ∷ [])
        ∙ ap (λ n. operations_from 0 tau (take k rows) ++ operations_from n tau (r ∷ [])) taken))
        (fits_append (operations_from 0 tau (take k rows)) (operations_from k tau (r ∷ [])) before (fits_append (cost_operations k (exact r.up1) tau) [] now tt))

    split : rows ≡ take k rows ++ r ∷ drop (k + 1) rows
    split = sym (take-append-drop k rows) ∙ ap (λ z. take k rows ++ z) (drop_more rows k r within ∙ ap (λ z. z ∷ drop (k + 1) rows) (sym here))

    -- the first row with one
    first_at : (s : Spill Frac128) → NoneOverflows (operations_from 0 tau (take k rows)) → OverflowsFirst (cost_operations k (exact r.up1) tau) s → OverflowsFirst (operations_from 0 tau rows) s
    first_at s before now =
        subst (λ os. OverflowsFirst os s)
        (sym (ap (operations_from 0 tau) split ∙ operations_append 0 (take k rows) (r ∷ drop (k + 1) rows) ∙ ap (λ n. operations_from 0 tau (take k rows) ++ operations_from n tau (r ∷ drop (k + 1) rows)) taken))
        (first_behind (operations_from 0 tau (take k rows)) (operations_from k tau (r ∷ drop (k + 1) rows)) s before (first_here (cost_operations k (exact r.up1) tau) (operations_from (k + 1) tau (drop (k + 1) rows)) s now))

    -- the fault of a row is that of all
    pub fault_at : (fault : PathFault) → NoneOverflows (operations_from 0 tau (take k rows)) → IsCostFault (cost_operations k (exact r.up1) tau) fault → IsCostFault (operations_from 0 tau rows) fault
    fault_at OutOfMemory before now = tt
    fault_at TooManyRows before now = now
    fault_at (Overflow s) before now = first_at s before now
