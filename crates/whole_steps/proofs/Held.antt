-- A scan of the positions of a basis for its least row in a range.
use Rattle.std.specs.Prelude.{◌≡◌, ℕ, ◌+◌, ◌<◌, ◌≤◌, Option, Some, None}
use Rattle.std.proofs.Common.{arith, refl, subst, below_more}
use Rattle.whole_steps.specs.Ties.{HoldsNone, IsNextHeld}

abbrev pub IsFound : ℕ → (ℕ → ℕ) → ℕ → ℕ → ℕ → Option ℕ → Type 0
IsFound i at from to end None = end ≡ to
IsFound i at from to end (Some k) = (k < i) × (from ≤ at k) × (at k ≡ end) × (end < to)

pub record IsScanned (i : ℕ) (at : ℕ → ℕ) (from to end : ℕ) (next : Option ℕ) : Type 0 where
  pub low : end ≤ to
  pub none : HoldsNone i at from end
  pub found : IsFound i at from to end next

module _ (at : ℕ → ℕ) (from to : ℕ) where
  pub begun : IsScanned 0 at from to to None
  begun = record { low = omega arith; none = λ j l a b. absurd (omega arith); found = refl }

  -- position i is passed over
  pub passed : (i end : ℕ) (next : Option ℕ) → IsScanned i at from to end next → (from ≤ at i → at i < end → ⊥) → IsScanned (i + 1) at from to end next
  passed i end next h here =
      record {
        low = h.low;
        none = below_more (λ j. from ≤ at j → at j < end → ⊥) i h.none here;
        found = later next h.found;
      }
    where
      later : (next : Option ℕ) → IsFound i at from to end next → IsFound (i + 1) at from to end next
      later None f = f
      later (Some k) (l, a, e, b) = (omega (arith, l), a, e, b)

  -- or taken
  pub taken : (i end : ℕ) (next : Option ℕ) → IsScanned i at from to end next → from ≤ at i → at i < end → IsScanned (i + 1) at from to (at i) (Some i)
  taken i end next h a b =
      record {
        low = omega (arith, h.low);
        none = below_more (λ j. from ≤ at j → at j < at i → ⊥) i (λ j l c d. h.none j l c (omega arith)) (λ c d. omega arith);
        found = (omega arith, a, refl, omega (arith, h.low));
      }

  pub scanned : (n end : ℕ) (next : Option ℕ) → IsScanned n at from to end next → IsNextHeld n at from to next
  scanned n end None h = subst (λ e. HoldsNone n at from e) h.found h.none
  scanned n end (Some k) h = by h.found
    where
      by : IsFound n at from to end (Some k) → IsNextHeld n at from to (Some k)
      by (l, a, e, b) =
          record {
            within = l;
            above = a;
            below = omega (arith, e, b);
            least = λ j lj c d. h.none j lj c (omega (arith, e, d));
          }
