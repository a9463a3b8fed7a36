-- Where a rank interval stops for an overflow, the operation overflows.
use Rattle.std.specs.Prelude.{◌⊎◌, ℕ, List, slice_index}
use Rattle.std.proofs.Common.{inl, inr}
use Rattle.rational_laws.specs.Fraction.{Fraction}
use Rattle.rational_laws.specs.Rational.{ℚ, inverse}
use Rattle.loss_model.specs.declared.problem.Problem.{Problem}
use Rattle.loss_model.specs.declared.process.Trail.{Trail}
use Rattle.loss_model.specs.declared.spill.Spill.{Spill}
use Rattle.loss_model.specs.Problem.{sample}
use Rattle.loss_model.specs.Sample.{Sample}
use Rattle.pivot_model.specs.declared.direction.Direction.{Direction}
use Rattle.walk_model.specs.Families.{Family}
use Rattle.walk_model.specs.WalkTrails.{is_within}
use Rattle.walk_model.specs.WalkSpills.{IsTestedCrossingSpill, IsTestedSpill, of_basis, of_dual, of_cost, of_crossing, of_entered, of_break, of_pivot}
use Rattle.rank_walk_model.specs.RankWalks.{Way, tested}
use Rattle.rank_walk_model.specs.Crossings.{parameter_of}
use Rattle.stop_laws.specs.NeededStops.{DoesOverflow}
use Rattle.stop_laws.proofs.Spilled.{operation, term, products, start, basis, cost, step, pivot}
use Rattle.rank_inversion.specs.Grams.{IsBeforeGram, IsProjectingSpill}
use Rattle.rank_inversion.specs.GramStops.{IsGramSpillAfter, IsTestSpill, IsBoundSpill}
use Rattle.rank_inversion.specs.Stops.{IsRankSpill, of_walk, of_square, of_ray, IsAtWalk, IsIntervalSpill}

module _ {F : Type 0} (value : F → Fraction) (range : ℕ) (s : Spill F) where
  abbrev Here : Type 0
  Here = DoesOverflow value range s

  -- ---- the Gram matrix and the test

  before_gram : (p : Sample) → IsBeforeGram value range p s → Here
  before_gram p (inl h) = operation value range s h.2.2
  before_gram p (inr h) = products value range s h.2.2

  pub gram : (p : Problem F) (trail : Trail) → IsGramSpillAfter value range p trail s → Here
  gram p trail (inl h) = before_gram (sample value p) h.1
  gram p trail (inr h) = start value range s h.0 trail h.2

  projecting : (n : ℕ) (a : ℕ → ℕ → ℚ) (j : ℕ) → IsProjectingSpill value range n a j s → Here
  projecting n a j (inl h) = operation value range s h
  projecting n a j (inr h) = operation value range s h.2.1

  bounding : (tau crit q : ℚ) → IsBoundSpill value range tau crit q s → Here
  bounding tau crit q (inl h) = operation value range s h
  bounding tau crit q (inr (inl h)) = operation value range s h
  bounding tau crit q (inr (inr (inl h))) = operation value range s h
  bounding tau crit q (inr (inr (inr (inl h)))) = operation value range s h
  bounding tau crit q (inr (inr (inr (inr h)))) = absurd h

  test : (p : Problem F) (j : ℕ) (tau crit : ℚ) → IsTestSpill value range p j tau crit s → Here
  test p j tau crit h = by h.2
    where
      by : IsProjectingSpill value range p.columns h.0 j s ⊎ IsBoundSpill value range tau crit (inverse (h.0 j j)) s → Here
      by (inl k) = projecting p.columns h.0 j k
      by (inr k) = bounding tau crit (inverse (h.0 j j)) k

  -- ---- a walk

  crossing : (f : Family) (wanted : ℚ → ℚ) (tau : ℚ) (c : ℕ) (at : ℕ → ℕ) (a : ℕ → ℕ → ℚ) (bound from : ℚ) (j : ℕ) (d : Direction) → IsTestedCrossingSpill value range f wanted tau c at a bound from j d s → Here
  crossing f wanted tau c at a bound from j d (inl h) = operation value range s h
  crossing f wanted tau c at a bound from j d (inr (inl h)) = operation value range s h
  crossing f wanted tau c at a bound from j d (inr (inr h)) = operation value range s h.1

  walk : (f : Family) (wanted : ℚ → ℚ) (tau : ℚ) (c : ℕ) (at : ℕ → ℕ) (a : ℕ → ℕ → ℚ) (bound from : ℚ) → IsTestedSpill value range f wanted tau c at a bound from s → Here
  walk f wanted tau c at a bound from (of_basis h) = basis value range s f.sample at a h
  walk f wanted tau c at a bound from (of_dual j lj h) = term value range s h
  walk f wanted tau c at a bound from (of_cost i li h) = cost value range s f.sample at a tau i h
  walk f wanted tau c at a bound from (of_crossing j d lj h) = crossing f wanted tau c at a bound from j d h
  walk f wanted tau c at a bound from (of_entered j lj h) = term value range s h
  walk f wanted tau c at a bound from (of_break t k j d next lj h) = term value range s h
  walk f wanted tau c at a bound from (of_pivot h) = pivot value range s f at a (is_within bound) from h

  ranked : (way : Way) (p : Sample) (j : ℕ) (tau bound : ℚ) (at : ℕ → ℕ) (a : ℕ → ℕ → ℚ) (from : ℚ) → IsRankSpill value range way p j tau bound at a from s → Here
  ranked way p j tau bound at a from (of_walk h) = walk (tested way p tau j) (parameter_of way) tau j at a bound from h
  ranked way p j tau bound at a from (of_square t k d next h) = operation value range s h
  ranked way p j tau bound at a from (of_ray t k d m next within none lm h) = operation value range s h

  at_walk : (p : Problem F) (j : ℕ) (tau bound : ℚ) (solved : List ℕ) (trail : Trail) → IsAtWalk value range p j tau bound solved trail s → Here
  at_walk p j tau bound solved trail (inl h) = ranked _ (sample value p) j tau bound _ h.1.a _ h.1.holds
  at_walk p j tau bound solved trail (inr h) = ranked _ (sample value p) j tau bound _ h.1.a _ h.1.holds

  pub of_interval : (p : Problem F) (j : ℕ) (tau crit : ℚ) (limit : ℕ) (trail : Trail) → IsIntervalSpill value range p j tau crit limit trail s → Here
  of_interval p j tau crit limit trail (inl h) = gram p trail h
  of_interval p j tau crit limit trail (inr (inl h)) = test p j tau crit h.here
  of_interval p j tau crit limit trail (inr (inr (inl h))) = start value range s p trail h
  of_interval p j tau crit limit trail (inr (inr (inr (inl h)))) = step value range s (sample value p) (slice_index h.basis) h.here.a tau h.here.holds
  of_interval p j tau crit limit trail (inr (inr (inr (inr h)))) = at_walk p j tau h.0 h.2.solved trail h.2.here
