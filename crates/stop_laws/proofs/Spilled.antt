-- Where a spill has its cause, the operation that it names overflows.
use Rattle.std.specs.Prelude.{◌⊎◌, ℕ, Bool, List, [], ◌∷◌}
use Rattle.std.proofs.Common.{sym, subst, inl, inr}
use Rattle.rational_laws.specs.Fraction.{Fraction}
use Rattle.rational_laws.specs.Rational.{ℚ}
use Rattle.frac_core.specs.Overflow.{Overflows}
use Rattle.loss_model.specs.declared.problem.Problem.{Problem}
use Rattle.loss_model.specs.declared.process.Trail.{Trail}
use Rattle.loss_model.specs.declared.spill.Site.{Site}
use Rattle.loss_model.specs.declared.spill.Spill.{Spill}
use Rattle.loss_model.specs.Sample.{Sample}
use Rattle.loss_model.specs.Problem.{sample}
use Rattle.loss_model.specs.Quantities.{IsCoordinatesSpill, IsEntrySpill, IsExchangeSpill}
use Rattle.loss_model.specs.Spill.{IsOperation, IsAmong, Operation, IsTermSpill, of_product, of_addition, Products, IsSpillOf, IsSideCostSpill}
use Rattle.loss_model.specs.StartStop.{IsRowEntrySpill, IsStartSpill}
use Rattle.basis_model.specs.Perturbed.{Nonbasic}
use Rattle.basis_model.specs.RatioSpill.{IsRatioEntrySpill, IsRatioSpill}
use Rattle.basis_model.specs.Basis.{coefficient}
use Rattle.basis_model.specs.BasisSpills.{IsBasisSpill}
use Rattle.pivot_model.specs.declared.direction.Direction.{Direction}
use Rattle.pivot_model.specs.declared.direction.Direction.TheVariants.{Upward, Downward}
use Rattle.pivot_model.specs.Spills.{IsCostSpill, IsFirstSlopeSpill, IsSearchSpill, of_cost_sum, of_passing, of_ratio, of_tie, IsStepSpill, of_basis, of_dual, of_cost, of_slope, of_search, of_exchange}
use Rattle.walk_model.specs.Families.{Family, over_quantiles}
use Rattle.walk_model.specs.WalkTrails.{is_below}
use Rattle.walk_model.specs.WalkSpills.{IsCrossingSpill, IsPivotSpill, of_ratio as at_ratio, of_tie as at_tie, of_exchange as at_exchange, IsEndSpill, of_dual as at_dual, of_cost as at_cost}
use Rattle.walk_model.specs.WalkSpills.{of_loss as at_loss, IsStaySpill, of_basis as at_basis, of_crossing, of_lo, of_hi, of_pivot}
use Rattle.tau_process.specs.Solves.{IsSolveSpill}
use Rattle.tau_process.specs.Stops.{IsProcessSpill}
use Rattle.stop_laws.specs.NeededStops.{DoesOverflow}

module _ {F : Type 0} (value : F → Fraction) (range : ℕ) (s : Spill F) where
  abbrev Here : Type 0
  Here = DoesOverflow value range s

  -- ---- operations

  pub operation : {site : Site} {left right : ℚ} → IsOperation value range site left right s → Here
  operation h = subst (λ (x : Site). Overflows range x.kind (value s.left) (value s.right)) (sym h.named) h.overflows

  pub among : (site : Site) (term : ℕ) (os : List Operation) → IsAmong value range site term os s → Here
  among site term [] h = absurd h
  among site term (o ∷ os) (inl h) = operation h
  among site term (o ∷ os) (inr h) = among site _ os h

  pub term : {site : Site} {first left right : ℚ} → IsTermSpill value range site first left right s → Here
  term (of_product h) = operation h
  term (of_addition h) = operation h

  pub products : {site : Site} {t : Products} → IsSpillOf value range site t s → Here
  products h = term h.at_product.2

  -- ---- exchanges and the start

  coordinates : (n : ℕ) (a : ℕ → ℕ → ℚ) (x : ℕ → ℚ) (row : ℕ) → IsCoordinatesSpill value range n a x row s → Here
  coordinates n a x row h = products h.2

  entry : (n : ℕ) (a : ℕ → ℕ → ℚ) (x : ℕ → ℚ) (r : ℕ) → IsEntrySpill value range n a x r s → Here
  entry n a x r (inl h) = operation h.2
  entry n a x r (inr h) = term h.2.2.1

  exchange : (n : ℕ) (a : ℕ → ℕ → ℚ) (x : ℕ → ℚ) (row r : ℕ) → IsExchangeSpill value range n a x row r s → Here
  exchange n a x row r (inl h) = coordinates n a x row h
  exchange n a x row r (inr h) = entry n a x r h

  pub start : (p : Problem F) (trail : Trail) → IsStartSpill value range p trail s → Here
  start p trail h = by h.spill
    where
      by : IsRowEntrySpill value range (sample value p) trail.start h.a h.row s → Here
      by (inl free) = products free.2.1
      by (inr enters) = exchange (sample value p).columns h.a ((sample value p).x h.row) h.row enters.0 enters.2

  -- ---- at a basis

  pub basis : (p : Sample) (at : ℕ → ℕ) (a : ℕ → ℕ → ℚ) → IsBasisSpill value range p at a s → Here
  basis p at a (inl h) = products h.2
  basis p at a (inr (inl h)) = products h.2
  basis p at a (inr (inr (inl h))) = coordinates p.columns a (p.x h.0) h.0 h.2
  basis p at a (inr (inr (inr (inl h)))) = term h.1.2.at_row.2.1
  basis p at a (inr (inr (inr (inr h)))) = products h.1.2

  ratio : (rows n : ℕ) (at : ℕ → ℕ) (j : ℕ) (u v : Nonbasic) → IsRatioSpill value range rows n at j u v s → Here
  ratio rows n at j u v h = by h.spill
    where
      by : IsRatioEntrySpill value range n at j u h.entry s ⊎ IsRatioEntrySpill value range n at j v h.entry s → Here
      by (inl k) = operation k
      by (inr k) = operation k

  pub cost : (p : Sample) (at : ℕ → ℕ) (a : ℕ → ℕ → ℚ) (theta : ℚ) (i : ℕ) → IsCostSpill value range p at a theta i s → Here
  cost p at a theta i (inl h) = term h
  cost p at a theta i (inr h) = term h

  slope : (p : Sample) (at : ℕ → ℕ) (a : ℕ → ℕ → ℚ) (theta : ℚ) (j : ℕ) (d : Direction) → IsFirstSlopeSpill value range p at a theta j d s → Here
  slope p at a theta j Upward h = operation h
  slope p at a theta j Downward h = operation h

  search : (p : Sample) (at : ℕ → ℕ) (a : ℕ → ℕ → ℚ) (theta : ℚ) (j : ℕ) (d : Direction) → IsSearchSpill value range p at a theta j d s → Here
  search p at a theta j d (of_cost_sum r lr mover h) = operation h
  search p at a theta j d (of_passing r lr mover h) = term h
  search p at a theta j d (of_ratio r lr mover h) = operation h
  search p at a theta j d (of_tie r i differ lr li mover other h) = ratio _ _ _ _ _ _ h

  pub step : (p : Sample) (at : ℕ → ℕ) (a : ℕ → ℕ → ℚ) (theta : ℚ) → IsStepSpill value range p at a theta s → Here
  step p at a theta (of_basis h) = basis p at a h
  step p at a theta (of_dual j lj h) = term h
  step p at a theta (of_cost i li h) = cost p at a theta i h
  step p at a theta (of_slope j d lj h) = slope p at a theta j d h
  step p at a theta (of_search j d leaving h) = search p at a theta j d h
  step p at a theta (of_exchange j r stepping h) = entry _ _ _ _ h

  -- ---- in a walk

  crossing : (p : Sample) (at : ℕ → ℕ) (a : ℕ → ℕ → ℚ) (j : ℕ) (d : Direction) → IsCrossingSpill value range p at a j d s → Here
  crossing p at a j d (inl h) = operation h
  crossing p at a j d (inr (inl h)) = operation h
  crossing p at a j d (inr (inr h)) = operation h.1

  pub pivot : (f : Family) (at : ℕ → ℕ) (a : ℕ → ℕ → ℚ) (reach : ℚ → Bool) (from : ℚ) → IsPivotSpill value range f at a reach from s → Here
  pivot f at a reach from (at_ratio t j d r next there lr mover h) = operation h
  pivot f at a reach from (at_tie t j d r i differ next there lr li mover other h) = ratio _ _ _ _ _ _ h
  pivot f at a reach from (at_exchange t j r stepping h) = entry _ _ _ _ h

  side_cost : (p : Sample) (theta : ℚ) (b : ℕ → ℚ) (i : ℕ) → IsSideCostSpill value range p theta b i s → Here
  side_cost p theta b i (inl h) = term h.1
  side_cost p theta b i (inr h) = term h.1

  end_of : (p : Sample) (at : ℕ → ℕ) (a : ℕ → ℕ → ℚ) (end : ℕ) (theta : ℚ) → IsEndSpill value range p at a end theta s → Here
  end_of p at a end theta (at_dual j lj h) = term h
  end_of p at a end theta (at_cost i li h) = side_cost p theta (coefficient p at a) i h
  end_of p at a end theta (at_loss h) = products h

  stay : (p : Sample) (at : ℕ → ℕ) (a : ℕ → ℕ → ℚ) (from hi : ℚ) → IsStaySpill value range p at a from hi s → Here
  stay p at a from hi (at_basis h) = basis p at a h
  stay p at a from hi (of_crossing j d before lj h) = crossing p at a j d h
  stay p at a from hi (of_lo theta ended h) = end_of p at a 0 from h
  stay p at a from hi (of_hi theta ended h) = end_of p at a 1 theta h
  stay p at a from hi (of_pivot h) = pivot (over_quantiles p) at a (is_below hi) from h

  -- ---- of a solve and of a process

  pub of_solve : (p : Problem F) (theta : ℚ) (limit : ℕ) (trail : Trail) → IsStartSpill value range p trail s ⊎ IsSolveSpill value range p theta limit trail s → Here
  of_solve p theta limit trail (inl h) = start p trail h
  of_solve p theta limit trail (inr h) = step (sample value p) _ _ theta h.here.holds

  pub of_process : (p : Problem F) (lo hi : ℚ) (limit : ℕ) (trail : Trail) → IsProcessSpill value range p lo hi limit trail s → Here
  of_process p lo hi limit trail (inl h) = start p trail h
  of_process p lo hi limit trail (inr (inl h)) = step (sample value p) _ _ lo h.here.holds
  of_process p lo hi limit trail (inr (inr h)) = stay (sample value p) _ _ _ _ h.here.holds
