-- The operations of a walk where one overflows, as they are found.
use Rattle.std.specs.Prelude.{◌≡◌, ℕ, ◌<◌, true, [], ◌∷◌, pos}
use Rattle.std.proofs.Common.{refl, sym, ap, subst, ◌∙◌, inl, inr}
use Rattle.rational_laws.specs.Fraction.{Fraction}
use Rattle.rational_laws.specs.Solver.{number, ◌⊟◌, v0}
use Rattle.rational_laws.specs.Rational.{ℚ, ◌-ℚ◌, whole}
use Rattle.rational_laws.proofs.RationalLaws.{ring_ℚ}
use Rattle.frac_core.specs.declared.exact.OpKind.TheVariants.{Sub, Div}
use Rattle.loss_model.specs.declared.spill.Quantity.TheVariants.{DualValue}
use Rattle.loss_model.specs.declared.spill.Spill.{Spill}
use Rattle.loss_model.specs.Sample.{Sample}
use Rattle.loss_model.specs.Spill.{IsTermSpill, site_of}
use Rattle.loss_model.specs.Quantities.{IsExchangeSpill}
use Rattle.loss_model.specs.Vertex.{value_of_side}
use Rattle.basis_model.specs.declared.part.Part.TheVariants.{Constant, Linear}
use Rattle.basis_model.specs.Basis.{basic_dual, dual_value}
use Rattle.basis_model.specs.BasisSpills.{IsBasisSpill, IsDualValueSpill}
use Rattle.pivot_model.specs.declared.direction.Direction.{Direction}
use Rattle.pivot_model.specs.declared.direction.Direction.TheVariants.{Upward, Downward}
use Rattle.pivot_model.specs.Spills.{IsCostSpill}
use Rattle.walk_model.specs.Walks.{side_towards, IsNextBreak, IsWalkingStep}
use Rattle.walk_model.specs.WalkTrails.{is_within}
use Rattle.walk_model.specs.WalkSpills.{IsCrossingOperation, of_basis, of_dual, of_cost, of_crossing, of_entered, of_break, of_pivot, of_ratio, of_tie, of_exchange}
use Rattle.walk_model.proofs.Slopes.{crossing}
use Rattle.fraction_tableau.specs.Lines.{IsOrderSpill, at_coordinates, at_ratio, at_tie}
use Rattle.rank_walk_model.specs.RankWalks.{Way, rise, fall, tested}
use Rattle.rank_walk_model.specs.Crossings.{parameter_of, bound_towards, IsMoving}
use Rattle.rank_inversion.specs.Stops.{IsRankSpill, of_walk}
use Rattle.rank_tableau.proofs.Breaks.{turned_twice, crosses}

-- the bound of a row in a direction is the value of the side there
bound_is : (p : Sample) (tau : ℚ) (i : ℕ) (d : Direction) → bound_towards p tau i d ≡ value_of_side p tau (λ i. whole (pos 0)) i (side_towards d)
bound_is p tau i Upward = refl
bound_is p tau i Downward = refl

less_nothing : (x : ℚ) → x ≡ x -ℚ whole (pos 0)
less_nothing x = ring_ℚ (x ∷ []) v0 (v0 ⊟ number (pos 0)) refl

module _ {F : Type 0} (value : F → Fraction) (range : ℕ) (p : Sample) (j : ℕ) (tau bound : ℚ) (at : ℕ → ℕ) (a : ℕ → ℕ → ℚ) (from : ℚ) (s : Spill F) where
  pub basis_here : (way : Way) → IsBasisSpill value range p at a s → IsRankSpill value range way p j tau bound at a from s
  basis_here rise h = of_walk (of_basis h)
  basis_here fall h = of_walk (of_basis h)

  pub dual_here : (way : Way) → (k : ℕ) → k < p.columns → IsDualValueSpill value range (basic_dual p at a Constant k) (basic_dual p at a Linear k) tau k s → IsRankSpill value range way p j tau bound at a from s
  dual_here rise k lk h = of_walk (of_dual k lk h)
  dual_here fall k lk h = of_walk (of_dual k lk h)

  pub cost_here : (way : Way) → (i : ℕ) → i < p.rows → IsCostSpill value range p at a tau i s → IsRankSpill value range way p j tau bound at a from s
  cost_here rise i li h = of_walk (of_cost i li h)
  cost_here fall i li h = of_walk (of_cost i li h)

  pub gap_here : (way : Way) → (k : ℕ) (d : Direction) → k < p.columns → IsCrossingOperation value range k d 1 Sub (bound_towards p tau (at k) d) (dual_value p at a tau k) s → IsRankSpill value range way p j tau bound at a from s
  gap_here rise k d lk h =
      of_walk (of_crossing k d lk (inl (subst (λ x. IsCrossingOperation value range k d 1 Sub x (dual_value p at a tau k) s) (bound_is p tau (at k) d) h)))
  gap_here fall k d lk h =
      of_walk (of_crossing k d lk (inl (subst (λ x. IsCrossingOperation value range k d 1 Sub x (dual_value p at a tau k) s) (bound_is p tau (at k) d) h)))

  pub quotient_here : (way : Way) → (k : ℕ) (d : Direction) → j < p.columns → k < p.columns → IsMoving way d (a j k)
      → IsCrossingOperation value range k d 3 Div (bound_towards p tau (at k) d -ℚ dual_value p at a tau k) (a j k) s → IsRankSpill value range way p j tau bound at a from s
  quotient_here rise k d lj lk moving h =
      of_walk (of_crossing k d lk (inr (inr (
        ((crossing (tested rise p tau j) at a k d _).0 (crosses rise p j tau at a lj k d moving)).0,
        subst (λ x. IsCrossingOperation value range k d 3 Div (x -ℚ dual_value p at a tau k) (a j k -ℚ whole (pos 0)) s) (bound_is p tau (at k) d)
            (subst (λ y. IsCrossingOperation value range k d 3 Div (bound_towards p tau (at k) d -ℚ dual_value p at a tau k) y s) (less_nothing (a j k)) h),
      ))))
  quotient_here fall k d lj lk moving h =
      of_walk (of_crossing k d lk (inr (inr (
        ((crossing (tested fall p tau j) at a k d _).0 (crosses fall p j tau at a lj k d moving)).0,
        subst (λ x. IsCrossingOperation value range k d 3 Div (x -ℚ dual_value p at a tau k) (a j k -ℚ whole (pos 0)) s) (bound_is p tau (at k) d)
            (subst (λ y. IsCrossingOperation value range k d 3 Div (bound_towards p tau (at k) d -ℚ dual_value p at a tau k) y s) (less_nothing (a j k)) h),
      ))))

  pub entered_here : (way : Way) → (x : ℚ) → from ≡ parameter_of way x → (k : ℕ) → k < p.columns → IsTermSpill value range (site_of DualValue k 1 1) (dual_value p at a tau k) (a j k) x s
      → IsRankSpill value range way p j tau bound at a from s
  entered_here rise x e k lk h =
      of_walk (of_entered k lk (subst (λ x. IsTermSpill value range (site_of DualValue k 1 1) (dual_value p at a tau k) (a j k) x s) (sym (ap (parameter_of rise) e ∙ turned_twice rise x)) h))
  entered_here fall x e k lk h =
      of_walk (of_entered k lk (subst (λ x. IsTermSpill value range (site_of DualValue k 1 1) (dual_value p at a tau k) (a j k) x s) (sym (ap (parameter_of fall) e ∙ turned_twice fall x)) h))

  pub break_here : (way : Way) → (t : ℚ) (m : ℕ) (d : Direction) → IsNextBreak (tested way p tau j) at a from t m d → (k : ℕ) → k < p.columns
      → IsTermSpill value range (site_of DualValue k 1 1) (dual_value p at a tau k) (a j k) (parameter_of way t) s → IsRankSpill value range way p j tau bound at a from s
  break_here rise t m d next k lk h = of_walk (of_break t m k d next lk h)
  break_here fall t m d next k lk h = of_walk (of_break t m k d next lk h)

  pub order_here : (way : Way) → (t : ℚ) (k : ℕ) (d : Direction) → IsNextBreak (tested way p tau j) at a from t k d → is_within bound t ≡ true → k < p.columns
      → IsOrderSpill value range p at a k d s → IsRankSpill value range way p j tau bound at a from s
  order_here rise t k d next within lk (at_coordinates i li h) = of_walk (of_basis (inr (inr (inl (i, li, h)))))
  order_here fall t k d next within lk (at_coordinates i li h) = of_walk (of_basis (inr (inr (inl (i, li, h)))))
  order_here rise t k d next within lk (at_ratio r lr moving h) = of_walk (of_pivot (of_ratio t k d r next within lr moving h))
  order_here rise t k d next within lk (at_tie r i differ lr li moving other h) = of_walk (of_pivot (of_tie t k d r i differ next within lr li moving other h))
  order_here fall t k d next within lk (at_ratio r lr moving h) = of_walk (of_pivot (of_ratio t k d r next within lr moving h))
  order_here fall t k d next within lk (at_tie r i differ lr li moving other h) = of_walk (of_pivot (of_tie t k d r i differ next within lr li moving other h))

  pub exchange_here : (way : Way) → (t : ℚ) (k r : ℕ) → r < p.rows → IsWalkingStep (tested way p tau j) at a (is_within bound) from t k r
      → IsExchangeSpill value range p.columns a (p.x r) r k s → IsRankSpill value range way p j tau bound at a from s
  exchange_here rise t k r lr step (inl h) = of_walk (of_basis (inr (inr (inl (r, lr, h)))))
  exchange_here fall t k r lr step (inl h) = of_walk (of_basis (inr (inr (inl (r, lr, h)))))
  exchange_here rise t k r lr step (inr h) = of_walk (of_pivot (of_exchange t k r step h))
  exchange_here fall t k r lr step (inr h) = of_walk (of_pivot (of_exchange t k r step h))
