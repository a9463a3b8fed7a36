-- Inner. How contracts see what the code holds of smooths.
use Rattle.std.specs.Prelude.{◌≡◌, ℕ, ◌+◌, ◌<◌, List, length, map}
use Rattle.std.specs.declared.cmp.Ordering.TheVariants.{Less}
use Rattle.rational_laws.specs.Order.{cmp_ℚ}
use Rattle.frac_core.specs.declared.frac128.Frac128.{Frac128}
use Rattle.frac_core.specs.Values.{exact}
use Rattle.tv_penalty.specs.declared.bends.Bend.{Bend as HeldBend}
use Rattle.tv_penalty.specs.declared.parts.Part.{Part}
use Rattle.tv_penalty.specs.declared.parts.Setting.{Setting as HeldSetting}
use Rattle.tv_penalty.specs.Faults.{Setting}
use Rattle.tv_penalty.specs.Smoothings.{Bend, PartOf, knot_at}

-- a bend
abbrev pub bend_seen : HeldBend → Bend
bend_seen b = record { below = exact b.below; at_knot = exact b.at_knot; above = exact b.above }

-- a smooth
abbrev pub part_seen : Part → PartOf
part_seen p = record {
  name = p.smooth.now.name;
  lambda = exact p.smooth.now.lambda;
  cells = p.cells.now;
  knots = p.knots.items;
  bends = map bend_seen p.bends.items;
}

-- what smooths are looked at by
abbrev pub setting_seen : HeldSetting → Setting
setting_seen s = record { penalised = s.penalised; intercept = s.intercept; table = s.frame.now; rows = s.rows.now }

-- each knot is below the next
abbrev pub AreAscending : List Frac128 → Type 0
AreAscending knots = (k : ℕ) → k + 1 < length knots → cmp_ℚ (knot_at knots k) (knot_at knots (k + 1)) ≡ Less
