-- Inner. A refusal of fractions as one of a body.
use Rattle.std.specs.Prelude.{◌≡◌}
use Rattle.loss_model.specs.declared.spill.Short.{Short}
use Rattle.loss_model.specs.declared.spill.Short.TheVariants.{OutOfMemory, Overflow}
use Rattle.tableau_model.specs.declared.refusal.Refusal.TheVariants.{Overflow as Spilled}
use Rattle.tableau_model.specs.declared.refusal.Failure.{Failure}
use Rattle.tableau_model.specs.declared.refusal.Failure.TheVariants.{OutOfMemory as NoMemory, Of}

-- the refusal says the same
abbrev pub IsSameShort : {F : Type 0} → Short F → Failure F → Type 0
IsSameShort OutOfMemory r = r ≡ NoMemory
IsSameShort (Overflow s) r = r ≡ Of (Spilled s)
