use Rattle.std.proofs.Common.{◌≡◌, ◌⊎◌, [], IfErr, if◌then◌else◌, subst, sym}
use Rattle.frac_core.specs.declared.frac128.Frac128.{Frac128}
use Rattle.loss_model.specs.declared.spill.Spill.{Spill}
use Rattle.tv_penalty.specs.declared.fault.PenaltyFault.TheVariants.{OutOfMemory, Overflow}
use Rattle.tv_penalty.specs.Operations.{OverflowsFirst, smooth_operations}
use Rattle.tv_penalty.proofs.parts.penalised_bends.Goals as goal

pub returns-clause-fault : goal.returns-clause-fault
returns-clause-fault c =
    subst
    (λ b. IfErr c.bends.result (λ e. (e ≡ OutOfMemory) ⊎ ((s : Spill Frac128) × (e ≡ Overflow s) × OverflowsFirst (if b then smooth_operations c.args.number c.args.knots.now else []) s)))
    (sym c.if-not-penalised.false) c.bends.ensures.fault
