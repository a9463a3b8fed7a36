-- What a step gives back when one of its calls stops it.
use Rattle.std.specs.Prelude.{◌≡◌, Result, Ok, Err, IsErrAnd, IfErr}
use Rattle.std.proofs.Common.{sym, subst}
use Rattle.loss_model.specs.declared.spill.Spill.{Spill}
use Rattle.loss_model.specs.declared.spill.Short.{Short}
use Rattle.loss_model.specs.declared.spill.Short.TheVariants.{OutOfMemory, Overflow}
use Rattle.loss_model.specs.Quantities.{IsShortOf}

-- an exit by `?` returns what the call's error is made into
pub by_exit : {X E : Type 0} (r : Result X E) (e : E) (P : E → Type 0) → IsErrAnd r (λ y. y ≡ e) → P e → IfErr r P
by_exit (Ok x) e P is h = absurd is
by_exit (Err y) e P is h = subst P (sym is) h

-- a refusal for a cause is one for another cause that it gives
pub short_map : {F : Type 0} (P Q : Spill F → Type 0) (e : Short F) → ((s : Spill F) → P s → Q s) → IsShortOf P e → IsShortOf Q e
short_map P Q OutOfMemory f h = tt
short_map P Q (Overflow s) f h = f s h

-- so an exit by `?` in a step that may stop for the second cause
pub by_cause : {X F : Type 0} (r : Result X (Short F)) (e : Short F) (P Q : Spill F → Type 0) → IsErrAnd r (λ y. y ≡ e) → ((s : Spill F) → P s → Q s) → IsShortOf P e → IfErr r (IsShortOf Q)
by_cause r e P Q is f h = by_exit r e (IsShortOf Q) is (short_map P Q e f h)
