-- What fractions refuse to a question.
use Rattle.std.specs.Prelude.{◌≡◌, ℕ}
use Rattle.std.proofs.Common.{sym, subst, inl, inr}
use Rattle.rational_laws.specs.Fraction.{Fraction}
use Rattle.loss_model.specs.declared.spill.Spill.{Spill}
use Rattle.loss_model.specs.declared.spill.Short.{Short}
use Rattle.loss_model.specs.declared.spill.Short.TheVariants.{OutOfMemory, Overflow}
use Rattle.loss_model.specs.Quantities.{IsShortOf, IsExchangeSpill}
use Rattle.pivot_model.specs.Spills.{of_exchange, of_basis}
use Rattle.walk_model.specs.WalkSpills.{of_exchange as walk_exchange, of_basis as walk_basis, of_pivot}
use Rattle.tableau_model.specs.declared.refusal.Failure.{Failure}
use Rattle.tableau_model.specs.Places.{Place, in_fractions, sample_of}
use Rattle.tableau_model.specs.Questions.{Question, solving, walking, IsStepOf, IsSpillAt}
use Rattle.tableau_model.specs.Refusals.{IsRefusalAt, IsRefusedOf}
use Rattle.fraction_tableau.specs.Shorts.{IsSameShort}

-- what follows from what a spill says follows from what a refusal says
pub short_weaker : {F : Type 0} (P Q : Spill F → Type 0) → ((s : Spill F) → P s → Q s) → (e : Short F) → IsShortOf P e → IsShortOf Q e
short_weaker P Q h OutOfMemory k = tt
short_weaker P Q h (Overflow s) k = h s k

-- where what overflows is an operation for the question, the refusal is one to it
pub short_refused : {F : Type 0} (value : F → Fraction) (range : ℕ) (h : Place F) (asked : Question) (P : Spill F → Type 0) (e : Short F) (r : Failure F)
    → h.task.body ≡ in_fractions → ((s : Spill F) → P s → IsSpillAt value range h asked s) → IsShortOf P e → IsSameShort e r → IsRefusedOf (IsRefusalAt value range h asked) r
short_refused value range h asked P OutOfMemory r body by k same = subst (IsRefusedOf (IsRefusalAt value range h asked)) (sym same) tt
short_refused value range h asked P (Overflow s) r body by k same = subst (IsRefusedOf (IsRefusalAt value range h asked)) (sym same) (body, by s k)

-- an overflow of an exchange is one for each question of which it is the step
pub exchange_spill : {F : Type 0} (value : F → Fraction) (range : ℕ) (h : Place F) (asked : Question) (j r : ℕ) (s : Spill F) → IsStepOf value h asked j r
    → IsExchangeSpill value range (sample_of value h).columns h.inverse ((sample_of value h).x r) r j s → IsSpillAt value range h asked s
exchange_spill value range h (solving theta) j r s step (inl k) = of_basis (inr (inr (inl (r, step.entering.row, k))))
exchange_spill value range h (solving theta) j r s step (inr k) = of_exchange j r step k
exchange_spill value range h (walking from hi) j r s (t, step) (inl k) = walk_basis (inr (inr (inl (r, step.entering.row, k))))
exchange_spill value range h (walking from hi) j r s (t, step) (inr k) = of_pivot (walk_exchange t j r step k)
