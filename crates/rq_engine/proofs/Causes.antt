-- What is so of the halt of an answer.
use Rattle.std.specs.Prelude.{IfErr}
use Rattle.std.proofs.Common.{Result, Ok, Err}
use Rattle.report_text.specs.declared.report.Halt.{Halt}

-- a halt by another name
pub halt_along : {A : Type 0} (r : Result A Halt) (P Q : Halt → Type 0) → IfErr r P → ((halt : Halt) → P halt → Q halt) → IfErr r Q
halt_along (Ok x) P Q h f = tt
halt_along (Err halt) P Q h f = f halt h
