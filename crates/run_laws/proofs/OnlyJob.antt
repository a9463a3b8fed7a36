-- Where words ask for jobs of one kind alone, so do the halts and the reports of their runs.
use Rattle.std.specs.Prelude.{ℕ, List}
use Rattle.rq_words.specs.declared.job.Job.{Job}
use Rattle.report_text.specs.declared.report.Report.{Report}
use Rattle.report_text.specs.declared.report.Halt.{Halt}
use Rattle.rq_engine.specs.Answers as engine
use Rattle.rq_engine.specs.Answers.{IsRight}
use Rattle.rq_engine.specs.Jobs.{IsJobOf}
use Rattle.rq_cli.specs.Outcomes.{IsAnswered, IsHalted, Stream, WereRead}

-- `make` gives the jobs of the kind
module _ {X : Type 0} (make : X → Job) (words : List (List ℕ)) (alone : (job : Job) → IsJobOf words job → (P : Job → Type 0) → ((x : X) → P (make x)) → P job) (source source' : Stream) where
  pub only_halted : (halt : Halt) → IsHalted words source source' halt → (x : X) × (bytes : List ℕ) × WereRead words source source' (make x) bytes × engine.HasCause (make x) bytes halt
  only_halted halt h =
      alone h.job h.read.asked
      (λ (job : Job). WereRead words source source' job h.bytes → engine.HasCause job h.bytes halt → (x : X) × (bytes : List ℕ) × WereRead words source source' (make x) bytes × engine.HasCause (make x) bytes halt)
      (λ x read cause. (x, h.bytes, read, cause)) h.read h.cause

  pub only_reported : (report : Report) → IsAnswered words source source' report → (x : X) × (bytes : List ℕ) × WereRead words source source' (make x) bytes × IsRight (make x) bytes report
  only_reported report a =
      alone a.job a.read.asked
      (λ (job : Job). WereRead words source source' job a.bytes → IsRight job a.bytes report → (x : X) × (bytes : List ℕ) × WereRead words source source' (make x) bytes × IsRight (make x) bytes report)
      (λ x read right. (x, a.bytes, read, right)) a.read a.right
