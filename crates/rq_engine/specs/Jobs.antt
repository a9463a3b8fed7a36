-- Stated. The jobs of words, and what the job of a generated table fits.
use Rattle.std.specs.Prelude.{◌≡◌, ℕ, List, None, Ok, codes}
use Rattle.contrasts.specs.declared.Coding.TheVariants.{Treatment}
use Rattle.rq_words.specs.Requests.{request_of}
use Rattle.rq_words.specs.Words.{words_of}
use Rattle.rq_words.specs.declared.job.FitJob.{FitJob}
use Rattle.rq_words.specs.declared.job.Job.{Job}
use Rattle.rq_words.specs.declared.job.SampleJob.{SampleJob}
use Rattle.table_maker.specs.Tables.{table_of}

-- these words ask for the job
abbrev pub IsJobOf : List (List ℕ) → Job → Type 0
IsJobOf words job = words_of words ≡ Ok (request_of job)

-- the bytes of the generated table
abbrev pub sample_table : SampleJob → List ℕ
sample_table job = table_of job.number job.rows job.columns

-- what is fitted to it: the response on all other columns, with treatment contrasts and without weights
abbrev pub sample_fit : SampleJob → FitJob
sample_fit job = record {
  formula = codes "y ~ .";
  lo = job.lo;
  hi = job.hi;
  weights = None;
  coding = Treatment;
  limit = job.limit;
  rank = None;
}
