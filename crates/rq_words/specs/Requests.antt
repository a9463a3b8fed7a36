-- Stated. What a job asks for, with its numbers in ℚ and its texts as bytes.
use Rattle.std.specs.Prelude.{ℕ, ◌+◌, ◌-◌, ◌^◌, ◌==◌, if◌then◌else◌, List, map, Option, option_map, Result, ⊤}
use Rattle.std.specs.Result.{result_map_both}
use Rattle.rational_laws.specs.Rational.{ℚ}
use Rattle.frac_core.specs.Values.{exact}
use Rattle.contrasts.specs.declared.Coding.{Coding}
use Rattle.rq_words.specs.declared.job.Job.{Job}
use Rattle.rq_words.specs.declared.job.Job.TheVariants as job
use Rattle.rq_words.specs.declared.job.FitJob.{FitJob}
use Rattle.rq_words.specs.declared.job.PathJob.{PathJob}
use Rattle.rq_words.specs.declared.job.RankAsk.{RankAsk}
use Rattle.rq_words.specs.declared.job.SampleJob.{SampleJob}
use Rattle.rq_words.specs.declared.job.TestJob.{TestJob}
use Rattle.rq_words.specs.declared.job.WordFault.{WordFault}
use Rattle.rq_words.specs.declared.numbers.Numbers.{Numbers}

-- the numbers of the options, in the order in which they are read
pub record OptionNumbers : Type 0 where
  pub lo : ℚ
  pub hi : ℚ
  pub crit : Option ℚ
  pub taus : Option (List ℚ)
  pub limit : ℕ
  pub number : ℕ
  pub rows : ℕ
  pub columns : ℕ
  pub tested : List ℕ
  pub tau : ℚ

-- rank intervals at these quantiles, with this critical value
pub record RankRequest : Type 0 where
  pub crit : ℚ
  pub taus : List ℚ

-- a fit of a table
pub record FitRequest : Type 0 where
  pub formula : List ℕ
  pub lo : ℚ
  pub hi : ℚ
  pub weights : Option (List ℕ)
  pub coding : Coding
  pub limit : ℕ
  pub rank : Option RankRequest

-- a fit of a generated table
pub record SampleRequest : Type 0 where
  pub number : ℕ
  pub rows : ℕ
  pub columns : ℕ
  pub lo : ℚ
  pub hi : ℚ
  pub limit : ℕ

-- the rank test of these columns, counted from 0
pub record TestRequest : Type 0 where
  pub fit : FitRequest
  pub tested : List ℕ

-- the number of such a column as it was given, counted from 1; 0 is that of none
abbrev pub given_number : ℕ → ℕ
given_number k = if k == 2 ^ 32 - 1 then 0 else k + 1

-- a path in lambda at a quantile; the range of the fit is that of lambda
pub record PathRequest : Type 0 where
  pub fit : FitRequest
  pub tau : ℚ

-- what a command asks for, by its job
pub data Request : Type 0 where
  Process : FitRequest → Request
  Ranks : FitRequest → Request
  Certify : FitRequest → Request
  Check : Request
  Sample : SampleRequest → Request
  Test : TestRequest → Request
  Predict : FitRequest → Request
  Path : PathRequest → Request

-- the numbers of the options that were read
abbrev pub option_numbers : Numbers → OptionNumbers
option_numbers n = record {
  lo = exact n.lo;
  hi = exact n.hi;
  crit = option_map exact n.crit;
  taus = option_map (map exact) n.taus;
  limit = n.limit;
  number = n.number;
  rows = n.rows;
  columns = n.columns;
  tested = n.tested;
  tau = exact n.tau;
}

-- the rank intervals that a job asks for
abbrev pub rank_request : RankAsk → RankRequest
rank_request r = record { crit = exact r.crit; taus = map exact r.taus }

-- the fit that a job asks for
abbrev pub fit_request : FitJob → FitRequest
fit_request f = record {
  formula = f.formula;
  lo = exact f.lo;
  hi = exact f.hi;
  weights = f.weights;
  coding = f.coding;
  limit = f.limit;
  rank = option_map rank_request f.rank;
}

-- the generated table that a job asks for
abbrev pub sample_request : SampleJob → SampleRequest
sample_request s = record {
  number = s.number;
  rows = s.rows;
  columns = s.columns;
  lo = exact s.lo;
  hi = exact s.hi;
  limit = s.limit;
}

-- the test that a job asks for
abbrev pub test_request : TestJob → TestRequest
test_request t = record { fit = fit_request t.fit; tested = t.tested }

-- the path that a job asks for
abbrev pub path_request : PathJob → PathRequest
path_request p = record { fit = fit_request p.fit; tau = exact p.tau }

-- what a job asks for
abbrev pub request_of : Job → Request
request_of (job.Process f) = Process (fit_request f)
request_of (job.Ranks f) = Ranks (fit_request f)
request_of (job.Certify f) = Certify (fit_request f)
request_of job.Check = Check
request_of (job.Sample s) = Sample (sample_request s)
request_of (job.Test t) = Test (test_request t)
request_of (job.Predict f) = Predict (fit_request f)
request_of (job.Path p) = Path (path_request p)

-- the job reads its source: every one but that of a generated table
abbrev pub Reads : Job → Type 0
Reads (job.Sample sample) = ⊥
Reads other = ⊤

-- what an answer asks for, or its fault
abbrev pub request_or_fault : Result Job WordFault → Result Request WordFault
request_or_fault r = result_map_both request_of (λ e. e) r
