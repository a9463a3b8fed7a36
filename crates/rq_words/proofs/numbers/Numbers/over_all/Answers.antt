use Rattle.std.proofs.Common.{ap₂}
use Rattle.rq_words.specs.Requests.{option_numbers}
use Rattle.rq_words.proofs.numbers.Numbers.over_all.Goals as goal

pub returns : goal.returns
returns c = ap₂ (λ lo hi. record (option_numbers c.args.self) { lo = lo; hi = hi }) c.zero.ensures c.one.ensures
