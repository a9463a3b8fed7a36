use Rattle.std.proofs.Common.{◌≡◌, ◌++◌, take}
use Rattle.report_text.specs.FaultText.{listed}
use Rattle.report_text.specs.ReportText.{numbered}
use Rattle.report_text.proofs.page.Page.put_numbers.Given as goal

abbrev pub invariant-loop-place : goal.invariant-loop-place
invariant-loop-place l = l.self ≡ l.initial.self ++ numbered listed 0 (take l.place l.numbers)
