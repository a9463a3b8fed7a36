use Rattle.std.proofs.Common.{◌≡◌, ◌++◌, take}
use Rattle.std.specs.List.{flat_map}
use Rattle.report_text.specs.ReportText.{interval_line}
use Rattle.report_text.proofs.page.Page.interval_lines.Given as goal

abbrev pub invariant-loop-interval : goal.invariant-loop-interval
invariant-loop-interval l = l.self ≡ l.initial.self ++ flat_map interval_line (take l.interval-index l.intervals)
