use Rattle.std.proofs.Common.{◌≡◌, ◌++◌, take}
use Rattle.std.specs.List.{zip}
use Rattle.report_text.specs.ReportText.{segment_text, numbered}
use Rattle.report_text.proofs.page.Page.segments.Given as goal

abbrev pub invariant-loop-index : goal.invariant-loop-index
invariant-loop-index l = l.self ≡ l.initial.self ++ numbered (segment_text l.data_rows) 1 (take l.index (zip l.segments l.scores))
