use Rattle.std.proofs.Common.{◌≡◌, ◌++◌, take}
use Rattle.report_text.specs.ReportText.{numbered, path_segment_text}
use Rattle.report_text.proofs.page.Page.path_segments.Given as goal

abbrev pub invariant-loop-index : goal.invariant-loop-index
invariant-loop-index l = l.self ≡ l.initial.self ++ numbered path_segment_text 1 (take l.index l.segments)
