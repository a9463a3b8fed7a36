use Rattle.std.proofs.Common.{◌≡◌, ◌++◌, take}
use Rattle.std.specs.List.{flat_map, zip}
use Rattle.report_text.specs.ReportText.{score_line}
use Rattle.report_text.proofs.page.Page.score_lines.Given as goal

abbrev pub invariant-loop-place : goal.invariant-loop-place
invariant-loop-place l = l.self ≡ l.initial.self ++ flat_map score_line (take l.place (zip l.tested l.scores))
