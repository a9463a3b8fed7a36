use Rattle.std.proofs.Common.{◌≡◌, ◌++◌, take}
use Rattle.std.specs.List.{flat_map, zip}
use Rattle.report_text.specs.ReportText.{dual_line}
use Rattle.report_text.proofs.page.Page.dual_lines.Given as goal

abbrev pub invariant-loop-k : goal.invariant-loop-k
invariant-loop-k l = l.self ≡ l.initial.self ++ flat_map dual_line (take l.k (zip (zip l.segment.vertex.basis.rows l.segment.basic_lo) l.segment.basic_hi))
