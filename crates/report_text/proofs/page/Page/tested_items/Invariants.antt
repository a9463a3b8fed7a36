use Rattle.std.proofs.Common.{◌≡◌, ◌++◌, take}
use Rattle.report_text.specs.ReportText.{numbered, tested_item}
use Rattle.report_text.proofs.page.Page.tested_items.Given as goal

abbrev pub invariant-loop-place : goal.invariant-loop-place
invariant-loop-place l = l.self ≡ l.initial.self ++ numbered tested_item 0 (take l.place l.tested)
