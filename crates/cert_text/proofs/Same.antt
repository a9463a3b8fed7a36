-- Certificates that say the same are the same.
use Rattle.std.proofs.Common.{◌≡◌, All, List, map, ap}
use Rattle.std.proofs.Props.{props}
use mathlib.Core.Path.{PathP}
use mathlib.Core.HLevel.{is_prop→PathP}
use Rattle.rational_laws.proofs.Lists.{same_lists}
use Rattle.frac_core.specs.declared.frac128.Frac128.{Frac128}
use Rattle.frac_core.specs.Values.{exact}
use Rattle.frac_core.proofs.Values.{same_number}
use Rattle.loss_model.specs.declared.problem.Row.{Row}
use Rattle.loss_model.specs.declared.process.Segment.{Segment}
use Rattle.loss_model.specs.declared.interval.IntervalProof.{IntervalProof}
use Rattle.loss_model.specs.Values.{exact_row}
use Rattle.cert_text.specs.Kept.{IsKeptSegment, IsKeptInterval}
use Rattle.cert_text.specs.Laws.{SameContent}

same_numbers : (xs ys : List Frac128) → map exact xs ≡ map exact ys → xs ≡ ys
same_numbers = same_lists exact same_number

same_row : (a b : Row Frac128) → exact_row a ≡ exact_row b → a ≡ b
same_row a b e =
    let x = same_numbers a.x b.x (ap (λ r. r.x) e) in
    let y = same_number a.y b.y (ap (λ r. r.y) e) in
    let up0 = same_number a.up0 b.up0 (ap (λ r. r.up0) e) in
    let up1 = same_number a.up1 b.up1 (ap (λ r. r.up1) e) in
    let down0 = same_number a.down0 b.down0 (ap (λ r. r.down0) e) in
    let down1 = same_number a.down1 b.down1 (ap (λ r. r.down1) e) in
    λ i. record { x = x i; y = y i; up0 = up0 i; up1 = up1 i; down0 = down0 i; down1 = down1 i }

listed-prop : (segments : List Segment) → IsProp (All IsKeptSegment segments)
listed-prop segments = hlevel props

listed-along : {xs ys : List Segment} (e : xs ≡ ys) (p : All IsKeptSegment xs) (q : All IsKeptSegment ys) → PathP (λ i. All IsKeptSegment (e i)) p q
listed-along e p q = is_prop→PathP (λ i. All IsKeptSegment (e i)) (λ i. listed-prop (e i)) p q

ended-prop : (intervals : List IntervalProof) → IsProp (All IsKeptInterval intervals)
ended-prop intervals = hlevel props

ended-along : {xs ys : List IntervalProof} (e : xs ≡ ys) (p : All IsKeptInterval xs) (q : All IsKeptInterval ys) → PathP (λ i. All IsKeptInterval (e i)) p q
ended-along e p q = is_prop→PathP (λ i. All IsKeptInterval (e i)) (λ i. ended-prop (e i)) p q

pub same : SameContent
same a b e =
    let rows = same_lists exact_row same_row a.problem.rows b.problem.rows (ap (λ c. c.problem.rows) e) in
    let lo = same_number a.lo b.lo (ap (λ c. c.lo) e) in
    let hi = same_number a.hi b.hi (ap (λ c. c.hi) e) in
    let segments = ap (λ c. c.segments) e in
    let intervals = ap (λ c. c.intervals) e in
    λ i. record {
      problem = record { columns = (e i).problem.columns; rows = rows i };
      lo = lo i;
      hi = hi i;
      segments = segments i;
      intervals = intervals i;
      listed = listed-along segments a.listed b.listed i;
      ended = ended-along intervals a.ended b.ended i;
    }
