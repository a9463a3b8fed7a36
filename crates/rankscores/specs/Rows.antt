-- Inner. The area below the rankscore of a row along segments of the program, the cross products that it is added up from, and
-- what is needed of the row and of the segments for its integral.
use Rattle.std.specs.Prelude.{ℕ, ◌-◌, ◌<◌, Bool, true, false, List, All, length, pos}
use Rattle.rational_laws.specs.Rational.{ℚ, ◌-ℚ◌, ◌*ℚ◌, whole}
use Rattle.rational_laws.specs.RationalSums.{sum_ℚ}
use Rattle.rational_laws.specs.Fraction.{Fraction, rational}
use Rattle.loss_model.specs.declared.problem.Problem.{Problem}
use Rattle.loss_model.specs.declared.process.Segment.{Segment}
use Rattle.loss_model.specs.Dual.{rankscore, IsDataRow}
use Rattle.loss_model.specs.Problem.{sample}
use Rattle.loss_model.specs.Sample.{Sample}
use Rattle.loss_model.specs.Segment.{Covers, Segments, segments_of}
use Rattle.rankscores.specs.Scores.{score, IsScorable}
use Rattle.rankscores.specs.Trapezoids.{score_area}

-- the cross product of the points (lo, a) and (hi, b): twice the area of the triangle between them and the origin
abbrev pub cross : ℚ → ℚ → ℚ → ℚ → ℚ
cross lo hi a b = (hi *ℚ a) -ℚ (lo *ℚ b)

-- that of the rankscores of row i at both ends of segment j
abbrev pub score_cross : Sample → Segments → ℕ → ℕ → ℚ
score_cross p s i j =
    cross (s.lo j) (s.hi j) (rankscore p (s.lo j) (s.at_lo j) i) (rankscore p (s.hi j) (s.at_hi j) i)

module _ {F : Type 0} (value : F → Fraction) (p : Problem F) where
  -- that of a segment of the program
  abbrev pub segment_cross : Segment → ℕ → ℚ
  segment_cross s i =
      cross (rational s.lo) (rational s.hi) (score value p s.vertex s.basic_lo s.lo i) (score value p s.vertex s.basic_hi s.hi i)

  -- those of the first n segments, added
  abbrev pub cross_to : List Segment → ℕ → ℕ → ℚ
  cross_to segments i n = sum_ℚ n (score_cross (sample value p) (segments_of value p segments) i)

  -- the rankscore at the end of the last segment
  abbrev pub last_score : List Segment → ℕ → ℚ
  last_score segments i =
      let s = segments_of value p segments in rankscore (sample value p) (s.hi (s.count - 1)) (s.at_hi (s.count - 1)) i

  -- the area below the rankscore of row i along the first n segments
  abbrev pub area_to : List Segment → ℕ → ℕ → ℚ
  area_to segments i n = sum_ℚ n (score_area (sample value p) (segments_of value p segments) i)

-- an end at which a run of segments is open, and 0 where none is
abbrev pub open_end : Bool → ℚ → ℚ
open_end true x = x
open_end false x = whole (pos 0)

-- one of the rows, which are data rows, and segments that can be scored and cover 0 to 1
pub record IsIntegrable {F : Type 0} (value : F → Fraction) (p : Problem F) (segments : List Segment) (i : ℕ) : Type 0 where
  pub inside : i < length p.rows
  pub data_rows : (i : ℕ) → i < length p.rows → IsDataRow (sample value p) i
  pub scorable : All (IsScorable p) segments
  pub covers : Covers (length p.rows) (whole (pos 0)) (whole (pos 1)) (segments_of value p segments)
