-- What a request has of its own, in a table here alone: its range, its formula, its fit, its rank intervals and its tested columns.
use Rattle.std.proofs.Common.{◌≡◌, ◌<◌, ◌^◌, true, false, codes, length, map, List, [], Option, Some, None, ap, refl, subst}
use Rattle.std.specs.List.{list_any}
use Rattle.std.proofs.Math.Dec.{lit<}
use Rattle.clap.specs.Walk.{first_of}
use Rattle.clap.specs.Words.{Row, Text}
use Rattle.rational_laws.specs.Rational.{◌≤ℚ◌}
use Rattle.contrasts.specs.declared.Coding.{Coding}
use Rattle.rq_words.specs.Requests.{FitRequest, OptionNumbers, RankRequest, Request, given_number}
use Rattle.rq_words.specs.Requests as request
use Rattle.rq_words.specs.Words.{zero, one, ascends, has_range, is_in_order, is_lambda_range, is_outside, rank_of, request_for, text_or_empty}
use Rattle.rq_words.specs.declared.command.Kind.{Kind}
use Rattle.rq_words.specs.declared.command.Kind.TheVariants as kind

-- the range of a request that has one of its own is in order
abbrev pub IsOrdered : Request → Type 0
IsOrdered (request.Process f) = is_in_order f.lo f.hi ≡ true
IsOrdered (request.Certify f) = is_in_order f.lo f.hi ≡ true
IsOrdered (request.Sample s) = is_in_order s.lo s.hi ≡ true
IsOrdered (request.Predict f) = is_in_order f.lo f.hi ≡ true
IsOrdered (request.Path p) = is_lambda_range p.tau p.fit.lo p.fit.hi ≡ true
IsOrdered other = Unit {0}

pub request_in_order : (kind : Kind) (found : List Row) (n : OptionNumbers) (chosen : Coding) → has_range kind n ≡ true → IsOrdered (request_for kind found n chosen)
request_in_order kind.Ranks found n chosen h = tt
request_in_order kind.Check found n chosen h = tt
request_in_order kind.Test found n chosen h = tt
request_in_order other found n chosen h = h

-- the range of ranks is 0 to 1, and so is that of a test
abbrev pub IsOverAll : Request → Type 0
IsOverAll (request.Ranks f) = (zero ≡ f.lo) × (one ≡ f.hi)
IsOverAll (request.Test t) = (zero ≡ t.fit.lo) × (one ≡ t.fit.hi)
IsOverAll _ = Unit {0}

pub request_over_all : (kind : Kind) (found : List Row) (n : OptionNumbers) (chosen : Coding) → IsOverAll (request_for kind found n chosen)
request_over_all kind.Ranks found n chosen = (refl, refl)
request_over_all kind.Test found n chosen = (refl, refl)
request_over_all other found n chosen = tt

-- its formula, if it is of a fit of a table
abbrev pub formula_in : Request → Text
formula_in (request.Process f) = f.formula
formula_in (request.Ranks f) = f.formula
formula_in (request.Certify f) = f.formula
formula_in (request.Test t) = t.fit.formula
formula_in (request.Predict f) = f.formula
formula_in (request.Path p) = p.fit.formula
formula_in _ = []

-- that is shorter than 2^31 bytes
abbrev pub HasShortFormula : Request → Type 0
HasShortFormula r = length (formula_in r) < 2 ^ 31

pub request_short : (kind : Kind) (found : List Row) (n : OptionNumbers) (chosen : Coding) → length (text_or_empty (first_of (codes "formula") found)) < 2 ^ 31
    → HasShortFormula (request_for kind found n chosen)
request_short kind.Check found n chosen h = lit< tt
request_short kind.Sample found n chosen h = lit< tt
request_short other found n chosen h = h

-- the fit that it asks for: of a process, of ranks, of a certificate or of predictions
abbrev pub IsFitOf : Request → FitRequest → Type 0
IsFitOf (request.Process f) g = f ≡ g
IsFitOf (request.Ranks f) g = f ≡ g
IsFitOf (request.Certify f) g = f ≡ g
IsFitOf (request.Predict f) g = f ≡ g
IsFitOf _ g = ⊥

-- what the checks leave of a request for intervals
pub record IsSound (r : RankRequest) : Type 0 where
  pub crit : zero ≤ℚ r.crit
  pub taus : list_any is_outside r.taus ≡ false

-- a request for intervals, if there is one
abbrev pub IsSoundOf : Option RankRequest → Type 0
IsSoundOf None = Unit {0}
IsSoundOf (Some r) = IsSound r

abbrev rank_in : FitRequest → Option RankRequest
rank_in f = f.rank

pub same_rank : (kind : Kind) (found : List Row) (n : OptionNumbers) (chosen : Coding) (f : FitRequest) → IsFitOf (request_for kind found n chosen) f → IsSoundOf (rank_of n) → IsSoundOf f.rank
same_rank kind.Process found n chosen f h sound = subst IsSoundOf (ap rank_in h) sound
same_rank kind.Ranks found n chosen f h sound = subst IsSoundOf (ap rank_in h) sound
same_rank kind.Certify found n chosen f h sound = subst IsSoundOf (ap rank_in h) sound
same_rank kind.Predict found n chosen f h sound = subst IsSoundOf (ap rank_in h) tt
same_rank other found n chosen f h sound = absurd h

-- no rank intervals are asked for
abbrev pub IsUnranked : Request → Type 0
IsUnranked (request.Test t) = t.fit.rank ≡ None
IsUnranked (request.Predict f) = f.rank ≡ None
IsUnranked _ = Unit {0}

pub request_unranked : (kind : Kind) (found : List Row) (n : OptionNumbers) (chosen : Coding) → IsUnranked (request_for kind found n chosen)
request_unranked kind.Test found n chosen = refl
request_unranked kind.Predict found n chosen = refl
request_unranked other found n chosen = tt

-- the numbers of the columns that a test asks for ascend
abbrev pub IsAscending : Request → Type 0
IsAscending (request.Test t) = ascends (map given_number t.tested) ≡ true
IsAscending _ = Unit {0}
