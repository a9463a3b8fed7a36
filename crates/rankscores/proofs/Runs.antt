-- Runs of segments along which a row lies above the fit, and the cross product of one segment.
use Rattle.std.proofs.Common.{◌≡◌, ℕ, Bool, true, false, Some, slice_get, [], ◌∷◌, pos, refl, sym, ap, ap₂, ◌∙◌}
use Rattle.rational_laws.specs.Solver.{negated, number, ◌⊞◌, ◌⊟◌, ◌⊠◌, v0, v1, v2}
use Rattle.rational_laws.specs.Fraction.{Fraction, rational}
use Rattle.rational_laws.specs.Rational.{ℚ, ◌+ℚ◌, ◌-ℚ◌, neg_ℚ, whole}
use Rattle.rational_laws.proofs.RationalLaws.{ring_ℚ}
use Rattle.rational_laws.proofs.Signs.{plus-zero}
use Rattle.loss_model.specs.declared.problem.Problem.{Problem}
use Rattle.loss_model.specs.declared.process.Segment.{Segment}
use Rattle.loss_model.specs.declared.vertex.Side.TheVariants.{Up, Down}
use Rattle.loss_model.specs.Dual.{IsDataRow}
use Rattle.loss_model.specs.Laws.{SidesAreScores}
use Rattle.loss_model.specs.Problem.{sample}
use Rattle.rankscores.specs.Rows.{cross, open_end, segment_cross}

-- a run begins where none is open
pub begin_open : (b : Bool) (t lo : ℚ) → b ≡ true → t ≡ (t +ℚ open_end b lo) -ℚ lo
begin_open b t lo e = ring_ℚ (t ∷ lo ∷ []) v0 ((v0 ⊞ v1) ⊟ v1) refl ∙ ap (λ b. (t +ℚ open_end b lo) -ℚ lo) (sym e)

pub begin_new : (b : Bool) (t u lo : ℚ) → b ≡ false → u ≡ t +ℚ neg_ℚ lo → u ≡ (t +ℚ open_end b lo) -ℚ lo
begin_new b t u lo e is = is ∙ ring_ℚ (t ∷ lo ∷ []) (v0 ⊞ negated v1) ((v0 ⊞ number (pos 0)) ⊟ v1) refl ∙ ap (λ b. (t +ℚ open_end b lo) -ℚ lo) (sym e)

-- and ends where one is
pub close_open : (b : Bool) (t u end : ℚ) → b ≡ true → u ≡ t +ℚ end → u ≡ t +ℚ open_end b end
close_open b t u end e is = is ∙ ap (λ b. t +ℚ open_end b end) (sym e)

pub close_none : (b : Bool) (t end : ℚ) → b ≡ false → t ≡ t +ℚ open_end b end
close_none b t end e = plus-zero t ∙ ap (λ b. t +ℚ open_end b end) (sym e)

-- the cross product where the score is 1
length_is : (lo hi : ℚ) → hi -ℚ lo ≡ cross lo hi (whole (pos 1)) (whole (pos 1))
length_is lo hi = ring_ℚ (lo ∷ hi ∷ []) (v1 ⊟ v0) ((v1 ⊠ number (pos 1)) ⊟ (v0 ⊠ number (pos 1))) refl

module _ {F : Type 0} (value : F → Fraction) (p : Problem F) (s : Segment) (law : SidesAreScores value p s.vertex) (i : ℕ) (row : IsDataRow (sample value p) i) where
  abbrev lo : ℚ
  lo = rational s.lo

  abbrev hi : ℚ
  hi = rational s.hi

  -- a segment above the fit adds its length
  pub up_on : (t u : ℚ) → slice_get s.vertex.sides i ≡ Some Up → u ≡ t -ℚ lo → u +ℚ hi ≡ t +ℚ segment_cross value p s i
  up_on t u side e =
      ap (λ z. z +ℚ hi) e ∙ ring_ℚ (t ∷ lo ∷ hi ∷ []) ((v0 ⊟ v1) ⊞ v2) (v0 ⊞ (v2 ⊟ v1)) refl
      ∙ ap (λ z. t +ℚ z) (length_is lo hi ∙ ap₂ (λ a b. cross lo hi a b) (sym ((law lo s.basic_lo i row).0 side)) (sym ((law hi s.basic_hi i row).0 side)))

  -- one below it adds nothing
  pub down_on : (t u : ℚ) → slice_get s.vertex.sides i ≡ Some Down → u ≡ t → u +ℚ whole (pos 0) ≡ t +ℚ segment_cross value p s i
  down_on t u side e =
      ring_ℚ (u ∷ lo ∷ hi ∷ []) (v0 ⊞ number (pos 0)) (v0 ⊞ ((v2 ⊠ number (pos 0)) ⊟ (v1 ⊠ number (pos 0)))) refl
      ∙ ap (λ z. z +ℚ cross lo hi (whole (pos 0)) (whole (pos 0))) e
      ∙ ap₂ (λ a b. t +ℚ cross lo hi a b) (sym ((law lo s.basic_lo i row).1 side)) (sym ((law hi s.basic_hi i row).1 side))

-- a segment at which the row is basic adds its cross product
pub basic_on : (t u w x : ℚ) → u ≡ t → w ≡ u +ℚ x → w +ℚ whole (pos 0) ≡ t +ℚ x
basic_on t u w x e f = ring_ℚ (w ∷ []) (v0 ⊞ number (pos 0)) v0 refl ∙ f ∙ ap (λ z. z +ℚ x) e
