-- Bases whose measure falls from each to the next are at most as many as rows choose columns.
use Rattle.std.specs.Prelude.{◌≡◌, ◌⊎◌, ℕ, suc, ◌<◌, ◌≤◌, Bool, List, [], ◌∷◌, length, slice_index}
use Rattle.std.specs.declared.cmp.Ordering.TheVariants.{Less, Equal}
use Rattle.std.proofs.Common.{arith, refl, sym, subst, ◌∙◌, inl, inr}
use Rattle.std.proofs.lemmas.Bool.{cases_lt}
use Rattle.rational_laws.specs.Rational.{ℚ}
use Rattle.rational_laws.specs.Selections.{is_among}
use Rattle.rational_laws.proofs.SelectionLaws.{not_among}
use Rattle.loss_model.specs.Sample.{Sample}
use Rattle.basis_model.specs.Lexicographic.{lex_cmp}
use Rattle.basis_model.proofs.LexicographicLaws.{lex_cmp-Equal, less-trans}
use Rattle.basis_model.specs.Basis.{IsBasis}
use Rattle.pivot_model.specs.Trails.{AtBasis}
use Rattle.pivot_model.proofs.Counting.{count-among}
use Rattle.pivot_model.proofs.Unique.{same_inverse}
use Rattle.pivot_laws.specs.Choose.{choose, AreSets, IsNew, AreApart}
use Rattle.pivot_laws.proofs.Chosen.{at_most_choose}

unlike : Equal ≡ Less → ⊥
unlike h = cc

-- the sets of rows of bases of n positions
abbrev pub all_rows : ℕ → List (List ℕ) → List (ℕ → Bool)
all_rows n [] = []
all_rows n (basis ∷ rest) = is_among (slice_index basis) n ∷ all_rows n rest

all_length : (n : ℕ) (bases : List (List ℕ)) → length (all_rows n bases) ≡ length bases
all_length n [] = refl
all_length n (basis ∷ rest) = let more : length (all_rows n rest) ≡ length rest = all_length n rest in omega (arith, more)

-- a list over all rows, at a basis, which the rows of the basis decide
module _ (p : Sample) (measure : (ℕ → ℕ) → (ℕ → ℕ → ℚ) → ℕ → ℚ)
    (alike : (at next : ℕ → ℕ) (a b : ℕ → ℕ → ℚ) → IsBasis p at a → IsBasis p next b → ((i : ℕ) → is_among next p.columns i ≡ is_among at p.columns i) → (m : ℕ) → measure next b m ≡ measure at a m) where
  -- it is less at one basis than at another
  abbrev pub IsBelow : List ℕ → List ℕ → Type 0
  IsBelow next basis =
      AtBasis p basis (λ a. AtBasis p next (λ b. lex_cmp (suc p.rows) (measure (slice_index next) b) (measure (slice_index basis) a) ≡ Less))

  -- it falls along the bases
  abbrev pub Chain : List ℕ → List (List ℕ) → Type 0
  Chain basis [] = Unit {0}
  Chain basis (next ∷ rest) = IsBelow next basis × Chain next rest

  below_trans : (x y z : List ℕ) → IsBelow z y → IsBelow y x → IsBelow z x
  below_trans x y z h k =
      record {
        size = k.size;
        a = k.a;
        is_basis = k.is_basis;
        ends = k.ends;
        holds = record {
          size = h.holds.size;
          a = h.holds.a;
          is_basis = h.holds.is_basis;
          ends = h.holds.ends;
          holds = less-trans (suc p.rows) (measure (slice_index z) h.holds.a) (measure (slice_index y) k.holds.a) (measure (slice_index x) k.a)
              (subst (λ a. lex_cmp (suc p.rows) (measure (slice_index z) h.holds.a) (measure (slice_index y) a) ≡ Less)
              (same_inverse p (slice_index y) h.a k.holds.a h.is_basis k.holds.is_basis h.ends k.holds.ends) h.holds.holds)
              k.holds.holds;
        };
      }

  -- ---- the sets of rows

  -- beyond the rows of the problem no basis has any
  everywhere : (at next : ℕ → ℕ) (a b : ℕ → ℕ → ℚ) → IsBasis p at a → IsBasis p next b → ((i : ℕ) → i < p.rows → is_among at p.columns i ≡ is_among next p.columns i)
      → (i : ℕ) → is_among next p.columns i ≡ is_among at p.columns i
  everywhere at next a b u v same i = by (cases_lt i p.rows)
    where
      by : (i < p.rows) ⊎ (p.rows ≤ i) → is_among next p.columns i ≡ is_among at p.columns i
      by (inl li) = sym (same i li)
      by (inr past) =
          not_among next p.columns i (λ j lj e. let within : next j < p.rows = v.distinct.within j lj in omega (arith, e, within))
          ∙ sym (not_among at p.columns i (λ j lj e. let within : at j < p.rows = u.distinct.within j lj in omega (arith, e, within)))

  differ : (basis next : List ℕ) → IsBelow next basis → ¬ ((i : ℕ) → i < p.rows → is_among (slice_index basis) p.columns i ≡ is_among (slice_index next) p.columns i)
  differ basis next h same =
      unlike (sym (lex_cmp-Equal (suc p.rows) (measure (slice_index next) h.holds.a) (measure (slice_index basis) h.a)
      (λ m lm. alike (slice_index basis) (slice_index next) h.a h.holds.a h.is_basis h.holds.is_basis (everywhere (slice_index basis) (slice_index next) h.a h.holds.a h.is_basis h.holds.is_basis same) m))
      ∙ h.holds.holds)

  new : (basis next : List ℕ) (rest : List (List ℕ)) → IsBelow next basis → Chain next rest → IsNew p.rows (is_among (slice_index basis) p.columns) (all_rows p.columns (next ∷ rest))
  new basis next [] h falls = (differ basis next h, tt)
  new basis next (last ∷ rest) h falls = (differ basis next h, new basis last rest (below_trans basis next last falls.0 h) falls.1)

  pub chain_apart : (basis : List ℕ) (rest : List (List ℕ)) → Chain basis rest → AreApart p.rows (all_rows p.columns (basis ∷ rest))
  chain_apart basis [] h = (tt, tt)
  chain_apart basis (next ∷ rest) h = (new basis next rest h.0 h.1, chain_apart next rest h.1)

  sizes : (basis : List ℕ) (a : ℕ → ℕ → ℚ) → IsBasis p (slice_index basis) a → (rest : List (List ℕ)) → Chain basis rest → AreSets p.rows p.columns (all_rows p.columns (basis ∷ rest))
  sizes basis a u [] h = (count-among (slice_index basis) p.columns p.rows u.distinct, tt)
  sizes basis a u (next ∷ rest) h =
      (count-among (slice_index basis) p.columns p.rows u.distinct, sizes next h.0.holds.a h.0.holds.is_basis rest h.1)

  pub chain_few : (basis : List ℕ) (a : ℕ → ℕ → ℚ) → IsBasis p (slice_index basis) a → (rest : List (List ℕ)) → Chain basis rest → suc (length rest) ≤ choose p.rows p.columns
  chain_few basis a u rest h =
      let same : length (all_rows p.columns rest) ≡ length rest = all_length p.columns rest in
      let few : length (all_rows p.columns (basis ∷ rest)) ≤ choose p.rows p.columns = at_most_choose p.rows p.columns (all_rows p.columns (basis ∷ rest)) (sizes basis a u rest h) (chain_apart basis rest h) in
      omega (arith, same, few)
