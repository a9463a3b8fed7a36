-- Where no operation of the records overflows, none is the first that does; and the first that does is one.
use Rattle.std.proofs.Common.{◌≡◌, ◌<◌, ◌+◌, ℕ, zero, suc, List, [], ◌∷◌, ◌++◌, Some, length, take, get_or, pos, slice_get, arith, refl, sym, ap, subst, ◌∙◌}
use Rattle.std.proofs.lemmas.List.{get_or-take, length-take}
use Rattle.std.proofs.lemmas.Option.{get_or_from_slice_get, slice_get_within}
use native.Mathlib.Decide.{dec_lt}
use Rattle.rational_laws.specs.Rational.{ℚ, ◌-ℚ◌, whole}
use Rattle.frac_core.specs.declared.arith.Arith.{Arith}
use Rattle.frac_core.specs.declared.exact.Op.{Op}
use Rattle.frac_core.specs.declared.exact.OpKind.TheVariants.{Sub}
use Rattle.frac_core.specs.declared.frac128.Frac128.{Frac128}
use Rattle.frac_core.proofs.Values.{same_number}
use Rattle.formula_arith.specs.Evaluations.{IsFirstOverflow, IsOverflowOf, NoneOverflows}
use Rattle.formula_arith.specs.Values.{Operation}
use Rattle.loss_model.specs.declared.spill.Spill.{Spill}
use Rattle.formula_parser.specs.declared.formula.Formula.{Formula}
use Rattle.design_matrix.specs.Cells.{Table}
use Rattle.design_matrix.specs.Computed.{arith_operations, expressions, less}
use Rattle.design_matrix.specs.Designs.{AllFit, ArithsFit, OverflowsFirst, OverflowsInAriths, OverflowsInRecord, OverflowsInResponse, RecordFits, ResponseFits, arith_site, in_ariths, in_entries, in_response, offset_site, subtraction}
use Rattle.design_matrix.specs.Parts.{Part}
use Rattle.run_laws.proofs.Products.{none_in_row, same_in_row, same_spill}

-- ---- lists of operations

-- one of them doesn't overflow where none does
none_within : (earlier later : List Operation) (here : Operation) (op : Op Frac128) → NoneOverflows (earlier ++ here ∷ later) → IsOverflowOf here op → ⊥
none_within [] later here op none is = none.0 op is
none_within (o ∷ earlier) later here op none is = none_within earlier later here op none.1 is

none_first_of : (os : List Operation) (term : ℕ) (op : Op Frac128) → NoneOverflows os → IsFirstOverflow os term op → ⊥
none_first_of os term op none h = none_within h.earlier h.later h.here op (subst NoneOverflows h.all none) h.is

-- the first of two lists of operations that are one stands at one place
record IsSame (a b : List Operation) (x y : Operation) : Type 0 where
  count : length a ≡ length b
  here : x ≡ y

same_place : (a b l m : List Operation) (x y : Operation) (p q : Op Frac128) → a ++ x ∷ l ≡ b ++ y ∷ m → NoneOverflows a → NoneOverflows b → IsOverflowOf x p → IsOverflowOf y q → IsSame a b x y
same_place [] [] l m x y p q e f g h k = record { count = refl; here = cc e }
same_place [] (o ∷ b) l m x y p q e f g h k = let is : x ≡ o = cc e in absurd (g.0 p (subst (λ z. IsOverflowOf z p) is h))
same_place (o ∷ a) [] l m x y p q e f g h k = let is : o ≡ y = cc e in absurd (f.0 q (subst (λ z. IsOverflowOf z q) (sym is) k))
same_place (o ∷ a) (o' ∷ b) l m x y p q e f g h k =
    let tail : a ++ x ∷ l ≡ b ++ y ∷ m = cc e in
    let same = same_place a b l m x y p q tail f.1 g.1 h k in
    record { count = ap suc same.count; here = same.here }

-- the operation that is told of one is one
same_op : (o : Operation) (p q : Op Frac128) → IsOverflowOf o p → IsOverflowOf o q → p ≡ q
same_op o p q h k =
    let kind = h.kind ∙ sym k.kind in
    let left = same_number p.left q.left (h.is_left ∙ sym k.is_left) in
    let right = same_number p.right q.right (h.is_right ∙ sym k.is_right) in
    λ i. record { kind = kind i; left = left i; right = right i }

-- the first operation that overflows, with its number
record IsOne (t u : ℕ) (p q : Op Frac128) : Type 0 where
  term : t ≡ u
  op : p ≡ q

one_first : (os : List Operation) (t u : ℕ) (p q : Op Frac128) → IsFirstOverflow os t p → IsFirstOverflow os u q → IsOne t u p q
one_first os t u p q h k =
    let same = same_place h.earlier k.earlier h.later k.later h.here k.here p q (sym h.all ∙ k.all) h.before k.before h.is k.is in
    record {
      term = h.counted ∙ ap (λ n. n + 1) same.count ∙ sym k.counted;
      op = same_op h.here p q h.is (subst (λ o. IsOverflowOf o q) (sym same.here) k.is);
    }

-- ---- arithmetics of a record

module _ (table : Table) (ariths : List Arith) (i : ℕ) where
  -- the operations of the arithmetic at a place
  at_place : (place : ℕ) (a : Arith) → slice_get ariths place ≡ Some a → ArithsFit table ariths i → NoneOverflows (arith_operations table a i)
  at_place place a there fits =
      subst (λ b. NoneOverflows (arith_operations table b i)) (get_or_from_slice_get ariths place a a there) (fits place a (slice_get_within ariths place a there))

  pub none_in_ariths : (spill : Spill Frac128) → ArithsFit table ariths i → OverflowsInAriths table ariths i spill → ⊥
  none_in_ariths spill fits h = none_first_of (arith_operations table h.arith i) h.term h.op (at_place h.place h.arith h.there fits) h.first

  -- nor does one of the arithmetics before
  none_before : (place n : ℕ) (a : Arith) (term : ℕ) (op : Op Frac128) → slice_get ariths place ≡ Some a → place < n → ArithsFit table (take n ariths) i
      → IsFirstOverflow (arith_operations table a i) term op → ⊥
  none_before place n a term op there below fits first =
      let within = slice_get_within ariths place a there in
      let is : get_or (take n ariths) place a ≡ a = get_or-take n ariths place a below ∙ get_or_from_slice_get ariths place a a there in
      none_first_of (arith_operations table a i) term op
      (subst (λ b. NoneOverflows (arith_operations table b i)) is (fits place a (omega (arith, below, within, length-take n ariths)))) first

  same_in_ariths : (s t : Spill Frac128) → OverflowsInAriths table ariths i s → OverflowsInAriths table ariths i t → s ≡ t
  same_in_ariths s t h k = elim (dec_lt h.place k.place) [
    | yes before ↦ absurd (none_before h.place k.place h.arith h.term h.op h.there before k.before h.first)
    | no late ↦ elim (dec_lt k.place h.place) [
      | yes after ↦ absurd (none_before k.place h.place k.arith k.term k.op k.there after h.before k.first)
      | no early ↦
          let e : k.place ≡ h.place = omega (arith, late, early) in
          let arith : k.arith ≡ h.arith = cc (sym k.there ∙ ap (slice_get ariths) e ∙ h.there) in
          let one = one_first (arith_operations table h.arith i) h.term k.term h.op k.op h.first (subst (λ a. IsFirstOverflow (arith_operations table a i) k.term k.op) arith k.first) in
          let place = sym e in
          let term = one.term in
          let op = one.op in
          h.is ∙ (λ j. record { site = arith_site (i + 1) (place j) (term j) (op j).kind; left = (op j).left; right = (op j).right }) ∙ sym k.is
    ]
  ]

-- ---- the response of a record

-- an operation by the two operands of a spilt subtraction
abbrev spilt : Spill Frac128 → Op Frac128
spilt s = record { kind = Sub; left = s.left; right = s.right }

-- the subtraction at a place doesn't overflow where none does
none_at : (y : ℚ) (xs : List ℚ) (place : ℕ) (d : ℚ) (op : Op Frac128) → place < length xs → ResponseFits y xs → IsOverflowOf (subtraction (less y (take place xs)) (get_or xs place d)) op → ⊥
none_at y [] place d op l fits is = absurd (omega (arith, l))
none_at y (x ∷ xs) zero d op l fits is = fits.0 op is
none_at y (x ∷ xs) (suc place) d op l fits is = none_at (y -ℚ x) xs place d op (omega (arith, l)) fits.1 is

-- nor where none of the first does
none_at_first : (y : ℚ) (xs : List ℚ) (place n : ℕ) (d : ℚ) (op : Op Frac128) → place < length xs → place < n → ResponseFits y (take n xs)
    → IsOverflowOf (subtraction (less y (take place xs)) (get_or xs place d)) op → ⊥
none_at_first y [] place n d op l below fits is = absurd (omega (arith, l))
none_at_first y (x ∷ xs) place zero d op l below fits is = absurd (omega (arith, below))
none_at_first y (x ∷ xs) zero (suc n) d op l below fits is = fits.0 op is
none_at_first y (x ∷ xs) (suc place) (suc n) d op l below fits is = none_at_first (y -ℚ x) xs place n d op (omega (arith, l)) (omega (arith, below)) fits.1 is

module _ (y : ℚ) (xs : List ℚ) (rec : ℕ) where
  is_overflow : (s : Spill Frac128) (h : OverflowsInResponse y xs rec s) → IsOverflowOf (subtraction (less y (take h.place xs)) (get_or xs h.place (whole (pos 0)))) (spilt s)
  is_overflow s h = record { kind = refl; is_left = h.operation.is_left; is_right = h.operation.is_right; overflows = h.operation.overflows }

  none_in_response : (s : Spill Frac128) → ResponseFits y xs → OverflowsInResponse y xs rec s → ⊥
  none_in_response s fits h = none_at y xs h.place (whole (pos 0)) (spilt s) h.there fits (is_overflow s h)

  same_in_response : (s t : Spill Frac128) → OverflowsInResponse y xs rec s → OverflowsInResponse y xs rec t → s ≡ t
  same_in_response s t h k = elim (dec_lt h.place k.place) [
    | yes before ↦ absurd (none_at_first y xs h.place k.place (whole (pos 0)) (spilt s) h.there before k.before (is_overflow s h))
    | no late ↦ elim (dec_lt k.place h.place) [
      | yes after ↦ absurd (none_at_first y xs k.place h.place (whole (pos 0)) (spilt t) k.there after h.before (is_overflow t k))
      | no early ↦
          let e : k.place ≡ h.place = omega (arith, late, early) in
          same_spill (offset_site rec h.place) (less y (take h.place xs)) (get_or xs h.place (whole (pos 0))) s t
          h.operation.named (k.operation.named ∙ ap (offset_site rec) e)
          h.operation.is_left (k.operation.is_left ∙ ap (λ n. less y (take n xs)) e)
          h.operation.is_right (k.operation.is_right ∙ ap (λ n. get_or xs n (whole (pos 0))) e)
    ]
  ]

-- ---- records

module _ (table : Table) (model : Formula) (columns : List (List Part)) where
  none_in_record : (place i : ℕ) (spill : Spill Frac128) → RecordFits table model columns place i → OverflowsInRecord table model columns place i spill → ⊥
  none_in_record place i spill fits (in_ariths h) = none_in_ariths table (expressions model) i spill fits.ariths h
  none_in_record place i spill fits (in_response a h) = none_in_response _ _ (i + 1) spill fits.response h
  none_in_record place i spill fits (in_entries a r h) = none_in_row columns place (i + 1) spill fits.entries h

  same_in_record : (place i : ℕ) (s t : Spill Frac128) → OverflowsInRecord table model columns place i s → OverflowsInRecord table model columns place i t → s ≡ t
  same_in_record place i s t (in_ariths h) (in_ariths k) = same_in_ariths table (expressions model) i s t h k
  same_in_record place i s t (in_ariths h) (in_response a k) = absurd (none_in_ariths table (expressions model) i s a h)
  same_in_record place i s t (in_ariths h) (in_entries a r k) = absurd (none_in_ariths table (expressions model) i s a h)
  same_in_record place i s t (in_response a h) (in_ariths k) = absurd (none_in_ariths table (expressions model) i t a k)
  same_in_record place i s t (in_response a h) (in_response b k) = same_in_response _ _ (i + 1) s t h k
  same_in_record place i s t (in_response a h) (in_entries b r k) = absurd (none_in_response _ _ (i + 1) s r h)
  same_in_record place i s t (in_entries a r h) (in_ariths k) = absurd (none_in_ariths table (expressions model) i t a k)
  same_in_record place i s t (in_entries a r h) (in_response b k) = absurd (none_in_response _ _ (i + 1) t r k)
  same_in_record place i s t (in_entries a r h) (in_entries b q k) = same_in_row columns place (i + 1) s t h k

  pub none_first : (records : List ℕ) (spill : Spill Frac128) → AllFit table model columns records → OverflowsFirst table model columns records spill → ⊥
  none_first records spill fit h = none_in_record h.place (get_or records h.place 0) spill (fit h.place h.there) h.here

  pub same_first : (records : List ℕ) (s t : Spill Frac128) → OverflowsFirst table model columns records s → OverflowsFirst table model columns records t → s ≡ t
  same_first records s t h k = elim (dec_lt h.place k.place) [
    | yes before ↦ absurd (none_in_record h.place (get_or records h.place 0) s (k.before h.place before) h.here)
    | no late ↦ elim (dec_lt k.place h.place) [
      | yes after ↦ absurd (none_in_record k.place (get_or records k.place 0) t (h.before k.place after) k.here)
      | no early ↦
          let e : k.place ≡ h.place = omega (arith, late, early) in
          same_in_record h.place (get_or records h.place 0) s t h.here (subst (λ p. OverflowsInRecord table model columns p (get_or records p 0) t) e k.here)
    ]
  ]
