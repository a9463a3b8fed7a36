-- Perturbed ratios compared by all their entries.
use Rattle.std.specs.Prelude.{◌≡◌, ◌≢◌, ◌⊎◌, ◌↔◌, ℕ, suc, ◌<◌, ◌≤◌, Bool, true, false, List, [], ◌∷◌, length, slice_index, Option, pos}
use Rattle.std.specs.Option.{option_map_or}
use Rattle.std.specs.Ordering.{is_lt, is_eq}
use Rattle.std.specs.declared.cmp.Ordering.{Ordering}
use Rattle.std.specs.declared.cmp.Ordering.TheVariants.{Less, Equal, Greater}
use Rattle.std.proofs.Common.{arith, refl, sym, ap, ap₂, subst, ◌∙◌, inl, inr}
use Rattle.std.proofs.lemmas.Bool.{cases_lt}
use Rattle.std.proofs.lemmas.Option.{slice_get_past}
use Rattle.rational_laws.specs.Fraction.{Fraction, rational}
use Rattle.rational_laws.specs.Solver.{number, ◌⊠◌, v0}
use Rattle.rational_laws.specs.Rational.{◌*ℚ◌, whole}
use Rattle.rational_laws.proofs.RationalLaws.{ring_ℚ}
use Rattle.rational_laws.proofs.RationalSumLaws.{sum_ℚ-same, sum_ℚ-zero}
use Rattle.rational_laws.specs.Order.{cmp_ℚ}
use Rattle.rational_laws.proofs.OrderLaws.{cmp_ℚ-Equal}
use Rattle.rational_laws.proofs.Comparisons.{not_equal}
use Rattle.loss_model.specs.declared.spill.Spill.{Spill}
use Rattle.loss_model.specs.declared.spill.Short.{Short}
use Rattle.loss_model.specs.Quantities.{IsShortOf, IsCoordinatesSpill}
use Rattle.loss_model.specs.Problem.{value_at}
use Rattle.loss_model.specs.Sample.{residual}
use Rattle.basis_model.specs.Lexicographic.{lex_cmp}
use Rattle.basis_model.proofs.LexicographicLaws.{lex_cmp-first}
use Rattle.basis_model.specs.Perturbed.{Nonbasic, IsOutside, ratio}
use Rattle.basis_model.specs.RatioSpill.{IsRatioSpill}
use Rattle.lex_rule.specs.declared.less.Ratio.{Ratio}
use Rattle.lex_rule.specs.Compared.{of_ratio, IsRatioAt}
use Rattle.basis_model.specs.Basis.{coord, coefficient, outside_row}
use Rattle.pivot_model.proofs.Passing.{is_outside}
use Rattle.fraction_tableau.specs.declared.line.Line.{Line}
use Rattle.fraction_tableau.specs.declared.line.Mover.{Mover}
use Rattle.fraction_tableau.specs.Lines.{model, at_of, inverse_of, IsLine, IsLineSpill, at_coordinates, at_tie, IsMover, is_moving, comes_before, IsMovingRow}
use Rattle.fraction_tableau.proofs.Inverses.{ends_of}
use Rattle.fraction_tableau.proofs.Refusals.{short_weaker}
use Rattle.fraction_tableau.proofs.Items.{line_basis}
use Rattle.fraction_tableau.proofs.Moving.{moving_some}

bool_is : (b : Bool) (o : Ordering) → ((b ≡ true) ↔ (o ≡ Less)) → b ≡ is_lt o
bool_is true o h = sym (ap is_lt (h.0 refl))
bool_is false Less h = h.1 refl
bool_is false Equal h = refl
bool_is false Greater h = refl

module _ {F : Type 0} (value : F → Fraction) (l : Line F) (line : IsLine value l) where
  -- beyond the columns there is no coordinate
  no_coord : (i j : ℕ) → l.tableau.now.problem.columns ≤ j → coord (model value l) (inverse_of value l) i j ≡ whole (pos 0)
  no_coord i j past =
      sum_ℚ-same l.tableau.now.problem.columns (λ k. (model value l).x i k *ℚ inverse_of value l k j) (λ k. whole (pos 0))
      (λ k lk. ap (λ z. (model value l).x i k *ℚ z) (ends_of value l.tableau.now.problem l.tableau.now.rows l.tableau.now.square line.kept.inverse k j (λ within. omega (arith, past, within.1)))
      ∙ ring_ℚ ((model value l).x i k ∷ []) (v0 ⊠ number (pos 0)) (number (pos 0)) refl)
      ∙ sum_ℚ-zero l.tableau.now.problem.columns

  -- the row as it is handed to the comparison
  pub same_row : (i : ℕ) (r : F) (coords : List F) → IsMovingRow value l i coords → value_at value l.residuals.now i ≡ rational (value r) → (u : Ratio F) → u.row ≡ i → u.residual ≡ r → u.coords.now ≡ coords
      → of_ratio value u ≡ outside_row (model value l) (at_of value l) (inverse_of value l) i
  same_row i r coords h read u row res co = λ t. record { row = row t; residual = at_residual t; coord = λ j. at_coord j t }
    where
      at_residual : rational (value u.residual) ≡ residual (model value l) (coefficient (model value l) (at_of value l) (inverse_of value l)) i
      at_residual = ap (λ (r : F). rational (value r)) res ∙ sym read ∙ line.residuals i h.row

      at_coord : (j : ℕ) → value_at value u.coords.now j ≡ coord (model value l) (inverse_of value l) i j
      at_coord j = ap (λ xs. value_at value xs j) co ∙ by (cases_lt j l.tableau.now.problem.columns)
        where
          by : (j < l.tableau.now.problem.columns) ⊎ (l.tableau.now.problem.columns ≤ j) → value_at value coords j ≡ coord (model value l) (inverse_of value l) i j
          by (inl lj) = h.each j lj
          by (inr past) =
              ap (λ (o : Option F). option_map_or (λ x. rational (value x)) o (whole (pos 0))) (slice_get_past coords j (omega (arith, h.size, past)))
              ∙ sym (no_coord i j past)

  pub ratio_at : (i : ℕ) (r : F) (coords : List F) → IsMovingRow value l i coords → value_at value l.residuals.now i ≡ rational (value r) → (u : Ratio F) → u.row ≡ i → u.residual ≡ r → u.coords.now ≡ coords
      → IsRatioAt value l.tableau.now.rows l.position u
  unfolding is_moving
  ratio_at i r coords h read u row res co =
      let out = is_outside (model value l) (at_of value l) (inverse_of value l) l.position (line_basis value l line) l.direction i h.moves in
      record {
        outside = subst (λ n. IsOutside n (slice_index l.tableau.now.rows) u.row) (sym line.kept.inverse.size) (subst (IsOutside l.tableau.now.problem.columns (slice_index l.tableau.now.rows)) (sym row) out);
        same = ap length co ∙ h.size ∙ sym line.kept.inverse.size;
        within = subst (λ n. l.position < n) (sym line.kept.inverse.size) line.position;
        some = λ none. moving_some value l i h.moves (sym (ap (λ (b : Nonbasic). b.coord l.position) (same_row i r coords h read u row res co)) ∙ none);
      }

  pub tie_exact : (i k : ℕ) (u v : Nonbasic) (less : Bool) → i < length l.tableau.now.problem.rows → k < length l.tableau.now.problem.rows
      → u ≡ outside_row (model value l) (at_of value l) (inverse_of value l) i → v ≡ outside_row (model value l) (at_of value l) (inverse_of value l) k
      → ((rows : ℕ) → u.row < rows → v.row < rows → (less ≡ true) ↔ (lex_cmp (suc rows) (ratio rows (length l.tableau.now.rows) (slice_index l.tableau.now.rows) l.position u)
      (ratio rows (length l.tableau.now.rows) (slice_index l.tableau.now.rows) l.position v) ≡ Less))
      → less ≡ comes_before value l i k
  unfolding comes_before
  tie_exact i k u v less li lk eu ev h =
      bool_is less _
      (subst (λ n. Q n (outside_row (model value l) (at_of value l) (inverse_of value l) i) (outside_row (model value l) (at_of value l) (inverse_of value l) k)) line.kept.inverse.size
      (subst (λ u. Q (length l.tableau.now.rows) u (outside_row (model value l) (at_of value l) (inverse_of value l) k)) eu
      (subst (λ v. Q (length l.tableau.now.rows) u v) ev
      (h (length l.tableau.now.problem.rows) (subst (λ (b : Nonbasic). b.row < length l.tableau.now.problem.rows) (sym eu) li) (subst (λ (b : Nonbasic). b.row < length l.tableau.now.problem.rows) (sym ev) lk)))))
    where
      Q : ℕ → Nonbasic → Nonbasic → Type 0
      Q n u v = (less ≡ true) ↔ (lex_cmp (suc (length l.tableau.now.problem.rows)) (ratio (length l.tableau.now.problem.rows) n (slice_index l.tableau.now.rows) l.position u)
          (ratio (length l.tableau.now.problem.rows) n (slice_index l.tableau.now.rows) l.position v) ≡ Less)

  pub tie_spill : (range i k : ℕ) (u v : Nonbasic) (s : Spill F) → i ≢ k → i < length l.tableau.now.problem.rows → k < length l.tableau.now.problem.rows → is_moving value l i ≡ true → is_moving value l k ≡ true
      → u ≡ outside_row (model value l) (at_of value l) (inverse_of value l) i → v ≡ outside_row (model value l) (at_of value l) (inverse_of value l) k
      → ((rows : ℕ) → u.row < rows → v.row < rows → IsRatioSpill value range rows (length l.tableau.now.rows) (slice_index l.tableau.now.rows) l.position u v s) → IsLineSpill value range l s
  unfolding IsLineSpill is_moving
  tie_spill range i k u v s differ li lk mi mk eu ev h =
      at_tie i k differ li lk mi mk
      (subst (λ n. Q n (outside_row (model value l) (at_of value l) (inverse_of value l) i) (outside_row (model value l) (at_of value l) (inverse_of value l) k)) line.kept.inverse.size
      (subst (λ u. Q (length l.tableau.now.rows) u (outside_row (model value l) (at_of value l) (inverse_of value l) k)) eu
      (subst (λ v. Q (length l.tableau.now.rows) u v) ev
      (h (length l.tableau.now.problem.rows) (subst (λ (b : Nonbasic). b.row < length l.tableau.now.problem.rows) (sym eu) li) (subst (λ (b : Nonbasic). b.row < length l.tableau.now.problem.rows) (sym ev) lk)))))
    where
      Q : ℕ → Nonbasic → Nonbasic → Type 0
      Q n u v = IsRatioSpill value range (length l.tableau.now.problem.rows) n (slice_index l.tableau.now.rows) l.position u v s

  -- where the first entries differ they decide
  pub first_decides : (m n : Mover F) → IsMover value l m → IsMover value l n → is_eq (cmp_ℚ (rational (value m.ratio)) (rational (value n.ratio))) ≡ false
      → is_lt (cmp_ℚ (rational (value m.ratio)) (rational (value n.ratio))) ≡ comes_before value l m.row n.row
  unfolding comes_before
  first_decides m n h g differ =
      ap is_lt (ap₂ cmp_ℚ h.ratio_is g.ratio_is
      ∙ sym (lex_cmp-first (suc (length l.tableau.now.problem.rows)) 0
      (ratio (model value l).rows (model value l).columns (at_of value l) l.position (outside_row (model value l) (at_of value l) (inverse_of value l) m.row))
      (ratio (model value l).rows (model value l).columns (at_of value l) l.position (outside_row (model value l) (at_of value l) (inverse_of value l) n.row))
      (omega arith) (λ i li. absurd (omega (arith, li)))
      (λ e. not_equal (cmp_ℚ (rational (value m.ratio)) (rational (value n.ratio))) differ ((cmp_ℚ-Equal (rational (value m.ratio)) (rational (value n.ratio))).1 (h.ratio_is ∙ e ∙ sym g.ratio_is)))))

  -- a coordinate of a row overflows
  pub coordinates_spill : (range i : ℕ) (e : Short F) → i < length l.tableau.now.problem.rows → IsShortOf (IsCoordinatesSpill value range (model value l).columns (inverse_of value l) ((model value l).x i) i) e
      → IsShortOf (IsLineSpill value range l) e
  unfolding IsLineSpill
  coordinates_spill range i e li h =
      short_weaker (IsCoordinatesSpill value range (model value l).columns (inverse_of value l) ((model value l).x i) i) (IsLineSpill value range l)
      (λ s k. at_coordinates i li k) e h
