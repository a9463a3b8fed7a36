-- The rows that move, found row by row.
use Rattle.std.specs.Prelude.{◌≡◌, ◌≢◌, ◌⊎◌, ℕ, ◌+◌, ◌<◌, ◌≤◌, Bool, true, false, ◌==◌, List, [], ◌∷◌, ◌++◌, length, slice_get, get_or, Option, Some, unwrap_or, pos}
use Rattle.std.specs.Option.{option_map_or}
use Rattle.std.proofs.Common.{arith, refl, sym, ap, ap₂, subst, ◌∙◌, inl, inr}
use Rattle.std.proofs.lemmas.Bool.{cases_lt}
use Rattle.std.proofs.lemmas.List.{length_push}
use Rattle.std.proofs.lemmas.Option.{slice_get_past, slice_get_read}
use borrow.Author.Tests.{eqb-true, eqb-false}
use Rattle.rational_laws.specs.Fraction.{Fraction, rational}
use Rattle.rational_laws.specs.Rational.{◌*ℚ◌, inverse, whole}
use Rattle.rational_laws.proofs.Lists.{pushed_last}
use Rattle.frac_core.specs.Overflow.{Overflows}
use Rattle.frac_core.specs.declared.exact.OpKind.TheVariants.{Div}
use Rattle.loss_model.specs.declared.spill.Quantity.TheVariants.{PerturbedRatio}
use Rattle.loss_model.specs.declared.spill.Spill.{Spill}
use Rattle.loss_model.specs.declared.vertex.Side.{Side}
use Rattle.loss_model.specs.declared.vertex.Side.TheVariants.{Basic}
use Rattle.loss_model.specs.Problem.{value_at}
use Rattle.loss_model.specs.Quantities.{IsShortOf}
use Rattle.loss_model.specs.declared.spill.Short.{Short}
use Rattle.loss_model.specs.Spill.{abs_ℚ, site_of}
use Rattle.basis_model.specs.Perturbed.{turned, perturbed_side}
use Rattle.basis_model.proofs.Ratios.{abs_nonzero}
use Rattle.basis_model.specs.Basis.{coord, outside_row, side_at}
use Rattle.loss_model.specs.Sides.{side_in}
use Rattle.pivot_model.specs.Steps.{is_towards, moves}
use Rattle.pivot_model.specs.Spills.{of_basis, of_ratio, of_tie, of_search}
use Rattle.pivot_model.proofs.Passing.{mover_some, mover_outside}
use Rattle.pivot_model.proofs.Sides.{side_outside}
use Rattle.fraction_tableau.specs.declared.line.Line.{Line}
use Rattle.fraction_tableau.specs.declared.line.Mover.{Mover}
use Rattle.fraction_tableau.specs.Lines.{model, at_of, inverse_of, IsLine, IsOrderSpill, IsLineSpill, at_coordinates, at_ratio, at_tie, IsMover, AreMovers, AreMoversBelow, row_at, is_moving, side_is, coord_is}
use Rattle.tableau_model.specs.Turns.{turned_by}
use Rattle.tableau_model.proofs.Turns.{change_turned}
use Rattle.fraction_tableau.specs.Descents.{IsDescent, IsDescentSpill}
use Rattle.tableau_model.proofs.Lists.{get_front}
use Rattle.fraction_tableau.proofs.Items.{row_read}
use Rattle.fraction_tableau.proofs.Refusals.{short_weaker}

no : true ≡ false → ⊥
no h = cc

module _ {F : Type 0} (value : F → Fraction) (l : Line F) where
  -- whether a row moves, by its side and its coordinate
  pub moving_is : (i : ℕ) (s : Side) (c : F) → side_is value l i s → coord_is value l i c → is_moving value l i ≡ is_towards s (turned_by l.direction (rational (value c)))
  unfolding is_moving
  moving_is i s c side here =
      ap (λ z. is_towards (side_at (model value l) (at_of value l) (inverse_of value l) i) z) (change_turned l.direction (model value l) (at_of value l) (inverse_of value l) l.position i ∙ ap (turned_by l.direction) (sym here))
      ∙ ap (λ s. is_towards s (turned_by l.direction (rational (value c)))) (sym side)

  -- the coordinate of a row that moves is not 0
  pub moving_some : (i : ℕ) → is_moving value l i ≡ true → coord (model value l) (inverse_of value l) i l.position ≢ whole (pos 0)
  unfolding is_moving
  moving_some i h = mover_some (model value l) (at_of value l) (inverse_of value l) l.position l.direction i h

  pub size_some : (i : ℕ) (c size : F) → coord_is value l i c → is_moving value l i ≡ true → rational (value size) ≡ abs_ℚ (rational (value c)) → rational (value size) ≢ whole (pos 0)
  size_some i c size here h is none =
      abs_nonzero (coord (model value l) (inverse_of value l) i l.position) (moving_some i h) (sym (is ∙ ap abs_ℚ here) ∙ none)

  -- the side of a row that moves is that of its perturbed residual
  moving_side : (i : ℕ) → is_moving value l i ≡ true → side_at (model value l) (at_of value l) (inverse_of value l) i
      ≡ perturbed_side (model value l).rows (model value l).columns (at_of value l) (outside_row (model value l) (at_of value l) (inverse_of value l) i)
  unfolding is_moving
  moving_side i h = side_outside (model value l) (at_of value l) (inverse_of value l) i (mover_outside (model value l) (at_of value l) (inverse_of value l) l.position l.direction i h)

  pub mover_is : (i : ℕ) (s : Side) (c r quotient ratio size : F) → IsLine value l → i < length l.tableau.now.problem.rows → side_is value l i s → coord_is value l i c → is_moving value l i ≡ true
      → value_at value l.residuals.now i ≡ rational (value r) → rational (value size) ≡ abs_ℚ (rational (value c))
      → rational (value quotient) ≡ rational (value r) *ℚ inverse (rational (value size)) → rational (value ratio) ≡ turned s (rational (value quotient))
      → IsMover value l (record { row = i; ratio = ratio; size = size })
  mover_is i s c r quotient ratio size line li side here h read is_size is_quotient is_ratio =
      record {
        row = li;
        moves = h;
        ratio_is = is_ratio ∙ ap₂ turned (side ∙ moving_side i h)
            (is_quotient ∙ ap₂ (λ x y. x *ℚ inverse y) (sym read ∙ line.residuals i li) (is_size ∙ ap abs_ℚ here));
        size_is = is_size ∙ ap abs_ℚ here;
      }

  pub ratio_spill : (range i : ℕ) (c r size : F) (s : Spill F) → IsLine value l → i < length l.tableau.now.problem.rows → coord_is value l i c → is_moving value l i ≡ true
      → value_at value l.residuals.now i ≡ rational (value r) → rational (value size) ≡ abs_ℚ (rational (value c))
      → s ≡ record { site = record (site_of PerturbedRatio i l.position 1) { kind = Div }; left = r; right = size } → Overflows range Div (value r) (value size) → IsLineSpill value range l s
  unfolding IsLineSpill is_moving
  ratio_spill range i c r size s line li here h read is_size is over =
      subst (IsOrderSpill value range (model value l) (at_of value l) (inverse_of value l) l.position l.direction) (sym is)
      (at_ratio i li h (record { named = refl; is_left = sym read ∙ line.residuals i li; is_right = is_size ∙ ap abs_ℚ here; overflows = over }))

  -- in a descent it is one of the solving step
  line_spill : (range : ℕ) → IsDescent value l → (s : Spill F) → IsLineSpill value range l s → IsDescentSpill value range l s
  unfolding IsLineSpill IsDescentSpill
  line_spill range h s (at_coordinates i li k) = of_basis (inr (inr (inl (i, li, k))))
  line_spill range h s (at_ratio r lr moves k) = of_search l.position l.direction h.leaving (of_ratio r lr moves k)
  line_spill range h s (at_tie r i differ lr li mr mi k) = of_search l.position l.direction h.leaving (of_tie r i differ lr li mr mi k)

  pub line_fault : (range : ℕ) → IsDescent value l → (e : Short F) → IsShortOf (IsLineSpill value range l) e → IsShortOf (IsDescentSpill value range l) e
  line_fault range h e k = short_weaker (IsLineSpill value range l) (IsDescentSpill value range l) (line_spill range h) e k

  -- ---- row by row

  pub below_skip : (n : ℕ) (xs : List (Mover F)) → AreMoversBelow value l n xs → is_moving value l n ≡ false → AreMoversBelow value l (n + 1) xs
  below_skip n xs h still =
      record {
        each = h.each;
        all = λ i li moves. by i li moves (i == n) refl;
        below = λ k lk. let old : row_at xs k < n = h.below k lk in omega arith;
        apart = h.apart;
      }
    where
      by : (i : ℕ) → i < n + 1 → is_moving value l i ≡ true → (t : Bool) → (i == n) ≡ t → (k : ℕ) × (k < length xs) × (row_at xs k ≡ i)
      by i li moves true e = absurd (no (sym moves ∙ ap (is_moving value l) (eqb-true i n e) ∙ still))
      by i li moves false e = let other : i ≢ n = eqb-false i n e in h.all i (omega arith) moves

  pub below_more : (n : ℕ) (xs next : List (Mover F)) (m : Mover F) → AreMoversBelow value l n xs → IsMover value l m → m.row ≡ n → next ≡ xs ++ m ∷ [] → AreMoversBelow value l (n + 1) next
  below_more n xs next m h mover here grown = subst (AreMoversBelow value l (n + 1)) (sym grown) (record { each = each; all = all; below = below; apart = apart })
    where
      long : length (xs ++ m ∷ []) ≡ length xs + 1
      long = length_push xs m

      front : (k : ℕ) → k < length xs → row_at (xs ++ m ∷ []) k ≡ row_at xs k
      front k lk = ap (λ (o : Option (Mover F)). option_map_or (λ m. m.row) o 0) (get_front xs (m ∷ []) k lk)

      end : row_at (xs ++ m ∷ []) (length xs) ≡ n
      end = row_read (xs ++ m ∷ []) (length xs) m (pushed_last xs m) ∙ here

      each : (k : ℕ) (x : Mover F) → slice_get (xs ++ m ∷ []) k ≡ Some x → IsMover value l x
      each k x e = by (cases_lt k (length xs)) (k == length xs) refl
        where
          by : (k < length xs) ⊎ (length xs ≤ k) → (t : Bool) → (k == length xs) ≡ t → IsMover value l x
          by (inl lk) t g = h.each k x (sym (get_front xs (m ∷ []) k lk) ∙ e)
          by (inr past) true g =
              let same : m ≡ x = cc (sym (pushed_last xs m) ∙ ap (slice_get (xs ++ m ∷ [])) (sym (eqb-true k (length xs) g)) ∙ e) in
              subst (IsMover value l) same mover
          by (inr past) false g =
              let other : k ≢ length xs = eqb-false k (length xs) g in
              absurd (cc (sym (slice_get_past (xs ++ m ∷ []) k (omega (arith, long))) ∙ e))

      all : (i : ℕ) → i < n + 1 → is_moving value l i ≡ true → (k : ℕ) × (k < length (xs ++ m ∷ [])) × (row_at (xs ++ m ∷ []) k ≡ i)
      all i li moves = by (i == n) refl
        where
          by : (t : Bool) → (i == n) ≡ t → (k : ℕ) × (k < length (xs ++ m ∷ [])) × (row_at (xs ++ m ∷ []) k ≡ i)
          by true e = (length xs, omega (arith, long), end ∙ sym (eqb-true i n e))
          by false e =
              let other : i ≢ n = eqb-false i n e in
              let found : (k : ℕ) × (k < length xs) × (row_at xs k ≡ i) = h.all i (omega arith) moves in
              (found.0, omega (arith, long, found.1), front found.0 found.1 ∙ found.2)

      below : (k : ℕ) → k < length (xs ++ m ∷ []) → row_at (xs ++ m ∷ []) k < n + 1
      below k lk = by (cases_lt k (length xs))
        where
          by : (k < length xs) ⊎ (length xs ≤ k) → row_at (xs ++ m ∷ []) k < n + 1
          by (inl less) = let old : row_at xs k < n = h.below k less in omega (arith, front k less)
          by (inr past) = let at : k ≡ length xs = omega (arith, long, lk) in subst (λ k. row_at (xs ++ m ∷ []) k < n + 1) (sym at) (omega (arith, end))

      apart : (j k : ℕ) → j < k → k < length (xs ++ m ∷ []) → row_at (xs ++ m ∷ []) j ≢ row_at (xs ++ m ∷ []) k
      apart j k less lk same = by (cases_lt k (length xs))
        where
          lj : j < length xs
          lj = omega (arith, less, lk, long)

          by : (k < length xs) ⊎ (length xs ≤ k) → ⊥
          by (inl within) = h.apart j k less within (sym (front j lj) ∙ same ∙ front k within)
          by (inr past) =
              let at : k ≡ length xs = omega (arith, long, lk) in
              let old : row_at xs j < n = h.below j lj in
              omega (arith, sym (front j lj) ∙ same ∙ ap (row_at (xs ++ m ∷ [])) at ∙ end)

  pub all_rows : (n : ℕ) (xs : List (Mover F)) → n ≡ length l.tableau.now.problem.rows → AreMoversBelow value l n xs → AreMovers value l xs
  all_rows n xs e h = record { each = h.each; all = λ i li moves. h.all i (omega (arith, e, li)) moves; apart = h.apart }

-- a side that was read
pub side_read : (sides : List Side) (i : ℕ) (s : Side) → i < length sides → s ≡ get_or sides i s → side_in sides i ≡ s
side_read sides i s within is = ap (λ (o : Option Side). unwrap_or o Basic) (slice_get_read sides (length sides) i s refl within is)
