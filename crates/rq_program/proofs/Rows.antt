-- Rows, one more at a time, and how many entries each has.
use Rattle.std.specs.Prelude.{◌≡◌, ℕ, ◌+◌, ◌<◌, ◌≤◌, List, [], ◌∷◌, ◌++◌, All, length, map, get_or, replicate, slice_index_or, take, zip, pos}
use Rattle.std.proofs.Common.{arith, sym, ap, subst, ◌∙◌}
use Rattle.std.proofs.Math.Seq.{take-length}
use Rattle.std.proofs.lemmas.List.{get_or-map, length-append, length-map, length-replicate, map-append}
use Rattle.std.proofs.lemmas.List.Elements.{All-append, All-map}
use Rattle.std.proofs.lemmas.Slice.Zip.{get_or-zip, length-zip}
use Rattle.rational_laws.specs.Rational.{ℚ, neg_ℚ, whole}
use Rattle.rational_laws.proofs.Lists.{mapped_more, map_replicate}
use Rattle.frac_core.specs.declared.frac128.Frac128.{Frac128}
use Rattle.frac_core.specs.Values.{exact}
use Rattle.loss_model.specs.declared.problem.Row.{Row}
use Rattle.loss_model.specs.declared.problem.Problem.{Problem}
use Rattle.loss_model.specs.Problem.{IsWellShaped}
use Rattle.loss_model.specs.Values.{exact_row}
use Rattle.design_matrix.specs.declared.design.Design.{Design}
use Rattle.design_matrix.specs.declared.design.DesignRow.{DesignRow}
use Rattle.tv_penalty.specs.declared.PenaltyRow.{PenaltyRow}
use Rattle.tv_penalty.specs.declared.Smoothing.{Smoothing}
use Rattle.rq_program.specs.Programs.{data_row, penalty_row, rows_of, columns_of, AreTogether}
use Rattle.rq_program.specs.Faults.{row_count}

-- the same of two lists, item by item
pub mapped_zip_more : {W X Y Z : Type 0} (g : W → Z) (f : X × Y → Z) (xs : List X) (ys : List Y) (k : ℕ) (x : X) (y : Y) (start : List Z) (olds news : List W) (w : W) → k < length xs → length ys ≡ length xs → x ≡ get_or xs k x
    → y ≡ get_or ys k y → map g olds ≡ start ++ map f (take k (zip xs ys)) → news ≡ olds ++ w ∷ [] → g w ≡ f (x, y) → map g news ≡ start ++ map f (take (k + 1) (zip xs ys))
mapped_zip_more {W} {X} {Y} g f xs ys k x y start olds news w within same here here' so_far more made =
    let within' : k < length ys = omega arith in
    mapped_more g f (zip xs ys) k (x, y) start olds news w (omega (arith, length-zip xs ys)) (pair ∙ sym (get_or-zip xs ys k (x, y) within within')) so_far more made
  where
    pair : ◌≡◌ {A = X × Y} (x, y) (get_or xs k x, get_or ys k y)
    pair = ap (λ a. (a, y)) here ∙ ap (λ b. (get_or xs k x, b)) here'

-- and its end
pub mapped_zip_all : {X Y Z : Type 0} (f : X × Y → Z) (xs : List X) (ys : List Y) (k : ℕ) (start now : List Z) → length ys ≡ length xs → k ≡ length xs → now ≡ start ++ map f (take k (zip xs ys)) → now ≡ start ++ map f (zip xs ys)
mapped_zip_all f xs ys k start now same all so_far =
    let n : k ≡ length (zip xs ys) = omega (arith, length-zip xs ys) in
    so_far ∙ ap (λ n. start ++ map f (take n (zip xs ys))) n ∙ ap (λ z. start ++ map f z) (take-length (zip xs ys))

-- as many rows as both kinds have
pub length-rows_of : (design : Design) (smoothing : Smoothing) → length smoothing.columns ≡ length design.rows → length (rows_of design smoothing) ≡ row_count design smoothing
length-rows_of design smoothing same =
    let front : length (map data_row (zip design.rows smoothing.columns)) ≡ length design.rows = length-map (zip design.rows smoothing.columns) data_row ∙ omega (arith, length-zip design.rows smoothing.columns) in
    length-append (map data_row (zip design.rows smoothing.columns)) (map (penalty_row (length design.names)) smoothing.rows)
    ∙ ap (λ n. n + length (map (penalty_row (length design.names)) smoothing.rows)) front
    ∙ ap (λ n. length design.rows + n) (length-map smoothing.rows (penalty_row (length design.names)))

-- each row has an entry for each column
pub wide_rows_of : (design : Design) (smoothing : Smoothing) → AreTogether design smoothing → All (λ q. length q.x ≡ columns_of design smoothing) (rows_of design smoothing)
wide_rows_of design smoothing h =
    All-append wide (map data_row (zip design.rows smoothing.columns)) (map (penalty_row (length design.names)) smoothing.rows)
    (All-map wide data_row (zip design.rows smoothing.columns) data_rows)
    (All-map wide (penalty_row (length design.names)) smoothing.rows penalties)
  where
    wide : Row ℚ → Type 0
    wide q = length q.x ≡ columns_of design smoothing

    joined : (r : DesignRow) (s : List Frac128) → length r.x ≡ length design.names → length s ≡ length smoothing.names → wide (data_row (r, s))
    joined r s hr hs = length-append (map exact r.x) (map exact s) ∙ ap (λ n. n + length (map exact s)) (length-map r.x exact ∙ hr) ∙ ap (λ n. length design.names + n) (length-map s exact ∙ hs)

    data_rows : All (λ p. wide (data_row p)) (zip design.rows smoothing.columns)
    data_rows k d l =
        let lr : k < length design.rows = omega (arith, length-zip design.rows smoothing.columns) in
        let ls : k < length smoothing.columns = omega (arith, h.lists) in
        subst (λ p. wide (data_row p)) (sym (get_or-zip design.rows smoothing.columns k d lr ls))
        (joined (get_or design.rows k d.0) (get_or smoothing.columns k d.1) (h.entries k d.0 lr) (h.smooth k d.1 ls))

    penalties : All (λ r. wide (penalty_row (length design.names) r)) smoothing.rows
    penalties k d l =
        length-append (replicate (length design.names) (whole (pos 0))) (map exact (get_or smoothing.rows k d).x)
        ∙ ap (λ n. n + length (map exact (get_or smoothing.rows k d).x)) (length-replicate (length design.names) (whole (pos 0)))
        ∙ ap (λ n. length design.names + n) (length-map (get_or smoothing.rows k d).x exact ∙ h.penalties k d l)

-- a problem of such rows is well shaped
pub shaped : (design : Design) (smoothing : Smoothing) (p : Problem Frac128) → AreTogether design smoothing → p.columns ≡ columns_of design smoothing → map exact_row p.rows ≡ rows_of design smoothing → columns_of design smoothing ≤ 128
    → row_count design smoothing ≤ 16384 → IsWellShaped p
shaped design smoothing p h columns rows narrow few =
    let count : length p.rows ≡ row_count design smoothing = sym (length-map p.rows exact_row) ∙ ap length rows ∙ length-rows_of design smoothing h.lists in
    record {
      some = omega (arith, h.some, columns);
      columns = omega (arith, columns, narrow);
      rows = omega (arith, count, few);
      entries = entries;
    }
  where
    all : All (λ q. length q.x ≡ columns_of design smoothing) (map exact_row p.rows)
    all = subst (λ qs. All (λ q. length q.x ≡ columns_of design smoothing) qs) (sym rows) (wide_rows_of design smoothing h)

    entries : All (λ r. length r.x ≡ p.columns) p.rows
    entries k d l =
        let l' : k < length (map exact_row p.rows) = omega (arith, length-map p.rows exact_row) in
        sym (length-map (slice_index_or p.rows k d).x exact)
        ∙ ap (λ q. length q.x) (sym (get_or-map exact_row p.rows k d (exact_row d) l))
        ∙ all k (exact_row d) l' ∙ sym columns

-- a row that begins with as many entries of 0 as the design has columns
pub padded_row : (width : ℕ) (penalty : PenaltyRow) (nought y up1 down1 : Frac128) (noughts after : List Frac128) → exact nought ≡ whole (pos 0) → exact y ≡ whole (pos 0) → exact up1 ≡ whole (pos 0) → exact down1 ≡ whole (pos 0)
    → noughts ≡ replicate width nought → after ≡ noughts ++ penalty.x → exact_row (record { x = after; y = y; up0 = penalty.lambda; up1 = up1; down0 = penalty.lambda; down1 = down1 }) ≡ penalty_row width penalty
padded_row width penalty nought y up1 down1 noughts after zero_nought zero_y zero_up zero_down filled joined =
    let entries : map exact after ≡ replicate width (whole (pos 0)) ++ map exact penalty.x =
    ap (map exact) joined ∙ map-append exact noughts penalty.x
    ∙ ap (λ z. z ++ map exact penalty.x) (ap (map exact) filled ∙ map_replicate exact width nought ∙ ap (replicate width) zero_nought)
    in
    cc

-- a row of a design with its entries of the smooths behind its own
pub joined_row : (r : DesignRow) (smooth none own front after : List Frac128) (up0 down1 : Frac128) → exact up0 ≡ whole (pos 0) → exact down1 ≡ neg_ℚ (exact r.weight) → none ≡ [] → own ≡ r.x → front ≡ none ++ own → after ≡ front ++ smooth
    → exact_row (record { x = after; y = r.y; up0 = up0; up1 = r.weight; down0 = r.weight; down1 = down1 }) ≡ data_row (r, smooth)
joined_row r smooth none own front after up0 down1 zero_up negated_down empty own_is first second =
    let entries : map exact after ≡ map exact r.x ++ map exact smooth =
    ap (map exact) (second ∙ ap (λ z. z ++ smooth) (first ∙ ap (λ z. z ++ own) empty ∙ own_is)) ∙ map-append exact r.x smooth
    in
    cc
