-- Responses less the values of offsets, and arithmetics in order.
use Rattle.std.proofs.Common.{◌≡◌, ◌<◌, ◌^◌, ◌-◌, ℕ, ◌+◌, Bool, true, false, List, [], ◌∷◌, ◌++◌, ◌⊎◌, inl, inr, Some, None, length, map, option_map, take, refl, sym, ap, subst, ◌∙◌, arith, get_or}
use Rattle.std.specs.Prelude.{bytes_eq, cond, slice_get}
use Rattle.std.specs.List.{list_any}
use Rattle.std.proofs.lemmas.List.{get_or-map, get_or-take, length-map, map-append, take-map, take_more}
use Rattle.std.proofs.lemmas.Option.{get_or_from_slice_get, slice_get-map, slice_get_read, slice_get_within}
use Rattle.rational_laws.specs.Rational.{ℚ, ◌-ℚ◌}
use Rattle.frac_core.specs.Overflow.{Overflows}
use Rattle.frac_core.specs.declared.exact.OpKind.TheVariants.{Sub}
use Rattle.frac_core.specs.declared.frac128.Frac128.{Frac128}
use Rattle.frac_core.specs.declared.arith.Arith.{Arith}
use Rattle.frac_core.specs.Values.{exact, value}
use Rattle.formula_arith.specs.declared.fault.ArithFault.{ArithFault}
use Rattle.formula_arith.specs.declared.fault.ArithFault.TheVariants as arith_fault
use Rattle.formula_arith.specs.Evaluations.{NoneOverflows}
use Rattle.formula_arith.proofs.Overflows.{fits_alone, fits_append}
use Rattle.loss_model.specs.declared.spill.Spill.{Spill}
use Rattle.data_frame.specs.Records.{Text}
use Rattle.design_matrix.specs.declared.fault.DesignFault.TheVariants.{OutOfMemory, Overflow, ArithNotNumeric}
use Rattle.design_matrix.specs.Cells.{Column, Table, column_of}
use Rattle.design_matrix.specs.CodedVariable.{is_text}
use Rattle.design_matrix.specs.Computed.{HasArithCause, less, with_text}
use Rattle.design_matrix.specs.Designs.{ArithsFit, OverflowsInAriths, OverflowsInResponse, ResponseFits, arith_site, subtraction, subtractions}
use Rattle.design_matrix.specs.Faults.{named_fault, refusal}
use Rattle.design_matrix.proofs.Steps.{list_any-map}

less_push : (y : ℚ) (xs : List ℚ) (x : ℚ) → less y (xs ++ (x ∷ [])) ≡ less y xs -ℚ x
less_push y [] x = refl
less_push y (z ∷ zs) x = less_push (y -ℚ z) zs x

-- the value of an offset at its place
pub offset_at : (vs : List Frac128) (i : ℕ) (v : Frac128) (d : ℚ) → i < length vs → v ≡ get_or vs i v → exact v ≡ get_or (map exact vs) i d
offset_at vs i v d h e = ap exact e ∙ sym (get_or-map exact vs i v d h)

-- one more offset
pub less_more : (y : ℚ) (vs : List Frac128) (i : ℕ) (v : Frac128) (old new : ℚ) → i < length vs → v ≡ get_or vs i v → old ≡ less y (take i (map exact vs)) → new ≡ old -ℚ exact v
    → new ≡ less y (take (i + 1) (map exact vs))
less_more y vs i v old new h e p q =
    q
    ∙ ap (λ x. x -ℚ exact v) p
    ∙ ap (λ x. less y (take i (map exact vs)) -ℚ x) (offset_at vs i v (exact v) h e)
    ∙ sym (less_push y (take i (map exact vs)) (get_or (map exact vs) i (exact v)))
    ∙ ap (less y) (sym (take_more (map exact vs) i (exact v) (let n : length (map exact vs) ≡ length vs = length-map vs exact in omega arith)))

subtractions_push : (y : ℚ) (xs : List ℚ) (x : ℚ) → subtractions y (xs ++ (x ∷ [])) ≡ subtractions y xs ++ (subtraction (less y xs) x ∷ [])
subtractions_push y [] x = refl
subtractions_push y (z ∷ zs) x = ap (λ l. subtraction y z ∷ l) (subtractions_push (y -ℚ z) zs x)

-- one more subtraction that wasn't refused
pub less_fits : (y : ℚ) (vs : List Frac128) (i : ℕ) (left v : Frac128) → i < length vs → v ≡ get_or vs i v → exact left ≡ less y (take i (map exact vs))
    → ResponseFits y (take i (map exact vs)) → (Overflows (2 ^ 127 - 1) Sub (value left) (value v) → ⊥) → ResponseFits y (take (i + 1) (map exact vs))
less_fits y vs i left v h e is before sound =
    let xs = map exact vs in
    let more : take (i + 1) xs ≡ take i xs ++ (exact v ∷ []) =
    take_more xs i (exact v) (let n : length xs ≡ length vs = length-map vs exact in omega arith) ∙ ap (λ x. take i xs ++ (x ∷ [])) (sym (offset_at vs i v (exact v) h e)) in
    subst NoneOverflows (sym (ap (subtractions y) more ∙ subtractions_push y (take i xs) (exact v)))
    (fits_append (subtractions y (take i xs)) (subtraction (less y (take i xs)) (exact v) ∷ []) before
    (fits_alone (subtraction (less y (take i xs)) (exact v)) left v is refl sound))

-- the item at a place
pub item_at : {X Y : Type 0} (f : X → Y) (xs : List X) (i : ℕ) (x : X) → i < length xs → x ≡ get_or xs i x → slice_get (map f xs) i ≡ Some (f x)
item_at f xs i x h e = slice_get-map f xs i ∙ ap (option_map f) (slice_get_read xs (length xs) i x refl h e)

-- the same of equal responses and offsets
pub fits_of : {y z : ℚ} {xs zs : List ℚ} → y ≡ z → xs ≡ zs → ResponseFits y xs → ResponseFits z zs
fits_of {y} {z} {xs} {zs} e f h = subst (λ l. ResponseFits z l) f (subst (λ x. ResponseFits x xs) e h)

pub spill_of : {y z : ℚ} {xs zs : List ℚ} (rec : ℕ) (s : Spill Frac128) → y ≡ z → xs ≡ zs → OverflowsInResponse y xs rec s → OverflowsInResponse z zs rec s
spill_of {y} {z} {xs} {zs} rec s e f h = subst (λ l. OverflowsInResponse z l rec s) f (subst (λ x. OverflowsInResponse x xs rec s) e h)

-- ---- arithmetics in order

-- why the arithmetic at a place has no value, where those before it have
pub refused : (table : Table) (ariths : List Arith) (i place : ℕ) (a : Arith) (fault : ArithFault) → slice_get ariths place ≡ Some a → ArithsFit table (take place ariths) i
    → HasArithCause table a i fault
    → (refusal i place fault ≡ OutOfMemory) ⊎ ((s : Spill Frac128) × (refusal i place fault ≡ Overflow s) × OverflowsInAriths table ariths i s)
refused table ariths i place a arith_fault.OutOfMemory there before h = inl refl
refused table ariths i place a (arith_fault.Overflow term op) there before h =
    inr (
      record { site = arith_site (i + 1) place term op.kind; left = op.left; right = op.right },
      refl,
      record { place = place; arith = a; there = there; before = before; term = term; op = op; first = h; is = refl },
    )

-- a text that is there, and one that isn't
pub text_there : {X : Type 0} (f : X → Arith) (found : List X) (a : Arith) (b : Bool) → b ≡ list_any (λ x. bytes_eq (f x).text a.text) found → b ≡ true
    → map f found ≡ with_text (map f found) a
text_there f found a b e t =
    sym (ap (λ q. cond q (map f found) (map f found ++ a ∷ [])) (list_any-map f (λ x. bytes_eq x.text a.text) found ∙ sym e ∙ t))

pub text_added : {X : Type 0} (f : X → Arith) (found new : List X) (x : X) (a : Arith) (b : Bool) → b ≡ list_any (λ y. bytes_eq (f y).text a.text) found → b ≡ false
    → new ≡ found ++ x ∷ [] → f x ≡ a → map f new ≡ with_text (map f found) a
text_added f found new x a b e t n same =
    ap (map f) n ∙ map-append f found (x ∷ []) ∙ ap (λ y. map f found ++ y ∷ []) same
    ∙ sym (ap (λ q. cond q (map f found) (map f found ++ a ∷ [])) (list_any-map f (λ y. bytes_eq y.text a.text) found ∙ sym e ∙ t))

-- ---- values of the first records

-- the value at a place where there is one
pub value_kept : (f : ℕ → ℚ) (vs : List Frac128) (records : List ℕ) (place : ℕ) (v : Frac128) (d : ℚ) → map exact vs ≡ map f (take (length vs) records) → Some v ≡ slice_get vs place
    → exact v ≡ get_or (map f records) place d
value_kept f vs records place v d right is =
    let lt = slice_get_within vs place v (sym is) in
    ap exact (sym (get_or_from_slice_get vs place v v (sym is)))
    ∙ sym (get_or-map exact vs place v d lt)
    ∙ ap (λ l. get_or l place d) (right ∙ sym (take-map f (length vs) records))
    ∙ get_or-take (length vs) (map f records) place d lt

-- the fault of a name
pub name_is : (table : Table) (name told : Text) (c : Column) (b : Bool) → b ≡ is_text c → c ≡ column_of table told → told ≡ name
    → named_fault table name ≡ cond b (Some (ArithNotNumeric name)) None
name_is table name told c b e f g =
    ap (λ x. cond (is_text x) (Some (ArithNotNumeric name)) None) (ap (column_of table) (sym g) ∙ sym f)
    ∙ ap (λ x. cond x (Some (ArithNotNumeric name)) None) (sym e)
