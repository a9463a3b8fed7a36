-- Operations one after the other, none of which overflows, or the first that does.
use Rattle.std.proofs.Common.{◌≡◌, ◌-◌, ◌+◌, ◌<◌, ◌≤◌, ◌^◌, ℕ, zero, suc, List, [], ◌∷◌, ◌++◌, length, length-append, refl, sym, ◌∙◌, ap, append_assoc, subst, arith, Result, Ok, Err, IfErr}
use Rattle.rational_laws.specs.Fraction.{Fraction}
use Rattle.rational_laws.specs.Rational.{ℚ, ◌*ℚ◌}
use Rattle.frac_core.specs.Lowest.{same_fraction}
use Rattle.frac_core.specs.Overflow.{Overflows}
use Rattle.frac_core.specs.declared.exact.OpKind.{OpKind}
use Rattle.frac_core.specs.declared.exact.Op.{Op}
use Rattle.frac_core.specs.declared.frac128.Frac128.{Frac128}
use Rattle.frac_core.specs.Values.{exact}
use Rattle.formula_arith.specs.declared.fault.ArithFault.{ArithFault}
use Rattle.formula_arith.specs.declared.fault.ArithFault.TheVariants.{Overflow}
use Rattle.formula_arith.specs.Values.{Operation, multiplication, power_multiplications, raised_by}
use Rattle.formula_arith.specs.Evaluations.{IsFirstOverflow, IsOverflowOf, NoneOverflows}
use Rattle.formula_arith.specs.Machine.{Halts, IsNamed}

-- none of these and none of those
pub fits_append : (xs ys : List Operation) → NoneOverflows xs → NoneOverflows ys → NoneOverflows (xs ++ ys)
fits_append [] ys hx hy = hy
fits_append (x ∷ xs) ys hx hy = (hx.0, fits_append xs ys hx.1 hy)

-- the first overflow of some operations, behind those that fit and before any others
pub first_within : (all done os rest : List Operation) (n : ℕ) (op : Op Frac128) → all ≡ done ++ (os ++ rest) → NoneOverflows done → IsFirstOverflow os n op → IsFirstOverflow all (length done + n) op
first_within all done os rest n op e fits h = record {
  earlier = done ++ h.earlier;
  here = h.here;
  later = h.later ++ rest;
  all = e ∙ ap (λ (x : List Operation). done ++ (x ++ rest)) h.all ∙ ap (λ (x : List Operation). done ++ x) (append_assoc h.earlier (h.here ∷ h.later) rest) ∙ sym (append_assoc done h.earlier (h.here ∷ (h.later ++ rest)));
  before = fits_append done h.earlier fits h.before;
  is = h.is;
  counted = omega (arith, h.counted, length-append done h.earlier);
}

-- an operation alone is the first
first_alone : (o : Operation) (op : Op Frac128) → IsOverflowOf o op → IsFirstOverflow (o ∷ []) 1 op
first_alone o op h = record { earlier = []; here = o; later = []; all = refl; before = tt; is = h; counted = refl }

-- a fault that names the only operation by the next number
halts_alone : (count : ℕ) (o : Operation) (fault : ArithFault) → IsNamed (count + 1) o fault → Halts count (o ∷ []) fault
halts_alone count o fault h = subst (Halts count (o ∷ [])) (sym h.named) (1, first_alone o h.op h.overflows, refl)

-- the same of an operation by its operands, where there is a fault
pub halts_by : (result : Result Frac128 ArithFault) (count : ℕ) (f : ℚ → ℚ → Operation) (x y v w : ℚ) → x ≡ v → y ≡ w → IfErr result (IsNamed (count + 1) (f x y)) → IfErr result (Halts count (f v w ∷ []))
halts_by (Ok r) count f x y v w ex ey h = tt
halts_by (Err fault) count f x y v w ex ey h =
    subst (λ (l : ℚ). Halts count (f l w ∷ []) fault) ex (subst (λ (r : ℚ). Halts count (f x r ∷ []) fault) ey (halts_alone count (f x y) fault h))

-- how many multiplications a power has
pub multiplications_counted : (n : ℕ) (x : ℚ) → length (power_multiplications n x) ≡ n
multiplications_counted zero x = refl
multiplications_counted (suc n) x = omega (arith, length-append (power_multiplications n x) (multiplication (raised_by n x) x ∷ []), multiplications_counted n x)

-- ---- one operation

abbrev range : ℕ
range = 2 ^ 127 - 1

abbrev fraction : Frac128 → Fraction
fraction x = record { num = x.num; den = x.den }

-- fractions of the same values overflow alike
same_overflow : (kind : OpKind) (x y v w : Frac128) → exact v ≡ exact x → exact w ≡ exact y → Overflows range kind (fraction v) (fraction w) → Overflows range kind (fraction x) (fraction y)
same_overflow kind x y v w ex ey o =
    subst (λ (f : Fraction). Overflows range kind (fraction x) f) (same_fraction range _ _ w.within y.within ey)
    (subst (λ (f : Fraction). Overflows range kind f (fraction w)) (same_fraction range _ _ v.within x.within ex) o)

-- an operation that wasn't refused is one that doesn't overflow
pub fits_alone : (o : Operation) (x y : Frac128) → exact x ≡ o.left → exact y ≡ o.right → (Overflows range o.kind (fraction x) (fraction y) → ⊥) → NoneOverflows (o ∷ [])
fits_alone o x y ex ey fits =
    ((λ op h. fits (same_overflow o.kind x y op.left op.right (h.is_left ∙ sym ex) (h.is_right ∙ sym ey) h.overflows)), tt)

-- one that was refused is named by its fault
pub is_named : (term : ℕ) (o : Operation) (op : Op Frac128) (x y : Frac128) → op ≡ record { kind = o.kind; left = x; right = y } → exact x ≡ o.left → exact y ≡ o.right
    → Overflows range o.kind (fraction x) (fraction y) → IsNamed term o (Overflow term op)
is_named term o op x y e ex ey refused =
    subst (λ (p : Op Frac128). IsNamed term o (Overflow term p)) (sym e) (record {
      op = record { kind = o.kind; left = x; right = y };
      named = refl;
      overflows = record { kind = refl; is_left = ex; is_right = ey; overflows = refused };
    })

-- ---- the multiplications of a power

-- those of a smaller power come first, and then one more
abbrev Begun : ℕ → ℕ → ℚ → Type 0
Begun n m x = (later : List Operation) × (power_multiplications m x ≡ power_multiplications n x ++ (multiplication (raised_by n x) x ∷ later))

begun : (k n m : ℕ) (x : ℚ) → m ≡ n + 1 + k → Begun n m x
begun zero n m x e =
    let next : suc n ≡ m = omega (arith, e) in
    subst (λ (j : ℕ). Begun n j x) next ([], refl)
begun (suc k) n m x e =
    let next : suc (n + 1 + k) ≡ m = omega (arith, e) in
    let before = begun k n (n + 1 + k) x refl in
    let last = multiplication (raised_by (n + 1 + k) x) x in
    subst (λ (j : ℕ). Begun n j x) next
    (before.0 ++ (last ∷ []), ap (λ (l : List Operation). l ++ (last ∷ [])) before.1 ∙ append_assoc (power_multiplications n x) (multiplication (raised_by n x) x ∷ before.0) (last ∷ []))

-- one more factor, which is counted from 1
pub raised_more : (factor : ℕ) (x power more : ℚ) → 1 ≤ factor → power ≡ raised_by (factor - 1) x → more ≡ power *ℚ x → more ≡ raised_by (factor + 1 - 1) x
raised_more factor x power more some e m =
    let next : suc (factor - 1) ≡ factor + 1 - 1 = omega (arith, some) in
    subst (λ (n : ℕ). more ≡ raised_by n x) next (m ∙ ap (λ (p : ℚ). p *ℚ x) e)

pub fits_more : (factor : ℕ) (x power : ℚ) → 1 ≤ factor → power ≡ raised_by (factor - 1) x → NoneOverflows (power_multiplications (factor - 1) x) → NoneOverflows (multiplication power x ∷ [])
    → NoneOverflows (power_multiplications (factor + 1 - 1) x)
fits_more factor x power some e before here =
    let next : suc (factor - 1) ≡ factor + 1 - 1 = omega (arith, some) in
    subst (λ (n : ℕ). NoneOverflows (power_multiplications n x)) next
    (fits_append (power_multiplications (factor - 1) x) _ before (subst (λ (p : ℚ). NoneOverflows (multiplication p x ∷ [])) e here))

-- the multiplication by this factor is the first that overflows
pub halts_raising : (count factor exponent : ℕ) (x power : ℚ) (fault : ArithFault) → 1 ≤ factor → factor < exponent → power ≡ raised_by (factor - 1) x
    → NoneOverflows (power_multiplications (factor - 1) x) → IsNamed (count + factor) (multiplication power x) fault → Halts count (power_multiplications (exponent - 1) x) fault
halts_raising count factor exponent x power fault some within e before h =
    let whole : exponent - 1 ≡ factor - 1 + 1 + (exponent - 1 - factor) = omega (arith, some, within) in
    let parts = begun (exponent - 1 - factor) (factor - 1) (exponent - 1) x whole in
    let here = subst (λ (p : ℚ). IsOverflowOf (multiplication p x) h.op) e h.overflows in
    let first : IsFirstOverflow (power_multiplications (exponent - 1) x) factor h.op = record {
      earlier = power_multiplications (factor - 1) x;
      here = multiplication (raised_by (factor - 1) x) x;
      later = parts.0;
      all = parts.1;
      before = before;
      is = here;
      counted = omega (arith, some, multiplications_counted (factor - 1) x);
    } in
    subst (Halts count (power_multiplications (exponent - 1) x)) (sym h.named) (factor, first, refl)
