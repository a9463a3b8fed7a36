-- The same entry of two ratios, which agree at the entries before it.
use Rattle.std.specs.Prelude.{◌≡◌, ◌⊎◌, ℕ, suc, ◌<◌, ◌≤◌, List, length, get_or, slice_index, false, true}
use Rattle.std.specs.Ordering.{is_ne}
use Rattle.std.specs.declared.cmp.Ordering.{Ordering}
use Rattle.std.proofs.Common.{arith, refl, ap, subst, ◌∙◌, inl, inr}
use Rattle.rational_laws.specs.Fraction.{Fraction, rational}
use Rattle.rational_laws.specs.Rational.{neg_ℚ}
use Rattle.rational_laws.specs.Order.{cmp_ℚ}
use Rattle.loss_model.specs.declared.spill.Spill.{Spill}
use Rattle.basis_model.specs.Lexicographic.{lex_cmp}
use Rattle.basis_model.specs.Perturbed.{Nonbasic, perturbed, ratio_on}
use Rattle.basis_model.specs.RatioSpill.{IsRatioEntrySpill, IsSpillOn}
use Rattle.lex_rule.specs.declared.less.Ratio.{Ratio}
use Rattle.lex_rule.specs.declared.quotient.Divisor.{Divisor}
use Rattle.lex_rule.specs.Divisor.{entry_over, IsDivisorSpill}
use Rattle.lex_rule.specs.Compared.{of_ratio, IsRatioAt, IsDivisorOf}
use Rattle.lex_rule.specs.Scan.{IsNextAt}
use Rattle.rational_laws.proofs.Comparisons.{differs}
use Rattle.loss_model.proofs.Products.{value_read}
use Rattle.lex_rule.proofs.Comparisons.{equal_from, entry_is, entry_spill, held_entry, AgreeBefore, agree_between, agree_more, decided, same_entry}

-- what is divided at entry m, by whom, and that all before it agree
pub record AreEntries {F : Type 0} (value : F → Fraction) (n : ℕ) (at : ℕ → ℕ) (j : ℕ) (u v : Nonbasic) (by and_by : Divisor F) (m : ℕ) (x y : F) : Type 0 where
  pub left_divisor : IsDivisorOf value j u by
  pub right_divisor : IsDivisorOf value j v and_by
  pub left : rational (value x) ≡ perturbed n at u m
  pub right : rational (value y) ≡ perturbed n at v m
  pub agree : AgreeBefore by.side and_by.side n at j u v m

module _ {F : Type 0} (value : F → Fraction) (basis : List ℕ) (j : ℕ) (a b : Ratio F) (by and_by : Divisor F) (d : IsDivisorOf value j (of_ratio value a) by) (e : IsDivisorOf value j (of_ratio value b) and_by) where
  -- the residuals are the first entries
  pub first_entries : AreEntries value (length basis) (slice_index basis) j (of_ratio value a) (of_ratio value b) by and_by 0 a.residual b.residual
  first_entries = record { left_divisor = d; right_divisor = e; left = refl; right = refl; agree = λ i l. absurd (omega arith) }

  -- and the negated coordinates are those of the next row of the basis
  pub next_entries : IsRatioAt value basis j a → IsRatioAt value basis j b → (from end k : ℕ) → end ≤ a.row → end ≤ b.row
      → IsNextAt (length basis) (slice_index basis) (of_ratio value a).coord (of_ratio value b).coord from end k
      → AgreeBefore by.side and_by.side (length basis) (slice_index basis) j (of_ratio value a) (of_ratio value b) (suc from)
      → (left right x y : F) → left ≡ get_or a.coords.now k left → right ≡ get_or b.coords.now k right → rational (value x) ≡ neg_ℚ (rational (value left)) → rational (value y) ≡ neg_ℚ (rational (value right))
      → AreEntries value (length basis) (slice_index basis) j (of_ratio value a) (of_ratio value b) by and_by (suc (slice_index basis k)) x y
  next_entries f g from end k la lb next agree left right x y il ir nl nr =
      record {
        left_divisor = d;
        right_divisor = e;
        left = entry a f left x il nl;
        right = entry b g right y ir nr;
        agree = agree_between by.side and_by.side (length basis) (slice_index basis) j (of_ratio value a) (of_ratio value b) from (slice_index basis k)
            (omega (arith, next.below, la)) (omega (arith, next.below, lb)) next.least agree;
      }
    where
      entry : (r : Ratio F) → IsRatioAt value basis j r → (read z : F) → read ≡ get_or r.coords.now k read → rational (value z) ≡ neg_ℚ (rational (value read))
          → rational (value z) ≡ perturbed (length basis) (slice_index basis) (of_ratio value r) (suc (slice_index basis k))
      entry r h read z is negated =
          let inside : k < length r.coords.now = omega (arith, next.within, h.same) in
          negated ∙ ap neg_ℚ (value_read value r.coords.now k read inside is) ∙ held_entry (length basis) (slice_index basis) (of_ratio value r) k h.outside next.within

module _ {F : Type 0} {value : F → Fraction} {n : ℕ} {at : ℕ → ℕ} {j : ℕ} {u v : Nonbasic} {by and_by : Divisor F} {m : ℕ} {x y : F} (h : AreEntries value n at j u v by and_by m x y) where
  module _ (o : Ordering) (is : o ≡ cmp_ℚ (entry_over value by x) (entry_over value and_by y)) where
    left_is : entry_over value by x ≡ ratio_on by.side n at j u m
    left_is = entry_is value n at j u by h.left_divisor m x h.left

    right_is : entry_over value and_by y ≡ ratio_on and_by.side n at j v m
    right_is = entry_is value n at j v and_by h.right_divisor m y h.right

    -- entries that differ decide
    pub entries_decide : (end : ℕ) → m ≤ end → is_ne o ≡ true → o ≡ lex_cmp (suc end) (ratio_on by.side n at j u) (ratio_on and_by.side n at j v)
    entries_decide end l differ = decided by.side and_by.side n at j u v (suc end) m o _ _ (omega (arith, l)) h.agree left_is right_is is (differs o differ)

    -- and else the ratios agree at one entry more
    pub entries_agree : is_ne o ≡ false → AgreeBefore by.side and_by.side n at j u v (suc m)
    entries_agree same = agree_more by.side and_by.side n at j u v m h.agree (same_entry by.side and_by.side n at j u v m o _ _ left_is right_is is (equal_from o same))

  pub entries_spill : (range rows entry : ℕ) (s : Spill F) → entry ≡ m → m ≤ rows → IsDivisorSpill value range by entry x s ⊎ IsDivisorSpill value range and_by entry y s
      → IsSpillOn value range rows n at j by.side and_by.side u v s
  entries_spill range rows entry s same within found =
      record {
        entry = m;
        within = within;
        agree = h.agree;
        spill = either (subst (λ k. IsDivisorSpill value range by k x s ⊎ IsDivisorSpill value range and_by k y s) same found);
      }
    where
      either : IsDivisorSpill value range by m x s ⊎ IsDivisorSpill value range and_by m y s → IsRatioEntrySpill value range n at j u m s ⊎ IsRatioEntrySpill value range n at j v m s
      either (inl found) = inl (entry_spill value n at j u by h.left_divisor m x h.left range s found)
      either (inr found) = inr (entry_spill value n at j v and_by h.right_divisor m y h.right range s found)
