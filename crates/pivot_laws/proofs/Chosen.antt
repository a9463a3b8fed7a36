-- A list of different sets of n out of m rows is at most as long as m choose n: those with the last row,
-- and those without it, are lists of the same kind over the rows before.
use Rattle.std.specs.Prelude.{◌≡◌, ◌≢◌, ℕ, zero, suc, ◌+◌, ◌<◌, ◌≤◌, Bool, true, false, ◌==◌, if◌then◌else◌, List, [], ◌∷◌, length}
use Rattle.std.proofs.Common.{arith, refl, sym, ap, ◌∙◌}
use borrow.Author.Tests.{eqb-true, eqb-false}
use Rattle.pivot_model.specs.Spills.{count}
use Rattle.pivot_laws.specs.Choose.{choose, AreSets, IsNew, AreApart}

-- the sets with row m, and those without it
abbrev holding : ℕ → List (ℕ → Bool) → List (ℕ → Bool)
holding m [] = []
holding m (s ∷ sets) = if s m then s ∷ holding m sets else holding m sets

abbrev lacking : ℕ → List (ℕ → Bool) → List (ℕ → Bool)
lacking m [] = []
lacking m (s ∷ sets) = if s m then lacking m sets else s ∷ lacking m sets

lengths : (m : ℕ) (sets : List (ℕ → Bool)) → length (holding m sets) + length (lacking m sets) ≡ length sets
lengths m [] = refl
lengths m (s ∷ sets) = by (s m) (lengths m sets)
  where
    by : (b : Bool) → length (holding m sets) + length (lacking m sets) ≡ length sets
        → length (if b then s ∷ holding m sets else holding m sets) + length (if b then lacking m sets else s ∷ lacking m sets) ≡ suc (length sets)
    by true h = omega (arith, h)
    by false h = omega (arith, h)

module _ (m n : ℕ) where
  held_sizes : (sets : List (ℕ → Bool)) → AreSets (suc m) (suc n) sets → AreSets m n (holding m sets)
  held_sizes [] h = tt
  held_sizes (s ∷ sets) h = by (s m) refl (held_sizes sets h.1)
    where
      by : (b : Bool) → s m ≡ b → AreSets m n (holding m sets) → AreSets m n (if b then s ∷ holding m sets else holding m sets)
      by true e rest =
          let more : suc (count m s) ≡ suc n = sym (ap (λ b. if b then suc (count m s) else count m s) e) ∙ h.0 in
          (omega (arith, more), rest)
      by false e rest = rest

  lacked_sizes : (sets : List (ℕ → Bool)) → AreSets (suc m) n sets → AreSets m n (lacking m sets)
  lacked_sizes [] h = tt
  lacked_sizes (s ∷ sets) h = by (s m) refl (lacked_sizes sets h.1)
    where
      by : (b : Bool) → s m ≡ b → AreSets m n (lacking m sets) → AreSets m n (if b then lacking m sets else s ∷ lacking m sets)
      by true e rest = rest
      by false e rest = (sym (ap (λ b. if b then suc (count m s) else count m s) e) ∙ h.0, rest)

module _ (m : ℕ) where
  -- what is the same before row m and at it
  agree : (s t : ℕ → Bool) → s m ≡ t m → ((i : ℕ) → i < m → s i ≡ t i) → (i : ℕ) → i < suc m → s i ≡ t i
  agree s t last below i li = by (i == m) refl
    where
      by : (b : Bool) → (i == m) ≡ b → s i ≡ t i
      by true e = ap s (eqb-true i m e) ∙ last ∙ ap t (sym (eqb-true i m e))
      by false e = let other : i ≢ m = eqb-false i m e in below i (omega (arith, other))

  new_held : (s : ℕ → Bool) → s m ≡ true → (sets : List (ℕ → Bool)) → IsNew (suc m) s sets → IsNew m s (holding m sets)
  new_held s h [] new = tt
  new_held s h (t ∷ sets) new = by (t m) refl (new_held s h sets new.1)
    where
      by : (b : Bool) → t m ≡ b → IsNew m s (holding m sets) → IsNew m s (if b then t ∷ holding m sets else holding m sets)
      by true e rest = (λ same. new.0 (agree s t (h ∙ sym e) same), rest)
      by false e rest = rest

  new_lacked : (s : ℕ → Bool) → s m ≡ false → (sets : List (ℕ → Bool)) → IsNew (suc m) s sets → IsNew m s (lacking m sets)
  new_lacked s h [] new = tt
  new_lacked s h (t ∷ sets) new = by (t m) refl (new_lacked s h sets new.1)
    where
      by : (b : Bool) → t m ≡ b → IsNew m s (lacking m sets) → IsNew m s (if b then lacking m sets else t ∷ lacking m sets)
      by true e rest = rest
      by false e rest = (λ same. new.0 (agree s t (h ∙ sym e) same), rest)

  apart_held : (sets : List (ℕ → Bool)) → AreApart (suc m) sets → AreApart m (holding m sets)
  apart_held [] h = tt
  apart_held (s ∷ sets) h = by (s m) refl (apart_held sets h.1)
    where
      by : (b : Bool) → s m ≡ b → AreApart m (holding m sets) → AreApart m (if b then s ∷ holding m sets else holding m sets)
      by true e rest = (new_held s e sets h.0, rest)
      by false e rest = rest

  apart_lacked : (sets : List (ℕ → Bool)) → AreApart (suc m) sets → AreApart m (lacking m sets)
  apart_lacked [] h = tt
  apart_lacked (s ∷ sets) h = by (s m) refl (apart_lacked sets h.1)
    where
      by : (b : Bool) → s m ≡ b → AreApart m (lacking m sets) → AreApart m (if b then lacking m sets else s ∷ lacking m sets)
      by true e rest = rest
      by false e rest = (new_lacked s e sets h.0, rest)

-- a set of none of the rows
none : (m : ℕ) (s : ℕ → Bool) → count m s ≡ 0 → (i : ℕ) → i < m → s i ≡ false
none zero s h i li = absurd (omega (arith, li))
none (suc m) s h i li = by (s m) refl (none m s)
  where
    by : (b : Bool) → s m ≡ b → (count m s ≡ 0 → (i : ℕ) → i < m → s i ≡ false) → s i ≡ false
    by true e rest =
        let more : suc (count m s) ≡ 0 = sym (ap (λ b. if b then suc (count m s) else count m s) e) ∙ h in
        absurd (omega (arith, more))
    by false e rest = at (i == m) refl
      where
        at : (b : Bool) → (i == m) ≡ b → s i ≡ false
        at true here = ap s (eqb-true i m here) ∙ e
        at false other =
            let apart : i ≢ m = eqb-false i m other in
            rest (sym (ap (λ b. if b then suc (count m s) else count m s) e) ∙ h) i (omega (arith, apart))

-- sets that are all alike
alone : (m n : ℕ) (sets : List (ℕ → Bool)) → ((s t : ℕ → Bool) → count m s ≡ n → count m t ≡ n → (i : ℕ) → i < m → s i ≡ t i)
    → AreSets m n sets → AreApart m sets → length sets ≤ 1
alone m n [] alike h apart = omega arith
alone m n (s ∷ []) alike h apart = omega arith
alone m n (s ∷ t ∷ sets) alike h apart = absurd (apart.0.0 (alike s t h.0 h.1.0))

pub at_most_choose : (m n : ℕ) (sets : List (ℕ → Bool)) → AreSets m n sets → AreApart m sets → length sets ≤ choose m n
at_most_choose zero zero sets h apart = alone zero zero sets (λ s t hs ht i li. absurd (omega (arith, li))) h apart
at_most_choose zero (suc n) [] h apart = omega arith
at_most_choose zero (suc n) (s ∷ sets) h apart = absurd (omega (arith, h.0))
at_most_choose (suc m) zero sets h apart =
    alone (suc m) zero sets (λ s t hs ht i li. none (suc m) s hs i li ∙ sym (none (suc m) t ht i li)) h apart
at_most_choose (suc m) (suc n) sets h apart =
    let with_last : length (holding m sets) ≤ choose m n = at_most_choose m n (holding m sets) (held_sizes m n sets h) (apart_held m sets apart) in
    let without : length (lacking m sets) ≤ choose m (suc n) = at_most_choose m (suc n) (lacking m sets) (lacked_sizes m (suc n) sets h) (apart_lacked m sets apart) in
    let total : length (holding m sets) + length (lacking m sets) ≡ length sets = lengths m sets in
    omega (arith, with_last, without, total)
