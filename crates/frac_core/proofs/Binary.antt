-- Why the binary algorithm finds the greatest common divisor.
use Rattle.std.proofs.Common.{ℕ, zero, suc, ◌+◌, ◌-◌, ◌*◌, ◌/◌, ◌%◌, ◌^◌, ◌≤◌, ◌<◌, ◌≡◌, ◌⊎◌, min, refl, sym, ap, ap₂, subst, ◌∙◌, arith, mul_comm, mul_assoc, inl, inr, pow_pos, pow-add}
use Rattle.std.proofs.Math.Nat.{dvd_trans, dvd_refl, dvd-mul_right_of_dvd, le_of_dvd, eq-zero_of_zero-dvd, mod-eq-zero_of_dvd, pow-suc, div-one, mod-eq_of_lt}
use Rattle.std.specs.Int.{◌∣◌, Width, trailing_zeros, abs_diff}
use mir.Val.{bits}
use Rattle.std.proofs.lemmas.Nat.Bits.{bit_at-trailing_zeros}
use Rattle.std.proofs.lemmas.Nat.Gcd.{IsGcd-from_sub}
use Rattle.std.proofs.lemmas.Nat.{shr-shr}
use Rattle.frac_core.specs.Gcd.{gcd, gcd-is, gcd_unique}
use Rattle.frac_core.specs.GcdLaws.{gcd_comm, gcd_one, gcd-mul, gcd_dvd_l, gcd_dvd_r, dvd-gcd, dvd_from_coprime, one_from_coprime, coprime_by, coprime-mul}

-- a factor that is coprime to u changes nothing
gcd_drop : (u m c : ℕ) → gcd c u ≡ 1 → gcd u (m * c) ≡ gcd u m
gcd_drop u m c e =
    gcd_unique u (m * c) (gcd u m) (
      gcd_dvd_l u m,
      dvd-mul_right_of_dvd _ (gcd_dvd_r u m) c,
      λ d p q. dvd-gcd d u m p (dvd_from_coprime d c m (coprime_by d c (λ k x y. one_from_coprime k c u e y (dvd_trans k x p))) (subst (λ s. d ∣ s) (mul_comm m c) q)),
    )

-- 2 and its powers are coprime to an odd number
two_apart : (u : ℕ) → u % 2 ≡ 1 → gcd 2 u ≡ 1
two_apart u o = coprime_by 2 u by
  where
    by : (k : ℕ) → k ∣ 2 → k ∣ u → k ≡ 1
    by zero p q = absurd (omega (arith, eq-zero_of_zero-dvd p))
    by (suc zero) p q = refl
    by (suc (suc zero)) p q = absurd (omega (arith, o, mod-eq-zero_of_dvd 2 q))
    by (suc (suc (suc k))) p q = absurd (omega (arith, le_of_dvd (omega arith) p))

powers_apart : (u k : ℕ) → u % 2 ≡ 1 → gcd (2 ^ k) u ≡ 1
powers_apart u zero o = coprime_by 1 u (λ k p q. one_from_coprime k 1 1 (gcd_unique 1 1 1 (dvd_refl 1, dvd_refl 1, λ d x y. x)) p p)
powers_apart u (suc k) o = rw (pow-suc 2 k) (coprime-mul (2 ^ k) 2 u (powers_apart u k o) (two_apart u o))

-- so they change nothing beside one
gcd_shifted : (u m k : ℕ) → u % 2 ≡ 1 → gcd u (m * 2 ^ k) ≡ gcd u m
gcd_shifted u m k o = gcd_drop u m (2 ^ k) (powers_apart u k o)

-- a number whose lowest t binary digits are 0 is a multiple of 2^t
low_zeros : (n t : ℕ) → ((i : ℕ) → i < t → n / 2 ^ i % 2 ≡ 0) → n / 2 ^ t * 2 ^ t ≡ n
low_zeros n zero h = omega (arith, div-one n)
low_zeros n (suc t) h =
    let r = low_zeros n t (λ i p. h i (omega arith)) in
    let z = h t (omega arith) in
    let s : n / 2 ^ suc t ≡ n / 2 ^ t / 2 = sym (shr-shr n t 1 ∙ ap (λ x. n / 2 ^ x) (omega arith)) in
    let half : n / 2 ^ t / 2 * 2 ≡ n / 2 ^ t = omega arith in
    rw (s, pow-suc 2 t) (omega (arith, ap (λ x. x * 2 ^ t) half, r))

-- without its trailing zeros a number is odd, and nothing is lost
pub odd_is : (w : Width) (n : ℕ) → 0 < n → n < 2 ^ bits w → (n / 2 ^ trailing_zeros w n % 2 ≡ 1) × (n / 2 ^ trailing_zeros w n * 2 ^ trailing_zeros w n ≡ n)
odd_is w n p h = let b = bit_at-trailing_zeros w n p h in (b.1, low_zeros n (trailing_zeros w n) b.2)

-- they change nothing beside an odd number
odd_same : (w : Width) (n u : ℕ) → 0 < n → n < 2 ^ bits w → u % 2 ≡ 1 → gcd u (n / 2 ^ trailing_zeros w n) ≡ gcd u n
odd_same w n u p h o = sym (gcd_shifted u (n / 2 ^ trailing_zeros w n) (trailing_zeros w n) o) ∙ ap (gcd u) (odd_is w n p h).1

-- a difference in place of the greater number
gcd_gap : (a b : ℕ) → b ≤ a → gcd b (a - b) ≡ gcd a b
gcd_gap a b h = sym (gcd_unique a b (gcd b (a - b)) (IsGcd-from_sub a b _ h ((gcd-is b (a - b)).1, (gcd-is b (a - b)).0, λ d p q. (gcd-is b (a - b)).2 d q p)))

gcd_self : (a : ℕ) → gcd a a ≡ a
gcd_self a = gcd_unique a a a (dvd_refl a, dvd_refl a, λ d p q. p)

-- the common power of 2 goes in front
apart : (a b i r : ℕ) → a % 2 ≡ 1 → gcd (a * 2 ^ i) (b * 2 ^ (i + r)) ≡ gcd a b * 2 ^ i
apart a b i r o =
    ap (gcd (a * 2 ^ i)) (ap (λ x. b * x) (ap (λ x. 2 ^ x) (omega arith) ∙ pow-add 2 r i) ∙ sym (mul_assoc b (2 ^ r) (2 ^ i)))
    ∙ gcd-mul a (b * 2 ^ r) (2 ^ i) (pow_pos i) ∙ ap (λ x. x * 2 ^ i) (gcd_shifted a b r o)

gcd_split : (a b i j : ℕ) → a % 2 ≡ 1 → b % 2 ≡ 1 → gcd (a * 2 ^ i) (b * 2 ^ j) ≡ gcd a b * 2 ^ min i j
gcd_split a b i j o q = by (order i j)
  where
    order : (i j : ℕ) → (i ≤ j) ⊎ (j ≤ i)
    order i j = grind arith

    by : (i ≤ j) ⊎ (j ≤ i) → gcd (a * 2 ^ i) (b * 2 ^ j) ≡ gcd a b * 2 ^ min i j
    by (inl h) =
        let e : j ≡ i + (j - i) = omega arith in
        let m : i ≡ min i j = omega arith in
        ap (λ x. gcd (a * 2 ^ i) (b * 2 ^ x)) e ∙ apart a b i (j - i) o ∙ ap (λ x. gcd a b * 2 ^ x) m
    by (inr h) =
        let e : i ≡ j + (i - j) = omega arith in
        let m : j ≡ min i j = omega arith in
        gcd_comm (a * 2 ^ i) (b * 2 ^ j) ∙ ap (λ x. gcd (b * 2 ^ j) (a * 2 ^ x)) e ∙ apart b a j (i - j) q ∙ ap₂ (λ x y. x * 2 ^ y) (gcd_comm b a) m

-- one step: the lesser number stays, and the odd part of the gap takes the place of the greater
stepped : (w : Width) (u v m g : ℕ) → u % 2 ≡ 1 → v % 2 ≡ 1 → 0 < g → g < 2 ^ bits w → (m ≡ u) × (g ≡ v - u) × (u ≤ v) ⊎ (m ≡ v) × (g ≡ u - v) × (v ≤ u)
    → (m % 2 ≡ 1) × (g / 2 ^ trailing_zeros w g % 2 ≡ 1) × (gcd m (g / 2 ^ trailing_zeros w g) ≡ gcd u v)
stepped w u v m g o q p h (inl s) =
    let odd : m % 2 ≡ 1 = ap (λ x. x % 2) s.0 ∙ o in
    (odd, (odd_is w g p h).0, odd_same w g m p h odd ∙ ap₂ gcd s.0 s.1 ∙ gcd_gap v u s.2 ∙ gcd_comm v u)
stepped w u v m g o q p h (inr s) =
    let odd : m % 2 ≡ 1 = ap (λ x. x % 2) s.0 ∙ q in
    (odd, (odd_is w g p h).0, odd_same w g m p h odd ∙ ap₂ gcd s.0 s.1 ∙ gcd_gap u v s.2)

smaller_first : (u v m g : ℕ) → m ≡ min u v → g ≡ abs_diff u v → (m ≡ u) × (g ≡ v - u) × (u ≤ v) ⊎ (m ≡ v) × (g ≡ u - v) × (v ≤ u)
smaller_first u v m g e f = grind arith

pub binary_step : (w : Width) (u v m g : ℕ) → u % 2 ≡ 1 → v % 2 ≡ 1 → m ≡ min u v → g ≡ abs_diff u v → 0 < g → g < 2 ^ bits w
    → (m % 2 ≡ 1) × (g / 2 ^ trailing_zeros w g % 2 ≡ 1) × (gcd m (g / 2 ^ trailing_zeros w g) ≡ gcd u v)
binary_step w u v m g o q e f p h = stepped w u v m g o q p h (smaller_first u v m g e f)

-- where the loop ends
pub gcd_same : (u v : ℕ) → u ≡ v → u ≡ gcd u v
gcd_same u v e = sym (gcd_self u) ∙ ap (gcd u) e

pub gap_pos : (u v g : ℕ) → g ≡ abs_diff u v → ¬ (u ≡ v) → 0 < g
gap_pos u v g e h = grind arith

pub gap_none : (u v g : ℕ) → g ≡ abs_diff u v → g ≡ 0 → u ≡ v
gap_none u v g e h = grind arith

-- the common power of 2 is put back, and what it gives fits
pub shifted_back : (a b i j r : ℕ) (B : ℕ) → a / 2 ^ i % 2 ≡ 1 → b / 2 ^ j % 2 ≡ 1 → a / 2 ^ i * 2 ^ i ≡ a → b / 2 ^ j * 2 ^ j ≡ b → 0 < a → a < B
    → r ≡ gcd (a / 2 ^ i) (b / 2 ^ j) → r * 2 ^ min i j % B ≡ gcd a b
shifted_back a b i j r B o q ae be p h e =
    let s : r * 2 ^ min i j ≡ gcd a b = ap (λ x. x * 2 ^ min i j) e ∙ sym (gcd_split (a / 2 ^ i) (b / 2 ^ j) i j o q) ∙ ap₂ gcd ae be in
    let l : gcd a b ≤ a = le_of_dvd p (gcd_dvd_l a b) in
    ap (λ x. x % B) s ∙ mod-eq_of_lt (omega arith)

-- 1 has no other divisor
pub gcd_of_one : (a b : ℕ) → (a ≡ 1) ⊎ (b ≡ 1) → gcd a b ≡ 1
gcd_of_one a b (inl e) = ap (λ x. gcd x b) e ∙ gcd_comm 1 b ∙ gcd_one b
gcd_of_one a b (inr e) = ap (gcd a) e ∙ gcd_one a
