-- What several calls that append leave.
use Rattle.std.proofs.Common.{◌≡◌, ℕ, List, [], ◌∷◌, ◌++◌, ap, sym, ◌∙◌, append_assoc}

pub append_four : (start one two three four a b c d : List ℕ) → one ≡ start ++ a → two ≡ one ++ b → three ≡ two ++ c → four ≡ three ++ d → four ≡ start ++ (((a ++ b) ++ c) ++ d)
append_four start one two three four a b c d p q r s =
    s ∙ ap (λ z. z ++ d) (r ∙ ap (λ z. z ++ c) (q ∙ ap (λ z. z ++ b) p))
    ∙ ap (λ z. z ++ d) (ap (λ z. z ++ c) (append_assoc start a b) ∙ append_assoc start (a ++ b) c)
    ∙ append_assoc start ((a ++ b) ++ c) d

-- a space is put before what stands behind it
spaced : (x a b c : List ℕ) → (x ++ 32 ∷ a) ++ ((32 ∷ b ++ 32 ∷ c) ++ 10 ∷ []) ≡ ((((((x ++ 32 ∷ []) ++ a) ++ 32 ∷ []) ++ b) ++ 32 ∷ []) ++ c) ++ 10 ∷ []
spaced x a b c =
    let first : (x ++ 32 ∷ []) ++ a ≡ x ++ 32 ∷ a = append_assoc x (32 ∷ []) a in
    sym (append_assoc (x ++ 32 ∷ a) (32 ∷ b ++ 32 ∷ c) (10 ∷ []))
    ∙ ap (λ z. z ++ 10 ∷ [])
    (sym (append_assoc (x ++ 32 ∷ a) (32 ∷ b) (32 ∷ c))
    ∙ ap (λ z. z ++ 32 ∷ c) (ap (λ z. z ++ 32 ∷ b) (sym first) ∙ sym (append_assoc ((x ++ 32 ∷ []) ++ a) (32 ∷ []) b))
    ∙ sym (append_assoc ((((x ++ 32 ∷ []) ++ a) ++ 32 ∷ []) ++ b) (32 ∷ []) c))

pub append_spaced : (start one two three four a b c d e : List ℕ) → one ≡ start ++ a → two ≡ one ++ b → three ≡ two ++ 32 ∷ c → four ≡ three ++ ((32 ∷ d ++ 32 ∷ e) ++ 10 ∷ [])
    → four ≡ start ++ ((((((((a ++ b) ++ 32 ∷ []) ++ c) ++ 32 ∷ []) ++ d) ++ 32 ∷ []) ++ e) ++ 10 ∷ [])
append_spaced start one two three four a b c d e p q r s =
    append_four start one two three four a b (32 ∷ c) ((32 ∷ d ++ 32 ∷ e) ++ 10 ∷ []) p q r s ∙ ap (λ z. start ++ z) (spaced (a ++ b) c d e)
