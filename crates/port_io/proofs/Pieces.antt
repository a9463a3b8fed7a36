-- Pieces of what is read and written.
use Rattle.std.specs.Prelude.{◌≡◌, ℕ, ◌+◌, ◌-◌, ◌≤◌, List, ◌++◌, length, take, drop, Option, Some, None}
use Rattle.std.proofs.Common.{arith, sym, subst, ◌∙◌, ap, length-drop, length-append}
use Rattle.std.proofs.Math.Seq.{take-add, take-length, take-append_seam, drop-append_seam}
use Rattle.std.proofs.lemmas.List.{take-append-drop, length-take-le, drop-drop}
use Rattle.std.specs.Io.KnownBytes.{Appends, Consumes}
use Rattle.std.proofs.KnownBytes.{Appends-trans, Consumes-trans}
use Rattle.port_io.specs.Told.{TakesFirst}

-- what `&bytes[n..]` is
pub tail_is : (n : ℕ) (bytes : List ℕ) → take (length bytes - n) (drop n bytes) ≡ drop n bytes
tail_is n bytes = ap (λ m. take m (drop n bytes)) (sym (length-drop n bytes)) ∙ take-length (drop n bytes)

pub length-tail : (n : ℕ) (bytes : List ℕ) → length (take (length bytes - n) (drop n bytes)) ≡ length bytes - n
length-tail n bytes = ap length (tail_is n bytes) ∙ length-drop n bytes

-- a copy of the first n bytes from a place on stands before what is left there
pub copied_front : (at n : ℕ) (bytes copy rest : List ℕ) → n ≤ length bytes - at → copy ≡ take n (take (length bytes - at) (drop at bytes)) → drop at bytes ≡ take n (copy ++ rest) ++ drop (at + n) bytes
copied_front at n bytes copy rest fits e =
    let front : copy ≡ take n (drop at bytes) = e ∙ ap (take n) (tail_is at bytes) in
    let len : length copy ≡ n = ap length front ∙ length-take-le n (drop at bytes) (omega (arith, length-drop at bytes)) in
    sym (take-append-drop n (drop at bytes))
    ∙ ap (λ xs. xs ++ drop n (drop at bytes)) (sym front ∙ sym (take-append_seam copy rest) ∙ ap (λ m. take m (copy ++ rest)) len)
    ∙ ap (λ xs. take n (copy ++ rest) ++ xs) (drop-drop n at bytes)

-- one more piece was added
pub more_appended : (a b c : Option (List ℕ)) (n m : ℕ) (bytes : List ℕ) → Appends a b (take n bytes) → Appends b c (take m (take (length bytes - n) (drop n bytes))) → Appends a c (take (n + m) bytes)
more_appended a b c n m bytes h k =
    subst (Appends a c) (sym (take-add n m bytes)) (Appends-trans a b c (take n bytes) (take m (drop n bytes)) h (subst (λ xs. Appends b c (take m xs)) (tail_is n bytes) k))

-- one more piece was taken, and stands behind those before it
pub more_taken : (a b c : Option (List ℕ)) (n m : ℕ) (old new : List ℕ) → take n new ≡ take n old → Consumes a b (take n old) → Consumes b c (take m (drop n new)) → Consumes a c (take (n + m) new)
more_taken a b c n m old new e h k =
    subst (Consumes a c) (sym (take-add n m new)) (Consumes-trans a b c (take n new) (take m (drop n new)) (subst (Consumes a b) (sym e) h) k)

-- bytes that were taken are the first that were left
pub taken_first : (a b : Option (List ℕ)) (bytes : List ℕ) (n : ℕ) → length bytes ≡ n → Consumes a b bytes → TakesFirst a b n
taken_first None b bytes n len h = tt
taken_first (Some xs) None bytes n len h = absurd h
taken_first (Some xs) (Some ys) bytes n len h = (
  omega (arith, ap length h, length-append bytes ys),
  ap (λ (zs : List ℕ). Some zs) (sym (ap (drop n) h ∙ ap (λ m. drop m (bytes ++ ys)) (sym len) ∙ drop-append_seam bytes ys)),
)
