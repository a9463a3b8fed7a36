-- Perturbed residuals and ratios as lists in order.
use Rattle.std.specs.Prelude.{◌≡◌, ◌≢◌, ◌⊎◌, ℕ, suc, ◌<◌, pos}
use Rattle.std.specs.declared.cmp.Ordering.TheVariants.{Less, Equal}
use Rattle.std.specs.Ordering.{ordering_reverse}
use Rattle.std.proofs.Common.{arith, refl, sym, ap, ◌∙◌}
use Rattle.rational_laws.specs.Rational.{ℚ, whole}
use Rattle.rational_laws.proofs.Inverses.{one-zero}
use Rattle.basis_model.specs.Lexicographic.{lex_cmp}
use Rattle.basis_model.proofs.LexicographicLaws.{lex_cmp_swap, same_from-lex_cmp, less-total}
use Rattle.basis_model.specs.Perturbed.{Nonbasic, IsOutside, perturbed, zeros, perturbed_side, ratio}
use Rattle.basis_model.proofs.PerturbedLaws.{perturbed-own}
use Rattle.basis_model.proofs.Ratios.{ratio-own, ratio-none}

pub one_way : (n : ℕ) (u v : ℕ → ℚ) → lex_cmp n u v ≡ Less → lex_cmp n v u ≢ Less
one_way n u v h k = absurd (cc (sym k ∙ lex_cmp_swap n u v ∙ ap ordering_reverse h))

pub not_zero : (rows n : ℕ) (at : ℕ → ℕ) (u : Nonbasic) → u.row < rows → lex_cmp (suc rows) (perturbed n at u) zeros ≢ Equal
not_zero rows n at u l h =
    one-zero (sym (perturbed-own n at u u.row refl) ∙ same_from-lex_cmp (suc rows) (perturbed n at u) zeros h (suc u.row) (omega arith))

pub ordered : (rows n : ℕ) (at : ℕ → ℕ) (j : ℕ) (u v : Nonbasic) → IsOutside n at u.row → u.row ≢ v.row → u.row < rows → u.coord j ≢ whole (pos 0)
    → (lex_cmp (suc rows) (ratio rows n at j u) (ratio rows n at j v) ≡ Less) ⊎ (lex_cmp (suc rows) (ratio rows n at j v) (ratio rows n at j u) ≡ Less)
ordered rows n at j u v out differ l some =
    less-total (suc rows) (suc u.row) (ratio rows n at j u) (ratio rows n at j v) (omega arith)
    (λ e. ratio-own (perturbed_side rows n at u) n at j u some (e ∙ ratio-none (perturbed_side rows n at v) n at j v u.row differ (λ k lk s. absurd (out.outside k lk s))))
