-- A test of some item, where the items are seen by their values.
use Rattle.std.proofs.Common.{◌≡◌, ℕ, List, [], ◌∷◌, drop, map, refl, sym}
use Rattle.std.specs.List.{list_any}
use Rattle.clap.proofs.WalkLemmas.{list_any-map}
use Rattle.frac_core.specs.declared.frac128.Frac128.{Frac128}
use Rattle.frac_core.specs.Values.{exact}
use Rattle.rq_words.specs.Words.{is_outside, is_long}

pub any_of_values : (taus : List Frac128) → list_any is_outside (map exact taus) ≡ list_any (λ tau. is_outside (exact tau)) taus
any_of_values taus = sym (list_any-map is_outside exact taus)

pub any_after_first : {X : Type 0} (f : X → List ℕ) (words : List X) → list_any is_long (drop 1 (map f words)) ≡ list_any (λ word. is_long (f word)) (drop 1 words)
any_after_first f [] = refl
any_after_first f (x ∷ xs) = sym (list_any-map is_long f xs)
