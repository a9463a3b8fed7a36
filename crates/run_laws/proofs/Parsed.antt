-- The text of a formula says one thing, and has no fault.
use Rattle.std.proofs.Common.{◌≡◌, ◌≢◌, ℕ, List, map, Result, Ok, refl, sym, ap, subst, ◌∙◌}
use Rattle.std.specs.List.Sorted.{IsStableByKey}
use Rattle.std.specs.Ordering.{nat_cmp}
use Rattle.rational_laws.proofs.Lists.{same_lists}
use Rattle.frac_core.proofs.Values.{same_number}
use Rattle.formula_grammar.specs.Codes.{has_intercept, offsets_of, smooths_of}
use Rattle.formula_grammar.specs.Faults.{IsFormula, NoFormulaHasFaults}
use Rattle.formula_grammar.specs.Grammar.{OneFormula}
use Rattle.formula_grammar.specs.Grammar.{Formula as Tree}
use Rattle.formula_grammar.specs.Tokens.{tokens}
use Rattle.formula_grammar.specs.declared.fault.ReadFault.TheVariants as read_fault
use Rattle.formula_parser.specs.Arithmetics.{part_said}
use Rattle.formula_parser.specs.Parsed.{IsFault, IsParsed, ariths_in, meaning_of, meant_smooth, spoken_term, told_smooth, variables_in}
use Rattle.formula_parser.specs.Scope.{Text, column_at, name_at}
use Rattle.formula_parser.specs.Terms.{Terms, size}
use Rattle.formula_parser.specs.declared.formula.Formula.{Formula}
use Rattle.formula_parser.specs.declared.formula.Smooth.{Smooth}
use Rattle.formula_parser.specs.declared.fault.FormulaFault.{FormulaFault}
use Rattle.formula_parser.specs.declared.fault.FormulaFault.TheVariants.{OutOfMemory, Syntax, UnknownName, TooDeep, TooManyTerms, PowerRange, NumberTooWide}
use Rattle.run_laws.proofs.Ordered.{one_order}

same_smooth : (a b : Smooth) → told_smooth a ≡ told_smooth b → a ≡ b
same_smooth a b e =
    let lambda = same_number a.lambda b.lambda (cc (ap (λ s. s.lambda) e)) in
    λ i. record { name = (e i).name; lambda = lambda i }

module _ (one : OneFormula) (text : Text) (names : List Text) where
  -- the tokens of the text are those of one tree
  pub one_tree : (f g : Tree) → IsFormula (tokens text) f → IsFormula (tokens text) g → f ≡ g
  one_tree f g h k = one f g (sym h.reads ∙ k.reads)

  pub one_formula : (a b : Formula) → IsParsed text names a → IsParsed text names b → a ≡ b
  one_formula a b p q =
      let tree = one_tree p.formula q.formula p.is q.is in
      let meaning : p.meaning ≡ q.meaning = same_meaning p.meaning q.meaning (sym p.means ∙ ap (meaning_of text names) tree ∙ q.means) in
      let ordered =
      one_order size q.meaning p.ordered q.ordered p.by_size.sorted (subst (λ m. IsStableByKey size nat_cmp m p.ordered) meaning p.by_size.stable) q.by_size.sorted q.by_size.stable in
      let response = p.response ∙ ap (λ f. name_at names (column_at text names f.head.response)) tree ∙ sym q.response in
      let intercept = p.intercept ∙ ap (λ f. has_intercept f.items) tree ∙ sym q.intercept in
      let terms = p.terms ∙ ap (λ f. map (spoken_term names (ariths_in text names f) (variables_in text names f)) p.ordered) tree
      ∙ ap (map (spoken_term names (ariths_in text names q.formula) (variables_in text names q.formula))) ordered ∙ sym q.terms in
      let offsets = p.offsets ∙ ap (λ f. map (part_said text names) (offsets_of f.items)) tree ∙ sym q.offsets in
      let smooths = same_lists told_smooth same_smooth a.smooths b.smooths (p.smooths ∙ ap (λ f. map (meant_smooth text names) (smooths_of f.items)) tree ∙ sym q.smooths) in
      λ i. record { response = response i; intercept = intercept i; terms = terms i; smooths = smooths i; offsets = offsets i }
    where
      same_meaning : (x y : Terms) → ◌≡◌ {A = Result Terms ℕ} (Ok x) (Ok y) → x ≡ y
      same_meaning x y h = cc h

  -- a formula has no fault
  pub no_fault : NoFormulaHasFaults → (a : Formula) → IsParsed text names a → (fault : FormulaFault) → fault ≢ OutOfMemory → ¬ IsFault text names fault
  no_fault none a p OutOfMemory named h = named refl
  no_fault none a p (Syntax n) named h = none (tokens text) p.formula (read_fault.Syntax n) p.is h
  no_fault none a p (TooDeep n) named h = none (tokens text) p.formula (read_fault.TooDeep n) p.is h
  no_fault none a p (PowerRange n) named h = none (tokens text) p.formula (read_fault.PowerRange n) p.is h
  no_fault none a p (NumberTooWide n) named h = none (tokens text) p.formula (read_fault.NumberTooWide n) p.is h
  no_fault none a p (UnknownName n) named h = absurd (cc (sym p.known ∙ h.unknown))
  no_fault none a p (TooManyTerms n) named h = absurd (cc (sym p.means ∙ ap (meaning_of text names) (one_tree p.formula h.formula p.is h.is) ∙ h.many))
