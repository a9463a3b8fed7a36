-- Stated. The words of the grammar that this crate speaks of, for one import.
pub use Rattle.formula_grammar.specs.declared.token.Span.{Span}
pub use Rattle.formula_grammar.specs.declared.token.Sign.{Sign}
pub use Rattle.formula_grammar.specs.declared.token.Sign.TheVariants.{Plus, Minus}
pub use Rattle.formula_grammar.specs.declared.token.Whole.TheVariants.{Zero, Unity, Longer}
pub use Rattle.formula_grammar.specs.declared.token.Numeral.{Numeral}
pub use Rattle.formula_grammar.specs.declared.token.Numeral.TheVariants.{Digits, Written}
pub use Rattle.formula_grammar.specs.declared.token.Kind.{Kind}
pub use Rattle.formula_grammar.specs.declared.token.Kind.TheVariants.{Name, ArithWord, OffsetWord, Number, Signed, Tilde, Star, Colon, Caret, Open, Close, End}
pub use Rattle.formula_grammar.specs.declared.token.Token.{Token}
pub use Rattle.formula_grammar.specs.declared.reading.Step.{Step}
pub use Rattle.formula_grammar.specs.declared.reading.Step.TheVariants.{Load, LoadAll, LoadArith, Nothing, Add, Remove, Multiply, Interact, Raise}
pub use Rattle.formula_grammar.specs.declared.reading.SmoothPart.{SmoothPart}
pub use Rattle.formula_grammar.specs.declared.reading.ArithStep.{ArithStep}
pub use Rattle.formula_grammar.specs.declared.reading.ArithPart.{ArithPart}
pub use Rattle.formula_grammar.specs.declared.reading.Reading.{Reading}
pub use Rattle.formula_grammar.specs.declared.fault.ReadFault.{ReadFault}
