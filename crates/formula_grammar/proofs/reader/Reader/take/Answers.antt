use Rattle.formula_grammar.proofs.Phases.{other_read}
use Rattle.formula_grammar.proofs.reader.Reader.take.Goals as goal

pub returns-in_default : goal.returns-in_default
returns-in_default c =
    let o = c.in_default in
    other_read c.args.self.now.phase _ _ _ _ _ o.not-Response o.not-Opening o.not-Operand o.not-FactorClose o.not-BehindAtom o.not-Exponent o.not-BehindPower o.not-SmoothClose o.not-BehindItem o.not-ArithInside o.not-OffsetInside
    c.take_other.ensures
