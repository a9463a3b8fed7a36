-- Inner. The faults of the steps of parsing as faults of the whole.
use Rattle.formula_parser.specs.Words.{ReadFault}
use Rattle.formula_grammar.specs.declared.fault.ReadFault.TheVariants as read
use Rattle.formula_parser.specs.Stack.{Halt}
use Rattle.formula_parser.specs.declared.evaluation.Halt.TheVariants as halt
use Rattle.formula_parser.specs.Parsed.{FormulaFault, OutOfMemory, Syntax, TooDeep, TooManyTerms, PowerRange, NumberTooWide}

-- the faults of reading
abbrev pub read_fault : ReadFault → FormulaFault
read_fault read.OutOfMemory = OutOfMemory
read_fault (read.Syntax n) = Syntax n
read_fault (read.TooDeep n) = TooDeep n
read_fault (read.PowerRange n) = PowerRange n
read_fault (read.NumberTooWide n) = NumberTooWide n

-- the faults of evaluation
abbrev pub halt_fault : Halt → FormulaFault
halt_fault halt.OutOfMemory = OutOfMemory
halt_fault (halt.TooManyTerms n) = TooManyTerms n
