-- Stated. The line of a fault, as data: the group, the name of the fault, and its fields.
use Rattle.std.specs.Prelude.{ℕ, ◌+◌, List, [], ◌∷◌, ◌++◌, codes, decimal, ◌==◌, if◌then◌else◌}
use Rattle.std.specs.List.{concat}
use Rattle.cert_checker.specs.declared.verdict.Rejection.{Rejection}
use Rattle.cert_text.specs.declared.fault.CertFault.{CertFault}
use Rattle.cert_text.specs.declared.fault.CertFault.TheVariants as certs
use Rattle.data_frame.specs.declared.fault.TableFault.{TableFault}
use Rattle.data_frame.specs.declared.fault.TableFault.TheVariants as tables
use Rattle.rational_laws.specs.Fraction.{Fraction}
use Rattle.frac_core.specs.NumberText.{number_text_of}
use Rattle.frac_core.specs.declared.frac128.Frac128.{Frac128}
use Rattle.frac_core.specs.Values.{value}
use Rattle.loss_model.specs.declared.spill.Site.{Site}
use Rattle.loss_model.specs.declared.spill.Spill.{Spill}
use Rattle.ratio.specs.Text.{ratio_text}
use Rattle.formula_parser.specs.declared.fault.FormulaFault.{FormulaFault}
use Rattle.formula_parser.specs.declared.fault.FormulaFault.TheVariants as formulas
use Rattle.design_matrix.specs.declared.fault.DesignFault.{DesignFault}
use Rattle.design_matrix.specs.declared.fault.DesignFault.TheVariants as designs
use Rattle.rq_program.specs.declared.fault.ProgramFault.{ProgramFault}
use Rattle.rq_program.specs.declared.fault.ProgramFault.TheVariants as programs
use Rattle.tv_penalty.specs.declared.fault.PenaltyFault.{PenaltyFault}
use Rattle.tv_penalty.specs.declared.fault.PenaltyFault.TheVariants as penalties
use Rattle.rq_words.specs.declared.job.WordFault.{WordFault}
use Rattle.rq_words.specs.declared.job.WordFault.TheVariants as words
use Rattle.report_text.specs.Names.{name_bytes}
use Rattle.report_text.specs.Quantities.{indices, op_name, quantity_name}
use Rattle.report_text.specs.ReportText.{numbered}
use Rattle.report_text.specs.declared.quantity.PrintedIndices.{PrintedIndices}
use Rattle.report_text.specs.declared.quantity.PrintedIndices.TheVariants.{One, Two, Three}
use Rattle.report_text.specs.declared.report.Place.{Place}
use Rattle.report_text.specs.declared.report.Place.TheVariants.{Process, Interval, Full, Path}
use Rattle.report_text.specs.declared.report.Refusal.{Refusal}
use Rattle.report_text.specs.declared.report.Refusal.TheVariants.{TooLong, Table, Formula, RankWithPenalty, Design}
use Rattle.report_text.specs.declared.report.Refusal.TheVariants.{Penalty, Program, Dependent, CertTooLong, Certificate}
use Rattle.report_text.specs.declared.report.Refusal.TheVariants.{NoSuchColumn, AllTested, SmoothNotTaken, NothingToPredict, TooManyPredictions}
use Rattle.report_text.specs.declared.report.Halt.{Halt}
use Rattle.report_text.specs.declared.report.Halt.TheVariants.{Refused, OutOfMemory, PivotLimit, Overflow, Rejected}
use Rattle.report_text.specs.declared.report.Fault.{Fault}
use Rattle.report_text.specs.declared.report.Fault.TheVariants as faults

-- the line of a source that failed
abbrev pub source_line : List ℕ
source_line = codes "quantreg: source: SourceFault\n"

-- the line of a sink that failed
abbrev pub sink_line : List ℕ
sink_line = codes "quantreg: sink: SinkFault\n"

-- the line of want of memory
abbrev pub memory_line : List ℕ
memory_line = codes "quantreg: memory: OutOfMemory\n"

-- `quantreg: GROUP: NAME`, and then the fields
abbrev pub line : List ℕ → List ℕ → List (List ℕ) → List ℕ
line group name fields = codes "quantreg: " ++ group ++ codes ": " ++ name ++ concat fields ++ codes "\n"

-- ---- fields

-- ` NAME=`
abbrev pub key : List ℕ → List ℕ
key name = codes " " ++ name ++ codes "="

-- a number as it stands
abbrev pub number : List ℕ → ℕ → List ℕ
number name n = key name ++ decimal n

-- a position, from 1
abbrev pub position : List ℕ → ℕ → List ℕ
position name n = number name (n + 1)

-- a word of the program's own
abbrev pub word : List ℕ → List ℕ → List ℕ
word name w = key name ++ w

-- a text, as names are printed
abbrev pub text : List ℕ → List ℕ → List ℕ
text name t = key name ++ name_bytes t

-- a fraction
abbrev pub fraction : List ℕ → Fraction → List ℕ
fraction name x = key name ++ ratio_text x

-- an operand of an operation, which has 128 bits
abbrev pub operand : List ℕ → Frac128 → List ℕ
operand name x = key name ++ number_text_of (value x)

-- an item of a list: a comma stands before all but the first
abbrev pub listed : ℕ → Fraction → List ℕ
listed place x = (if place == 0 then [] else codes ",") ++ ratio_text x

-- fractions with commas between them
abbrev pub fractions : List ℕ → List Fraction → List ℕ
fractions name xs = key name ++ numbered listed 0 xs

-- numbers with a comma between them
unfoldable pub indices_text : PrintedIndices → List ℕ
indices_text (One i) = decimal i
indices_text (Two i j) = decimal i ++ codes "," ++ decimal j
indices_text (Three i j k) = decimal i ++ codes "," ++ decimal j ++ codes "," ++ decimal k

-- where an operation stands: its quantity, the indices of that, and the term
unfoldable pub site_text : Site → List ℕ
site_text site = word (codes "quantity") (quantity_name site.quantity) ++ (key (codes "at") ++ indices_text (indices site)) ++ number (codes "term") site.term

-- an operation that overflows, and both operands
unfoldable pub spill_text : Spill Frac128 → List ℕ
spill_text spill = site_text spill.site ++ word (codes "op") (op_name spill.site.kind) ++ operand (codes "left") spill.left ++ operand
    (codes "right") spill.right

-- the place where a job stopped: the fit, the interval of a column, counted from 1, at a quantile, the start of a whole problem, or
-- the costs of a path
abbrev pub place_text : Place → List ℕ
place_text Process = codes "process"
place_text (Interval column tau) = codes "interval:" ++ decimal (column + 1) ++ codes ":" ++ number_text_of (value tau)
place_text Full = codes "full"
place_text Path = codes "path"

-- ---- faults

-- words that are refused
unfoldable pub usage_line : WordFault → List ℕ
usage_line words.NoJob = line (codes "usage") (codes "NoJob") []
usage_line words.UnknownJob = line (codes "usage") (codes "UnknownJob") []
usage_line words.BadOption = line (codes "usage") (codes "BadOption") []
usage_line (words.BadNumber option) = line (codes "usage") (codes "BadNumber") (text (codes "option") option ∷ [])
usage_line words.BadRange = line (codes "usage") (codes "BadRange") []
usage_line words.BadTauForRank = line (codes "usage") (codes "BadTauForRank") []
usage_line words.NegativeLimit = line (codes "usage") (codes "NegativeLimit") []
usage_line words.BadContrasts = line (codes "usage") (codes "BadContrasts") []
usage_line words.RankHalf = line (codes "usage") (codes "RankHalf") []
usage_line words.OutOfMemory = memory_line
usage_line words.NotAscending = line (codes "usage") (codes "NotAscending") []

-- a faulty table
unfoldable pub table_line : TableFault → List ℕ
table_line tables.NoHeader = line (codes "table") (codes "NoHeader") []
table_line (tables.NotUtf8 rec) = line (codes "table") (codes "NotUtf8") (number (codes "record") rec ∷ [])
table_line (tables.Ragged rec found wanted) =
    line (codes "table") (codes "Ragged") (number (codes "record") rec ∷ number (codes "found") found ∷ number (codes "wanted") wanted ∷ [])
table_line (tables.DoubleName column) = line (codes "table") (codes "DoubleName") (position (codes "column") column ∷ [])
table_line (tables.EmptyName column) = line (codes "table") (codes "EmptyName") (position (codes "column") column ∷ [])
table_line tables.TooManyColumns = line (codes "table") (codes "TooManyColumns") []
table_line tables.TooManyRows = line (codes "table") (codes "TooManyRows") []
table_line tables.OutOfMemory = memory_line

-- a faulty formula
unfoldable pub formula_line : FormulaFault → List ℕ
formula_line (formulas.Syntax offset) = line (codes "formula") (codes "Syntax") (number (codes "offset") offset ∷ [])
formula_line (formulas.UnknownName offset) = line (codes "formula") (codes "UnknownName") (number (codes "offset") offset ∷ [])
formula_line (formulas.TooDeep offset) = line (codes "formula") (codes "TooDeep") (number (codes "offset") offset ∷ [])
formula_line (formulas.TooManyTerms offset) = line (codes "formula") (codes "TooManyTerms") (number (codes "offset") offset ∷ [])
formula_line (formulas.PowerRange offset) = line (codes "formula") (codes "PowerRange") (number (codes "offset") offset ∷ [])
formula_line (formulas.NumberTooWide offset) = line (codes "formula") (codes "NumberTooWide") (number (codes "offset") offset ∷ [])
formula_line formulas.OutOfMemory = memory_line

-- a table that has no design by the formula
unfoldable pub design_line : DesignFault → List ℕ
design_line designs.UnknownWeights = line (codes "design") (codes "UnknownWeights") []
design_line designs.ResponseNotNumeric = line (codes "design") (codes "ResponseNotNumeric") []
design_line designs.WeightNotNumeric = line (codes "design") (codes "WeightNotNumeric") []
design_line (designs.NumberTooWide rec column) = line (codes "design") (codes "NumberTooWide") (number (codes "record") rec ∷ text (codes "column") column ∷ [])
design_line (designs.NegativeWeight rec) = line (codes "design") (codes "NegativeWeight") (number (codes "record") rec ∷ [])
design_line designs.NoRows = line (codes "design") (codes "NoRows") []
design_line (designs.OneLevel factor) = line (codes "design") (codes "OneLevel") (text (codes "factor") factor ∷ [])
design_line designs.NoColumns = line (codes "design") (codes "NoColumns") []
design_line designs.TooManyColumns = line (codes "design") (codes "TooManyColumns") []
design_line (designs.Overflow spill) = line (codes "design") (codes "Overflow") (spill_text spill ∷ [])
design_line (designs.ArithNotNumeric name) = line (codes "design") (codes "ArithNotNumeric") (text (codes "name") name ∷ [])
design_line (designs.UnknownLevel rec factor) = line (codes "design") (codes "UnknownLevel") (number (codes "record") rec ∷ text (codes "factor") factor ∷ [])
design_line designs.OutOfMemory = memory_line

-- smooths that add nothing to a design
unfoldable pub penalty_line : PenaltyFault → List ℕ
penalty_line (penalties.NotNumeric name) = line (codes "penalty") (codes "NotNumeric") (text (codes "name") name ∷ [])
penalty_line (penalties.TooFewKnots name) = line (codes "penalty") (codes "TooFewKnots") (text (codes "name") name ∷ [])
penalty_line (penalties.Overflow spill) = line (codes "penalty") (codes "Overflow") (spill_text spill ∷ [])
penalty_line penalties.TooManyColumns = line (codes "penalty") (codes "TooManyColumns") []
penalty_line penalties.OutOfMemory = memory_line

-- a design that is too large
unfoldable pub program_line : ProgramFault → List ℕ
program_line programs.TooManyRows = line (codes "program") (codes "TooManyRows") []
program_line programs.TooManyColumns = line (codes "program") (codes "TooManyColumns") []
program_line programs.OutOfMemory = memory_line

-- bytes that are no certificate
unfoldable pub certificate_line : CertFault → List ℕ
certificate_line certs.NotJson = line (codes "certificate") (codes "NotJson") []
certificate_line (certs.Shape path) = line (codes "certificate") (codes "Shape") (text (codes "path") path ∷ [])
certificate_line (certs.Number path) = line (codes "certificate") (codes "Number") (text (codes "path") path ∷ [])
certificate_line certs.Version = line (codes "certificate") (codes "Version") []
certificate_line certs.TooLarge = line (codes "certificate") (codes "TooLarge") []
certificate_line certs.OutOfMemory = memory_line

-- a certificate that is rejected: the condition, its index and its number as they are counted there, and both sides
unfoldable pub rejection_line : Rejection → List ℕ
rejection_line r =
    line (codes "check") (codes "Rejected")
    (number (codes "condition") r.condition ∷ number (codes "index") r.index ∷ number (codes "inner") r.inner
    ∷ fraction (codes "left") r.left ∷ fraction (codes "right") r.right ∷ [])

-- an input that has no report; the combination of dependent columns is 0 in every row
abbrev pub refusal_line : Refusal → List ℕ
refusal_line TooLong = line (codes "input") (codes "TooLong") []
refusal_line (Table fault) = table_line fault
refusal_line (Formula fault) = formula_line fault
refusal_line RankWithPenalty = line (codes "rank") (codes "RankWithPenalty") []
refusal_line (Design fault) = design_line fault
refusal_line (Penalty fault) = penalty_line fault
refusal_line (Program fault) = program_line fault
refusal_line (Dependent combination) = line (codes "solver") (codes "Dependent") (fractions (codes "combination") combination ∷ [])
refusal_line (CertTooLong length) = line (codes "certificate") (codes "CertTooLong") (number (codes "length") length ∷ [])
refusal_line (Certificate fault) = certificate_line fault
refusal_line (NoSuchColumn column) = line (codes "test") (codes "NoSuchColumn") (number (codes "column") column ∷ [])
refusal_line AllTested = line (codes "test") (codes "AllTested") []
refusal_line SmoothNotTaken = line (codes "job") (codes "SmoothNotTaken") []
refusal_line NothingToPredict = line (codes "predict") (codes "NothingToPredict") []
refusal_line (TooManyPredictions found) = line (codes "predict") (codes "TooManyPredictions") (number (codes "found") found ∷ [])

-- a halt; trails aren't printed
abbrev pub halt_line : Halt → List ℕ
halt_line (Refused refusal) = refusal_line refusal
halt_line OutOfMemory = memory_line
halt_line (PivotLimit place limit trail) = line (codes "solver") (codes "PivotLimit")
    (word (codes "place") (place_text place) ∷ number (codes "limit") limit ∷ [])
halt_line (Overflow place trail spill) = line (codes "solver") (codes "Overflow") (word (codes "place") (place_text place) ∷ spill_text spill ∷ [])
halt_line (Rejected rejection) = rejection_line rejection

-- the line of each fault
abbrev pub fault_line : Fault → List ℕ
fault_line (faults.Usage fault) = usage_line fault
fault_line faults.Source = source_line
fault_line faults.Sink = sink_line
fault_line (faults.Halt halt) = halt_line halt
