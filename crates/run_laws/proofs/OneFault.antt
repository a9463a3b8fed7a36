-- The bytes of a job have one fault at most.
use Rattle.std.proofs.Common.{◌≡◌, ◌≢◌, ◌≤◌, ◌<◌, ◌+◌, ℕ, Bool, true, List, [], ◌∷◌, Err, length, arith, inl, inr, refl, sym, ap, subst, ◌∙◌}
use Rattle.frac_core.specs.declared.frac128.Frac128.{Frac128}
use Rattle.frac_core.specs.Limits.{most_rows}
use Rattle.loss_model.specs.declared.spill.Spill.{Spill}
use Rattle.data_frame.specs.Records.{Text}
use Rattle.data_frame.specs.Tables.{table_of}
use Rattle.data_frame.specs.declared.fault.TableFault.{TableFault}
use Rattle.formula_grammar.specs.Faults.{IsFirstFault as IsReadFault, NoFormulaHasFaults, OneFault}
use Rattle.formula_grammar.specs.Grammar.{OneFormula}
use Rattle.formula_grammar.specs.Tokens.{tokens}
use Rattle.formula_grammar.specs.declared.fault.ReadFault.{ReadFault}
use Rattle.formula_grammar.specs.declared.fault.ReadFault.TheVariants as read
use Rattle.formula_parser.specs.Parsed.{HasTooManyTerms, HasUnknownName, IsFault, IsParsed, meaning_of}
use Rattle.formula_parser.specs.declared.formula.Formula.{Formula}
use Rattle.formula_parser.specs.declared.formula.Smooth.{Smooth}
use Rattle.formula_parser.specs.declared.fault.FormulaFault.{FormulaFault}
use Rattle.formula_parser.specs.declared.fault.FormulaFault.TheVariants.{OutOfMemory, Syntax, UnknownName, TooDeep, TooManyTerms, PowerRange, NumberTooWide}
use Rattle.design_matrix.specs.Cells.{Table}
use Rattle.design_matrix.specs.Faults.{HasCause as HasDesignCause}
use Rattle.design_matrix.specs.declared.design.Design.{Design}
use Rattle.design_matrix.specs.declared.fault.DesignFault.{DesignFault}
use Rattle.design_matrix.specs.declared.fault.DesignFault.TheVariants as designs
use Rattle.tv_penalty.specs.Faults.{HasCause as HasPenaltyCause, IsFirstFault, Setting, columns_in, setting_of}
use Rattle.tv_penalty.specs.Operations.{OverflowsFirst, SitedOperation}
use Rattle.tv_penalty.specs.declared.Smoothing.{Smoothing}
use Rattle.tv_penalty.specs.declared.fault.PenaltyFault.{PenaltyFault}
use Rattle.tv_penalty.specs.declared.fault.PenaltyFault.TheVariants as penalties
use Rattle.rq_program.specs.Faults.{HasCause as HasProgramCause, row_count}
use Rattle.rq_program.specs.declared.fault.ProgramFault.{ProgramFault}
use Rattle.rq_program.specs.declared.fault.ProgramFault.TheVariants as programs
use Rattle.rq_words.specs.declared.job.FitJob.{FitJob}
use Rattle.report_text.specs.declared.report.Refusal.{Refusal}
use Rattle.report_text.specs.declared.report.Refusal.TheVariants as refusals
use Rattle.report_text.specs.declared.report.Halt.TheVariants.{Refused}
use Rattle.rq_input.specs.Inputs.{AreTable, HasInputCause, HasTableCause, HasSmooth, HasModelCause, LacksModelInput, LacksProblem, LacksSmoothing}
use Rattle.rq_input.specs.Models.{IsDesigned, IsModel, IsSmoothed}
use Rattle.run_laws.specs.Faults.{OneInputFault}
use Rattle.run_laws.proofs.Faultless.{one_table}
use Rattle.run_laws.proofs.Parsed.{no_fault, one_formula, one_tree}
use Rattle.run_laws.proofs.Overflows.{same_first}
use Rattle.run_laws.proofs.Products.{same_spill}
use Rattle.run_laws.proofs.Sound.{as_many_rows, no_design_fault, no_penalty_fault, none_overflows, one_design}

-- ---- the formula

-- a fault of reading as one of the formula
widened : ReadFault → FormulaFault
widened read.OutOfMemory = OutOfMemory
widened (read.Syntax n) = Syntax n
widened (read.TooDeep n) = TooDeep n
widened (read.PowerRange n) = PowerRange n
widened (read.NumberTooWide n) = NumberTooWide n

-- a fault of a formula: of reading, a name that is no column's, or an operator of too many terms
data Kind (text : Text) (names : List Text) (fault : FormulaFault) : Type 0 where
  early : (r : ReadFault) → IsReadFault (tokens text) r → fault ≡ widened r → Kind text names fault
  unknown : (n : ℕ) → HasUnknownName text names n → fault ≡ UnknownName n → Kind text names fault
  many : (n : ℕ) → HasTooManyTerms text names n → fault ≡ TooManyTerms n → Kind text names fault

kind_of : (text : Text) (names : List Text) (fault : FormulaFault) → fault ≢ OutOfMemory → IsFault text names fault → Kind text names fault
unfolding widened
kind_of text names OutOfMemory named h = absurd (named refl)
kind_of text names (Syntax n) named h = early (read.Syntax n) h refl
kind_of text names (TooDeep n) named h = early (read.TooDeep n) h refl
kind_of text names (PowerRange n) named h = early (read.PowerRange n) h refl
kind_of text names (NumberTooWide n) named h = early (read.NumberTooWide n) h refl
kind_of text names (UnknownName n) named h = unknown n h refl
kind_of text names (TooManyTerms n) named h = many n h refl

module _ (one : OneFormula) (first : OneFault) (none : NoFormulaHasFaults) where
  same_kind : (text : Text) (names : List Text) (a b : FormulaFault) → Kind text names a → Kind text names b → a ≡ b
  same_kind text names a b (early r h e) (early s k f) = e ∙ ap widened (first (tokens text) r s h k) ∙ sym f
  same_kind text names a b (early r h e) (unknown n k f) = absurd (none (tokens text) k.formula r k.is h)
  same_kind text names a b (early r h e) (many n k f) = absurd (none (tokens text) k.formula r k.is h)
  same_kind text names a b (unknown n h e) (early r k f) = absurd (none (tokens text) h.formula r h.is k)
  same_kind text names a b (unknown n h e) (unknown m k f) = let same : n ≡ m = cc (sym h.unknown ∙ k.unknown) in e ∙ ap (λ i. UnknownName i) same ∙ sym f
  same_kind text names a b (unknown n h e) (many m k f) = absurd (cc (sym k.known ∙ h.unknown))
  same_kind text names a b (many n h e) (early r k f) = absurd (none (tokens text) h.formula r h.is k)
  same_kind text names a b (many n h e) (unknown m k f) = absurd (cc (sym h.known ∙ k.unknown))
  same_kind text names a b (many n h e) (many m k f) =
      let same : n ≡ m = cc (sym h.many ∙ ap (meaning_of text names) (one_tree one text names h.formula k.formula h.is k.is) ∙ k.many) in
      e ∙ ap (λ i. TooManyTerms i) same ∙ sym f

-- ---- the design

same_design_fault : (table : Table) (model : Formula) (job : FitJob) (a b : DesignFault) → a ≢ designs.OutOfMemory → b ≢ designs.OutOfMemory
    → HasDesignCause table model job.coding job.weights a → HasDesignCause table model job.coding job.weights b → a ≡ b
same_design_fault table model job a b p q (inl memory) k = absurd (p memory)
same_design_fault table model job a b p q (inr h) (inl memory) = absurd (q memory)
same_design_fault table model job a b p q (inr (inl h)) (inr (inl k)) = cc (sym h ∙ k)
same_design_fault table model job a b p q (inr (inl h)) (inr (inr k)) = absurd (cc (sym h ∙ k.0))
same_design_fault table model job a b p q (inr (inr h)) (inr (inl k)) = absurd (cc (sym h.0 ∙ k))
same_design_fault table model job a b p q (inr (inr h)) (inr (inr k)) =
    h.1.is ∙ ap (λ s. designs.Overflow s) (same_first _ _ _ _ h.1.spill k.1.spill h.1.first k.1.first) ∙ sym k.1.is

-- ---- what smooths add

same_operation : (ops : List SitedOperation) (s t : Spill Frac128) → OverflowsFirst ops s → OverflowsFirst ops t → s ≡ t
same_operation [] s t h k = absurd h
same_operation (op ∷ ops) s t (inl h) (inl k) = same_spill op.site op.left op.right s t h.named k.named h.is_left k.is_left h.is_right k.is_right
same_operation (op ∷ ops) s t (inl h) (inr k) = absurd (k.0 (s, h))
same_operation (op ∷ ops) s t (inr h) (inl k) = absurd (h.0 (t, k))
same_operation (op ∷ ops) s t (inr h) (inr k) = same_operation ops s t h.1 k.1

same_smooth_fault : (at : Setting) (number before : ℕ) (ss : List Smooth) (a b : PenaltyFault) → IsFirstFault at number before ss a → IsFirstFault at number before ss b → a ≡ b
same_smooth_fault at number before [] a b h k = absurd h
same_smooth_fault at number before (s ∷ ss) a b (inl (inl h)) (inl (inl k)) = cc (sym h ∙ k)
same_smooth_fault at number before (s ∷ ss) a b (inl (inl h)) (inl (inr k)) = absurd (cc (sym h ∙ k.0))
same_smooth_fault at number before (s ∷ ss) a b (inl (inr h)) (inl (inl k)) = absurd (cc (sym h.0 ∙ k))
same_smooth_fault at number before (s ∷ ss) a b (inl (inr h)) (inl (inr k)) =
    h.1.is ∙ ap (λ s. penalties.Overflow s) (same_operation _ h.1.spill k.1.spill h.1.first k.1.first) ∙ sym k.1.is
same_smooth_fault at number before (s ∷ ss) a b (inl (inl h)) (inr k) = absurd (cc (sym h ∙ k.0.plain))
same_smooth_fault at number before (s ∷ ss) a b (inl (inr h)) (inr k) = absurd (none_overflows _ h.1.spill k.0.fits h.1.first)
same_smooth_fault at number before (s ∷ ss) a b (inr h) (inl (inl k)) = absurd (cc (sym k ∙ h.0.plain))
same_smooth_fault at number before (s ∷ ss) a b (inr h) (inl (inr k)) = absurd (none_overflows _ k.1.spill h.0.fits k.1.first)
same_smooth_fault at number before (s ∷ ss) a b (inr h) (inr k) = same_smooth_fault at (number + 1) (before + columns_in at s) ss a b h.1 k.1

module _ (job : FitJob) (table : Table) (model : Formula) where
  same_penalty_fault : (a b : PenaltyFault) → LacksSmoothing job table model a → LacksSmoothing job table model b → a ≡ b
  same_penalty_fault a b h k =
      by h.cause (subst (λ (d : Design). HasPenaltyCause true table d model b) (one_design table model job.coding job.weights k.design h.design k.designed h.designed) k.cause)
    where
      by : HasPenaltyCause true table h.design model a → HasPenaltyCause true table h.design model b → a ≡ b
      by (inl memory) q = absurd (h.named memory)
      by (inr p) (inl memory) = absurd (k.named memory)
      by (inr p) (inr q) = same_smooth_fault (setting_of true table h.design model) 0 (length h.design.names) model.smooths a b p q

  unsmoothed : (a : PenaltyFault) (b : ProgramFault) → LacksSmoothing job table model a → LacksProblem job table model b → ⊥
  unsmoothed a b h k =
      no_penalty_fault table k.design model k.smoothed.sound a h.named
      (subst (λ (d : Design). HasPenaltyCause true table d model a) (one_design table model job.coding job.weights h.design k.design h.designed k.designed) h.cause)

  -- ---- the problem

  -- too many rows of both kinds, or no more than the limit: not both
  apart : (design : Design) (a b : Smoothing) → IsSmoothed table model design a → IsSmoothed table model design b → most_rows < row_count design a → row_count design b ≤ most_rows → ⊥
  apart design a b p q more few = let same = as_many_rows table model design a b p q in omega (arith, same, more, few)

  both : (fault : ProgramFault) (h : LacksProblem job table model programs.TooManyRows) (k : LacksProblem job table model programs.TooManyColumns) → ⊥
  both fault h k =
      let same = one_design table model job.coding job.weights k.design h.design k.designed h.designed in
      apart h.design h.smoothing k.smoothing h.smoothed (subst (λ (d : Design). IsSmoothed table model d k.smoothing) same k.smoothed) h.cause
      (subst (λ (d : Design). HasProgramCause d k.smoothing programs.TooManyColumns) same k.cause).0

  same_program_fault : (a b : ProgramFault) → LacksProblem job table model a → LacksProblem job table model b → a ≡ b
  same_program_fault programs.OutOfMemory b h k = absurd (h.named refl)
  same_program_fault programs.TooManyRows programs.OutOfMemory h k = absurd (k.named refl)
  same_program_fault programs.TooManyColumns programs.OutOfMemory h k = absurd (k.named refl)
  same_program_fault programs.TooManyRows programs.TooManyRows h k = refl
  same_program_fault programs.TooManyColumns programs.TooManyColumns h k = refl
  same_program_fault programs.TooManyRows programs.TooManyColumns h k = absurd (both programs.TooManyRows h k)
  same_program_fault programs.TooManyColumns programs.TooManyRows h k = absurd (both programs.TooManyRows k h)

-- ---- the model

-- a refusal of a model: of its design, of what its smooths add, or of the problem
data IsOfModel (job : FitJob) (table : Table) (model : Formula) (refusal : Refusal) : Type 0 where
  of_design : (f : DesignFault) → f ≢ designs.OutOfMemory → HasDesignCause table model job.coding job.weights f → refusal ≡ refusals.Design f → IsOfModel job table model refusal
  of_penalty : (f : PenaltyFault) → LacksSmoothing job table model f → refusal ≡ refusals.Penalty f → IsOfModel job table model refusal
  of_program : (f : ProgramFault) → LacksProblem job table model f → refusal ≡ refusals.Program f → IsOfModel job table model refusal

module _ (job : FitJob) (table : Table) (model : Formula) where
  of_model : (refusal : Refusal) → HasModelCause job table model (Refused refusal) → IsOfModel job table model refusal
  of_model (refusals.Design f) h = of_design f h.0 h.1 refl
  of_model (refusals.Penalty f) h = of_penalty f h refl
  of_model (refusals.Program f) h = of_program f h refl
  of_model refusal h = absurd h

  designed : (design : Design) → IsDesigned job table model design → (f : DesignFault) → f ≢ designs.OutOfMemory → HasDesignCause table model job.coding job.weights f → ⊥
  designed design is f named h = no_design_fault table model job.coding job.weights design is f named h

  same_of_model : (a b : Refusal) → IsOfModel job table model a → IsOfModel job table model b → a ≡ b
  same_of_model a b (of_design f p h e) (of_design g q k d) = e ∙ ap (λ x. refusals.Design x) (same_design_fault table model job f g p q h k) ∙ sym d
  same_of_model a b (of_design f p h e) (of_penalty g k d) = absurd (designed k.design k.designed f p h)
  same_of_model a b (of_design f p h e) (of_program g k d) = absurd (designed k.design k.designed f p h)
  same_of_model a b (of_penalty f h e) (of_design g q k d) = absurd (designed h.design h.designed g q k)
  same_of_model a b (of_penalty f h e) (of_penalty g k d) = e ∙ ap (λ x. refusals.Penalty x) (same_penalty_fault job table model f g h k) ∙ sym d
  same_of_model a b (of_penalty f h e) (of_program g k d) = absurd (unsmoothed job table model f g h k)
  same_of_model a b (of_program f h e) (of_design g q k d) = absurd (designed h.design h.designed g q k)
  same_of_model a b (of_program f h e) (of_penalty g k d) = absurd (unsmoothed job table model g f k h)
  same_of_model a b (of_program f h e) (of_program g k d) = e ∙ ap (λ x. refusals.Program x) (same_program_fault job table model f g h k) ∙ sym d

-- ---- the table

-- a refusal of a table: of the formula, of a smooth where ranks are asked for, or of the model
data IsOfTable (job : FitJob) (ranked : Bool) (table : Table) (refusal : Refusal) : Type 0 where
  of_formula : (f : FormulaFault) → f ≢ OutOfMemory → IsFault job.formula table.names f → refusal ≡ refusals.Formula f → IsOfTable job ranked table refusal
  of_smooth : ranked ≡ true → HasSmooth job table → refusal ≡ refusals.RankWithPenalty → IsOfTable job ranked table refusal
  with_model : (model : Formula) → IsModel job ranked table model → IsOfModel job table model refusal → IsOfTable job ranked table refusal

module _ (one : OneFormula) (first : OneFault) (none : NoFormulaHasFaults) (job : FitJob) (ranked : Bool) where
  module _ (table : Table) where
    lacking : (refusal : Refusal) → LacksModelInput job ranked table (Refused refusal) → IsOfTable job ranked table refusal
    lacking refusal h = with_model h.model h.stated (of_model job table h.model refusal h.cause)

    of_table : (refusal : Refusal) → HasTableCause job ranked table (Refused refusal) → IsOfTable job ranked table refusal
    of_table (refusals.Formula f) h = of_formula f h.0 h.1 refl
    of_table refusals.RankWithPenalty h = of_smooth h.0 h.1 refl
    of_table refusal h = lacking refusal h

    parsed : (model : Formula) → IsParsed job.formula table.names model → (f : FormulaFault) → f ≢ OutOfMemory → IsFault job.formula table.names f → ⊥
    parsed model is f named h = no_fault one job.formula table.names none model is f named h

    smooth : (model : Formula) → IsModel job ranked table model → ranked ≡ true → HasSmooth job table → ⊥
    smooth model stated asks h =
        let same = one_formula one job.formula table.names h.model model h.parsed stated.parsed in
        let some : 1 ≤ length model.smooths = subst (λ (m : Formula). 1 ≤ length m.smooths) same h.smooth in
        omega (arith, some, stated.taken asks)

    same_of_table : (a b : Refusal) → IsOfTable job ranked table a → IsOfTable job ranked table b → a ≡ b
    same_of_table a b (of_formula f p h e) (of_formula g q k d) =
        e ∙ ap (λ x. refusals.Formula x) (same_kind one first none job.formula table.names f g (kind_of job.formula table.names f p h) (kind_of job.formula table.names g q k)) ∙ sym d
    same_of_table a b (of_formula f p h e) (of_smooth asks k d) = absurd (parsed k.model k.parsed f p h)
    same_of_table a b (of_formula f p h e) (with_model model stated k) = absurd (parsed model stated.parsed f p h)
    same_of_table a b (of_smooth asks h e) (of_formula g q k d) = absurd (parsed h.model h.parsed g q k)
    same_of_table a b (of_smooth asks h e) (of_smooth also k d) = e ∙ sym d
    same_of_table a b (of_smooth asks h e) (with_model model stated k) = absurd (smooth model stated asks h)
    same_of_table a b (with_model model stated h) (of_formula g q k d) = absurd (parsed model stated.parsed g q k)
    same_of_table a b (with_model model stated h) (of_smooth asks k d) = absurd (smooth model stated asks k)
    same_of_table a b (with_model model stated h) (with_model other told k) =
        same_of_model job table model a b h (subst (λ (m : Formula). IsOfModel job table m b) (one_formula one job.formula table.names other model told.parsed stated.parsed) k)

  -- ---- the bytes

  module _ (bytes : List ℕ) where
    -- a refusal of bytes: they are no table, or a table with a fault
    data IsOfBytes (refusal : Refusal) : Type 0 where
      no_table : (f : TableFault) → table_of bytes ≡ Err f → refusal ≡ refusals.Table f → IsOfBytes refusal
      on_table : (table : Table) → AreTable bytes table → IsOfTable job ranked table refusal → IsOfBytes refusal

    found_on : (refusal : Refusal) → (table : Table) × AreTable bytes table × HasTableCause job ranked table (Refused refusal) → IsOfBytes refusal
    found_on refusal h = on_table h.0 h.1 (of_table h.0 refusal h.2)

    of_bytes : (refusal : Refusal) → HasInputCause job ranked bytes (Refused refusal) → IsOfBytes refusal
    of_bytes refusals.TooLong h = absurd h
    of_bytes (refusals.Table f) h = no_table f h refl
    of_bytes refusal h = found_on refusal h

    same_of_bytes : (a b : Refusal) → IsOfBytes a → IsOfBytes b → a ≡ b
    same_of_bytes a b (no_table f h e) (no_table g k d) = let same : f ≡ g = cc (sym h ∙ k) in e ∙ ap (λ x. refusals.Table x) same ∙ sym d
    same_of_bytes a b (no_table f h e) (on_table table are k) = absurd (cc (sym h ∙ are))
    same_of_bytes a b (on_table table are h) (no_table g k d) = absurd (cc (sym k ∙ are))
    same_of_bytes a b (on_table table are h) (on_table other also k) =
        same_of_table table a b h (subst (λ (t : Table). IsOfTable job ranked t b) (one_table one none job ranked bytes other table also are) k)

-- bytes have one fault at most
pub one_fault : OneFormula → OneFault → NoFormulaHasFaults → OneInputFault
one_fault one first none job ranked bytes a b h k = same_of_bytes one first none job ranked bytes a b (of_bytes one first none job ranked bytes a h) (of_bytes one first none job ranked bytes b k)
