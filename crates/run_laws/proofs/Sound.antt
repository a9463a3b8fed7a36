-- Where nothing is wrong with a design, with what smooths add to it and with a problem, there is no fault.
use Rattle.std.proofs.Common.{◌≡◌, ◌≢◌, ◌+◌, ℕ, true, List, [], ◌∷◌, Option, length, map, zip, min, arith, inl, inr, refl, sym, ap, ◌∙◌}
use Rattle.std.proofs.lemmas.List.{length-append, length-map}
use Rattle.std.proofs.lemmas.Slice.Zip.{length-zip}
use Rattle.rational_laws.proofs.Lists.{same_lists}
use Rattle.contrasts.specs.declared.Coding.{Coding}
use Rattle.frac_core.specs.declared.frac128.Frac128.{Frac128}
use Rattle.frac_core.specs.Values.{exact}
use Rattle.frac_core.proofs.Values.{same_number}
use Rattle.loss_model.specs.declared.problem.Problem.{Problem}
use Rattle.loss_model.specs.declared.spill.Spill.{Spill}
use Rattle.loss_model.specs.Problem.{IsWellShaped}
use Rattle.loss_model.specs.Values.{exact_row as exact_program_row}
use Rattle.data_frame.specs.Records.{Text}
use Rattle.formula_parser.specs.declared.formula.Formula.{Formula}
use Rattle.formula_parser.specs.declared.formula.Smooth.{Smooth}
use Rattle.design_matrix.specs.Cells.{Table}
use Rattle.design_matrix.specs.Designs.{exact_design, exact_row}
use Rattle.design_matrix.specs.Faults.{IsDesign, HasCause as HasDesignCause}
use Rattle.design_matrix.specs.declared.design.Design.{Design}
use Rattle.design_matrix.specs.declared.design.DesignRow.{DesignRow}
use Rattle.design_matrix.specs.declared.fault.DesignFault.{DesignFault}
use Rattle.design_matrix.specs.declared.fault.DesignFault.TheVariants as designs
use Rattle.tv_penalty.specs.Faults.{AreSound, HasCause as HasPenaltyCause, IsFirstFault, IsSound, Setting, columns_in, setting_of}
use Rattle.tv_penalty.specs.Operations.{NoneOverflows, OverflowsFirst, SitedOperation}
use Rattle.tv_penalty.specs.Smoothings.{exact_penalty, exact_smoothing, smoothing_of}
use Rattle.tv_penalty.specs.declared.Smoothing.{Smoothing}
use Rattle.tv_penalty.specs.declared.fault.PenaltyFault.{PenaltyFault}
use Rattle.tv_penalty.specs.declared.fault.PenaltyFault.TheVariants as penalties
use Rattle.rq_program.specs.Faults.{HasCause as HasProgramCause, row_count}
use Rattle.rq_program.specs.Programs.{columns_of, data_row, penalty_row}
use Rattle.rq_program.specs.declared.fault.ProgramFault.{ProgramFault}
use Rattle.rq_program.specs.declared.fault.ProgramFault.TheVariants as programs
use Rattle.rq_input.specs.Models.{IsProblemOf, IsSmoothed}
use Rattle.run_laws.proofs.Overflows.{none_first}

-- ---- the design

module _ (table : Table) (model : Formula) (coding : Coding) (weights : Option Text) where
  pub no_design_fault : (design : Design) → IsDesign table model coding weights design → (fault : DesignFault) → fault ≢ designs.OutOfMemory → ¬ HasDesignCause table model coding weights fault
  no_design_fault design is fault named (inl memory) = named memory
  no_design_fault design is fault named (inr (inl found)) = absurd (cc (sym is.sound ∙ found))
  no_design_fault design is fault named (inr (inr late)) = none_first _ _ _ _ late.1.spill is.design_is.fits late.1.first

  same_row : (a b : DesignRow) → exact_row a ≡ exact_row b → a ≡ b
  same_row a b e =
      let x = same_lists exact same_number a.x b.x (ap (λ r. r.x) e) in
      let y = same_number a.y b.y (ap (λ r. r.y) e) in
      let weight = same_number a.weight b.weight (ap (λ r. r.weight) e) in
      λ i. record { rec = (e i).rec; x = x i; y = y i; weight = weight i }

  same_design : (a b : Design) → exact_design a ≡ exact_design b → a ≡ b
  same_design a b e =
      let rows = same_lists exact_row same_row a.rows b.rows (ap (λ d. d.rows) e) in
      λ i. record { names = (e i).names; rows = rows i; dropped = (e i).dropped }

  -- there is one design
  pub one_design : (a b : Design) → IsDesign table model coding weights a → IsDesign table model coding weights b → a ≡ b
  one_design a b p q = same_design a b (p.design_is.exact ∙ sym q.design_is.exact)

-- ---- what smooths add

pub none_overflows : (ops : List SitedOperation) (spill : Spill Frac128) → NoneOverflows ops → OverflowsFirst ops spill → ⊥
none_overflows [] spill none h = h
none_overflows (op ∷ ops) spill none (inl is) = none.0 (spill, is)
none_overflows (op ∷ ops) spill none (inr later) = none_overflows ops spill none.1 later.1

no_smooth_fault : (at : Setting) (number before : ℕ) (ss : List Smooth) (fault : PenaltyFault) → AreSound at number before ss → IsFirstFault at number before ss fault → ⊥
no_smooth_fault at number before [] fault sound h = h
no_smooth_fault at number before (s ∷ ss) fault sound (inl (inl found)) = absurd (cc (sym sound.0.plain ∙ found))
no_smooth_fault at number before (s ∷ ss) fault sound (inl (inr late)) = none_overflows _ late.1.spill sound.0.fits late.1.first
no_smooth_fault at number before (s ∷ ss) fault sound (inr later) = no_smooth_fault at (number + 1) (before + columns_in at s) ss fault sound.1 later.1

pub no_penalty_fault : (table : Table) (design : Design) (model : Formula) → IsSound true table design model → (fault : PenaltyFault) → fault ≢ penalties.OutOfMemory → ¬ HasPenaltyCause true table design model fault
no_penalty_fault table design model sound fault named (inl memory) = named memory
no_penalty_fault table design model sound fault named (inr first) = no_smooth_fault (setting_of true table design model) 0 (length design.names) model.smooths fault sound first

-- ---- the problem

-- a list of entries for each row of the design
listed : (table : Table) (design : Design) (model : Formula) (smoothing : Smoothing) → IsSmoothed table model design smoothing → length smoothing.columns ≡ length design.rows
unfolding smoothing_of
listed table design model smoothing is = sym (length-map smoothing.columns (map exact)) ∙ ap (λ s. length s.columns) is.added ∙ length-map design.rows _

least : (n : ℕ) → min n n ≡ n
least n = omega arith

row_number : (table : Table) (design : Design) (model : Formula) (smoothing : Smoothing) (problem : Problem Frac128) → IsSmoothed table model design smoothing → IsProblemOf design smoothing problem
    → length problem.rows ≡ row_count design smoothing
row_number table design model smoothing problem is of =
    sym (length-map problem.rows exact_program_row) ∙ ap length of.rows
    ∙ length-append (map data_row (zip design.rows smoothing.columns)) (map (penalty_row (length design.names)) smoothing.rows)
    ∙ λ i. (length-map (zip design.rows smoothing.columns) data_row ∙ length-zip design.rows smoothing.columns ∙ ap (min (length design.rows)) (listed table design model smoothing is) ∙ least (length design.rows)) i
    + length-map smoothing.rows (penalty_row (length design.names)) i

-- two smoothings of one design are as large
module _ (table : Table) (model : Formula) (design : Design) (a b : Smoothing) (p : IsSmoothed table model design a) (q : IsSmoothed table model design b) where
  alike : exact_smoothing a ≡ exact_smoothing b
  alike = p.added ∙ sym q.added

  pub as_many_rows : row_count design a ≡ row_count design b
  as_many_rows = ap (λ n. length design.rows + n) (sym (length-map a.rows exact_penalty) ∙ ap (λ s. length s.rows) alike ∙ length-map b.rows exact_penalty)

  pub as_many_columns : columns_of design a ≡ columns_of design b
  as_many_columns = ap (λ s. length design.names + length s.names) alike

  pub no_program_fault : (problem : Problem Frac128) → IsProblemOf design b problem → IsWellShaped problem → (fault : ProgramFault) → fault ≢ programs.OutOfMemory → ¬ HasProgramCause design a fault
  no_program_fault problem of shaped programs.OutOfMemory named h = named refl
  no_program_fault problem of shaped programs.TooManyRows named h = let n = row_number table design model b problem q of in let m = as_many_rows in absurd (omega (arith, h, shaped.rows, n, m))
  no_program_fault problem of shaped programs.TooManyColumns named h = let m = as_many_columns in absurd (omega (arith, h.1, shaped.columns, of.columns, m))
