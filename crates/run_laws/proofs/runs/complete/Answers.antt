use Rattle.run_laws.proofs.Complete.{answered, ample}
use Rattle.run_laws.proofs.Checked.{accepted}
use Rattle.run_laws.proofs.FitHalts.{limited, unfitted}
use Rattle.run_laws.proofs.Generated.{sample_answered}
use Rattle.run_laws.proofs.Nested.{test_answered, test_limited, test_unfitted, test_unposed}
use Rattle.run_laws.proofs.Pathed.{path_answered, path_limited, path_unposed}
use Rattle.run_laws.proofs.Unposed.{unposed}
use Rattle.run_laws.proofs.Unpredicted.{unpredicted}
use Rattle.run_laws.proofs.runs.complete.Goals as goal

pub returns : goal.returns
returns c =
    record {
      answered = λ words source source' out out' err err' bytes outcome run none w. answered c.path_is_askable.ensures.costs words source source' bytes w out out' err err' outcome run none;
      generated = λ words source source' out out' err err' outcome run none g. sample_answered c.generated_tables_have_no_fault.ensures c.path_is_askable.ensures.costs words g source source' out out' err err' outcome run none;
      test = λ words source source' out out' err err' bytes outcome run none w. test_answered c.path_is_askable.ensures.costs words source source' bytes w out out' err err' outcome run none;
      path = λ words source source' out out' err err' bytes outcome run none w. path_answered c.path_is_askable.ensures.costs words source source' bytes w out out' err err' outcome run none;
      faults = λ words source source' out out' err err' bytes outcome first kind asked told faulty run. unposed c.inputs_have_no_fault.ensures words source source' bytes first kind asked told faulty out out' err err' outcome run;
      predictions = λ words source source' out out' err err' bytes outcome first asked told faulty run. unpredicted c.predictions_have_no_fault.ensures words source source' bytes first asked told faulty out out' err err' outcome run;
      test_faults = λ words source source' out out' err err' bytes outcome first asked told faulty run. test_unposed words first asked source source' c.tested_have_no_fault.ensures bytes told faulty out out' err err' outcome run;
      path_faults = λ words source source' out out' err err' bytes outcome first asked told faulty run. path_unposed words first asked source source' c.plain_inputs_have_no_fault.ensures bytes told faulty out out' err err' outcome run;
      checked = λ words source source' out out' err err' bytes cert outcome run none passing. accepted c.same_content.ensures words source source' bytes cert passing out out' err err' outcome run none;
      limited = λ words source source' out out' err err' outcome first kind asked run reaches. limited words source source' first kind asked reaches out out' err err' outcome run;
      test_limited = λ words source source' out out' err err' outcome first asked run reaches. test_limited words first asked source source' out out' err err' outcome run reaches;
      path_limited = λ words source source' out out' err err' outcome first asked run reaches. path_limited words first asked source source' reaches out out' err err' outcome run;
      ample = λ words source source' out out' err err' place limit trail long run. ample c.path_is_askable.ensures.costs words source source' out out' err err' place limit trail long run;
      dependent = λ words source source' out out' err err' outcome first kind asked run dependent. unfitted words source source' first kind asked dependent out out' err err' outcome run;
      test_dependent = λ words source source' out out' err err' outcome first asked run dependent. test_unfitted words first asked source source' out out' err err' outcome run dependent;
    }
