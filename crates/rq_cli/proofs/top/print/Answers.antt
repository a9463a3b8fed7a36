use Rattle.std.proofs.Common.{inr, refl}
use Rattle.report_text.specs.FaultText.{sink_line}
use Rattle.rq_cli.proofs.Runs.{tried}
use Rattle.rq_cli.proofs.top.print.Goals as goal

pub returns-in-Err : goal.returns-in-Err
returns-in-Err g c =
    inr (record {
      is = refl;
      part = rw c.requires at c.in-Err.ensures.err;
      rose = c.in-Err.ensures.counted.rose;
      tried = tried c.write_all-tried.result _ _ sink_line c.write_all-tried.ensures.ok c.write_all-tried.ensures.err c.write_all-tried.ensures.counted;
    })
