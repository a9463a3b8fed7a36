-- The run is true where its sums are.
use Rattle.cert_checker.proofs.Shared.{run_true}
use Rattle.cert_checker.proofs.quick.Together.decide_shared.Goals as goal

pub returns-then-run_holds : goal.returns-then-run_holds
returns-then-run_holds c = run_true c.args.self.quick c.args.self.list.now c.args.list.now c.args.first c.requires.given (c.run_holds.ensures c.if-run_holds.true)
