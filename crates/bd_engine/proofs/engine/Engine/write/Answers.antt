use Rattle.bd_engine.proofs.Runs.{too_long_has_run}
use Rattle.bd_engine.proofs.engine.Engine.write.Goals as goal

pub returns-then-stream-gt4096-clause-ok : goal.returns-then-stream-gt4096-clause-ok
returns-then-stream-gt4096-clause-ok c = too_long_has_run _ _ _ _ _ c.if-stream-gt4096.true c.len-from.ensures
