use Rattle.bd_step.proofs.{Words.{None}, Spelt.{bytes_more}}
use Rattle.bd_step.proofs.work.append_returns.Goals as goal

pub loop-r-preserved : goal.loop-r-preserved
loop-r-preserved c = bytes_more c.args.rs.now c.loop-r.r-index None _ _ _ c.loop-r-test.true c.loop-r.invariant c.in_ok-append_one.ensures
