use Rattle.bd_bridge.proofs.Forgetting.{told_rightly}
use Rattle.bd_bridge.proofs.bridge.Bridge.is_settled.Goals as goal

pub returns-clause-settled : goal.returns-clause-settled
returns-clause-settled g c = λ so h was t w waits. told_rightly _ (c.is_empty.ensures.none so t) (was.informed t w waits)
