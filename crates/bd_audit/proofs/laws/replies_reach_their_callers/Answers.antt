use Rattle.bd_audit.proofs.RepliesReachTheirCallers.ReplyLaw.{reaches}
use Rattle.bd_audit.proofs.laws.replies_reach_their_callers.Goals as goal

pub returns : goal.returns
returns c = λ h lawful s w e. reaches h s w e
