use Rattle.bd_laws.proofs.Always.{always_tidy}
use Rattle.bd_laws.proofs.laws.nothing_is_pending.Goals as goal

pub returns : goal.returns
returns c = λ h. (always_tidy h).quiet
