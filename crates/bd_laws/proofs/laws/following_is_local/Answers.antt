use Rattle.bd_laws.proofs.Follow.{follow_local}
use Rattle.bd_laws.proofs.laws.following_is_local.Goals as goal

pub returns : goal.returns
returns c = follow_local
