use Rattle.bd_ring.proofs.Before.{nobody_has_more}
use Rattle.bd_ring.proofs.laws.nobody_has_more_turns.Goals as goal

pub returns : goal.returns
returns c = nobody_has_more
