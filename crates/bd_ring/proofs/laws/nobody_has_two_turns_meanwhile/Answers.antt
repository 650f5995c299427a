use Rattle.bd_ring.proofs.Before.{nobody_has_two}
use Rattle.bd_ring.proofs.laws.nobody_has_two_turns_meanwhile.Goals as goal

pub returns : goal.returns
returns c = nobody_has_two
