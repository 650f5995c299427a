use Rattle.bd_ring.proofs.Many.{each_ring}
use Rattle.bd_ring.proofs.laws.each_ring_has_its_turns.Goals as goal

pub returns : goal.returns
returns c = each_ring
