use Rattle.bd_sendings.proofs.Once.{each}
use Rattle.bd_sendings.proofs.laws.each_is_known_once.Goals as goal

pub returns : goal.returns
returns c = each
