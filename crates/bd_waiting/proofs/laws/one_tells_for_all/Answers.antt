use Rattle.bd_waiting.proofs.Telling.{one_tells}
use Rattle.bd_waiting.proofs.laws.one_tells_for_all.Goals as goal

pub returns : goal.returns
returns c = one_tells
