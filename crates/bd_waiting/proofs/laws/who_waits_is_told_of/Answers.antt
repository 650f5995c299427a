use Rattle.bd_waiting.proofs.Telling.{who_waits}
use Rattle.bd_waiting.proofs.laws.who_waits_is_told_of.Goals as goal

pub returns : goal.returns
returns c = who_waits
