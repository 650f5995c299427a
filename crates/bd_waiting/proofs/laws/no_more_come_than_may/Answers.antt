use Rattle.bd_waiting.proofs.Loopings.{no_more}
use Rattle.bd_waiting.proofs.laws.no_more_come_than_may.Goals as goal

pub returns : goal.returns
returns c = no_more
