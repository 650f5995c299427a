use Rattle.bd_waiting.proofs.Telling.{away}
use Rattle.bd_waiting.proofs.laws.who_is_away_is_not_told_of.Goals as goal

pub returns : goal.returns
returns c = away
