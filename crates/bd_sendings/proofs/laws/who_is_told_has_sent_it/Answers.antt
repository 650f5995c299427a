use Rattle.bd_sendings.proofs.Told.{has_sent_it}
use Rattle.bd_sendings.proofs.laws.who_is_told_has_sent_it.Goals as goal

pub returns : goal.returns
returns c = has_sent_it
