use Rattle.bd_sendings.proofs.Told.{unknown_stays}
use Rattle.bd_sendings.proofs.laws.what_is_unknown_stays.Goals as goal

pub returns : goal.returns
returns c = unknown_stays
