use Rattle.bd_waiting.proofs.Telling.{need_not}
use Rattle.bd_waiting.proofs.laws.who_has_no_bell_need_not_be_asked.Goals as goal

pub returns : goal.returns
returns c = need_not
