use Rattle.bd_waiting.proofs.Telling.{is_answered}
use Rattle.bd_waiting.proofs.laws.a_read_that_may_not_wait_is_answered.Goals as goal

pub returns : goal.returns
returns c = is_answered
