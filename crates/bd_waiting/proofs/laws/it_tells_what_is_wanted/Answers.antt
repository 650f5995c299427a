use Rattle.bd_waiting.proofs.Telling.{tells}
use Rattle.bd_waiting.proofs.laws.it_tells_what_is_wanted.Goals as goal

pub returns : goal.returns
returns c = tells
