use Rattle.bd_reader.proofs.Kept.{cannot_wait}
use Rattle.bd_reader.proofs.laws.what_cannot_wait_is_told.Goals as goal

pub returns : goal.returns
returns c = cannot_wait
