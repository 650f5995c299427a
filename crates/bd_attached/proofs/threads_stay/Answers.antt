use Rattle.bd_attached.proofs.Stays.{threads_stay}
use Rattle.bd_attached.proofs.threads_stay.Goals as goal

pub returns : goal.returns
returns c = threads_stay
