use Rattle.bd_tickets.proofs.Whole.{kept_whole}
use Rattle.bd_tickets.proofs.came.what_comes_is_kept_whole.Goals as goal

pub returns : goal.returns
returns c = kept_whole
