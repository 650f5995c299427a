use Rattle.bd_codec.proofs.ReturnRows.{no_return_begins_another}
use Rattle.bd_codec.proofs.returns.no_return_begins_another.Goals as goal

pub returns : goal.returns
returns c = no_return_begins_another
