use Rattle.bd_codec.proofs.OneList.{one_list_of_returns}
use Rattle.bd_codec.proofs.streams.bytes_tell_the_returns.Goals as goal

pub returns : goal.returns
returns c = one_list_of_returns
