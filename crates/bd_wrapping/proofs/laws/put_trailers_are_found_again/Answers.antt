use Rattle.bd_wrapping.proofs.Puts.{found_again}
use Rattle.bd_wrapping.proofs.laws.put_trailers_are_found_again.Goals as goal

pub returns : goal.returns
returns c = found_again
