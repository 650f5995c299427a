use Rattle.bd_reader.proofs.Counted.{counted}
use Rattle.bd_reader.proofs.laws.completions_are_counted.Goals as goal

pub returns : goal.returns
returns c = counted
