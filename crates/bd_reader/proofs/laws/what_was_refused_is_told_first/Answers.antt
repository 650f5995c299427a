use Rattle.bd_reader.proofs.Kept.{told_first}
use Rattle.bd_reader.proofs.laws.what_was_refused_is_told_first.Goals as goal

pub returns : goal.returns
returns c = told_first
