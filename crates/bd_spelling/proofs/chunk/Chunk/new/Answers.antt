use Rattle.std.proofs.Common.{arith}
use Rattle.bd_spelling.proofs.Logs.{none}
use Rattle.bd_spelling.proofs.chunk.Chunk.new.Goals as goal

pub invariant_of-result : goal.invariant_of-result
invariant_of-result c = (none.1, omega arith)

pub returns : goal.returns
returns c = none.0
