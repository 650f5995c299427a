use Rattle.std.proofs.Common.{arith}
use Rattle.bd_spelling.proofs.Logs.{none}
use Rattle.bd_spelling.proofs.chunk.Chunk.with_capacity.Goals as goal

pub invariant_of-result : goal.invariant_of-result
invariant_of-result c = (none.1, omega arith)

pub returns-clause-none : goal.returns-clause-none
returns-clause-none c = none.0
