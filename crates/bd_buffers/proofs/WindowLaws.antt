-- From before a step into it.
use Rattle.bd_buffers.proofs.Words.{Space, StandsFor, StandsIn, Windows, arith}
use Rattle.bd_buffers.proofs.InSpace.{made_wider}

-- what stands before a step stands within it
pub stands_in : (t : Windows) (s : Space) → StandsFor t s → StandsIn t s
stands_in t s is = grind (arith, made_wider)
